-- Sessions of commands, of which no part failed, are all served.
use Rattle.disk_trait.specs.declared.disk.Disk.{Ghosts}
use Rattle.std.proofs.Common.{◌≡◌, ◌≤◌, ◌+◌, ◌⊎◌, inl, inr, ℕ, zero, suc, Bool, true, false, List, [], ◌∷◌, length, Option, Some, refl, sym, ap, subst, ◌∙◌, arith}
use Rattle.std.specs.Prelude.{String}
use Rattle.std.specs.declared.alloc.Global.{Global}
use Rattle.std.specs.List.{All, range_with_len}
use Rattle.std.proofs.lemmas.List.Elements.{All-nil, All-cons, All-map}
use Rattle.port_traits.specs.declared.sink.Sink as sinks
use Rattle.port_traits.specs.declared.source.Source as sources
use Rattle.port_traits.specs.Faults.{Rose}
use Rattle.port_traits.specs.Readings.{Readings}
use Rattle.store_model.specs.declared.ending.Ending.TheVariants as endings
use Rattle.store_history.specs.RemoteDisk.{faults_of}
use Rattle.command_line.specs.Reading.{IsCount, texts}
use Rattle.command_line.proofs.Counted.{said_count}
use Rattle.generator.specs.Sessions.{generated}
use Rattle.generator.specs.Summaries.{summary_text}
use Rattle.generator.proofs.SessionLemmas.{session_is_input}
use Rattle.store_history.specs.declared.port.LaneReport.{LaneReport}
use Rattle.store_history.specs.declared.port.Port.{Port}
use Rattle.lane.specs.Entries.{has_kind}
use Rattle.run_check.specs.Ports.{faults_at}
use Rattle.pbs_server.specs.declared.served.Served.{Served}
use Rattle.pbs_server.specs.declared.status.Status.{Status}
use Rattle.pbs_server.specs.declared.status.Status.TheVariants as statuses
use Rattle.pbs_server.specs.Asking.{LeavesBy}
use Rattle.pbs_server.specs.Completeness.{AsksSessions, CanServe, HoldsCommands, IsWell, NoneRose}
use Rattle.pbs_server.specs.Generating.{HasGenerated, MadePort, TellsSummary, all_as_memory, cut_off, memory_status, no_memory, not_ok, port_of, ports_of, replies_of, sink_told, source_told, still, written}
use Rattle.pbs_server.specs.Headline.{AsksNone, HasNotServed, HasServed, Leaves}
use Rattle.pbs_server.specs.Journal.{TellsOrder}
use Rattle.pbs_server.specs.Statuses.{endings_of, first_of, has_disk_fault, run_facts}
use Rattle.pbs_server.specs.Words.{AsksTooMany, IsMade, IsMisused, TellsJust}
use Rattle.pbs_server.proofs.Fine.{IsFine, all_memory_short, each_fine, each_short}
use Rattle.pbs_server.proofs.Remotes.{rose_by}
use Rattle.pbs_server.proofs.Well.{no_disk_fault, well_by}
use Rattle.pbs_server.proofs.Words.{made_check, made_many, run_check, run_made}

not_true : (b : Bool) → (b ≡ true → ⊥) → b ≡ false
not_true true h = absurd (h refl)
not_true false h = refl

-- ---- the disks

-- neither failed in what was served
module _ {D E S K : Type 0} (d : Ghosts D) (e : Ghosts E) (source : sources.Ghosts S) (sink : sinks.Ghosts K) (readings : Option Readings) (disk : D) (remote : Option E) (old new : List (Port S K))
    (reports : List LaneReport) (ran : Served D E) (served : HasServed d e source sink readings disk remote old new reports ran) where
  disk_calm : (Rose (d.faults disk) (d.faults ran.disk) → ⊥) → has_disk_fault (ran.order).items (ran.report).not_saved ≡ false
  disk_calm still = no_disk_fault (ran.order).items (ran.report).not_saved (λ five. still ((served.order).faults five)) (λ is. still ((served.save).faults is))

  remote_calm : (Rose (faults_of e remote) (faults_of e ran.remote) → ⊥) → has_kind 7 (ran.order).items ≡ false
  remote_calm still =
      not_true (has_kind 7 (ran.order).items)
      (λ seven. still (rose_by (ran.order).items (faults_of e remote) (faults_of e ran.remote) (served.order).reads seven))

-- ---- none was served

-- memory was wanting for it
unserved_well : {D E P : Type 0} (d : Ghosts D) (disk : D) (remote : Option E) (old new : List P) (result : Served D E) → (AsksNone result.status → ⊥) → (Rose (d.faults disk) (d.faults result.disk) → ⊥)
    → HasNotServed d disk remote old new result → IsWell result
unserved_well d disk remote old new result asks still h = by_status h.status
  where
    by_status : AsksNone result.status ⊎ ((result.status ≡ statuses.NoMemory) ⊎ (result.status ≡ statuses.DiskFault)) → IsWell result
    by_status (inl none) = absurd (asks none)
    by_status (inr (inl is)) = inr is
    by_status (inr (inr is)) = absurd (still ((h.serves).cause is))

-- ---- made sessions

made_holds : (k : ℕ) → k ≤ 63 → HoldsCommands (Some (generated k))
made_holds k h = let input = session_is_input k h in (input.is_commands, (let short = input.short in omega (arith, short)))

made_hold : (a n : ℕ) → a + n ≤ 64 → All (λ k. HoldsCommands (Some (generated k))) (range_with_len a n)
made_hold a zero few = All-nil (λ k. HoldsCommands (Some (generated k)))
made_hold a (suc n) few =
    All-cons (λ k. HoldsCommands (Some (generated k))) a (range_with_len (a + 1) n) (made_holds a (omega (arith, few))) (made_hold (a + 1) n (omega (arith, few)))

module _ {D E J : Type 0} (d : Ghosts D) (e : Ghosts E) (sink : sinks.Ghosts J) (n : ℕ) (disk : D) (remote : Option E) (before after : J) (result : Served D E) (count : IsCount n)
    (disk_is : Rose (d.faults disk) (d.faults result.disk) → ⊥) (remote_is : Rose (faults_of e remote) (faults_of e result.remote) → ⊥) (journal_is : Rose (sink.faults before) (sink.faults after) → ⊥) where
  pub generated_well : HasGenerated d e sink n disk remote before after result → IsWell result
  generated_well g = by_told result.status (result.report).journal_failed refl g.journal
    where
      fine : All IsFine (((g.ran).report).lanes).items
      fine = each_fine source_told sink_told 0 (ports_of n) g.after (((g.ran).report).lanes).items ((g.served).told).runs ((g.served).told).events ((g.served).told).each
          (All-map (λ p. HoldsCommands (source_told.left p.source)) port_of (range_with_len 0 (n + 1)) (made_hold 0 (n + 1) (let most = count.1 in omega (arith, most))))
          (λ i lt rose. no_rise (ports_of n) g.after i rose)
        where
          no_rise : (os ns : List MadePort) (i : ℕ) → Rose (faults_at source_told os i) (faults_at source_told ns i) → ⊥
          no_rise os ns i rose = absurd (omega (arith, rose, all_zero os i, all_zero ns i))
            where
              all_zero : (ps : List MadePort) (i : ℕ) → faults_at source_told ps i ≡ 0
              all_zero [] i = refl
              all_zero (p ∷ ps) zero = refl
              all_zero (p ∷ ps) (suc i) = all_zero ps i

      ran_well : ((memory_status g.ran ≡ statuses.Ok) × All (λ r. r.ending ≡ endings.Clean) (all_as_memory (((g.ran).report).lanes).items)) ⊎ (memory_status g.ran ≡ statuses.NoMemory)
      ran_well =
          well_by ((g.ran).order).items (all_as_memory (((g.ran).report).lanes).items) ((g.ran).report).not_saved (memory_status g.ran)
          (all_memory_short (((g.ran).report).lanes).items fine)
          (disk_calm d e source_told sink_told (Some still) disk remote (ports_of n) g.after (((g.ran).report).lanes).items g.ran g.served
          (λ rose. disk_is (subst (λ x. Rose (d.faults disk) (d.faults x)) (sym (g.rest).disk_is) rose)))
          (remote_calm d e source_told sink_told (Some still) disk remote (ports_of n) g.after (((g.ran).report).lanes).items g.ran g.served
          (λ rose. remote_is (subst (λ x. Rose (faults_of e remote) (faults_of e x)) (sym (g.rest).remote_is) rose)))
          refl

      not_told : (memory_status g.ran ≡ statuses.Ok → ⊥) → result.status ≡ memory_status g.ran → IsWell result
      not_told other is = by_ran ran_well
        where
          by_ran : ((memory_status g.ran ≡ statuses.Ok) × All (λ r. r.ending ≡ endings.Clean) (all_as_memory (((g.ran).report).lanes).items)) ⊎ (memory_status g.ran ≡ statuses.NoMemory) → IsWell result
          by_ran (inl ok) = absurd (other ok.0)
          by_ran (inr short) = inr (is ∙ short)

      was_told : memory_status g.ran ≡ statuses.Ok → result.status ≡ statuses.Ok → IsWell result
      was_told ok is = by_ran ran_well
        where
          by_ran : ((memory_status g.ran ≡ statuses.Ok) × All (λ r. r.ending ≡ endings.Clean) (all_as_memory (((g.ran).report).lanes).items)) ⊎ (memory_status g.ran ≡ statuses.NoMemory) → IsWell result
          by_ran (inl well) = inl (is, subst (λ rs. All (λ r. r.ending ≡ endings.Clean) rs) (sym (g.rest).lanes) well.1)
          by_ran (inr short) = absurd (apart (sym ok ∙ short))
            where
              apart : statuses.Ok ≡ statuses.NoMemory → ⊥
              apart x = cc

      by_told : (s : Status) (failed : Bool) → result.status ≡ s → TellsSummary sink (memory_status g.ran) (summary_text (replies_of g.after) g.rows) before after s failed → IsWell result
      by_told s failed is (not_ok other same) = not_told other is
      by_told s failed is (no_memory ok same) = inr is
      by_told s failed is (written ok told) = was_told ok is
      by_told s failed is (cut_off ok told) = absurd (journal_is (told.cause refl))

-- ---- a call

module _ {D E S K J : Type 0} (d : Ghosts D) (e : Ghosts E) (source : sources.Ghosts S) (sink : sinks.Ghosts K) (journal : sinks.Ghosts J) (readings : Option Readings)
    (words : List (String Global)) (disk : D) (remote : Option E) (old new : List (Port S K)) (before after : J) (result : Served D E)
    (usage : TellsJust result statuses.Usage (IsMisused words (length old))) (many : TellsJust result statuses.TooManyLanes (AsksTooMany words (length old)))
    (none : NoneRose d e source sink journal words disk remote old new before after result) where
  -- ---- the sessions of the ports

  journal_calm : TellsOrder journal words (length old) before after result → (result.report).journal_failed ≡ false
  journal_calm (inl told) = not_true (result.report).journal_failed (λ failed. none.journal_is ((told.1).cause failed))
  journal_calm (inr told) = told.2

  served_well : (reports : List LaneReport) → ((result.report).lanes).items ≡ reports → AsksSessions source words old → TellsOrder journal words (length old) before after result
      → HasServed d e source sink readings disk remote old new reports result → IsWell result
  served_well reports lanes asks told served =
      by_result
      (well_by (result.order).items reports (result.report).not_saved result.status
      (each_short source sink 0 old new reports (served.told).runs (served.told).events (served.told).each
      (each_fine source sink 0 old new reports (served.told).runs (served.told).events (served.told).each asks.inputs none.sources_are) none.sinks_are)
      (disk_calm d e source sink readings disk remote old new reports result served none.disk_is)
      (remote_calm d e source sink readings disk remote old new reports result served none.remote_is)
      (served.status ∙ ap (λ b. first_of (run_facts (result.order).items (endings_of reports) (result.report).not_saved b)) (journal_calm told)))
    where
      by_result : ((result.status ≡ statuses.Ok) × All (λ r. r.ending ≡ endings.Clean) reports) ⊎ (result.status ≡ statuses.NoMemory) → IsWell result
      by_result (inl well) = inl (well.0, subst (λ rs. All (λ r. r.ending ≡ endings.Clean) rs) (sym lanes) well.1)
      by_result (inr short) = inr short

  -- the words are no cause
  asked_run : AsksSessions source words old → AsksNone result.status → ⊥
  asked_run asks (inl is) = usage.0 is (inl asks.asks)
  asked_run asks (inr is) = by_many (many.0 is)
    where
      by_many : AsksTooMany words (length old) → ⊥
      by_many (inl more) = let few = asks.few in let above = more.1 in omega (arith, few, above)
      by_many (inr check) = run_check (texts words) (length old) (asks.asks).0 (asks.asks).1 check.0

  asked_made : IsMade (texts words) (length old) → AsksNone result.status → ⊥
  asked_made made (inl is) = usage.0 is (inr (inl made))
  asked_made made (inr is) = made_many (texts words) (length old) made (many.0 is)

  run_well : AsksSessions source words old → LeavesBy d e source sink journal readings words disk remote old new before after result → IsWell result
  run_well asks (inl made) = absurd (run_made (texts words) (length old) (asks.asks).0 (asks.asks).1 (made.n, made.asks))
  run_well asks (inr (inl checked)) = absurd (run_check (texts words) (length old) (asks.asks).0 (asks.asks).1 (checked.asks).0)
  run_well asks (inr (inr handed)) = by_lanes ((result.report).lanes).items refl handed.leaves
    where
      by_lanes : (reports : List LaneReport) → ((result.report).lanes).items ≡ reports → Leaves d e source sink readings disk remote result old new reports → IsWell result
      by_lanes [] lanes leaves = unserved_well d disk remote old new result (asked_run asks) none.disk_is leaves
      by_lanes (r ∷ rs) lanes leaves = served_well (r ∷ rs) lanes asks handed.journal_is leaves

  made_well : IsMade (texts words) (length old) → LeavesBy d e source sink journal readings words disk remote old new before after result → IsWell result
  made_well made (inl l) = generated_well d e journal l.n disk remote before after result (said_count (texts words) (l.asks).root l.n (l.asks).says) none.disk_is none.remote_is none.journal_is l.generated
  made_well made (inr (inl checked)) = absurd (made_check (texts words) (length old) made (checked.asks).0)
  made_well made (inr (inr handed)) =
      unserved_well d disk remote old new result (asked_made made) none.disk_is
      (subst (λ rs. Leaves d e source sink readings disk remote result old new rs) (handed.others made) handed.leaves)

  pub all_well : CanServe source words old → LeavesBy d e source sink journal readings words disk remote old new before after result → IsWell result
  all_well (inl asks) leaves = run_well asks leaves
  all_well (inr made) leaves = made_well made leaves

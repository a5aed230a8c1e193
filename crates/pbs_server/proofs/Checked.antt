-- A check's status, and that no other call tells a byte that differs.
use Rattle.disk_trait.specs.declared.disk.Disk.{Ghosts}
use Rattle.std.proofs.Common.{◌≡◌, ◌↔◌, ◌≢◌, ◌⊎◌, inl, inr, ℕ, Bool, true, false, cond, List, [], ◌∷◌, length, Option, Some, None, is_some, Result, Ok, Err, refl, sym, subst, ◌∙◌, arith}
use Rattle.std.specs.Prelude.{IfOk, IsSome, String, string_bytes}
use Rattle.std.specs.declared.alloc.Global.{Global}
use Rattle.port_traits.specs.declared.sink.Sink as sinks
use Rattle.port_traits.specs.declared.source.Source as sources
use Rattle.port_traits.specs.Readings.{Readings}
use Rattle.command_line.specs.Reading.{texts}
use Rattle.store_history.specs.declared.port.LaneReport.{LaneReport}
use Rattle.store_history.specs.declared.port.Port.{Port}
use Rattle.generator.specs.Summaries.{summary_text}
use Rattle.replay.specs.declared.difference.Unequal.{Unequal}
use Rattle.run_check.specs.declared.checking.Compared.{Compared}
use Rattle.run_check.specs.declared.fault.CheckFault.{CheckFault}
use Rattle.run_check.specs.declared.fault.CheckFault.TheVariants as faults
use Rattle.run_check.specs.Checks.{Checks}
use Rattle.replay.specs.Compare.{line}
use Rattle.pbs_server.specs.declared.status.Status.{Status}
use Rattle.pbs_server.specs.declared.status.Status.TheVariants as statuses
use Rattle.pbs_server.specs.declared.served.Served.{Served}
use Rattle.pbs_server.specs.Asking.{LeavesBy}
use Rattle.pbs_server.specs.Checking.{HasChecked, check_facts, told_unequal}
use Rattle.pbs_server.specs.Generating.{LeavesGenerated, TellsSummary, all_as_memory, cut_off, memory_status, no_memory, not_ok, replies_of, written}
use Rattle.pbs_server.specs.Headline.{AsksNone, Leaves}
use Rattle.pbs_server.specs.Journal.{told_with}
use Rattle.pbs_server.specs.Statuses.{Facts, beside_sink, endings_of, first_of, run_facts}
use Rattle.pbs_server.specs.Words.{AsksTooMany, IsCheck, IsMisused, TellsJust}
use Rattle.pbs_server.proofs.Words.{run_check}

-- it is told just where the status is Unequal
by_unequal : (found : Option Unequal) → IsSome found ↔ (cond (is_some found) statuses.Unequal statuses.Ok ≡ statuses.Unequal)
by_unequal None = (λ some. cc, λ is. cc)
by_unequal (Some u) = (λ some. refl, λ is. refl)

not_told : (s : Status) → s ≢ statuses.Unequal → (let none : Option Unequal = None in IsSome none) ↔ (s ≡ statuses.Unequal)
not_told s other = (λ some. cc, λ is. absurd (other is))

pub check_tells : (what : Result Compared CheckFault) (failed : Bool) → IsSome (told_unequal what failed) ↔ (first_of (check_facts what failed) ≡ statuses.Unequal)
check_tells (Ok compared) true = not_told statuses.SinkFault (λ is. cc)
check_tells (Ok compared) false = by_unequal compared.unequal
check_tells (Err faults.NoMemory) failed = not_told statuses.NoMemory (λ is. cc)
check_tells (Err faults.DiskFault) failed = not_told statuses.DiskFault (λ is. cc)
check_tells (Err faults.RemoteFault) failed = not_told statuses.RemoteFault (λ is. cc)
check_tells (Err faults.SourceFault) failed = not_told statuses.SourceFault (λ is. cc)
check_tells (Err faults.SourceTooLong) failed = not_told statuses.SourceTooLong (λ is. cc)
check_tells (Err faults.BadOrder) failed = not_told statuses.BadOrder (λ is. cc)

-- its line is that of the first byte that differs
pub line_checked : {D E S K : Type 0} (d : Ghosts D) (e : Ghosts E) (source : sources.Ghosts S) (disk : D) (remote : Option E) (old new : List (Port S K)) (what : Result Compared CheckFault)
    → Checks d e source disk remote old new what → IfOk what (λ c. string_bytes c.line ≡ line c.unequal)
line_checked d e source disk remote old new (Ok compared) checks = checks.line_is
line_checked d e source disk remote old new (Err fault) checks = tt

-- ---- of other calls

cond_other : (b : Bool) (x y : Status) → x ≢ statuses.Unequal → y ≢ statuses.Unequal → cond b x y ≢ statuses.Unequal
cond_other true x y first second = first
cond_other false x y first second = second

last_other : (b : Bool) → b ≡ false → cond b statuses.Unequal statuses.Ok ≢ statuses.Unequal
last_other true none is = cc
last_other false none is = cc

pub never_unequal : (f : Facts) → f.unequal ≡ false → first_of f ≢ statuses.Unequal
never_unequal f none =
    cond_other f.misused statuses.Usage _ (λ is. cc) (cond_other f.many statuses.TooManyLanes _ (λ is. cc) (cond_other f.short statuses.NoMemory _ (λ is. cc)
    (cond_other f.disk statuses.DiskFault _ (λ is. cc) (cond_other f.remote statuses.RemoteFault _ (λ is. cc) (cond_other f.source statuses.SourceFault _ (λ is. cc)
    (cond_other f.sink statuses.SinkFault _ (λ is. cc) (cond_other f.long statuses.SourceTooLong _ (λ is. cc) (cond_other f.bad_order statuses.BadOrder _ (λ is. cc)
    (cond_other f.broken statuses.BadFrame _ (λ is. cc) (last_other f.unequal none))))))))))

pub beside_never : (s : Status) → beside_sink s ≢ statuses.Unequal
beside_never statuses.SinkFault is = cc
beside_never statuses.SourceTooLong is = cc
beside_never statuses.BadOrder is = cc
beside_never statuses.BadFrame is = cc
beside_never statuses.Unequal is = cc
beside_never statuses.Ok is = cc
beside_never statuses.Usage is = cc
beside_never statuses.DiskFault is = cc
beside_never statuses.SourceFault is = cc
beside_never statuses.NoMemory is = cc
beside_never statuses.TooManyLanes is = cc
beside_never statuses.RemoteFault is = cc

-- ---- of a check

by_words : (s : Status) → s ≢ statuses.Usage → s ≢ statuses.TooManyLanes → AsksNone s → ⊥
by_words s usage many (inl is) = usage is
by_words s usage many (inr is) = many is

last_asks : (b : Bool) → AsksNone (cond b statuses.Unequal statuses.Ok) → ⊥
last_asks true asks = by_words statuses.Unequal (λ is. cc) (λ is. cc) asks
last_asks false asks = by_words statuses.Ok (λ is. cc) (λ is. cc) asks

check_asks : (what : Result Compared CheckFault) (failed : Bool) → AsksNone (first_of (check_facts what failed)) → ⊥
check_asks (Ok compared) true asks = by_words statuses.SinkFault (λ is. cc) (λ is. cc) asks
check_asks (Ok compared) false asks = last_asks (is_some compared.unequal) asks
check_asks (Err faults.NoMemory) failed asks = by_words statuses.NoMemory (λ is. cc) (λ is. cc) asks
check_asks (Err faults.DiskFault) failed asks = by_words statuses.DiskFault (λ is. cc) (λ is. cc) asks
check_asks (Err faults.RemoteFault) failed asks = by_words statuses.RemoteFault (λ is. cc) (λ is. cc) asks
check_asks (Err faults.SourceFault) failed asks = by_words statuses.SourceFault (λ is. cc) (λ is. cc) asks
check_asks (Err faults.SourceTooLong) failed asks = by_words statuses.SourceTooLong (λ is. cc) (λ is. cc) asks
check_asks (Err faults.BadOrder) failed asks = by_words statuses.BadOrder (λ is. cc) (λ is. cc) asks

module _ {D E S K J : Type 0} (d : Ghosts D) (e : Ghosts E) (source : sources.Ghosts S) (journal : sinks.Ghosts J) (words : List (String Global)) (disk : D) (remote : Option E)
    (old new : List (Port S K)) (before after : J) (result : Served D E) (asks : IsCheck words (length old)) (checked : HasChecked d e source journal disk remote old new before after result) where
  pub leaves_checked : (sink : sinks.Ghosts K) (readings : Option Readings) → LeavesBy d e source sink journal readings words disk remote old new before after result
  leaves_checked sink readings = inr (inl (record { asks = asks; checked = checked }))

  asks_checked : AsksNone result.status → ⊥
  asks_checked none = check_asks checked.what (result.report).journal_failed (subst AsksNone checked.status none)

  pub usage_checked : TellsJust result statuses.Usage (IsMisused words (length old))
  usage_checked = (λ is. absurd (asks_checked (inl is)), λ misused. absurd (misused (inr (inr asks.0))))

  pub many_checked : TellsJust result statuses.TooManyLanes (AsksTooMany words (length old))
  many_checked = (λ is. absurd (asks_checked (inr is)), λ many. absurd (not_many many))
    where
      not_many : AsksTooMany words (length old) → ⊥
      not_many (inl many) = run_check (texts words) (length old) (many.0).0 (many.0).1 asks.0
      not_many (inr many) = let few = asks.1 in let more = many.1 in omega (arith, few, more)

  pub unequal_checked : IsSome (result.report).unequal ↔ (result.status ≡ statuses.Unequal)
  unequal_checked =
      let told = check_tells checked.what (result.report).journal_failed in
      (λ some. checked.status ∙ told.0 (subst IsSome checked.unequal some), λ is. subst IsSome (sym checked.unequal) (told.1 (sym checked.status ∙ is)))

-- ---- of other calls

pub unequal_none : (found : Option Unequal) (s : Status) → found ≡ None → s ≢ statuses.Unequal → IsSome found ↔ (s ≡ statuses.Unequal)
unequal_none found s none other = subst (λ o. IsSome o ↔ (s ≡ statuses.Unequal)) (sym none) (not_told s other)

unserved_never : (s : Status) → AsksNone s ⊎ ((s ≡ statuses.NoMemory) ⊎ (s ≡ statuses.DiskFault)) → s ≢ statuses.Unequal
unserved_never s (inl (inl is)) bad = cc
unserved_never s (inl (inr is)) bad = cc
unserved_never s (inr (inl is)) bad = cc
unserved_never s (inr (inr is)) bad = cc

module _ {D E : Type 0} (d : Ghosts D) (e : Ghosts E) (disk : D) (remote : Option E) where
  pub leaves_never : {S K : Type 0} (source : sources.Ghosts S) (sink : sinks.Ghosts K) (readings : Option Readings) (result : Served D E) (old new : List (Port S K)) (reports : List LaneReport)
      → Leaves d e source sink readings disk remote result old new reports → result.status ≢ statuses.Unequal
  leaves_never source sink readings result old new [] h is = unserved_never result.status h.status is
  leaves_never source sink readings result old new (r ∷ rs) h is =
      never_unequal (run_facts (result.order).items (endings_of (r ∷ rs)) (result.report).not_saved (result.report).journal_failed) refl (sym h.status ∙ is)

  pub told_never : (failed : Bool) (served : Served D E) → served.status ≢ statuses.Unequal → (told_with failed served).status ≢ statuses.Unequal
  told_never false served other = other
  told_never true served other = beside_never served.status

  pub told_unequal_is : (failed : Bool) (served : Served D E) → ((told_with failed served).report).unequal ≡ (served.report).unequal
  told_unequal_is false served = refl
  told_unequal_is true served = refl

  summary_never : {J : Type 0} (sink : sinks.Ghosts J) (ran : Status) (text : List ℕ) (old new : J) (s : Status) (b : Bool) → ran ≢ statuses.Unequal → TellsSummary sink ran text old new s b → s ≢ statuses.Unequal
  summary_never sink ran text old new s b other (not_ok unlike same) is = other is
  summary_never sink ran text old new s b other (no_memory ok same) is = cc
  summary_never sink ran text old new s b other (written ok told) is = cc
  summary_never sink ran text old new s b other (cut_off ok told) is = cc

  pub generated_never : {J : Type 0} (sink : sinks.Ghosts J) (n : ℕ) (old new : J) (result : Served D E) → LeavesGenerated d e sink n disk remote old new result → result.status ≢ statuses.Unequal
  generated_never sink n old new result (inl g) =
      summary_never sink (memory_status g.ran) (summary_text (replies_of g.after) g.rows) old new result.status (result.report).journal_failed
      (never_unequal (run_facts ((g.ran).order).items (endings_of (all_as_memory (((g.ran).report).lanes).items)) ((g.ran).report).not_saved false) refl) g.journal
  generated_never sink n old new result (inr none) = unserved_never result.status ((none.0).leaves).status

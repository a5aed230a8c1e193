-- What the journal takes of a summary.
use Rattle.std.proofs.Common.{◌≡◌, ◌≢◌, ◌≤◌, ℕ, Bool, true, false, List, refl, sym, ap, subst, ◌∙◌}
use Rattle.port_traits.specs.declared.sink.Sink as sinks
use Rattle.port_traits.specs.Bytes.{Writes}
use Rattle.port_traits.specs.Faults.{Rose}
use Rattle.generator.specs.Summaries.{summary_text}
use Rattle.pbs_server.specs.declared.ended.Ended.{Ended}
use Rattle.pbs_server.specs.declared.served.Served.{Served}
use Rattle.pbs_server.specs.declared.status.Status.{Status}
use Rattle.pbs_server.specs.declared.status.Status.TheVariants as statuses
use Rattle.pbs_server.specs.Ended.{rows_in, served_of}
use Rattle.pbs_server.specs.Generating.{IsInMemory, MadePort, TellsEnded, TellsSummary, cut_off, memory_status, not_ok, replies_of, written}

module _ {J : Type 0} (sink : sinks.Ghosts J) where
  module _ (ran : Status) (text : List ℕ) (old new : J) where
    told_as : (s t : Status) (b c : Bool) → s ≡ t → b ≡ c → TellsSummary sink ran text old new t c → TellsSummary sink ran text old new s b
    told_as s t b c is fails told =
        subst (λ x. TellsSummary sink ran text old new x b) (sym is) (subst (λ x. TellsSummary sink ran text old new t x) (sym fails) told)

  module _ (old new : J) (bytes text : List ℕ) (same : bytes ≡ text) where
    -- it was written
    pub whole_summary : Writes (sink.taken old) (sink.taken new) bytes true → sink.faults old ≤ sink.faults new → (s : Status) (b : Bool) → s ≡ statuses.Ok → b ≡ false
        → TellsSummary sink statuses.Ok text old new s b
    whole_summary writes later s b is fails =
        told_as statuses.Ok text old new s statuses.Ok b false is fails
        (written refl (record { bytes = subst (λ xs. Writes (sink.taken old) (sink.taken new) xs true) same writes; cause = λ e. absurd (apart e); later = later }))
      where
        apart : false ≡ true → ⊥
        apart e = cc

    -- the journal failed
    pub cut_summary : Writes (sink.taken old) (sink.taken new) bytes false → Rose (sink.faults old) (sink.faults new) → sink.faults old ≤ sink.faults new
        → (s : Status) (b : Bool) → s ≡ statuses.SinkFault → b ≡ true → TellsSummary sink statuses.Ok text old new s b
    cut_summary writes rose later s b is fails =
        told_as statuses.Ok text old new s statuses.SinkFault b true is fails
        (cut_off refl (record { bytes = subst (λ xs. Writes (sink.taken old) (sink.taken new) xs false) same writes; cause = λ e. rose; later = later }))

  -- nothing is written of a run that was not Ok
  pub not_summed : {D E C : Type 0} (x : Ended D E C) (ports : List MadePort) (journal : J) (handed told : Served D E) → handed ≡ served_of x → IsInMemory handed told → told.status ≡ memory_status handed
      → (told.report).journal_failed ≡ (handed.report).journal_failed → told.status ≢ statuses.Ok → TellsEnded sink x ports journal journal told
  not_summed x ports journal handed told is memory status fails other =
      let ran : told.status ≡ memory_status (served_of x) = status ∙ ap memory_status is in
      let unfailed : (told.report).journal_failed ≡ false = fails ∙ ap (λ h. (h.report).journal_failed) is in
      record {
        journal = told_as (memory_status (served_of x)) (summary_text (replies_of ports) (rows_in x)) journal journal told.status (memory_status (served_of x)) (told.report).journal_failed false ran unfailed
            (not_ok (λ ok. other (ran ∙ ok)) refl);
        rest = subst (λ h. IsInMemory h told) is memory;
      }

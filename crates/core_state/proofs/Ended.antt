-- A lane's end is entered.
use Rattle.disk_trait.specs.declared.disk.Disk.{Ghosts}
use Rattle.std.proofs.Common.{◌≡◌, ◌<◌, ◌≤◌, ℕ, ◌++◌, is_some, length, Option, Some, None, refl, sym, ap, subst, ◌∙◌, arith}
use Rattle.std.proofs.lemmas.List.{length-map}
use Rattle.port_traits.specs.Readings.{Readings}
use Rattle.store_types.specs.declared.refusal.Refusal.TheVariants.{DiskFault}
use Rattle.wire_commands.specs.declared.reply.Reply.TheVariants.{Refused}
use Rattle.store_model.specs.Store.{ended}
use Rattle.store_model.specs.Weave.{fault_refusal, first_fault}
use Rattle.store_history.specs.declared.act.Act.TheVariants.{End}
use Rattle.store_history.specs.declared.act.Answer.{Answer}
use Rattle.store_history.specs.Acts.{class_of, sweeping}
use Rattle.store_history.specs.History.{moved, entry, sent_by}
use Rattle.core_state.specs.declared.state.Core.{Core}
use Rattle.core_state.specs.Collectors.{collector_by, open_in, shown_collecting}
use Rattle.core_state.specs.Holds.{Shows, IsOnDisk, Holds}
use Rattle.core_state.specs.Chunks.{AddsChunks}
use Rattle.store_history.specs.ChunkFiles.{HoldsOnly}
use Rattle.core_state.specs.History.{History, world, then_event, pieces_of, event_of, StandsFor}
use Rattle.core_state.specs.Settles.{IsEntered, with_fault}
use Rattle.core_state.specs.Begins.{ReadsClock, IsBegun}
use Rattle.core_state.proofs.Chunks.{only_added}
use Rattle.core_state.proofs.Collecting.{end_shown, fault_shown}
use Rattle.core_state.proofs.Entered.{events_are, moves, IsActed, entered_stands}

-- what a lane's end is done on, and what has changed since: the parts alone
pub record IsClosed {D E C : Type 0} (d : Ghosts D) (readings : C → Option Readings) (old mid acted : Core D E C) (k m : ℕ) : Type 0 where
  pub begun : IsBegun readings old mid k m
  pub journal : acted.journal ≡ mid.journal
  pub clock : acted.clock ≡ mid.clock
  pub fault : acted.fault ≡ mid.fault
  pub remote : acted.remote ≡ mid.remote
  pub collector : acted.collector ≡ mid.collector
  pub later : d.calls (mid.parts).disk ≤ d.calls (acted.parts).disk

closed_by : {D E C : Type 0} (g : Ghosts D) (readings : C → Option Readings) (old mid acted : Core D E C) (h : History) (k m n : ℕ) (fault : Option ℕ)
    → IsClosed g readings old mid acted k m → open_in (collector_by n k mid.collector) ≡ shown_collecting (moves h k m End n).collecting
    → fault ≡ (moves h k m End n).fault → g.honest (acted.parts).disk → Shows acted.parts (moves h k m End n).store
    → ((moves h k m End n).fault ≡ None → IsOnDisk (g.content (acted.parts).disk) (moves h k m End n).store)
    → ((moves h k m End n).fault ≡ None → HoldsOnly (g.content (acted.parts).disk) (pieces_of h ++ sent_by End))
    → IsActed g readings old (record acted { fault = fault }) h k m End n
closed_by g readings old mid acted h k m n fault d shown is honest shows files chunks = let b = d.begun in record {
  clock = subst (λ c. ReadsClock readings old.clock c old.last m) (sym d.clock) b.clock;
  entries = ap (λ j. j.entries.items) d.journal ∙ (b.entries).entries;
  calls = ap (λ j. j.calls.items) d.journal ∙ (b.entries).calls;
  later = let e = ap (λ p. g.calls p.disk) b.parts in let l = d.later in omega (arith, e, l);
  honest = honest;
  remote = ap is_some (d.remote ∙ b.remote);
  fault = is;
  shows = shows;
  collecting = ap (λ c. open_in (collector_by n k c)) d.collector ∙ shown;
  files = files;
  chunks = chunks;
}

-- as the act was begun the collector was the history's
pub begun_shown : {D E C : Type 0} (d : Ghosts D) (readings : C → Option Readings) (old mid : Core D E C) (h : History) (k m : ℕ)
    → StandsFor d readings old h → IsBegun readings old mid k m → open_in mid.collector ≡ shown_collecting (world h).collecting
begun_shown d readings old mid h k m s b = ap open_in b.collector ∙ s.collecting

end_no_sweep : class_of End ≡ sweeping → ⊥
end_no_sweep e = cc

none_some : (n : ℕ) → Some n ≡ None → ⊥
none_some n e = cc

-- the files are removed, and the session has ended
pub ended_stands : {D E C : Type 0} (g : Ghosts D) (readings : C → Option Readings) (old mid acted new : Core D E C) (h : History) (k m : ℕ) (answer : Answer)
    → StandsFor g readings old h → k < 64 → IsClosed g readings old mid acted k m
    → Holds g acted.parts (ended (world h).store k)
    → ((world h).fault ≡ None → AddsChunks (g.content (mid.parts).disk) (g.content (acted.parts).disk) End)
    → IsEntered g acted new k m 6 None answer
    → StandsFor g readings new (then_event h (event_of End answer (g.calls (new.parts).disk)))
unfolding moved
ended_stands g readings old mid acted new h k m answer s inside d held adds e =
    entered_stands g readings old (record acted { fault = acted.fault }) new h k m End 6 None answer s inside tt refl
    (closed_by g readings old mid acted h k m 6 acted.fault d (end_shown h.remote (world h) k m End end_no_sweep mid.collector (begun_shown g readings old mid h k m s d.begun)) (d.fault ∙ (d.begun).fault ∙ s.fault) held.honest held.shows (λ _. held.files)
    (λ none. only_added (g.content (mid.parts).disk) (g.content (acted.parts).disk) (pieces_of h) End
    (subst (λ p. HoldsOnly (g.content p.disk) (pieces_of h)) (sym (d.begun).parts) (s.chunks none)) (adds none))) e

-- the disk failed: the session is as before, and the end comes again
pub end_failed_stands : {D E C : Type 0} (g : Ghosts D) (readings : C → Option Readings) (old mid acted new : Core D E C) (h : History) (k m : ℕ) (answer : Answer)
    → StandsFor g readings old h → k < 64 → IsClosed g readings old mid acted k m
    → old.fault ≡ None → g.honest (acted.parts).disk → Shows acted.parts (world h).store
    → IsEntered g (with_fault acted (Some (length (acted.journal).entries.items))) new k m 5 (Some (Refused DiskFault)) answer
    → StandsFor g readings new (then_event h (event_of End answer (g.calls (new.parts).disk)))
unfolding moved
end_failed_stands g readings old mid acted new h k m answer s inside d none honest shows e =
    let fault : (world h).fault ≡ None = sym s.fault ∙ none in
    let first = ap (first_fault (world h).events) fault in
    let place : length (acted.journal).entries.items ≡ (world h).events =
    ap (λ j. length j.entries.items) d.journal ∙ ap length ((d.begun).entries).entries ∙ ap length s.entries ∙ length-map h.events entry ∙ sym (events_are h) in
    entered_stands g readings old (record acted { fault = Some (length (acted.journal).entries.items) }) new h k m End 5 (Some (Refused DiskFault)) answer s inside tt
    (fault, ap (λ f. Some (Refused (fault_refusal f))) (sym fault))
    (closed_by g readings old mid acted h k m 5 (Some (length (acted.journal).entries.items)) d (fault_shown h.remote (world h) k m End end_no_sweep mid.collector (begun_shown g readings old mid h k m s d.begun)) (ap (λ n. Some n) place ∙ sym first) honest shows
    (λ at. absurd (none_some (world h).events (sym first ∙ at))) (λ at. absurd (none_some (world h).events (sym first ∙ at)))) e

-- after a fault the session ends without a call of the disk
pub end_halted_stands : {D E C : Type 0} (g : Ghosts D) (readings : C → Option Readings) (old mid acted new : Core D E C) (h : History) (k m first : ℕ) (answer : Answer)
    → StandsFor g readings old h → k < 64 → IsClosed g readings old mid acted k m
    → old.fault ≡ Some first → g.honest (acted.parts).disk → Shows acted.parts (ended (world h).store k)
    → IsEntered g acted new k m 6 None answer
    → StandsFor g readings new (then_event h (event_of End answer (g.calls (new.parts).disk)))
unfolding moved
end_halted_stands g readings old mid acted new h k m first answer s inside d some honest shows e =
    entered_stands g readings old (record acted { fault = acted.fault }) new h k m End 6 None answer s inside tt refl
    (closed_by g readings old mid acted h k m 6 acted.fault d (end_shown h.remote (world h) k m End end_no_sweep mid.collector (begun_shown g readings old mid h k m s d.begun)) (d.fault ∙ (d.begun).fault ∙ s.fault) honest shows
    (λ at. absurd (none_some first (sym some ∙ s.fault ∙ at))) (λ at. absurd (none_some first (sym some ∙ s.fault ∙ at)))) e

-- A replay of lanes that ended cleanly differs nowhere from what they told, but for bytes that are free.
use Rattle.std.proofs.Common.{◌≡◌, ℕ, ◌+◌, ◌<◌, List, [], ◌++◌, map, length, false, Option, None, Ok, Result, refl, sym, ap, subst, ◌∙◌, arith, slice_index_or}
use Rattle.std.specs.Prelude.{replicate}
use Rattle.std.proofs.Math.ListN.{get_or-map}
use Rattle.std.proofs.lemmas.List.{length-map}
use Rattle.store_files.specs.Archive.{Snapshot}
use Rattle.wire_commands.specs.declared.reply.Reply.{Reply}
use Rattle.store_model.specs.declared.ending.Ending.TheVariants.{Clean}
use Rattle.store_model.specs.Weave.{Misfit, Woven, told_by_input, woven}
use Rattle.store_history.specs.declared.act.Event.{Event}
use Rattle.store_history.specs.History.{Opening, after_all, entries, opened}
use Rattle.store_history.specs.LaneRun.{begin, job_in, plain_text, text}
use Rattle.store_history.specs.Woven.{AreLanes, IsServed, ending_at}
use Rattle.store_history.specs.LaneRun.{Position, Runs}
use Rattle.store_history.specs.History.{own}
use Rattle.store_history.proofs.Beside.{BesideBy, pull_in}
use Rattle.store_history.proofs.Keyed.{keys_opened}
use Rattle.store_history.proofs.Placed.{at, run_of, sweep_in}
use Rattle.store_history.proofs.Plainly.{ArePlain}
use Rattle.store_history.proofs.Whole.{AllKnow, AllRun, begun, begun_at, served_woven}
use Rattle.plain_store.specs.declared.frees.Free.{Free}
use Rattle.plain_store.specs.Frees.{frees, frees_from}
use Rattle.replay.specs.Compare.{compare}
use Rattle.replay.specs.Orders.{has_faults}
use Rattle.replay.proofs.ByInput.{by_clean_endings}
use Rattle.replay_laws.proofs.Differing.{AreCovered, none_unequal}
use Rattle.replay_laws.proofs.Lockstep.{Tells, freed_by, tells}

frees_begun : (R : Option (List Snapshot)) (o : Opening) (h : List Event) (inputs : List (List ℕ)) → frees told_by_input o.snapshots R (entries h) inputs ≡ freed_by R (opened o) (map begin inputs) h
frees_begun R o h inputs = ap (λ ls. frees_from told_by_input (record (run_of R (opened o) []) { lanes = ls }) 0 (entries h)) (sym (begun inputs))

-- from its beginning on all that a lane tells is covered
from_begin : (frees : List Free) (k : ℕ) (before told : List Reply) → before ≡ [] → Tells frees k before told → AreCovered frees k 0 told
unfolding text
from_begin frees k before told none t =
    subst (λ xs. AreCovered frees k 0 xs) (sym (t.told_is ∙ ap (λ xs. xs ++ t.rest) none))
    (subst (λ xs. AreCovered frees k (length (text xs)) t.rest) none t.are)

all_begun : (inputs : List (List ℕ)) → length (map begin inputs) ≡ length inputs
all_begun inputs = length-map inputs begin

all_covered : (o : Opening) (R : Option (List Snapshot)) (h : List Event) (inputs : List (List ℕ)) (told : List (List Reply)) →
    has_faults (entries h) ≡ false → IsServed o R h inputs (replicate (length inputs) Clean) told →
    (k : ℕ) → k < length inputs → AreCovered (freed_by R (opened o) (map begin inputs) h) k 0 (slice_index_or told k [])
unfolding AllKnow AllRun
all_covered o R h inputs told sound s k lt =
    from_begin (freed_by R (opened o) (map begin inputs) h) k (at (map begin inputs) k).told (slice_index_or told k []) (ap (λ (x : Position). x.told) (begun_at inputs k))
    (tells R s.remote_is (length inputs) (λ j. slice_index_or told j []) h (opened o) (map begin inputs) (map begin inputs) s.legal
    (subst (λ n. AreLanes n h) (sym (all_begun inputs)) s.lanes) refl (keys_opened o.snapshots s.keys)
    (λ j below. subst (λ (x : Position). (sweep_in x.task ≡ None) × ArePlain (job_in x.task) × BesideBy R (opened o).store j x (pull_in x.task) x) (sym (begun_at inputs j)) (refl, tt, refl))
    (λ j below. subst (λ x. Runs (ending_at (replicate (length inputs) Clean) j) x (own j h) (slice_index_or told j [])) (sym (begun_at inputs j)) (s.runs j (subst (λ n. j < n) (all_begun inputs) below)))
    sound k (subst (λ n. k < n) (sym (all_begun inputs)) lt))

pub runs_replay_equal : (o : Opening) (R : Option (List Snapshot)) (h : List Event) (inputs : List (List ℕ)) (told : List (List Reply)) →
    has_faults (entries h) ≡ false → IsServed o R h inputs (replicate (length inputs) Clean) told →
    compare (woven told_by_input o.snapshots R (entries h) inputs) (frees told_by_input o.snapshots R (entries h) inputs) (map text told) ≡ None
unfolding text plain_text
runs_replay_equal o R h inputs told sound s =
    let run : Woven = record { store = (after_all R (opened o) h).store; replies = map plain_text told } in
    let replayed : woven told_by_input o.snapshots R (entries h) inputs ≡ Ok run =
    by_clean_endings o.snapshots R (entries h) inputs run sound (served_woven o R h inputs (replicate (length inputs) Clean) told s) in
    ap (λ (x : Result Woven Misfit). compare x (frees told_by_input o.snapshots R (entries h) inputs) (map text told)) replayed
    ∙ none_unequal (frees told_by_input o.snapshots R (entries h) inputs) told (map plain_text told) 0
    (λ j lt. subst (λ n. slice_index_or (map plain_text told) n [] ≡ plain_text (slice_index_or told j [])) (from_zero j) (get_or-map plain_text told j []))
    (λ j lt. subst (λ n. AreCovered (frees told_by_input o.snapshots R (entries h) inputs) n 0 (slice_index_or told j [])) (from_zero j)
    (subst (λ fs. AreCovered fs j 0 (slice_index_or told j [])) (sym (frees_begun R o h inputs)) (all_covered o R h inputs told sound s j (subst (λ n. j < n) s.each lt))))
  where
    from_zero : (j : ℕ) → j ≡ 0 + j
    from_zero j = omega arith

-- Lanes whose sinks are the program's own, one after another.
use Rattle.std.proofs.Common.{◌≡◌, ◌<◌, ◌+◌, ℕ, suc, List, [], ◌∷◌, ◌++◌, append_assoc, drop, drop-cons, get_or, length, length-take-le, take, refl, sym, ap, subst, ◌∙◌, arith}
use Rattle.std.specs.Prelude.{slice_set}
use Rattle.std.proofs.Math.Seq.{set-append_seam}
use Rattle.std.proofs.lemmas.List.{length-map, map-append, take_more}
use Rattle.store_model.specs.declared.ending.Ending.{Ending}
use Rattle.store_history.specs.declared.port.LaneReport.{LaneReport}
use Rattle.pbs_server.specs.Generating.{all_as_memory, as_memory, in_memory}

at_seam : (front : List LaneReport) (y : LaneReport) (rest : List LaneReport) (d : LaneReport) → get_or (front ++ y ∷ rest) (length front) d ≡ y
at_seam [] y rest d = refl
at_seam (x ∷ xs) y rest d = at_seam xs y rest d

-- one more is told as want of memory, where it is one
pub remembered : (old now : List LaneReport) (i : ℕ) (d : LaneReport) (ending : Ending) → i < length old → now ≡ all_as_memory (take i old) ++ drop i old → ending ≡ in_memory (get_or now i d).ending
    → slice_set now i (record { taken = (get_or now i d).taken; given = (get_or now i d).given; ending = ending }) ≡ all_as_memory (take (i + 1) old) ++ drop (i + 1) old
remembered old now i d ending lt so_far is =
    let front = all_as_memory (take i old) in
    let y = get_or old i d in
    let rest = drop (i + 1) old in
    let one : suc i ≡ i + 1 = omega arith in
    let split : now ≡ front ++ y ∷ rest = so_far ∙ ap (λ ys. front ++ ys) (drop-cons old i d lt ∙ ap (λ k. y ∷ drop k old) one) in
    let count : length front ≡ i = length-map (take i old) as_memory ∙ length-take-le i old (omega (arith, lt)) in
    let at : get_or now i d ≡ y = ap (λ xs. get_or xs i d) split ∙ subst (λ k. get_or (front ++ y ∷ rest) k d ≡ y) count (at_seam front y rest d) in
    ap (λ e. slice_set now i (record { taken = (get_or now i d).taken; given = (get_or now i d).given; ending = e })) is
    ∙ ap (λ x. slice_set now i (as_memory x)) at
    ∙ ap (λ xs. slice_set xs i (as_memory y)) split
    ∙ subst (λ k. slice_set (front ++ y ∷ rest) k (as_memory y) ≡ front ++ as_memory y ∷ rest) count (set-append_seam front y rest (as_memory y))
    ∙ sym (append_assoc front (as_memory y ∷ []) rest)
    ∙ ap (λ xs. xs ++ rest) (sym (ap all_as_memory (take_more old i d lt) ∙ map-append as_memory (take i old) (y ∷ [])))

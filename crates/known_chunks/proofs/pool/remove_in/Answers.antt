use Rattle.std.proofs.Common.{◌≡◌, ℕ, zero, suc, ◌+◌, ◌<◌, List, [], ◌∷◌, ◌++◌, length, map, take, drop, get_or, set, refl, ap, ◌∙◌, arith}
use Rattle.std.specs.FinMap.{remove}
use Rattle.known_chunks.specs.Lengths.{Lengths}
use Rattle.known_chunks.proofs.pool.remove_in.Goals as goal

-- one element more
set_more : {A : Type 0} (f : A → A) (s : List A) (i : ℕ) (d : A) → i < length s
    → set (map f (take i s) ++ drop i s) i (f (get_or (map f (take i s) ++ drop i s) i d)) ≡ map f (take (suc i) s) ++ drop (suc i) s
set_more f [] i d lt = absurd (omega (arith, lt))
set_more f (y ∷ s) zero d lt = refl
set_more f (y ∷ s) (suc i) d lt = ap (λ l. f y ∷ l) (set_more f s i d (omega (arith, lt)))

pub loop-known-preserved : goal.loop-known-preserved
loop-known-preserved c =
    let s = c.args.maps.now in
    let i = c.loop-known.known-index in
    let f : Lengths → Lengths = λ m. remove m c.args.digest.now.0 in
    let within : i < length s = omega arith in
    let next : suc i ≡ i + 1 = omega arith in
    ap (set c.loop-known.maps i) c.remove.ensures
    ∙ ap (λ l. set l i (f (get_or l i c.known-item.result))) c.loop-known.invariant
    ∙ set_more f s i c.known-item.result within ∙ ap (λ n. map f (take n s) ++ drop n s) next

-- Where pieces end, and that their steps are in range.
use Rattle.std.proofs.Common.{◌≡◌, ℕ, zero, suc, ◌+◌, ◌*◌, ◌<◌, ◌≤◌, Bool, ◌&&◌, IsTrue, List, [], ◌∷◌, ◌++◌, length, take, drop, get_or, refl, ap, ◌∙◌, arith}
use Rattle.std.specs.Prelude.{nat_lt, nat_le}
use Rattle.std.proofs.lemmas.Bool.{and_parts, and_from, ltb-true, lt-ltb, leb-true, le-leb}
use Rattle.std.proofs.lemmas.List.{at_drop_more}
use Rattle.store_files.specs.DynamicIndex.{Ended, DynamicIndex, steps_fit}
use Rattle.dynamic_index.specs.Pieces.{last_end, start_of, stop_of}

abbrev pub is_step : ℕ → ℕ → Bool
is_step start end = nat_lt start end && nat_le end (start + 16_777_216)

pub step_bounds : (start end : ℕ) → IsTrue (is_step start end) → (start < end) × (end ≤ start + 16_777_216)
step_bounds start end is =
    let parts = and_parts (nat_lt start end) (nat_le end (start + 16_777_216)) is in
    (ltb-true start end parts.0, leb-true end (start + 16_777_216) parts.1)

step_from : (start end : ℕ) → start < end → end ≤ start + 16_777_216 → IsTrue (is_step start end)
step_from start end above below = and_from _ _ (lt-ltb start end above) (le-leb end (start + 16_777_216) below)

pub first_fits : (start : ℕ) (e : Ended) (es : List Ended) → IsTrue (steps_fit start (e ∷ es)) → IsTrue (is_step start e.end)
first_fits start e es fit = (and_parts (is_step start e.end) (steps_fit e.end es) fit).0

pub rest_fit : (start : ℕ) (e : Ended) (es : List Ended) → IsTrue (steps_fit start (e ∷ es)) → IsTrue (steps_fit e.end es)
rest_fit start e es fit = (and_parts (is_step start e.end) (steps_fit e.end es) fit).1

-- ---- where they end

-- where the first so many end, by the last of them
pub last_end-take : (start : ℕ) (es : List Ended) (i : ℕ) (none : Ended) → i < length es → last_end start (take (suc i) es) ≡ (get_or es i none).end
last_end-take start [] i none below = absurd (omega arith)
last_end-take start (e ∷ es) zero none below = refl
last_end-take start (e ∷ es) (suc i) none below = last_end-take e.end es i none (omega arith)

-- where the next piece begins, this one ends
pub start_of-next : (x : DynamicIndex) (i : ℕ) → i < length x.entries → start_of x (i + 1) ≡ stop_of x i
start_of-next x i below =
    let next : i + 1 ≡ suc i = omega arith in
    ap (start_of x) next ∙ last_end-take 0 x.entries i _ below

-- they end within so many bytes
pub last_end_small : (start : ℕ) (es : List Ended) → IsTrue (steps_fit start es) → last_end start es ≤ start + length es * 16_777_216
last_end_small start [] fit = omega arith
last_end_small start (e ∷ es) fit =
    omega (arith, step_bounds start e.end (first_fits start e es fit), last_end_small e.end es (rest_fit start e es fit))

-- how long a piece is
pub step_at : (x : DynamicIndex) (i : ℕ) → IsTrue (steps_fit 0 x.entries) → i < length x.entries →
    (start_of x i < stop_of x i) × (stop_of x i ≤ start_of x i + 16_777_216)
step_at x i fit below = step_bounds _ _ (step_in 0 x.entries i _ fit below)
  where
    step_in : (start : ℕ) (es : List Ended) (j : ℕ) (none : Ended) → IsTrue (steps_fit start es) → j < length es →
        IsTrue (is_step (last_end start (take j es)) (get_or es j none).end)
    step_in start [] j none ok inside = absurd (omega (arith, inside))
    step_in start (e ∷ es) zero none ok inside = first_fits start e es ok
    step_in start (e ∷ es) (suc j) none ok inside = step_in e.end es j none (rest_fit start e es ok) (omega (arith, inside))

-- ---- one more

pub steps_fit-push : (start : ℕ) (es : List Ended) (e : Ended) → IsTrue (steps_fit start es) →
    last_end start es < e.end → e.end ≤ last_end start es + 16_777_216 → IsTrue (steps_fit start (es ++ e ∷ []))
steps_fit-push start [] e fit above below = and_from _ _ (step_from start e.end above below) refl
steps_fit-push start (x ∷ es) e fit above below =
    and_from _ _ (first_fits start x es fit) (steps_fit-push x.end es e (rest_fit start x es fit) above below)

-- ---- the loop over the steps

pub steps_more : (start : ℕ) (es : List Ended) (i : ℕ) (none : Ended) (fits : Bool) → i < length es → is_step start (get_or es i none).end ≡ fits →
    steps_fit start (drop i es) ≡ (fits && steps_fit (get_or es i none).end (drop (i + 1) es))
steps_more start es i none fits below is =
    let next = get_or es i none in
    let more : steps_fit start (drop i es) ≡ (is_step start next.end && steps_fit next.end (drop (i + 1) es)) =
    at_drop_more (steps_fit start) es i none below in
    more ∙ ap (λ b. b && steps_fit next.end (drop (i + 1) es)) is

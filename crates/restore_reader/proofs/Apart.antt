-- A range has nothing of the pieces before it and behind it, and of others what it has of each.
use Rattle.std.proofs.Common.{◌≡◌, ℕ, ◌+◌, ◌-◌, ◌<◌, ◌≤◌, ◌⊎◌, inl, inr, min, max, Bool, ◌&&◌, IsTrue, cond, List, [], ◌∷◌, ◌++◌, refl, ap, ap₂, ◌∙◌, append_assoc, append-nil, sym, arith}
use Rattle.std.specs.Prelude.{nat_lt, nat_le}
use Rattle.std.proofs.lemmas.Bool.{cases_lt, and_parts, ltb-true, le-ltb, lt-ltb, leb-true}
use Rattle.store_files.specs.DynamicIndex.{Ended, steps_fit}
use Rattle.dynamic_index.specs.Pieces.{last_end}
use Rattle.restore_reader.specs.declared.ranges.Part.{Part}
use Rattle.paged_indexes.specs.declared.kinds.IndexEntry.{IndexEntry}
use Rattle.paged_indexes.specs.Handing.{ended_of}
use Rattle.restore_reader.specs.Plan.{ends_of, part_in, parts_in}
use Rattle.restore_reader.specs.Cutting.{total_of}

-- ---- steps

abbrev is_step : ℕ → ℕ → Bool
is_step start end = nat_lt start end && nat_le end (start + 16_777_216)

pub first_step : (start : ℕ) (e : Ended) (es : List Ended) → IsTrue (steps_fit start (e ∷ es)) → (start < e.end) × (e.end ≤ start + 16_777_216)
first_step start e es fit =
    let all = and_parts (is_step start e.end) (steps_fit e.end es) fit in
    let parts = and_parts (nat_lt start e.end) (nat_le e.end (start + 16_777_216)) all.0 in
    (ltb-true start e.end parts.0, leb-true e.end (start + 16_777_216) parts.1)

pub rest_steps : (start : ℕ) (e : Ended) (es : List Ended) → IsTrue (steps_fit start (e ∷ es)) → IsTrue (steps_fit e.end es)
rest_steps start e es fit = (and_parts (is_step start e.end) (steps_fit e.end es) fit).1

pub last_rises : (start : ℕ) (es : List Ended) → IsTrue (steps_fit start es) → start ≤ last_end start es
last_rises start [] fit = omega arith
last_rises start (e ∷ es) fit = omega (arith, first_step start e es fit, last_rises e.end es (rest_steps start e es fit))

-- ---- parts

-- the part, where there is one
abbrev pub part_of : ℕ → ℕ → ℕ → Ended → Part
part_of from to start e = record { digest = record { 0 = e.digest }; from = max from start - start; length = min to e.end - max from start; chunk_length = e.end - start }

pub no_part : (from to start : ℕ) (e : Ended) → min to e.end ≤ max from start → part_in from to start e ≡ []
no_part from to start e none = ap (λ b. cond b (part_of from to start e ∷ []) []) (le-ltb (max from start) (min to e.end) none)

pub one_part : (from to start : ℕ) (e : Ended) → max from start < min to e.end → part_in from to start e ≡ part_of from to start e ∷ []
one_part from to start e some = ap (λ b. cond b (part_of from to start e ∷ []) []) (lt-ltb (max from start) (min to e.end) some)

-- pieces behind the range
pub parts_behind : (from to start : ℕ) (es : List Ended) → to ≤ start → IsTrue (steps_fit start es) → parts_in from to start es ≡ []
parts_behind from to start [] behind fit = refl
parts_behind from to start (e ∷ es) behind fit =
    let step = first_step start e es fit in
    ap₂ (λ (ps qs : List Part). ps ++ qs) (no_part from to start e (omega (arith, behind)))
    (parts_behind from to e.end es (omega (arith, behind, step)) (rest_steps start e es fit))

-- they have no more bytes than the range
total_one : (from to start : ℕ) (e : Ended) → total_of (part_in from to start e) ≡ min to e.end - max from start
total_one from to start e = by_test (cases_lt (max from start) (min to e.end))
  where
    by_test : (max from start < min to e.end) ⊎ (min to e.end ≤ max from start) → total_of (part_in from to start e) ≡ min to e.end - max from start
    by_test (inl h) = ap total_of (one_part from to start e h) ∙ omega arith
    by_test (inr h) = ap total_of (no_part from to start e h) ∙ omega (arith, h)

total_append : (xs ys : List Part) → total_of (xs ++ ys) ≡ total_of xs + total_of ys
total_append [] ys = omega arith
total_append (x ∷ xs) ys = omega (arith, total_append xs ys)

pub total_in : (from to start : ℕ) (es : List Ended) → IsTrue (steps_fit start es) → total_of (parts_in from to start es) ≤ min to (last_end start es) - max from start
total_in from to start [] fit = omega arith
total_in from to start (e ∷ es) fit =
    omega (arith, first_step start e es fit, last_rises e.end es (rest_steps start e es fit), total_append (part_in from to start e) (parts_in from to e.end es), total_one from to start e, total_in from to e.end es (rest_steps start e es fit))

-- parts that are these
pub total_by : (from to start : ℕ) (es : List Ended) (parts : List Part) → parts ≡ parts_in from to start es → IsTrue (steps_fit start es) → total_of parts ≤ to - from
total_by from to start es parts are fit = omega (arith, ap total_of are, total_in from to start es fit)

-- pieces before it
pub parts_before : (from to start : ℕ) (es : List Ended) → IsTrue (steps_fit start es) → last_end start es ≤ from → parts_in from to start es ≡ []
parts_before from to start [] fit before = refl
parts_before from to start (e ∷ es) fit before =
    let rises = last_rises e.end es (rest_steps start e es fit) in
    ap₂ (λ (ps qs : List Part). ps ++ qs) (no_part from to start e (omega (arith, rises, before)))
    (parts_before from to e.end es (rest_steps start e es fit) before)

-- pieces that follow one another
pub parts_follow : (from to start : ℕ) (xs ys : List Ended) → parts_in from to start (xs ++ ys) ≡ parts_in from to start xs ++ parts_in from to (last_end start xs) ys
parts_follow from to start [] ys = refl
parts_follow from to start (x ∷ xs) ys =
    ap (λ (ps : List Part). part_in from to start x ++ ps) (parts_follow from to x.end xs ys)
    ∙ sym (append_assoc (part_in from to start x) (parts_in from to x.end xs) (parts_in from to (last_end x.end xs) ys))

-- ---- the loop over the entries

-- one entry more
pub parts_more : (from to reached : ℕ) (done whole : List Part) (xs rest : List IndexEntry) (x : IndexEntry) → xs ≡ x ∷ rest
    → done ++ parts_in from to reached (ends_of xs) ≡ whole → (done ++ part_in from to reached (ended_of x)) ++ parts_in from to x.end (ends_of rest) ≡ whole
parts_more from to reached done whole xs rest x next so_far =
    append_assoc done (part_in from to reached (ended_of x)) (parts_in from to x.end (ends_of rest))
    ∙ ap (λ es. done ++ parts_in from to reached (ends_of es)) (sym next) ∙ so_far

-- nothing more comes
pub parts_done : (from to reached : ℕ) (done whole : List Part) (xs : List IndexEntry) → parts_in from to reached (ends_of xs) ≡ []
    → done ++ parts_in from to reached (ends_of xs) ≡ whole → done ≡ whole
parts_done from to reached done whole xs none so_far =
    sym (append-nil done) ∙ ap (λ (l : List Part). done ++ l) (sym none) ∙ so_far

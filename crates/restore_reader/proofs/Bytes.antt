-- The parts of a range are read from the pieces.
use Rattle.std.proofs.Common.{◌≡◌, ℕ, zero, suc, ◌+◌, ◌-◌, ◌<◌, ◌≤◌, ◌⊎◌, inl, inr, min, max, IsTrue, List, [], ◌∷◌, ◌++◌, length, take, drop, refl, sym, ap, ap₂, subst, ◌∙◌, append-nil, take_all, length-drop, arith}
use Rattle.std.specs.List.{concat}
use Rattle.std.proofs.lemmas.Bool.{cases_lt}
use Rattle.std.proofs.lemmas.List.{take-append-le, drop-append-le, drop_all}
use Rattle.std.proofs.Math.Seq.{take-append-add, drop-append-add}
use Rattle.sha2.specs.Sha256.{sha256}
use Rattle.store_files.specs.DynamicIndex.{Ended, steps_fit}
use Rattle.store_files.specs.Archive.{ends_from}
use Rattle.restore_reader.specs.declared.ranges.Part.{Part}
use Rattle.restore_reader.specs.Plan.{bytes_in, parts_in}
use Rattle.restore_reader.specs.Cutting.{IsPartOf, cut, ArePartsOf, joined, Reads}
use Rattle.restore_reader.proofs.Apart.{first_step, rest_steps, part_of, no_part, one_part, parts_behind}

-- ---- lists

take_none : {A : Type 0} (n : ℕ) → take {A = A} n [] ≡ []
take_none zero = refl
take_none (suc n) = refl

drop_none : {A : Type 0} (n : ℕ) → drop {A = A} n [] ≡ []
drop_none zero = refl
drop_none (suc n) = refl

-- so many of two lists
take_both : {A : Type 0} (n : ℕ) (xs ys : List A) → take n (xs ++ ys) ≡ take (min n (length xs)) xs ++ take (n - length xs) ys
take_both {A} n xs ys = by_length (cases_lt (length xs) n)
  where
    by_length : (length xs < n) ⊎ (n ≤ length xs) → take n (xs ++ ys) ≡ take (min n (length xs)) xs ++ take (n - length xs) ys
    by_length (inl h) =
        let all : length xs ≡ min n (length xs) = omega (arith, h) in
        let more : n ≡ length xs + (n - length xs) = omega (arith, h) in
        ap (λ a. take a (xs ++ ys)) more ∙ take-append-add xs ys (n - length xs)
        ∙ ap (λ (l : List A). l ++ take (n - length xs) ys) (sym (take_all (length xs) xs (omega arith)) ∙ ap (λ a. take a xs) all)
    by_length (inr h) =
        let here : n ≡ min n (length xs) = omega (arith, h) in
        let none : 0 ≡ n - length xs = omega (arith, h) in
        take-append-le n xs ys h ∙ sym (append-nil (take n xs))
        ∙ ap₂ (λ a b. take a xs ++ take b ys) here none

-- ---- pieces of which the first begins in the range or behind it

abbrev ended : ℕ → List ℕ → Ended
ended start p = record { end = start + length p; digest = sha256 p }

-- the part of the first piece
first_part : (from to start : ℕ) (p : List ℕ) → max from start < min to (start + length p) → IsPartOf (part_of from to start (ended start p)) p
first_part from to start p some = record { digest = refl; whole = omega arith; within = omega (arith, some); not_empty = omega (arith, some) }

-- what the parts give
abbrev AllRead : List Part → List (List ℕ) → List ℕ → Type 0
AllRead parts pieces bytes = ArePartsOf parts pieces × (joined parts pieces ≡ bytes)

read_all : (from to start : ℕ) (pieces : List (List ℕ)) → from ≤ start → IsTrue (steps_fit start (ends_from start pieces))
    → AllRead (parts_in from to start (ends_from start pieces)) pieces (take (to - start) (concat pieces))
read_all from to start [] low fit = (tt, sym (take_none (to - start)))
read_all from to start (p ∷ ps) low fit =
    let fits = rest_steps start (ended start p) (ends_from (start + length p) ps) fit in
    by_end (cases_lt start to) (read_all from to (start + length p) ps (omega (arith, low)) fits)
  where
    by_end : (start < to) ⊎ (to ≤ start)
        → AllRead (parts_in from to (start + length p) (ends_from (start + length p) ps)) ps (take (to - (start + length p)) (concat ps))
        → AllRead (parts_in from to start (ended start p ∷ ends_from (start + length p) ps)) (p ∷ ps) (take (to - start) (p ++ concat ps))
    by_end (inr h) later =
        let all = ended start p ∷ ends_from (start + length p) ps in
        let none : 0 ≡ to - start = omega (arith, h) in
        subst (λ parts. AllRead parts (p ∷ ps) (take (to - start) (p ++ concat ps))) (sym (parts_behind from to start all h fit))
        (tt, ap (λ n. take n (p ++ concat ps)) none)
    by_end (inl h) later =
        let e = ended start p in
        let rest = parts_in from to (start + length p) (ends_from (start + length p) ps) in
        let step = first_step start e (ends_from (start + length p) ps) fit in
        let some : max from start < min to (start + length p) = omega (arith, h, low, step) in
        let begin : max from start - start ≡ 0 = omega (arith, low) in
        let count : min to (start + length p) - max from start ≡ min (to - start) (length p) = omega (arith, low, h) in
        let left : to - (start + length p) ≡ to - start - length p = omega arith in
        subst (λ parts. AllRead parts (p ∷ ps) (take (to - start) (p ++ concat ps)))
        (sym (ap (λ (l : List Part). l ++ rest) (one_part from to start e some))) (
          (first_part from to start p some, later.0),
          ap (λ (l : List ℕ). cut (part_of from to start e) p ++ l) later.1
              ∙ ap₂ (λ a b. take a (drop b p) ++ take (to - (start + length p)) (concat ps)) count begin
              ∙ ap (λ n. take (min (to - start) (length p)) p ++ take n (concat ps)) left
              ∙ sym (take_both (to - start) p (concat ps)),
        )

-- ---- pieces of which the first begins at the range or before it

-- an empty range
read_none : (from to start : ℕ) (p : List ℕ) (ps : List (List ℕ)) → to ≤ from → from < start + length p → IsTrue (steps_fit start (ends_from start (p ∷ ps)))
    → Reads (parts_in from to start (ends_from start (p ∷ ps))) (p ∷ ps) (take (to - from) (drop (from - start) (p ++ concat ps)))
read_none from to start p ps none below fit =
    let e = ended start p in
    let es = ends_from (start + length p) ps in
    let nothing : parts_in from to start (e ∷ es) ≡ [] =
    ap₂ (λ (a b : List Part). a ++ b) (no_part from to start e (omega (arith, none)))
    (parts_behind from to (start + length p) es (omega (arith, none, below)) (rest_steps start e es fit)) in
    let zero_left : 0 ≡ to - from = omega (arith, none) in
    subst (λ parts. Reads parts (p ∷ ps) (take (to - from) (drop (from - start) (p ++ concat ps)))) (sym nothing)
    (record { first = 0; each = tt; same = ap (λ n. take n (drop (from - start) (p ++ concat ps))) zero_left })

-- one that begins in the first piece
read_here : (from to start : ℕ) (p : List ℕ) (ps : List (List ℕ)) → start ≤ from → from < to → from < start + length p → IsTrue (steps_fit start (ends_from start (p ∷ ps)))
    → Reads (parts_in from to start (ends_from start (p ∷ ps))) (p ∷ ps) (take (to - from) (drop (from - start) (p ++ concat ps)))
read_here from to start p ps low some below fit =
    let e = ended start p in
    let es = ends_from (start + length p) ps in
    let rest = parts_in from to (start + length p) es in
    let d = drop (from - start) p in
    let within : max from start < min to (start + length p) = omega (arith, low, some, below) in
    let later = read_all from to (start + length p) ps (omega (arith, below)) (rest_steps start e es fit) in
    let len : length d ≡ length p - (from - start) = length-drop (from - start) p in
    let begin : max from start - start ≡ from - start = omega (arith, low) in
    let count : min to (start + length p) - max from start ≡ min (to - from) (length d) = omega (arith, low, below, some, len) in
    let left : to - (start + length p) ≡ to - from - length d = omega (arith, low, below, len) in
    subst (λ parts. Reads parts (p ∷ ps) (take (to - from) (drop (from - start) (p ++ concat ps))))
    (sym (ap (λ (l : List Part). l ++ rest) (one_part from to start e within)))
    (record {
      first = 0;
      each = (first_part from to start p within, later.0);
      same =
          ap (λ (l : List ℕ). cut (part_of from to start e) p ++ l) later.1
          ∙ ap₂ (λ a b. take a (drop b p) ++ take (to - (start + length p)) (concat ps)) count begin
          ∙ ap (λ n. take (min (to - from) (length d)) d ++ take n (concat ps)) left
          ∙ sym (take_both (to - from) d (concat ps))
          ∙ ap (take (to - from)) (sym (drop-append-le (from - start) p (concat ps) (omega (arith, low, below))));
    })

pub read_range : (from to start : ℕ) (pieces : List (List ℕ)) → start ≤ from → IsTrue (steps_fit start (ends_from start pieces))
    → Reads (parts_in from to start (ends_from start pieces)) pieces (take (to - from) (drop (from - start) (concat pieces)))
read_range from to start [] low fit = record {
  first = 0;
  each = tt;
  same = sym (ap (take (to - from)) (drop_none (from - start)) ∙ take_none (to - from));
}
read_range from to start (p ∷ ps) low fit =
    let fits = rest_steps start (ended start p) (ends_from (start + length p) ps) fit in
    by_end (cases_lt from (start + length p)) (λ before. read_range from to (start + length p) ps before fits)
  where
    by_end : (from < start + length p) ⊎ (start + length p ≤ from)
        → (start + length p ≤ from → Reads (parts_in from to (start + length p) (ends_from (start + length p) ps)) ps (take (to - from) (drop (from - (start + length p)) (concat ps))))
        → Reads (parts_in from to start (ended start p ∷ ends_from (start + length p) ps)) (p ∷ ps) (take (to - from) (drop (from - start) (p ++ concat ps)))
    by_end (inr h) go =
        let e = ended start p in
        let es = ends_from (start + length p) ps in
        let rest = parts_in from to (start + length p) es in
        let later = go h in
        let more : from - start ≡ length p + (from - (start + length p)) = omega (arith, h, low) in
        subst (λ parts. Reads parts (p ∷ ps) (take (to - from) (drop (from - start) (p ++ concat ps))))
        (sym (ap (λ (l : List Part). l ++ rest) (no_part from to start e (omega (arith, h)))))
        (record {
          first = suc later.first;
          each = later.each;
          same = later.same ∙ ap (take (to - from)) (sym (ap (λ n. drop n (p ++ concat ps)) more ∙ drop-append-add p (concat ps) (from - (start + length p))));
        })
    by_end (inl h) go = by_range (cases_lt from to)
      where
        by_range : (from < to) ⊎ (to ≤ from)
            → Reads (parts_in from to start (ended start p ∷ ends_from (start + length p) ps)) (p ∷ ps) (take (to - from) (drop (from - start) (p ++ concat ps)))
        by_range (inr k) = read_none from to start p ps k h fit
        by_range (inl k) = read_here from to start p ps low k h fit

-- wherever the first one begins, for entries that the pieces give
pub reads : (from to start : ℕ) (es : List Ended) (pieces : List (List ℕ)) → IsTrue (steps_fit start es) → ends_from start pieces ≡ es
    → Reads (parts_in from to start es) pieces (bytes_in from to start (concat pieces))
reads from to start es pieces fit same =
    subst (λ (l : List Ended). IsTrue (steps_fit start l) → Reads (parts_in from to start l) pieces (bytes_in from to start (concat pieces))) same
    (λ steps. by_front steps (cases_lt from start)) fit
  where
    by_front : IsTrue (steps_fit start (ends_from start pieces)) → (from < start) ⊎ (start ≤ from)
        → Reads (parts_in from to start (ends_from start pieces)) pieces (bytes_in from to start (concat pieces))
    by_front steps (inl h) =
        let all = read_all from to start pieces (omega (arith, h)) steps in
        let left : to - start ≡ to - max from start = omega (arith, h) in
        let begin : 0 ≡ from - start = omega (arith, h) in
        record { first = 0; each = all.0; same = all.1 ∙ ap₂ (λ a b. take a (drop b (concat pieces))) left begin }
    by_front steps (inr h) =
        let left : to - from ≡ to - max from start = omega (arith, h) in
        subst (λ n. Reads (parts_in from to start (ends_from start pieces)) pieces (take n (drop (from - start) (concat pieces)))) left (read_range from to start pieces h steps)

pub whole_bytes : (from to : ℕ) (content : List ℕ) → bytes_in from to 0 content ≡ take (to - from) (drop from content)
whole_bytes from to content =
    let left : to - max from 0 ≡ to - from = omega arith in
    let begin : from - 0 ≡ from = omega arith in
    ap₂ (λ a b. take a (drop b content)) left begin

-- ---- bytes that follow one another

drop_both : (n : ℕ) (xs ys : List ℕ) → drop n (xs ++ ys) ≡ drop n xs ++ drop (n - length xs) ys
drop_both n xs ys = by_length (cases_lt (length xs) n)
  where
    by_length : (length xs < n) ⊎ (n ≤ length xs) → drop n (xs ++ ys) ≡ drop n xs ++ drop (n - length xs) ys
    by_length (inl h) =
        let more : n ≡ length xs + (n - length xs) = omega (arith, h) in
        ap (λ a. drop a (xs ++ ys)) more ∙ drop-append-add xs ys (n - length xs)
        ∙ ap (λ (l : List ℕ). l ++ drop (n - length xs) ys) (sym (drop_all n xs (omega (arith, h))))
    by_length (inr h) =
        let none : 0 ≡ n - length xs = omega (arith, h) in
        drop-append-le n xs ys h ∙ ap (λ a. drop n xs ++ drop a ys) none

take_least : (n : ℕ) (xs : List ℕ) → take (min n (length xs)) xs ≡ take n xs
take_least n xs = by_length (cases_lt (length xs) n)
  where
    by_length : (length xs < n) ⊎ (n ≤ length xs) → take (min n (length xs)) xs ≡ take n xs
    by_length (inl h) = take_all (min n (length xs)) xs (omega (arith, h)) ∙ sym (take_all n xs (omega (arith, h)))
    by_length (inr h) = let here : min n (length xs) ≡ n = omega (arith, h) in ap (λ a. take a xs) here

pub bytes_follow : (from to start : ℕ) (xs ys : List ℕ) → bytes_in from to start (xs ++ ys) ≡ bytes_in from to start xs ++ bytes_in from to (start + length xs) ys
bytes_follow from to start xs ys =
    let front = drop (from - start) xs in
    let len : length front ≡ length xs - (from - start) = length-drop (from - start) xs in
    let begin : from - start - length xs ≡ from - (start + length xs) = omega arith in
    let left : to - max from start - length front ≡ to - max from (start + length xs) = omega (arith, len) in
    ap (take (to - max from start)) (drop_both (from - start) xs ys)
    ∙ take_both (to - max from start) front (drop (from - start - length xs) ys)
    ∙ ap₂ (λ (a : List ℕ) b. a ++ take b (drop (from - start - length xs) ys)) (take_least (to - max from start) front) left
    ∙ ap (λ b. take (to - max from start) front ++ take (to - max from (start + length xs)) (drop b ys)) begin

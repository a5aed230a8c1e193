-- The names of chunks stand in the order of their digests.
use Rattle.std.proofs.Common.{◌≡◌, ◌<◌, ◌/◌, ◌%◌, ◌+◌, ◌*◌, inl, inr, ℕ, zero, suc, List, [], ◌∷◌, ◌++◌, Bool, true, ◌&&◌, length, take, drop, refl, sym, ap, ap₂, subst, ◌∙◌, arith, length-append, take-append-drop}
use Rattle.std.specs.Prelude.{codes, nat_lt}
use Rattle.std.specs.List.{All, slice_index}
use Rattle.std.specs.Ordering.{nat_cmp, ordering_then}
use Rattle.std.specs.declared.cmp.Ordering.{Ordering}
use Rattle.std.specs.declared.cmp.Ordering.TheVariants.{Less, Equal, Greater}
use Rattle.std.proofs.lemmas.Bool.{and_parts, cases_lt, ltb-true}
use Rattle.std.proofs.lemmas.Bool.Decides.{nat_tests}
use Rattle.std.proofs.lemmas.List.{length-take-le}
use Rattle.std.proofs.lemmas.List.Elements.{All-head, All-tail}
use Rattle.hex.specs.Hex.{encode_lower, encode_with, lower_digits}
use Rattle.store_types.specs.Names.{text_cmp}
use Rattle.store_files.specs.Folder.{IsDigest, chunk_name}
use Rattle.chunk_store.proofs.Names.{length_digits}

then_assoc : (a b c : Ordering) → ordering_then (ordering_then a b) c ≡ ordering_then a (ordering_then b c)
then_assoc Less b c = refl
then_assoc Equal b c = refl
then_assoc Greater b c = refl

twice : (a b : Ordering) → ordering_then a (ordering_then a b) ≡ ordering_then a b
twice Less b = refl
twice Equal b = refl
twice Greater b = refl

-- fronts of one length come first
front_first : (p q x y : List ℕ) → length p ≡ length q → text_cmp (p ++ x) (q ++ y) ≡ ordering_then (text_cmp p q) (text_cmp x y)
front_first [] [] x y e = refl
front_first [] (b ∷ q) x y e = absurd (omega (arith, e))
front_first (a ∷ p) [] x y e = absurd (omega (arith, e))
front_first (a ∷ p) (b ∷ q) x y e =
    ap (ordering_then (nat_cmp a b)) (front_first p q x y (omega (arith, e))) ∙ sym (then_assoc (nat_cmp a b) (text_cmp p q) (text_cmp x y))

-- ---- digits

nat_less : (x y : ℕ) → x < y → nat_cmp x y ≡ Less
nat_less x y h = grind (arith, nat_tests)

nat_same : (x y : ℕ) → x ≡ y → nat_cmp x y ≡ Equal
nat_same x y h = grind (arith, nat_tests)

nat_more : (x y : ℕ) → y < x → nat_cmp x y ≡ Greater
nat_more x y h = grind (arith, nat_tests)

-- what stands in the same order
agree : (a b x y : ℕ) → (x < y → a < b) → (x ≡ y → a ≡ b) → (y < x → b < a) → nat_cmp a b ≡ nat_cmp x y
agree a b x y less same more =
    elim (cases_lt x y) [
      | inl lt ↦ nat_less a b (less lt) ∙ sym (nat_less x y lt)
      | inr ge ↦
          elim (cases_lt y x) [
            | inl gt ↦ nat_more a b (more gt) ∙ sym (nat_more x y gt)
            | inr le ↦ let e : x ≡ y = omega (arith, ge, le) in nat_same a b (same e) ∙ sym (nat_same x y e)
          ]
    ]

abbrev digit : ℕ → ℕ
digit i = slice_index lower_digits i

-- the test of the first steps of the table, which computes
abbrev rises_to : ℕ → Bool
rises_to zero = true
rises_to (suc n) = nat_lt (digit n) (digit (suc n)) && rises_to n

step_at : (n k : ℕ) → rises_to n ≡ true → k < n → digit k < digit (suc k)
step_at zero k h lt = absurd (omega (arith, lt))
step_at (suc n) k h lt =
    let parts = and_parts (nat_lt (digit n) (digit (suc n))) (rises_to n) h in
    elim (cases_lt k n) [
      | inl below ↦ step_at n k parts.1 below
      | inr not ↦ let e : n ≡ k = omega (arith, lt, not) in subst (λ m. digit m < digit (suc m)) e (ltb-true (digit n) (digit (suc n)) parts.0)
    ]

rises : (i j : ℕ) → i < j → j < 16 → digit i < digit j
rises i zero lt within = absurd (omega (arith, lt))
rises i (suc j) lt within =
    let step = step_at 15 j refl (omega (arith, within)) in
    elim (cases_lt i j) [
      | inl below ↦ let far = rises i j below (omega (arith, within)) in omega (arith, far, step)
      | inr not ↦ let e : j ≡ i = omega (arith, lt, not) in subst (λ m. digit m < digit (suc j)) e step
    ]

digit_order : (i j : ℕ) → i < 16 → j < 16 → nat_cmp (digit i) (digit j) ≡ nat_cmp i j
digit_order i j in_i in_j = agree (digit i) (digit j) i j (λ lt. rises i j lt in_j) (λ e. ap digit e) (λ gt. rises j i gt in_i)

parts_order : (h l g k : ℕ) → l < 16 → k < 16 → ordering_then (nat_cmp h g) (nat_cmp l k) ≡ nat_cmp (h * 16 + l) (g * 16 + k)
parts_order h l g k in_l in_k =
    elim (cases_lt h g) [
      | inl lt ↦ ap (λ o. ordering_then o (nat_cmp l k)) (nat_less h g lt) ∙ sym (nat_less (h * 16 + l) (g * 16 + k) (omega (arith, lt, in_l)))
      | inr ge ↦
          elim (cases_lt g h) [
            | inl gt ↦ ap (λ o. ordering_then o (nat_cmp l k)) (nat_more h g gt) ∙ sym (nat_more (h * 16 + l) (g * 16 + k) (omega (arith, gt, in_k)))
            | inr le ↦
                let e : h ≡ g = omega (arith, ge, le) in
                ap (λ o. ordering_then o (nat_cmp l k)) (nat_same h g e)
                ∙ agree l k (h * 16 + l) (g * 16 + k) (λ lt. omega (arith, e, lt)) (λ same. omega (arith, e, same)) (λ gt. omega (arith, e, gt))
          ]
    ]

byte_order : (x y : ℕ) → x < 256 → y < 256 → ordering_then (nat_cmp (digit (x / 16)) (digit (y / 16))) (nat_cmp (digit (x % 16)) (digit (y % 16))) ≡ nat_cmp x y
byte_order x y in_x in_y =
    let x_is : x / 16 * 16 + x % 16 ≡ x = omega arith in
    let y_is : y / 16 * 16 + y % 16 ≡ y = omega arith in
    ap₂ ordering_then (digit_order (x / 16) (y / 16) (omega (arith, in_x)) (omega (arith, in_y))) (digit_order (x % 16) (y % 16) (omega arith) (omega arith))
    ∙ parts_order (x / 16) (x % 16) (y / 16) (y % 16) (omega arith) (omega arith)
    ∙ ap₂ nat_cmp x_is y_is

abbrev Small : ℕ → Type 0
Small b = b < 256

digits_order : (a b : List ℕ) → All Small a → All Small b → length a ≡ length b → text_cmp (encode_lower a) (encode_lower b) ≡ text_cmp a b
unfolding encode_with
digits_order [] [] in_a in_b e = refl
digits_order [] (y ∷ b) in_a in_b e = absurd (omega (arith, e))
digits_order (x ∷ a) [] in_a in_b e = absurd (omega (arith, e))
digits_order (x ∷ a) (y ∷ b) in_a in_b e =
    sym (then_assoc (nat_cmp (digit (x / 16)) (digit (y / 16))) (nat_cmp (digit (x % 16)) (digit (y % 16))) (text_cmp (encode_lower a) (encode_lower b)))
    ∙ ap₂ ordering_then (byte_order x y (All-head Small x a in_a) (All-head Small y b in_b))
    (digits_order a b (All-tail Small x a in_a) (All-tail Small y b in_b) (omega (arith, e)))

-- ---- names

abbrev front : List ℕ → List ℕ
front s = take 4 s ++ 47 ∷ []

behind_front : (s t : List ℕ) → length s ≡ 64 → length t ≡ 64 → text_cmp (front s ++ s) (front t ++ t) ≡ text_cmp s t
behind_front s t len_s len_t =
    let four_s : length (take 4 s) ≡ 4 = length-take-le 4 s (omega (arith, len_s)) in
    let four_t : length (take 4 t) ≡ 4 = length-take-le 4 t (omega (arith, len_t)) in
    let same : length (take 4 s) ≡ length (take 4 t) = four_s ∙ sym four_t in
    let fronts : length (front s) ≡ length (front t) = length-append (take 4 s) (47 ∷ []) ∙ ap (λ n. n + 1) same ∙ sym (length-append (take 4 t) (47 ∷ [])) in
    let first : Ordering = text_cmp (take 4 s) (take 4 t) in
    let last : Ordering = text_cmp (drop 4 s) (drop 4 t) in
    let cut : text_cmp s t ≡ ordering_then first last =
    ap₂ text_cmp (sym (take-append-drop 4 s)) (sym (take-append-drop 4 t)) ∙ front_first (take 4 s) (take 4 t) (drop 4 s) (drop 4 t) same in
    front_first (front s) (front t) s t fronts
    ∙ ap (λ o. ordering_then o (text_cmp s t)) (front_first (take 4 s) (take 4 t) (47 ∷ []) (47 ∷ []) same)
    ∙ then_assoc first Equal (text_cmp s t)
    ∙ ap (ordering_then first) cut
    ∙ twice first last
    ∙ sym cut

same_folder : (s t : List ℕ) → text_cmp (codes ".chunks/" ++ s) (codes ".chunks/" ++ t) ≡ text_cmp s t
same_folder s t = front_first (codes ".chunks/") (codes ".chunks/") s t refl

pub name_order : (a b : List ℕ) → IsDigest a → IsDigest b → text_cmp (chunk_name a) (chunk_name b) ≡ text_cmp a b
name_order a b is_a is_b =
    same_folder (front (encode_lower a) ++ encode_lower a) (front (encode_lower b) ++ encode_lower b)
    ∙ behind_front (encode_lower a) (encode_lower b) (length_digits a is_a) (length_digits b is_b)
    ∙ digits_order a b is_a.1 is_b.1 (is_a.0 ∙ sym is_b.0)

-- Chunks whose digests rise.
use Rattle.std.proofs.Common.{◌≡◌, ℕ, zero, suc, ◌+◌, ◌<◌, ◌≤◌, false, List, [], ◌∷◌, ◌++◌, length, map, get_or, take, drop, sym, ap, subst, ◌∙◌, arith}
use Rattle.std.specs.Prelude.{Result, Ok, Err}
use Rattle.std.specs.Ordering.{is_lt}
use Rattle.std.specs.declared.cmp.Ordering.TheVariants.{Less, Greater}
use Rattle.std.specs.List.{AllByRecursion, AllWithin}
use Rattle.std.specs.List.Sorted.{IsStrictlySortedBy, IsSortedBy, IsBinarySearchResult, IsSearchInRange}
use Rattle.std.specs.Cmp.Lexicographic.{nat_list_cmp_total}
use Rattle.std.proofs.lemmas.List.{take-append-drop, drop_more}
use Rattle.std.proofs.lemmas.List.Sorted.{searchable_from_sorted}
use Rattle.store_types.specs.declared.names.Digest32.{Digest32}
use Rattle.store_types.specs.Names.{text_cmp}
use Rattle.atime_book.specs.declared.parts.Touched.{Touched}
use Rattle.atime_book.specs.Parts.{digest_cmp, IsRising, IsPlace, StandsAt, GoesTo}
use Rattle.atime_book.proofs.Orders.{greater, less, same_digest}

abbrev pub Below : List ℕ → Touched → Type 0
Below d t = text_cmp t.digest.0 d ≡ Less

abbrev pub Above : List ℕ → Touched → Type 0
Above d t = text_cmp t.digest.0 d ≡ Greater

abbrev keys : List Touched → List Digest32
keys ts = map (λ t. t.digest) ts

-- each is above this digest
abbrev pub After : Digest32 → List Touched → Type 0
After d ts = AllByRecursion (λ k. digest_cmp d k ≡ Less) (keys ts)

above_from_after : (d : Digest32) (ts : List Touched) → After d ts → AllByRecursion (Above d.0) ts
above_from_after d [] all = tt
above_from_after d (t ∷ ts) all = (greater d.0 t.digest.0 all.0, above_from_after d ts all.1)

after_from_above : (d : Digest32) (ts : List Touched) → AllByRecursion (Above d.0) ts → After d ts
after_from_above d [] all = tt
after_from_above d (t ∷ ts) all = (less t.digest.0 d.0 all.0, after_from_above d ts all.1)

after_middle : (d : Digest32) (xs : List Touched) (t : Touched) (ys : List Touched) → After d (xs ++ t ∷ ys) → digest_cmp d t.digest ≡ Less
after_middle d [] t ys all = all.0
after_middle d (x ∷ xs) t ys all = after_middle d xs t ys all.1

after_with : (d : Digest32) (xs : List Touched) (t : Touched) (ys : List Touched) → digest_cmp d t.digest ≡ Less → After d (xs ++ ys) → After d (xs ++ t ∷ ys)
after_with d [] t ys low all = (low, all)
after_with d (x ∷ xs) t ys low all = (all.0, after_with d xs t ys low all.1)

after_without : (d : Digest32) (xs : List Touched) (t : Touched) (ys : List Touched) → After d (xs ++ t ∷ ys) → After d (xs ++ ys)
after_without d [] t ys all = all.1
after_without d (x ∷ xs) t ys all = (all.0, after_without d xs t ys all.1)

after_join : (d : Digest32) (xs ys : List Touched) → After d xs → After d ys → After d (xs ++ ys)
after_join d [] ys front back = back
after_join d (x ∷ xs) ys front back = (front.0, after_join d xs ys front.1 back)

pub below_middle : (xs : List Touched) (t : Touched) (ys : List Touched) → IsRising (xs ++ t ∷ ys) → AllByRecursion (Below t.digest.0) xs
unfolding IsStrictlySortedBy
below_middle [] t ys rise = tt
below_middle (x ∷ xs) t ys rise = (after_middle x.digest xs t ys rise.0, below_middle xs t ys rise.1)

pub above_middle : (xs : List Touched) (t : Touched) (ys : List Touched) → IsRising (xs ++ t ∷ ys) → AllByRecursion (Above t.digest.0) ys
unfolding IsStrictlySortedBy
above_middle [] t ys rise = above_from_after t.digest ys rise.0
above_middle (x ∷ xs) t ys rise = above_middle xs t ys rise.1

pub rising_none : IsRising []
unfolding IsStrictlySortedBy
rising_none = tt

pub rising_with : (xs : List Touched) (t : Touched) (ys : List Touched) → AllByRecursion (Below t.digest.0) xs → AllByRecursion (Above t.digest.0) ys →
    IsRising (xs ++ ys) → IsRising (xs ++ t ∷ ys)
unfolding IsStrictlySortedBy
rising_with [] t ys below above rise = (after_from_above t.digest ys above, rise)
rising_with (x ∷ xs) t ys below above rise = (after_with x.digest xs t ys below.0 rise.0, rising_with xs t ys below.1 above rise.1)

pub rising_without : (xs : List Touched) (t : Touched) (ys : List Touched) → IsRising (xs ++ t ∷ ys) → IsRising (xs ++ ys)
unfolding IsStrictlySortedBy
rising_without [] t ys rise = rise.1
rising_without (x ∷ xs) t ys rise = (after_without x.digest xs t ys rise.0, rising_without xs t ys rise.1)

-- those behind are above those in front
pub rising_join : (xs ys : List Touched) → AllByRecursion (λ x. After x.digest ys) xs → IsRising xs → IsRising ys → IsRising (xs ++ ys)
unfolding IsStrictlySortedBy
rising_join [] ys all front back = back
rising_join (x ∷ xs) ys all front back = (after_join x.digest xs ys front.0 all.0, rising_join xs ys all.1 front.1 back)

-- the same digests with other moments
pub rising_again : (xs : List Touched) (t u : Touched) (ys : List Touched) → u.digest ≡ t.digest → IsRising (xs ++ t ∷ ys) → IsRising (xs ++ u ∷ ys)
rising_again xs t u ys same rise = subst (IsStrictlySortedBy digest_cmp) (sym (same_keys xs)) rise
  where
    same_keys : (zs : List Touched) → keys (zs ++ u ∷ ys) ≡ keys (zs ++ t ∷ ys)
    same_keys [] = ap (λ k. k ∷ keys ys) same
    same_keys (z ∷ zs) = ap (λ ks. z.digest ∷ ks) (same_keys zs)

-- ---- what a search by halving finds

sorted : (ts : List Touched) → IsRising ts → IsSortedBy (λ a b. is_lt (text_cmp a.digest.0 b.digest.0)) ts
unfolding IsStrictlySortedBy
sorted [] rise k d low below = absurd (omega (arith, below))
sorted (x ∷ []) rise k d low below = absurd (omega (arith, below))
sorted (x ∷ y ∷ ts) rise zero d low below = ap is_lt (greater x.digest.0 y.digest.0 (rise.0).0)
sorted (x ∷ y ∷ ts) rise (suc k) d low below =
    let next : suc k + 1 ≡ suc (k + 1) = omega arith in
    subst (λ j. is_lt (text_cmp (get_or (x ∷ y ∷ ts) j d).digest.0 (get_or (y ∷ ts) k d).digest.0) ≡ false) (sym next)
    (sorted (y ∷ ts) rise.1 k d (omega arith) (omega (arith, below)))

pub place_is : (ts : List Touched) (q : Digest32) (r : Result ℕ ℕ) → IsRising ts → IsSearchInRange r (length ts) →
    IsBinarySearchResult (λ t. digest_cmp t.digest q) ts r → IsPlace ts q.0 r
place_is ts q (Ok i) rise within found = record { within = within; same = λ d. same_digest (get_or ts i d).digest.0 q.0 (found d) }
place_is ts q (Err i) rise within found =
    let parts = found (searchable_from_sorted nat_list_cmp_total (λ (t : Touched). t.digest.0) ts q.0 (sorted ts rise)) in
    record { within = within; below = parts.0; above = parts.1 }

-- ---- a list in two at a place

front_all : (P : Touched → Type 0) (i : ℕ) (ts : List Touched) → i ≤ length ts → AllWithin P ts 0 i → AllByRecursion P (take i ts)
front_all P zero ts within all = tt
front_all P (suc i) [] within all = absurd (omega (arith, within))
front_all P (suc i) (t ∷ ts) within all =
    (all 0 t (omega arith) (omega arith), front_all P i ts (omega (arith, within)) (λ k d low high. all (suc k) d (omega arith) (omega (arith, high))))

back_all : (P : Touched → Type 0) (i : ℕ) (ts : List Touched) → AllWithin P ts i (length ts) → AllByRecursion P (drop i ts)
back_all P zero [] all = tt
back_all P zero (t ∷ ts) all =
    (all 0 t (omega arith) (omega arith), back_all P zero ts (λ k d low high. all (suc k) d (omega arith) (omega (arith, high))))
back_all P (suc i) [] all = tt
back_all P (suc i) (t ∷ ts) all = back_all P i ts (λ k d low high. all (suc k) d (omega (arith, low)) (omega (arith, high)))

-- chunks below a digest, and chunks above it
pub record Between (d : List ℕ) (lower higher : List Touched) : Type 0 where
  pub below : AllByRecursion (Below d) lower
  pub above : AllByRecursion (Above d) higher

pub goes_between : (ts : List Touched) (d : List ℕ) (i : ℕ) → GoesTo ts d i → Between d (take i ts) (drop i ts)
goes_between ts d i goes = record { below = front_all (Below d) i ts goes.within goes.below; above = back_all (Above d) i ts goes.above }

pub in_two : (ts : List Touched) (i : ℕ) → take i ts ++ drop i ts ≡ ts
in_two ts i = take-append-drop i ts

pub in_three : (ts : List Touched) (i : ℕ) (d : Touched) → i < length ts → take i ts ++ get_or ts i d ∷ drop (suc i) ts ≡ ts
in_three ts i d within =
    let next : i + 1 ≡ suc i = omega arith in
    ap (λ j. take i ts ++ get_or ts i d ∷ drop j ts) (sym next) ∙ ap (λ us. take i ts ++ us) (sym (drop_more ts i d within)) ∙ take-append-drop i ts

pub stands_between : (ts : List Touched) (d : List ℕ) (i : ℕ) (e : Touched) → IsRising ts → StandsAt ts d i → Between d (take i ts) (drop (suc i) ts)
stands_between ts d i e rise stands =
    let parted = subst IsRising (sym (in_three ts i e stands.within)) rise in
    record {
      below = subst (λ q. AllByRecursion (Below q) (take i ts)) (stands.same e) (below_middle (take i ts) (get_or ts i e) (drop (suc i) ts) parted);
      above = subst (λ q. AllByRecursion (Above q) (drop (suc i) ts)) (stands.same e) (above_middle (take i ts) (get_or ts i e) (drop (suc i) ts) parted);
    }

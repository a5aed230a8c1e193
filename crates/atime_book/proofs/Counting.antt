-- Lists that have the same members, each once, count alike.
use Rattle.std.proofs.Common.{◌≡◌, ◌⊎◌, ◌↔◌, inl, inr, ℕ, zero, suc, ◌+◌, ◌-◌, Bool, true, false, not, cond, ◌<◌, ◌≤◌, List, [], ◌∷◌, ◌++◌, length, map, get_or, take, drop, Vec, Global, refl, sym, subst, ap, ◌∙◌, Some, arith}
use Rattle.std.specs.Prelude.{◌≢◌, IsSome, filter, nat_le}
use Rattle.std.specs.Ordering.{is_eq}
use Rattle.std.specs.Str.{bytes_eq}
use Rattle.std.specs.List.{AllByRecursion, AllPairs, Contains}
use Rattle.std.specs.List.Sorted.{IsStrictlySortedBy}
use Rattle.std.specs.Cmp.Lexicographic.{texts_ties}
use Rattle.std.proofs.lemmas.Bool.{false≢true}
use Rattle.std.proofs.lemmas.Grind.{flat_map-append}
use Rattle.std.proofs.lemmas.List.{length-append, take-append-drop, take_all}
use Rattle.std.proofs.lemmas.List.Elements.{filter-append}
use Rattle.std.proofs.lemmas.List.Recursion.{is_count_by}
use Rattle.std.proofs.lemmas.List.Sums.{length-filter}
use Rattle.std.proofs.lemmas.List.Filters.{length-filter_both}
use Rattle.std.proofs.lemmas.Slice.Eq.{bytes_eq-Decides}
use Rattle.store_types.specs.declared.names.Digest32.{Digest32}
use Rattle.store_files.specs.Book.{Book}
use Rattle.atime_book.specs.declared.parts.Touched.{Touched}
use Rattle.atime_book.specs.Parts.{joined, touches_of, IsRising}
use Rattle.atime_book.specs.Touches.{last_in, last_of}
use Rattle.atime_book.specs.Counts.{ListsBook, is_since, used_among, pending_among}
use Rattle.atime_book.proofs.Rising.{After}
use Rattle.atime_book.proofs.Ordered.{IsFound, each_found}
use Rattle.atime_book.proofs.Writing.{joined_more}

-- the element is among these
abbrev In : List ℕ → List (List ℕ) → Type 0
In x [] = ⊥
In x (y ∷ ys) = (x ≡ y) ⊎ In x ys

-- each stands once
abbrev AllDiffer : List (List ℕ) → Type 0
AllDiffer [] = Unit {0}
AllDiffer (x ∷ xs) = (In x xs → ⊥) × AllDiffer xs

in_from_contains : (xs : List (List ℕ)) (x : List ℕ) → Contains xs x → In x xs
in_from_contains [] x (k, below, e) = absurd (omega (arith, below))
in_from_contains (y ∷ ys) x (zero, below, e) = inl (sym e)
in_from_contains (y ∷ ys) x (suc k, below, e) = inr (in_from_contains ys x (k, omega (arith, below), e))

contains_from_in : (xs : List (List ℕ)) (x : List ℕ) → In x xs → Contains xs x
contains_from_in [] x h = absurd h
contains_from_in (y ∷ ys) x (inl e) = (0, omega arith, sym e)
contains_from_in (y ∷ ys) x (inr h) = let at = contains_from_in ys x h in (suc at.0, omega (arith, at.1), at.2)

differ : (xs : List (List ℕ)) → AllPairs (λ a b. a ≢ b) xs → AllDiffer xs
differ [] once = tt
differ (x ∷ xs) once = (
  λ h. let at = contains_from_in xs x h in once 0 (suc at.0) x (omega arith) (omega (arith, at.1)) (sym at.2),
  differ xs (λ i j d less below. once (suc i) (suc j) d (omega (arith, less)) (omega (arith, below))),
)

in_append : (xs ys : List (List ℕ)) (x : List ℕ) → In x (xs ++ ys) → In x xs ⊎ In x ys
in_append [] ys x h = inr h
in_append (z ∷ zs) ys x (inl e) = inl (inl e)
in_append (z ∷ zs) ys x (inr h) = elim (in_append zs ys x h) [ inl a ↦ inl (inr a) | inr b ↦ inr b ]

in_left : (xs ys : List (List ℕ)) (x : List ℕ) → In x xs → In x (xs ++ ys)
in_left [] ys x h = absurd h
in_left (z ∷ zs) ys x (inl e) = inl e
in_left (z ∷ zs) ys x (inr h) = inr (in_left zs ys x h)

in_right : (xs ys : List (List ℕ)) (x : List ℕ) → In x ys → In x (xs ++ ys)
in_right [] ys x h = h
in_right (z ∷ zs) ys x h = inr (in_right zs ys x h)

-- where it stands
IsAt : List ℕ → List (List ℕ) → Type 0
IsAt x xs = (front : List (List ℕ)) × (back : List (List ℕ)) × (xs ≡ front ++ x ∷ back)

found : (x : List ℕ) (xs : List (List ℕ)) → In x xs → IsAt x xs
unfolding IsAt
found x [] h = absurd h
found x (y ∷ ys) (inl e) = ([], ys, ap (λ z. z ∷ ys) (sym e))
found x (y ∷ ys) (inr h) = let at = found x ys h in (y ∷ at.0, at.1, ap (λ zs. y ∷ zs) at.2)

-- how many pass, by recursion
tally : {A : Type 0} → (A → Bool) → List A → ℕ
tally p [] = 0
tally p (x ∷ xs) = cond (p x) (1 + tally p xs) (tally p xs)

tally_is : {A : Type 0} (p : A → Bool) (xs : List A) → tally p xs ≡ length (filter p xs)
unfolding tally
tally_is p xs = is_count_by (tally p) p refl (λ _ _. refl) xs ∙ sym (length-filter p xs)

count_out : (p : List ℕ → Bool) (front : List (List ℕ)) (x : List ℕ) (back : List (List ℕ)) → tally p (front ++ x ∷ back) ≡ tally p (x ∷ front ++ back)
unfolding tally
count_out p [] x back = refl
count_out p (y ∷ ys) x back = turned (p y) (p x) (tally p (ys ++ x ∷ back)) (tally p (ys ++ back)) (count_out p ys x back)
  where
    turned : (b c : Bool) (n m : ℕ) → n ≡ cond c (1 + m) m → cond b (1 + n) n ≡ cond c (1 + cond b (1 + m) m) (cond b (1 + m) m)
    turned true true n m e = omega (arith, e)
    turned true false n m e = omega (arith, e)
    turned false true n m e = e
    turned false false n m e = e

-- without the one element the others stand once, and are the others
without_once : (front : List (List ℕ)) (x : List ℕ) (back : List (List ℕ)) → AllDiffer (front ++ x ∷ back) → AllDiffer (front ++ back) × (In x (front ++ back) → ⊥)
without_once [] x back h = (h.1, h.0)
without_once (y ∷ ys) x back h =
    let rest = without_once ys x back h.1 in (
      (λ is. elim (in_append ys back y is) [ inl a ↦ h.0 (in_left ys (x ∷ back) y a) | inr b ↦ h.0 (in_right ys (x ∷ back) y (inr b)) ], rest.0),
      λ is. elim is [ inl e ↦ h.0 (in_right ys (x ∷ back) y (inl (sym e))) | inr i ↦ rest.1 i ],
    )

in_without : (front : List (List ℕ)) (x : List ℕ) (back : List (List ℕ)) (z : List ℕ) → In z (front ++ x ∷ back) → (z ≡ x) ⊎ In z (front ++ back)
in_without front x back z h = by_part (in_append front (x ∷ back) z h)
  where
    by_part : In z front ⊎ ((z ≡ x) ⊎ In z back) → (z ≡ x) ⊎ In z (front ++ back)
    by_part (inl a) = inr (in_left front back z a)
    by_part (inr (inl e)) = inl e
    by_part (inr (inr b)) = inr (in_right front back z b)

in_with : (front : List (List ℕ)) (x : List ℕ) (back : List (List ℕ)) (z : List ℕ) → In z (front ++ back) → In z (front ++ x ∷ back)
in_with front x back z h = elim (in_append front back z h) [ inl a ↦ in_left front (x ∷ back) z a | inr b ↦ in_right front (x ∷ back) z (inr b) ]

tally_same : (p : List ℕ → Bool) (xs ys : List (List ℕ)) → AllDiffer xs → AllDiffer ys → ((x : List ℕ) → In x xs ↔ In x ys) → tally p xs ≡ tally p ys
unfolding IsAt tally
tally_same p [] [] dx dy same = refl
tally_same p [] (y ∷ ys) dx dy same = absurd ((same y).1 (inl refl))
tally_same p (x ∷ xs) ys dx dy same =
    let at = found x ys ((same x).0 (inl refl)) in
    let diff = without_once at.0 x at.1 (subst AllDiffer at.2 dy) in
    ap (λ n. cond (p x) (1 + n) n) (tally_same p xs (at.0 ++ at.1) dx.1 diff.0 (λ z. (there at.0 at.1 at.2 z, back at.0 at.1 at.2 diff.1 z)))
    ∙ sym (count_out p at.0 x at.1) ∙ ap (tally p) (sym at.2)
  where
    there : (front rest : List (List ℕ)) → ys ≡ front ++ x ∷ rest → (z : List ℕ) → In z xs → In z (front ++ rest)
    there front rest is z h = elim (in_without front x rest z (subst (In z) is ((same z).0 (inr h)))) [ inl e ↦ absurd (dx.0 (subst (λ y. In y xs) e h)) | inr i ↦ i ]

    back : (front rest : List (List ℕ)) → ys ≡ front ++ x ∷ rest → (In x (front ++ rest) → ⊥) → (z : List ℕ) → In z (front ++ rest) → In z xs
    back front rest is out z h = elim ((same z).1 (subst (In z) (sym is) (in_with front x rest z h))) [ inl e ↦ absurd (out (subst (λ y. In y (front ++ rest)) e h)) | inr i ↦ i ]

-- ---- rising chunks

abbrev own : List Touched → List (List ℕ)
own ts = map (λ t. t.digest.0) ts

apart : (d : Digest32) (ts : List Touched) → After d ts → In d.0 (own ts) → ⊥
apart d [] below h = h
apart d (t ∷ ts) below (inl same) =
    let itself = (bytes_eq-Decides d.0 t.digest.0).1 same in
    false≢true (sym (texts_ties d.0 t.digest.0 ∙ ap is_eq below.0) ∙ itself)
apart d (t ∷ ts) below (inr h) = apart d ts below.1 h

own_differ : (ts : List Touched) → IsRising ts → AllDiffer (own ts)
unfolding IsStrictlySortedBy
own_differ [] sorted = tt
own_differ (t ∷ ts) sorted = (apart t.digest ts sorted.0, own_differ ts sorted.1)

some_at : (ts : List Touched) (d : List ℕ) → In d (own ts) → IsSome (last_in (touches_of ts) d)
some_at [] d h = absurd h
some_at (t ∷ ts) d h = by_test (bytes_eq d t.digest.0) refl h (some_at ts d)
  where
    by_test : (b : Bool) → bytes_eq d t.digest.0 ≡ b → (d ≡ t.digest.0) ⊎ In d (own ts) → (In d (own ts) → IsSome (last_in (touches_of ts) d)) →
        IsSome (cond b (Some t.moment) (last_in (touches_of ts) d))
    by_test true is h rest = refl
    by_test false is (inl same) rest = absurd (false≢true (sym is ∙ (bytes_eq-Decides d t.digest.0).1 same))
    by_test false is (inr h) rest = rest h

in_some : (ts : List Touched) (d : List ℕ) → IsSome (last_in (touches_of ts) d) → In d (own ts)
in_some [] d some = absurd (false≢true some)
in_some (t ∷ ts) d some = by_test (bytes_eq d t.digest.0) refl some (in_some ts d)
  where
    by_test : (b : Bool) → bytes_eq d t.digest.0 ≡ b → IsSome (cond b (Some t.moment) (last_in (touches_of ts) d)) → (IsSome (last_in (touches_of ts) d) → In d (own ts)) →
        In d (own (t ∷ ts))
    by_test true is some rest = inl ((bytes_eq-Decides d t.digest.0).0 is)
    by_test false is some rest = inr (rest some)

abbrev pub since : ℕ → List Touched → List Touched
since start ts = filter (λ t. nat_le start t.moment) ts

abbrev book_with : ℕ → List Touched → Book
book_with moment ts = record { moment = moment; touches = touches_of ts }

abbrev tests : ℕ → ℕ → List Touched → List ℕ → Bool
tests start moment all d = is_since start (last_of (book_with moment all) d)

tally_own : (start moment : ℕ) (all ts : List Touched) → AllByRecursion (IsFound all) ts →
    tally (tests start moment all) (own ts) ≡ tally (λ (t : Touched). nat_le start t.moment) ts
unfolding tally
tally_own start moment all [] are = refl
tally_own start moment all (t ∷ ts) are =
    let this = ap (is_since start) are.0 in
    ap (λ b. cond b (1 + tally (tests start moment all) (own ts)) (tally (tests start moment all) (own ts))) this
    ∙ ap (λ n. cond (nat_le start t.moment) (1 + n) n) (tally_own start moment all ts are.1)

tally_all : (xs : List (List ℕ)) → tally (λ x. true) xs ≡ length xs
unfolding tally
tally_all [] = refl
tally_all (x ∷ xs) = let rest = tally_all xs in omega (arith, rest)

length_own : (ts : List Touched) → length (own ts) ≡ length ts
length_own [] = refl
length_own (t ∷ ts) = ap suc (length_own ts)

module _ (moment : ℕ) (ts : List Touched) (sorted : IsRising ts) (ds : List (List ℕ)) (lists : ListsBook (book_with moment ts) ds) where
  members : (d : List ℕ) → In d ds ↔ In d (own ts)
  members d = (
    λ h. in_some ts d ((lists.each d).1 (contains_from_in ds d h)),
    λ h. in_from_contains ds d ((lists.each d).0 (some_at ts d h)),
  )

  same_tally : (p : List ℕ → Bool) → tally p ds ≡ tally p (own ts)
  same_tally p = tally_same p ds (own ts) (differ ds lists.once) (own_differ ts sorted) members

  pub uses : (start : ℕ) → length (since start ts) ≡ used_among (book_with moment ts) start ds
  uses start =
      sym (tally_is (λ (t : Touched). nat_le start t.moment) ts) ∙ sym (tally_own start moment ts ts (each_found ts sorted))
      ∙ sym (same_tally (tests start moment ts)) ∙ tally_is (tests start moment ts) ds

  pub pends : (start : ℕ) → length ts - length (since start ts) ≡ pending_among (book_with moment ts) start ds
  pends start =
      let all = sym (tally_all ds) ∙ same_tally (λ x. true) ∙ tally_all (own ts) ∙ length_own ts in
      let split = length-filter_both (tests start moment ts) (λ d. not (tests start moment ts d)) (λ d. refl) ds in
      omega (arith, all, split, uses start)

-- ---- part by part

pub since_more : (start : ℕ) (parts : List (Vec Touched Global)) (i : ℕ) (d : Vec Touched Global) (used more : ℕ) → i < length parts →
    used ≡ length (since start (joined (take i parts))) → more ≡ length (since start (get_or parts i d).items) →
    used + more ≡ length (since start (joined (take (i + 1) parts)))
since_more start parts i d used more within is here =
    let all = ap (since start) (joined_more parts i d within) ∙ filter-append (λ (t : Touched). nat_le start t.moment) (joined (take i parts)) (get_or parts i d).items in
    omega (arith, is, here, ap length all, length-append (since start (joined (take i parts))) (since start (get_or parts i d).items))

at_most : (start : ℕ) (ts : List Touched) → length (since start ts) ≤ length ts
at_most start ts =
    let split = length-filter_both (λ (t : Touched). nat_le start t.moment) (λ t. not (nat_le start t.moment)) (λ t. refl) ts in
    omega (arith, split)

pub since_within : (start : ℕ) (parts : List (Vec Touched Global)) (i : ℕ) → length (since start (joined (take i parts))) ≤ length (joined parts)
since_within start parts i =
    let all = ap joined (sym (take-append-drop i parts)) ∙ flat_map-append (λ (p : Vec Touched Global). p.items) (take i parts) (drop i parts) in
    omega (arith, at_most start (joined (take i parts)), ap length all, length-append (joined (take i parts)) (joined (drop i parts)))

pub since_all : (start : ℕ) (parts : List (Vec Touched Global)) (i used : ℕ) → length parts ≤ i → used ≡ length (since start (joined (take i parts))) →
    used ≡ length (since start (joined parts))
since_all start parts i used past is = is ∙ ap (λ ps. length (since start (joined ps))) (take_all i parts past)

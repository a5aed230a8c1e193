-- Rows whose keys never fall: what their last one tells, and what leaves them so.
use Rattle.std.proofs.Common.{◌≡◌, ◌∙◌, ℕ, zero, suc, ◌-◌, Bool, true, false, not, cond, ◌||◌, length, take, drop, filter, List, [], ◌∷◌, ◌++◌, Some, refl, sym, ap, subst, arith}
use Rattle.std.specs.Prelude.{slice_get}
use Rattle.std.specs.Cmp.{IsStrictWeakOrder}
use Rattle.std.specs.Ordering.{is_eq, is_lt}
use Rattle.std.specs.declared.cmp.Ordering.{Ordering}
use Rattle.std.specs.declared.cmp.Ordering.TheVariants.{Less, Equal, Greater}
use Rattle.std.proofs.lemmas.Cmp.{tied_back}
use Rattle.std.proofs.lemmas.List.MinMax.{ranks_by}
use Rattle.store_types.specs.KeyOrder.{key_cmp_total}
use Rattle.store_types.specs.Names.{key_cmp, key_lt, same_key}
use Rattle.store_types.specs.declared.names.SnapshotKey.{SnapshotKey}
use Rattle.listing_views.specs.declared.listed.Listed.{Listed}
use Rattle.listing_views.specs.Rising.{NoneBefore, Rises}
use Rattle.listing_views.specs.Rows.{any_behind, insert_row, rows_without}

keys : IsStrictWeakOrder key_lt
keys = ranks_by key_cmp_total (λ (k : SnapshotKey). k)

none_itself : (k : SnapshotKey) → key_lt k k ≡ false
none_itself k = by_test (key_lt k k) refl
  where
    by_test : (b : Bool) → key_lt k k ≡ b → b ≡ false
    by_test true lt = let back : key_lt k k ≡ false = keys.one_way k k lt in sym lt ∙ back
    by_test false lt = refl

-- if it were not, the third would not be before the first
comes_before : (b : Bool) → (b ≡ false → true ≡ false) → b ≡ true
comes_before true up = refl
comes_before false up = sym (up refl)

pub fails : (b : Bool) → not b ≡ true → b ≡ false
fails true e = cc
fails false e = refl

pub holds : (b : Bool) → not b ≡ false → b ≡ true
holds true e = refl
holds false e = cc

-- ---- one key, or another

lt_apart : (o : Ordering) → is_lt o ≡ true → is_eq o ≡ false
lt_apart Less e = refl
lt_apart Equal e = cc
lt_apart Greater e = refl

pub before_apart : (a b : SnapshotKey) → key_lt a b ≡ true → same_key a b ≡ false
before_apart a b lt = lt_apart (key_cmp a b) lt

eq_is : (o : Ordering) → is_eq o ≡ true → o ≡ Equal
eq_is Less e = cc
eq_is Equal e = refl
eq_is Greater e = cc

pub behind_apart : (a b : SnapshotKey) → key_lt a b ≡ true → same_key b a ≡ false
behind_apart a b lt = by_test (same_key b a) refl
  where
    by_test : (t : Bool) → same_key b a ≡ t → t ≡ false
    by_test true same =
        let back : key_cmp a b ≡ Equal = tied_back key_cmp_total b a (eq_is (key_cmp b a) same) in
        sym lt ∙ ap is_lt back
    by_test false other = refl

-- ---- the last row

abbrev last_row : Listed → List Listed → Listed
last_row x [] = x
last_row x (y ∷ ys) = last_row y ys

last_got : (x : Listed) (xs : List Listed) → slice_get (x ∷ xs) (length xs) ≡ Some (last_row x xs)
last_got x [] = refl
last_got x (y ∷ ys) = last_got y ys

last_is : (x l : Listed) (xs : List Listed) → slice_get (x ∷ xs) (length (x ∷ xs) - 1) ≡ Some l → last_row x xs ≡ l
last_is x l xs e =
    let place : length xs ≡ length (x ∷ xs) - 1 = omega arith in
    let same : Some (last_row x xs) ≡ Some l = sym (last_got x xs) ∙ ap (slice_get (x ∷ xs)) place ∙ e in cc

last_none_before : (x z : Listed) (zs : List Listed) → NoneBefore x (z ∷ zs) → key_lt (last_row z zs).key x.key ≡ false
last_none_before x z [] n = n.0
last_none_before x z (w ∷ ws) n = last_none_before x w ws n.1

-- ---- one more row

none_push : (x : Listed) (xs : List Listed) (y : Listed) → NoneBefore x xs → key_lt y.key x.key ≡ false → NoneBefore x (xs ++ y ∷ [])
none_push x [] y n e = (e, tt)
none_push x (z ∷ zs) y n e = (n.0, none_push x zs y n.1 e)

push_behind : (x : Listed) (xs : List Listed) (y : Listed) → key_lt y.key (last_row x xs).key ≡ false → Rises (x ∷ xs) → Rises ((x ∷ xs) ++ y ∷ [])
push_behind x [] y e r = ((e, tt), (tt, tt))
push_behind x (z ∷ zs) y e r =
    (none_push x (z ∷ zs) y r.0 (keys.chain y.key (last_row z zs).key x.key e (last_none_before x z zs r.0)), push_behind z zs y e r.1)

pub rises_push : (xs : List Listed) (l y : Listed) → slice_get xs (length xs - 1) ≡ Some l → key_lt y.key l.key ≡ false → Rises xs → Rises (xs ++ y ∷ [])
rises_push [] l y at e r = (tt, tt)
rises_push (x ∷ xs) l y at e r = push_behind x xs y (ap (λ (z : Listed). key_lt y.key z.key) (last_is x l xs at) ∙ e) r

none_behind : (new x : Listed) (xs : List Listed) → key_lt new.key x.key ≡ true → NoneBefore x xs → NoneBefore new xs
none_behind new x [] lt n = tt
none_behind new x (y ∷ ys) lt n = (keys.chain y.key x.key new.key n.0 (keys.one_way new.key x.key lt), none_behind new x ys lt n.1)

none_insert : (x new : Listed) (xs : List Listed) → key_lt new.key x.key ≡ false → NoneBefore x xs → NoneBefore x (insert_row new xs)
none_insert x new [] e n = (e, tt)
none_insert x new (y ∷ ys) e n = by_test (key_lt new.key y.key) (none_insert x new ys e n.1)
  where
    by_test : (b : Bool) → NoneBefore x (insert_row new ys) → NoneBefore x (cond b (new ∷ y ∷ ys) (y ∷ insert_row new ys))
    by_test true later = (e, n)
    by_test false later = (n.0, later)

pub rises_insert : (new : Listed) (xs : List Listed) → Rises xs → Rises (insert_row new xs)
rises_insert new [] r = (tt, tt)
rises_insert new (x ∷ xs) r = by_test (key_lt new.key x.key) refl (rises_insert new xs r.1)
  where
    by_test : (b : Bool) → key_lt new.key x.key ≡ b → Rises (insert_row new xs) → Rises (cond b (new ∷ x ∷ xs) (x ∷ insert_row new xs))
    by_test true lt later = ((keys.one_way new.key x.key lt, none_behind new x xs lt r.0), r)
    by_test false lt later = (none_insert x new xs lt r.0, later)

-- ---- fewer rows

none_filter : (x : Listed) (p : Listed → Bool) (xs : List Listed) → NoneBefore x xs → NoneBefore x (filter p xs)
none_filter x p [] n = tt
none_filter x p (y ∷ ys) n = by_test (p y) (none_filter x p ys n.1)
  where
    by_test : (b : Bool) → NoneBefore x (filter p ys) → NoneBefore x (cond b (y ∷ filter p ys) (filter p ys))
    by_test true later = (n.0, later)
    by_test false later = later

pub rises_filter : (p : Listed → Bool) (xs : List Listed) → Rises xs → Rises (filter p xs)
rises_filter p [] r = tt
rises_filter p (x ∷ xs) r = by_test (p x) (rises_filter p xs r.1)
  where
    by_test : (b : Bool) → Rises (filter p xs) → Rises (cond b (x ∷ filter p xs) (filter p xs))
    by_test true later = (none_filter x p xs r.0, later)
    by_test false later = later

none_take : (x : Listed) (n : ℕ) (xs : List Listed) → NoneBefore x xs → NoneBefore x (take n xs)
none_take x zero xs n = tt
none_take x (suc k) [] n = tt
none_take x (suc k) (y ∷ ys) n = (n.0, none_take x k ys n.1)

pub rises_take : (n : ℕ) (xs : List Listed) → Rises xs → Rises (take n xs)
rises_take zero xs r = tt
rises_take (suc k) [] r = tt
rises_take (suc k) (x ∷ xs) r = (none_take x k xs r.0, rises_take k xs r.1)

pub rises_drop : (n : ℕ) (xs : List Listed) → Rises xs → Rises (drop n xs)
rises_drop zero xs r = r
rises_drop (suc k) [] r = tt
rises_drop (suc k) (x ∷ xs) r = rises_drop k xs r.1

-- what is left of the first rows
pub rises_rest : (key : SnapshotKey) (rows rest : List Listed) (i : ℕ) → rest ≡ rows_without key (take i rows) → Rises rows → Rises rest
rises_rest key rows rest i is r = subst Rises (sym is) (rises_filter (λ x. not (same_key x.key key)) (take i rows) (rises_take i rows r))

-- ---- behind a key

or_is : (a b : Bool) → (b ≡ false → a ≡ false) → b ≡ a || b
or_is true true e = refl
or_is true false e = sym (e refl)
or_is false b e = refl

or_none : (a : Bool) → a ≡ a || false
or_none true = refl
or_none false = refl

any_last : (key : SnapshotKey) (x : Listed) (xs : List Listed) → Rises (x ∷ xs) → key_lt key (last_row x xs).key ≡ any_behind key (x ∷ xs)
any_last key x [] r = or_none (key_lt key x.key)
any_last key x (z ∷ zs) r =
    or_is (key_lt key x.key) (key_lt key (last_row z zs).key) (λ e. keys.chain key (last_row z zs).key x.key e (last_none_before x z zs r.0))
    ∙ ap (λ t. key_lt key x.key || t) (any_last key z zs r.1)

pub last_tells : (key : SnapshotKey) (xs : List Listed) (l : Listed) → slice_get xs (length xs - 1) ≡ Some l → Rises xs → key_lt key l.key ≡ any_behind key xs
last_tells key [] l at r = cc
last_tells key (x ∷ xs) l at r = ap (λ (z : Listed). key_lt key z.key) (sym (last_is x l xs at)) ∙ any_last key x xs r

-- ---- a key that none has

keeps : (key : SnapshotKey) (y : Listed) (ys : List Listed) → same_key y.key key ≡ false → rows_without key ys ≡ ys → rows_without key (y ∷ ys) ≡ y ∷ ys
keeps key y ys other rest =
    ap (λ b. cond (not b) (y ∷ rows_without key ys) (rows_without key ys)) other ∙ ap (λ (l : List Listed). y ∷ l) rest

all_behind : (key : SnapshotKey) (x : Listed) (xs : List Listed) → key_lt key x.key ≡ true → NoneBefore x xs → rows_without key xs ≡ xs
all_behind key x [] lt n = refl
all_behind key x (y ∷ ys) lt n =
    keeps key y ys (behind_apart key y.key (comes_before (key_lt key y.key) (λ e. sym lt ∙ keys.chain key y.key x.key e n.0))) (all_behind key x ys lt n.1)

pub before_all : (key : SnapshotKey) (xs : List Listed) (f : Listed) → slice_get xs 0 ≡ Some f → key_lt key f.key ≡ true → Rises xs → rows_without key xs ≡ xs
before_all key [] f at lt r = refl
before_all key (x ∷ xs) f at lt r =
    let is : x ≡ f = cc in
    let here : key_lt key x.key ≡ true = ap (λ (z : Listed). key_lt key z.key) is ∙ lt in
    keeps key x xs (behind_apart key x.key here) (all_behind key x xs here r.0)

last_before : (key : SnapshotKey) (x : Listed) (xs : List Listed) → key_lt (last_row x xs).key key ≡ true → Rises (x ∷ xs) → rows_without key (x ∷ xs) ≡ x ∷ xs
last_before key x [] lt r = keeps key x [] (before_apart x.key key lt) refl
last_before key x (z ∷ zs) lt r =
    keeps key x (z ∷ zs)
    (before_apart x.key key (comes_before (key_lt x.key key) (λ e. sym lt ∙ keys.chain (last_row z zs).key x.key key (last_none_before x z zs r.0) e)))
    (last_before key z zs lt r.1)

pub behind_all : (key : SnapshotKey) (xs : List Listed) (l : Listed) → slice_get xs (length xs - 1) ≡ Some l → key_lt l.key key ≡ true → Rises xs → rows_without key xs ≡ xs
behind_all key [] l at lt r = refl
behind_all key (x ∷ xs) l at lt r = last_before key x xs (ap (λ (z : Listed). key_lt z.key key) (last_is x l xs at) ∙ lt) r

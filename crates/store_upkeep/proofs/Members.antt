-- Members of lists.
use Rattle.std.proofs.Common.{◌≡◌, ◌⊎◌, inl, inr, ℕ, zero, suc, Bool, true, false, cond, ◌||◌, List, [], ◌∷◌, ◌++◌, map, take, drop, get_or, set, Some, None, refl, sym, subst, ap, ◌∙◌, true≢false}
use Rattle.std.specs.List.{filter, find, flat_map, last_or}
use Rattle.std.specs.Str.{bytes_eq}
use Rattle.std.proofs.lemmas.Slice.Eq.{bytes_eq-Decides}
use Rattle.store_types.specs.Names.{key_lt, name_lt}
use Rattle.store_files.specs.Archive.{File, Snapshot}
use Rattle.store_model.specs.Store.{Session, none, insert_file, insert_snapshot}
use Rattle.store_model.specs.Archives.{change_first, without_first}
use Rattle.store_history.specs.LastTouches.{is_one_of}
use Rattle.store_upkeep.specs.Safety.{In}

pub some_same : {A : Type 0} (x y : A) → Some x ≡ Some y → x ≡ y
some_same x y e = cc

pub none_some : {A : Type 0} (x : A) → None ≡ Some x → ⊥
none_some x e = cc

-- ---- lists put together

pub in_append : {A : Type 0} (xs ys : List A) (x : A) → In x (xs ++ ys) → In x xs ⊎ In x ys
in_append [] ys x h = inr h
in_append (z ∷ zs) ys x (inl e) = inl (inl e)
in_append (z ∷ zs) ys x (inr h) = elim (in_append zs ys x h) [ inl a ↦ inl (inr a) | inr b ↦ inr b ]

pub in_left : {A : Type 0} (xs ys : List A) (x : A) → In x xs → In x (xs ++ ys)
in_left [] ys x h = absurd h
in_left (z ∷ zs) ys x (inl e) = inl e
in_left (z ∷ zs) ys x (inr h) = inr (in_left zs ys x h)

pub in_right : {A : Type 0} (xs ys : List A) (x : A) → In x ys → In x (xs ++ ys)
in_right [] ys x h = h
in_right (z ∷ zs) ys x h = inr (in_right zs ys x h)

pub in_map : {A B : Type 0} (f : A → B) (xs : List A) (x : A) → In x xs → In (f x) (map f xs)
in_map f [] x h = absurd h
in_map f (y ∷ ys) x (inl e) = inl (ap f e)
in_map f (y ∷ ys) x (inr h) = inr (in_map f ys x h)

pub map_in : {A B : Type 0} (f : A → B) (xs : List A) (y : B) → In y (map f xs) → (x : A) × In x xs × (y ≡ f x)
map_in f [] y h = absurd h
map_in f (x ∷ xs) y (inl e) = (x, inl refl, e)
map_in f (x ∷ xs) y (inr h) = let at = map_in f xs y h in (at.0, inr at.1, at.2)

pub map_append_in : {A B : Type 0} (f : A → B) (xs ys : List A) (y : B) → In y (map f (xs ++ ys)) → In y (map f xs) ⊎ In y (map f ys)
map_append_in f [] ys y h = inr h
map_append_in f (z ∷ zs) ys y (inl e) = inl (inl e)
map_append_in f (z ∷ zs) ys y (inr h) = elim (map_append_in f zs ys y h) [ inl a ↦ inl (inr a) | inr b ↦ inr b ]

pub in_map_left : {A B : Type 0} (f : A → B) (xs ys : List A) (y : B) → In y (map f xs) → In y (map f (xs ++ ys))
in_map_left f [] ys y h = absurd h
in_map_left f (z ∷ zs) ys y (inl e) = inl e
in_map_left f (z ∷ zs) ys y (inr h) = inr (in_map_left f zs ys y h)

pub in_map_right : {A B : Type 0} (f : A → B) (xs ys : List A) (y : B) → In y (map f ys) → In y (map f (xs ++ ys))
in_map_right f [] ys y h = h
in_map_right f (z ∷ zs) ys y h = inr (in_map_right f zs ys y h)

pub in_flat_map : {A B : Type 0} (f : A → List B) (xs : List A) (x : A) (y : B) → In x xs → In y (f x) → In y (flat_map f xs)
in_flat_map f [] x y h g = absurd h
in_flat_map f (z ∷ zs) x y (inl e) g = in_left (f z) (flat_map f zs) y (subst (λ v. In y (f v)) e g)
in_flat_map f (z ∷ zs) x y (inr h) g = in_right (f z) (flat_map f zs) y (in_flat_map f zs x y h g)

pub flat_map_in : {A B : Type 0} (f : A → List B) (xs : List A) (y : B) → In y (flat_map f xs) → (x : A) × In x xs × In y (f x)
flat_map_in f [] y h = absurd h
flat_map_in {A} f (x ∷ xs) y h = by_part (in_append (f x) (flat_map f xs) y h) (flat_map_in f xs y)
  where
    by_part : In y (f x) ⊎ In y (flat_map f xs) → (In y (flat_map f xs) → (z : A) × In z xs × In y (f z)) → (z : A) × In z (x ∷ xs) × In y (f z)
    by_part (inl a) go = (x, inl refl, a)
    by_part (inr b) go = let at = go b in (at.0, inr at.1, at.2)

-- ---- parts

-- what is in a list is among its first n or past them
pub split_at : {A : Type 0} (n : ℕ) (xs : List A) (x : A) → In x xs → In x (take n xs) ⊎ In x (drop n xs)
split_at zero xs x h = inr h
split_at (suc n) [] x h = absurd h
split_at (suc n) (y ∷ ys) x (inl e) = inl (inl e)
split_at (suc n) (y ∷ ys) x (inr h) = elim (split_at n ys x h) [ inl a ↦ inl (inr a) | inr b ↦ inr b ]

pub in_take : {A : Type 0} (n : ℕ) (xs : List A) (x : A) → In x (take n xs) → In x xs
in_take zero xs x h = absurd h
in_take (suc n) [] x h = h
in_take (suc n) (y ∷ ys) x (inl e) = inl e
in_take (suc n) (y ∷ ys) x (inr h) = inr (in_take n ys x h)

pub in_drop : {A : Type 0} (n : ℕ) (xs : List A) (x : A) → In x (drop n xs) → In x xs
in_drop zero xs x h = h
in_drop (suc n) [] x h = h
in_drop (suc n) (y ∷ ys) x h = inr (in_drop n ys x h)

pub in_filter : {A : Type 0} (p : A → Bool) (xs : List A) (x : A) → In x xs → p x ≡ true → In x (filter p xs)
in_filter p [] x h passes = absurd h
in_filter p (y ∷ ys) x h passes = by_test (p y) refl h (in_filter p ys x)
  where
    by_test : (b : Bool) → p y ≡ b → (x ≡ y) ⊎ In x ys → (In x ys → p x ≡ true → In x (filter p ys)) → In x (cond b (y ∷ filter p ys) (filter p ys))
    by_test true is (inl e) go = inl e
    by_test true is (inr later) go = inr (go later passes)
    by_test false is (inl e) go = absurd (true≢false (sym passes ∙ ap p e ∙ is))
    by_test false is (inr later) go = go later passes

pub filter_in : {A : Type 0} (p : A → Bool) (xs : List A) (x : A) → In x (filter p xs) → In x xs × (p x ≡ true)
filter_in p [] x h = absurd h
filter_in p (y ∷ ys) x h = by_test (p y) refl h (filter_in p ys x)
  where
    behind : In x ys × (p x ≡ true) → In x (y ∷ ys) × (p x ≡ true)
    behind at = (inr at.0, at.1)

    by_test : (b : Bool) → p y ≡ b → In x (cond b (y ∷ filter p ys) (filter p ys)) → (In x (filter p ys) → In x ys × (p x ≡ true)) → In x (y ∷ ys) × (p x ≡ true)
    by_test true is (inl e) go = (inl e, ap p e ∙ is)
    by_test true is (inr later) go = behind (go later)
    by_test false is h go = behind (go h)

pub find_in : {A : Type 0} (p : A → Bool) (xs : List A) (x : A) → find p xs ≡ Some x → In x xs
find_in p [] x e = none_some x e
find_in p (y ∷ ys) x e = by_test (p y) e (find_in p ys x)
  where
    by_test : (b : Bool) → cond b (Some y) (find p ys) ≡ Some x → (find p ys ≡ Some x → In x ys) → In x (y ∷ ys)
    by_test true e go = inl (sym (some_same y x e))
    by_test false e go = inr (go e)

last_among : {A : Type 0} (first : A) (xs : List A) (x : A) → last_or (Some first) xs ≡ Some x → In x (first ∷ xs)
last_among first [] x e = inl (sym (some_same first x e))
last_among first (y ∷ ys) x e = inr (last_among y ys x e)

pub last_in : {A : Type 0} (xs : List A) (x : A) → last_or None xs ≡ Some x → In x xs
last_in [] x e = none_some x e
last_in (y ∷ ys) x e = last_among y ys x e

-- ---- the test of digests

or_true : (b : Bool) → (b || true) ≡ true
or_true true = refl
or_true false = refl

pub in_is_one : (d : List ℕ) (ds : List (List ℕ)) → In d ds → is_one_of d ds ≡ true
in_is_one d [] h = absurd h
in_is_one d (x ∷ xs) (inl e) = ap (λ b. b || is_one_of d xs) ((bytes_eq-Decides x d).1 (sym e))
in_is_one d (x ∷ xs) (inr h) = ap (λ b. bytes_eq x d || b) (in_is_one d xs h) ∙ or_true (bytes_eq x d)

pub is_one_in : (d : List ℕ) (ds : List (List ℕ)) → is_one_of d ds ≡ true → In d ds
is_one_in d [] h = true≢false (sym h)
is_one_in d (x ∷ xs) h = by_test (bytes_eq x d) refl h (is_one_in d xs)
  where
    by_test : (b : Bool) → bytes_eq x d ≡ b → (b || is_one_of d xs) ≡ true → (is_one_of d xs ≡ true → In d xs) → In d (x ∷ xs)
    by_test true is h go = inl (sym ((bytes_eq-Decides x d).0 is))
    by_test false is h go = inr (go h)

-- ---- what is put into a list

pub insert_file_in : (new : File) (fs : List File) (f : File) → In f (insert_file new fs) → (f ≡ new) ⊎ In f fs
insert_file_in new [] f h = h
insert_file_in new (g ∷ gs) f h = by_test (name_lt new.name g.name) h (insert_file_in new gs f)
  where
    behind : (f ≡ new) ⊎ In f gs → (f ≡ new) ⊎ In f (g ∷ gs)
    behind (inl e) = inl e
    behind (inr later) = inr (inr later)

    by_test : (b : Bool) → In f (cond b (new ∷ g ∷ gs) (g ∷ insert_file new gs)) → (In f (insert_file new gs) → (f ≡ new) ⊎ In f gs) → (f ≡ new) ⊎ In f (g ∷ gs)
    by_test true h go = h
    by_test false (inl e) go = inr (inl e)
    by_test false (inr later) go = behind (go later)

pub insert_snapshot_in : (new : Snapshot) (xs : List Snapshot) (x : Snapshot) → In x (insert_snapshot new xs) → (x ≡ new) ⊎ In x xs
insert_snapshot_in new [] x h = h
insert_snapshot_in new (y ∷ ys) x h = by_test (key_lt new.key y.key) h (insert_snapshot_in new ys x)
  where
    behind : (x ≡ new) ⊎ In x ys → (x ≡ new) ⊎ In x (y ∷ ys)
    behind (inl e) = inl e
    behind (inr later) = inr (inr later)

    by_test : (b : Bool) → In x (cond b (new ∷ y ∷ ys) (y ∷ insert_snapshot new ys)) → (In x (insert_snapshot new ys) → (x ≡ new) ⊎ In x ys) → (x ≡ new) ⊎ In x (y ∷ ys)
    by_test true h go = h
    by_test false (inl e) go = inr (inl e)
    by_test false (inr later) go = behind (go later)

pub in_insert_snapshot : (new : Snapshot) (xs : List Snapshot) (x : Snapshot) → In x xs → In x (insert_snapshot new xs)
in_insert_snapshot new [] x h = absurd h
in_insert_snapshot new (y ∷ ys) x h = by_test (key_lt new.key y.key) h (in_insert_snapshot new ys x)
  where
    by_test : (b : Bool) → (x ≡ y) ⊎ In x ys → (In x ys → In x (insert_snapshot new ys)) → In x (cond b (new ∷ y ∷ ys) (y ∷ insert_snapshot new ys))
    by_test true h go = inr h
    by_test false (inl e) go = inl e
    by_test false (inr later) go = inr (go later)

-- ---- the first that passes

pub change_first_in : {A : Type 0} (test : A → Bool) (change : A → A) (xs : List A) (x : A) → In x (change_first test change xs)
    → In x xs ⊎ ((y : A) × In y xs × (x ≡ change y))
change_first_in test change [] x h = absurd h
change_first_in {A} test change (y ∷ ys) x h = by_test (test y) h (change_first_in test change ys x)
  where
    behind : In x ys ⊎ ((z : A) × In z ys × (x ≡ change z)) → In x (y ∷ ys) ⊎ ((z : A) × In z (y ∷ ys) × (x ≡ change z))
    behind (inl later) = inl (inr later)
    behind (inr at) = inr (at.0, inr at.1, at.2)

    by_test : (b : Bool) → In x (cond b (change y ∷ ys) (y ∷ change_first test change ys)) → (In x (change_first test change ys) → In x ys ⊎ ((z : A) × In z ys × (x ≡ change z)))
        → In x (y ∷ ys) ⊎ ((z : A) × In z (y ∷ ys) × (x ≡ change z))
    by_test true (inl e) go = inr (y, inl refl, e)
    by_test true (inr later) go = inl (inr later)
    by_test false (inl e) go = inl (inl e)
    by_test false (inr later) go = behind (go later)

pub without_first_in : {A : Type 0} (test : A → Bool) (xs : List A) (x : A) → In x (without_first test xs) → In x xs
without_first_in test [] x h = absurd h
without_first_in test (y ∷ ys) x h = by_test (test y) h (without_first_in test ys x)
  where
    by_test : (b : Bool) → In x (cond b ys (y ∷ without_first test ys)) → (In x (without_first test ys) → In x ys) → In x (y ∷ ys)
    by_test true h go = inr h
    by_test false (inl e) go = inl e
    by_test false (inr later) go = inr (go later)

-- ---- sessions

-- what holds of the new session and of the others holds of each
pub each_session : (xs : List Session) (k : ℕ) (new : Session) (P : ℕ → Session → Type 0) → P k new → ((j : ℕ) → P j (get_or xs j none)) → (j : ℕ) → P j (get_or (set xs k new) j none)
each_session [] k new P here each j = each j
each_session (x ∷ xs) zero new P here each zero = here
each_session (x ∷ xs) zero new P here each (suc j) = each (suc j)
each_session (x ∷ xs) (suc k) new P here each zero = each zero
each_session (x ∷ xs) (suc k) new P here each (suc j) = each_session xs k new (λ i. P (suc i)) here (λ i. each (suc i)) j

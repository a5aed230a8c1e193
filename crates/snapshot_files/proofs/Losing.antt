-- What files leave that are removed one after another.
use Rattle.std.proofs.Common.{◌≡◌, ◌⊎◌, ◌<◌, ◌+◌, inl, inr, ℕ, zero, suc, List, [], ◌∷◌, length, drop, get_or, Option, None, Some, refl, sym, ap, subst, ◌∙◌, arith, drop-cons, add-one}
use Rattle.std.specs.List.{Contains, cons_option, filter_map}
use Rattle.std.specs.FinMap.{get, remove}
use Rattle.disk_trait.specs.Files.{Files}
use Rattle.disk_trait.specs.Disk.{MayGo}
use Rattle.disk_trait.specs.Laws.{placed_same, placed_other, by_name}
use Rattle.snapshot_files.specs.Forgotten.{without, MayLose, Forgets, ForgetsFirm}

abbrev Names : Type 0
Names = List (List ℕ)

-- ---- which may be gone

pub loses_none : (names : Names) (b c : Files) → c ≡ b → MayLose names b c
loses_none names b c e q = inl (ap (λ m. get m q) e)

gone_or_same : (name : List ℕ) (b : Files) (q : List ℕ) → (get (remove b name) q ≡ get b q) ⊎ ((get (remove b name) q ≡ None) × (q ≡ name))
gone_or_same name b q =
    by_name q name ((get (remove b name) q ≡ get b q) ⊎ ((get (remove b name) q ≡ None) × (q ≡ name)))
    (λ e. inr (ap (get (remove b name)) e ∙ placed_same b name None, e))
    (λ ne. inl (placed_other b name None q ne))

pub loses_removed : (names : Names) (name : List ℕ) (b c : Files) → Contains names name → c ≡ remove b name → MayLose names b c
loses_removed names name b c has e q = told (gone_or_same name b q)
  where
    told : (get (remove b name) q ≡ get b q) ⊎ ((get (remove b name) q ≡ None) × (q ≡ name)) → (get c q ≡ get b q) ⊎ ((get c q ≡ None) × Contains names q)
    told (inl same) = inl (ap (λ m. get m q) e ∙ same)
    told (inr (none, is)) = inr (ap (λ m. get m q) e ∙ none, subst (Contains names) (sym is) has)

pub loses_one : (names : Names) (name : List ℕ) (b c : Files) → Contains names name → MayGo name b c → MayLose names b c
loses_one names name b c has (inl e) = loses_none names b c e
loses_one names name b c has (inr e) = loses_removed names name b c has e

pub loses_more : (names : Names) (b x c : Files) → MayLose names b x → MayLose names x c → MayLose names b c
loses_more names b x c one two q = join (one q) (two q)
  where
    join : (get x q ≡ get b q) ⊎ ((get x q ≡ None) × Contains names q) → (get c q ≡ get x q) ⊎ ((get c q ≡ None) × Contains names q) → (get c q ≡ get b q) ⊎ ((get c q ≡ None) × Contains names q)
    join (inl was) (inl same) = inl (same ∙ was)
    join (inr (none, has)) (inl same) = inr (same ∙ none, has)
    join was (inr gone) = inr gone

has_first : (x : List ℕ) (xs : Names) → Contains (x ∷ xs) x
has_first x xs = (0, omega arith, refl)

has_later : (x : List ℕ) (xs : Names) (q : List ℕ) → Contains xs q → Contains (x ∷ xs) q
has_later x xs q (k, lt, is) = (suc k, omega (arith, lt), is)

pub loses_behind : (name : List ℕ) (names : Names) (b c : Files) → MayLose names b c → MayLose (name ∷ names) b c
loses_behind name names b c lose q = told (lose q)
  where
    told : (get c q ≡ get b q) ⊎ ((get c q ≡ None) × Contains names q) → (get c q ≡ get b q) ⊎ ((get c q ≡ None) × Contains (name ∷ names) q)
    told (inl same) = inl same
    told (inr (none, has)) = inr (none, has_later name names q has)

-- ---- of rows that may have one

pub has_mapped : {X : Type 0} (at : X → Option (List ℕ)) (xs : List X) (i : ℕ) (x : X) (name : List ℕ) → i < length xs → x ≡ get_or xs i x → at x ≡ Some name → Contains (filter_map at xs) name
has_mapped at [] i x name lt is e = absurd (omega (arith, lt))
has_mapped at (y ∷ ys) zero x name lt is e =
    subst (λ o. Contains (cons_option o (filter_map at ys)) name) (sym (ap at (sym is) ∙ e)) (has_first name (filter_map at ys))
has_mapped at (y ∷ ys) (suc i) x name lt is e = behind (at y) (has_mapped at ys i x name (omega (arith, lt)) is e)
  where
    behind : (o : Option (List ℕ)) → Contains (filter_map at ys) name → Contains (cons_option o (filter_map at ys)) name
    behind None has = has
    behind (Some n) has = has_later n (filter_map at ys) name has

none_in : (o : Option (List ℕ)) (rest : Names) → cons_option o rest ≡ [] → (o ≡ None) × (rest ≡ [])
none_in None rest e = (refl, e)
none_in (Some n) rest e = cc

-- where none has a file, this one has none
pub none_mapped : {X : Type 0} (at : X → Option (List ℕ)) (xs : List X) (i : ℕ) (x : X) → i < length xs → x ≡ get_or xs i x → filter_map at xs ≡ [] → at x ≡ None
none_mapped at [] i x lt is e = absurd (omega (arith, lt))
none_mapped at (y ∷ ys) zero x lt is e = ap at is ∙ (none_in (at y) (filter_map at ys) e).0
none_mapped at (y ∷ ys) (suc i) x lt is e = none_mapped at ys i x (omega (arith, lt)) is (none_in (at y) (filter_map at ys) e).1

loses_some : (names : Names) (o : Option (List ℕ)) (b c : Files) → ((name : List ℕ) → o ≡ Some name → Contains names name) → MayLose (cons_option o []) b c → MayLose names b c
loses_some names o b c has lose q = told (lose q)
  where
    of : (o : Option (List ℕ)) → ((name : List ℕ) → o ≡ Some name → Contains names name) → Contains (cons_option o []) q → Contains names q
    of None has (k, lt, is) = absurd (omega (arith, lt))
    of (Some n) has (zero, lt, is) = subst (Contains names) is (has n refl)
    of (Some n) has (suc k, lt, is) = absurd (omega (arith, lt))

    told : (get c q ≡ get b q) ⊎ ((get c q ≡ None) × Contains (cons_option o []) q) → (get c q ≡ get b q) ⊎ ((get c q ≡ None) × Contains names q)
    told (inl same) = inl same
    told (inr (none, is)) = inr (none, of o has is)

pub loses_mapped : {X : Type 0} (at : X → Option (List ℕ)) (xs : List X) (i : ℕ) (x : X) (b m c : Files) → i < length xs → x ≡ get_or xs i x
    → MayLose (filter_map at xs) b m → MayLose (cons_option (at x) []) m c → MayLose (filter_map at xs) b c
loses_mapped at xs i x b m c lt is one two =
    loses_more (filter_map at xs) b m c one (loses_some (filter_map at xs) (at x) m c (λ name e. has_mapped at xs i x name lt is e) two)

pub loses_its : (o : Option (List ℕ)) (name : List ℕ) (b c : Files) → o ≡ Some name → MayGo name b c → MayLose (cons_option o []) b c
loses_its o name b c e go = subst (λ p. MayLose (cons_option p []) b c) (sym e) (loses_one (name ∷ []) name b c (has_first name []) go)

without_first : (o : Option (List ℕ)) (rest : Names) (files : Files) → without (cons_option o rest) files ≡ without rest (without (cons_option o []) files)
without_first None rest files = refl
without_first (Some n) rest files = refl

pub without_mapped : {X : Type 0} (at : X → Option (List ℕ)) (xs : List X) (i : ℕ) (x : X) (files after : Files) → i < length xs → x ≡ get_or xs i x
    → after ≡ without (cons_option (at x) []) files → without (filter_map at (drop (i + 1) xs)) after ≡ without (filter_map at (drop i xs)) files
without_mapped at xs i x files after lt is e =
    let rest : Names = filter_map at (drop (i + 1) xs) in
    ap (without rest) e ∙ sym (without_first (at x) rest files)
    ∙ sym (ap (λ ys. without (filter_map at ys) files) (drop-cons xs i x lt ∙ ap (λ y. y ∷ drop (suc i) xs) (sym is) ∙ ap (λ k. x ∷ drop k xs) (sym (add-one i))))

-- where each has one
pub all_mapped : (names : Names) → filter_map (λ name. Some name) names ≡ names
all_mapped [] = refl
all_mapped (n ∷ ns) = ap (λ l. n ∷ l) (all_mapped ns)

-- ---- the manifest first

pub manifest_goes : (manifest : List ℕ) (paths : Names) (b c : Files) → MayGo manifest b c → Forgets manifest paths b c
manifest_goes manifest paths b c (inl e) = inl e
manifest_goes manifest paths b c (inr e) = inr (ap (λ m. get m manifest) e ∙ placed_same b manifest None, loses_removed (manifest ∷ paths) manifest b c (has_first manifest paths) e)

stays_gone : (names : Names) (q : List ℕ) (x c : Files) → get x q ≡ None → MayLose names x c → get c q ≡ None
stays_gone names q x c none lose = told (lose q)
  where
    told : (get c q ≡ get x q) ⊎ ((get c q ≡ None) × Contains names q) → get c q ≡ None
    told (inl same) = same ∙ none
    told (inr gone) = gone.0

-- all that was read is there without the manifest, and then files go
pub files_go : (read : Files) (manifest : List ℕ) (paths : Names) (b x c : Files) → (b ≡ read) × (x ≡ remove b manifest) → MayLose paths x c → ForgetsFirm read manifest paths b c
files_go read manifest paths b x c (is, e) lose = (
  is,
  stays_gone paths manifest x c (ap (λ m. get m manifest) e ∙ placed_same b manifest None) lose,
  loses_more (manifest ∷ paths) b x c (loses_removed (manifest ∷ paths) manifest b x (has_first manifest paths) e) (loses_behind manifest paths x c lose),
)

pub forgets_firm : (read : Files) (manifest : List ℕ) (paths : Names) (b c : Files) → ForgetsFirm read manifest paths b c → Forgets manifest paths b c
forgets_firm read manifest paths b c (is, none, lose) = inr (none, lose)

-- ---- what is left

pub stays_without : (names : Names) (files : Files) (q : List ℕ) → get files q ≡ None → get (without names files) q ≡ None
stays_without [] files q none = none
stays_without (n ∷ ns) files q none = stays_without ns (remove files n) q (gone (gone_or_same n files q))
  where
    gone : (get (remove files n) q ≡ get files q) ⊎ ((get (remove files n) q ≡ None) × (q ≡ n)) → get (remove files n) q ≡ None
    gone (inl same) = same ∙ none
    gone (inr is) = is.0

pub without_these : (names : Names) (files : Files) (q : List ℕ) → Contains names q → get (without names files) q ≡ None
without_these [] files q (k, lt, is) = absurd (omega (arith, lt))
without_these (n ∷ ns) files q (zero, lt, is) = stays_without ns (remove files n) q (ap (get (remove files n)) (sym is) ∙ placed_same files n None)
without_these (n ∷ ns) files q (suc k, lt, is) = without_these ns (remove files n) q (k, omega (arith, lt), is)

pub without_others : (names : Names) (files : Files) (q : List ℕ) → (Contains names q → ⊥) → get (without names files) q ≡ get files q
without_others [] files q other = refl
without_others (n ∷ ns) files q other =
    without_others ns (remove files n) q (λ has. other (has_later n ns q has))
    ∙ placed_other files n None q (λ e. other (subst (Contains (n ∷ ns)) (sym e) (has_first n ns)))

-- Each snapshot of a list is what is found by its key, and each file of a snapshot by its name.
use Rattle.std.proofs.Common.{◌≡◌, zero, suc, Bool, true, false, cond, List, [], ◌∷◌, get_or, Some, refl, sym, ap, ◌∙◌, arith}
use Rattle.std.specs.List.{All, AllPairs, find}
use Rattle.std.specs.Ordering.{is_eq, is_lt}
use Rattle.std.specs.Str.{bytes_eq}
use Rattle.std.specs.declared.cmp.Ordering.{Ordering}
use Rattle.std.specs.declared.cmp.Ordering.TheVariants.{Less, Equal, Greater}
use Rattle.std.proofs.lemmas.Bool.{and_parts}
use Rattle.std.proofs.lemmas.Cmp.{nat_list_cmp_total}
use Rattle.std.proofs.lemmas.List.Elements.{All-cons, All-nil, All-weaker}
use Rattle.std.proofs.lemmas.List.Kept.{AllPairs-cons}
use Rattle.std.proofs.lemmas.Map.Text.{is_eq-slice_cmp}
use Rattle.std.proofs.lemmas.Slice.Eq.{bytes_eq-Decides}
use Rattle.store_types.specs.KeyOrder.{key_cmp_total, same_key_equiv}
use Rattle.store_types.specs.Names.{key_cmp, key_lt, name_lt, same_key, text_cmp}
use Rattle.store_files.specs.Archive.{File, Snapshot, file_named}
use Rattle.store_model.specs.Stands.{keys_rise, names_rise}
use Rattle.store_model.specs.Store.{snapshot_named}

-- ---- each is the first that passes its own test

module _ {X : Type 0} (p : X → X → Bool) where
  abbrev Differ : X → X → Type 0
  Differ x y = p y x ≡ false

  apart_head : (x : X) (xs : List X) → AllPairs Differ (x ∷ xs) → All (Differ x) xs
  apart_head x xs apart k d within = apart zero (suc k) d (omega arith) (omega (arith, within))

  apart_tail : (x : X) (xs : List X) → AllPairs Differ (x ∷ xs) → AllPairs Differ xs
  apart_tail x xs apart i j d lt within = apart (suc i) (suc j) d (omega (arith, lt)) (omega (arith, within))

  -- where each passes its own and none before it does
  pub find_each : ((x : X) → p x x ≡ true) → (xs : List X) → AllPairs Differ xs → All (λ x. find (p x) xs ≡ Some x) xs
  find_each itself [] apart = All-nil (λ x. find (p x) [] ≡ Some x)
  find_each itself (x ∷ xs) apart =
      All-cons (λ y. find (p y) (x ∷ xs) ≡ Some y) x xs (ap (λ b. cond b (Some x) (find (p x) xs)) (itself x)) (λ k d within.
      let y : X = get_or xs k d in
      ap (λ b. cond b (Some x) (find (p y) xs)) (apart_head x xs apart k d within) ∙ find_each itself xs (apart_tail x xs apart) k d within)

-- ---- lists that rise

less_apart : (o : Ordering) → is_lt o ≡ true → is_eq o ≡ false
less_apart Less e = refl
less_apart Equal e = cc
less_apart Greater e = cc

is_less : (o : Ordering) → is_lt o ≡ true → o ≡ Less
is_less Less e = refl
is_less Equal e = cc
is_less Greater e = cc

no_pairs : {X : Type 0} (R : X → X → Type 0) → AllPairs R []
no_pairs R i j d lt within = absurd (omega (arith, within))

keys_above : (x : Snapshot) (xs : List Snapshot) → keys_rise (x ∷ xs) ≡ true → All (λ y. key_lt x.key y.key ≡ true) xs
keys_above x [] h = All-nil (λ y. key_lt x.key y.key ≡ true)
keys_above x (y ∷ ys) h =
    let both = and_parts (key_lt x.key y.key) (keys_rise (y ∷ ys)) h in
    All-cons (λ z. key_lt x.key z.key ≡ true) y ys both.0
    (All-weaker (λ z. key_lt y.key z.key ≡ true) (λ z. key_lt x.key z.key ≡ true)
    (λ z lt. ap is_lt (key_cmp_total.trans x.key y.key z.key (is_less (key_cmp x.key y.key) both.0) (is_less (key_cmp y.key z.key) lt))) ys (keys_above y ys both.1))

keys_rest : (x : Snapshot) (xs : List Snapshot) → keys_rise (x ∷ xs) ≡ true → keys_rise xs ≡ true
keys_rest x [] h = refl
keys_rest x (y ∷ ys) h = (and_parts (key_lt x.key y.key) (keys_rise (y ∷ ys)) h).1

abbrev has_key : Snapshot → Snapshot → Bool
has_key x y = same_key y.key x.key

keys_apart : (xs : List Snapshot) → keys_rise xs ≡ true → AllPairs (λ x y. has_key y x ≡ false) xs
keys_apart [] rise = no_pairs (λ x y. has_key y x ≡ false)
keys_apart (x ∷ xs) rise =
    AllPairs-cons (λ y z. has_key z y ≡ false) x xs
    (All-weaker (λ y. key_lt x.key y.key ≡ true) (λ y. has_key y x ≡ false) (λ y lt. less_apart (key_cmp x.key y.key) lt) xs (keys_above x xs rise))
    (keys_apart xs (keys_rest x xs rise))

-- each snapshot is the one of its key
pub each_named : (xs : List Snapshot) → keys_rise xs ≡ true → All (λ x. snapshot_named x.key xs ≡ Some x) xs
each_named xs rise = find_each has_key (λ x. same_key_equiv.refl x.key) xs (keys_apart xs rise)

names_above : (f : File) (fs : List File) → names_rise (f ∷ fs) ≡ true → All (λ g. name_lt f.name g.name ≡ true) fs
names_above f [] h = All-nil (λ g. name_lt f.name g.name ≡ true)
names_above f (g ∷ fs) h =
    let both = and_parts (name_lt f.name g.name) (names_rise (g ∷ fs)) h in
    All-cons (λ x. name_lt f.name x.name ≡ true) g fs both.0
    (All-weaker (λ x. name_lt g.name x.name ≡ true) (λ x. name_lt f.name x.name ≡ true)
    (λ x lt. ap is_lt (nat_list_cmp_total.trans f.name g.name x.name (is_less (text_cmp f.name g.name) both.0) (is_less (text_cmp g.name x.name) lt))) fs (names_above g fs both.1))

names_rest : (f : File) (fs : List File) → names_rise (f ∷ fs) ≡ true → names_rise fs ≡ true
names_rest f [] h = refl
names_rest f (g ∷ fs) h = (and_parts (name_lt f.name g.name) (names_rise (g ∷ fs)) h).1

abbrev has_name : File → File → Bool
has_name f g = bytes_eq g.name f.name

names_apart : (fs : List File) → names_rise fs ≡ true → AllPairs (λ f g. has_name g f ≡ false) fs
names_apart [] rise = no_pairs (λ f g. has_name g f ≡ false)
names_apart (f ∷ fs) rise =
    AllPairs-cons (λ g h. has_name h g ≡ false) f fs
    (All-weaker (λ g. name_lt f.name g.name ≡ true) (λ g. has_name g f ≡ false)
    (λ g lt. sym (is_eq-slice_cmp f.name g.name) ∙ less_apart (text_cmp f.name g.name) lt) fs (names_above f fs rise))
    (names_apart fs (names_rest f fs rise))

-- each file is the one of its name
pub each_file : (fs : List File) → names_rise fs ≡ true → All (λ f. file_named f.name fs ≡ Some f) fs
each_file fs rise = find_each has_name (λ f. (bytes_eq-Decides f.name f.name).1 refl) fs (names_apart fs rise)

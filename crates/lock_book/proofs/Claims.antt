-- What a change of the lists of claims does to who holds what.
use Rattle.std.proofs.Common.{◌≡◌, ℕ, Bool, true, false, not, cond, eqb, List, [], ◌∷◌, ◌++◌, map, filter, Option, Some, None, refl, sym, ap, ◌∙◌}
use Rattle.std.specs.Option.{option_map, option_to_list}
use Rattle.std.specs.Map.{lookup, keys_of}
use Rattle.std.specs.List.{IsDistinct}
use Rattle.std.proofs.lemmas.Map.Entries.{option_filter, lookup-filter-values}
use Rattle.store_types.specs.declared.names.SnapshotKey.{SnapshotKey}
use Rattle.store_types.specs.declared.names.GroupKey.{GroupKey}
use Rattle.store_types.specs.Names.{same_key, same_group}
use Rattle.store_types.specs.KeyOrder.{same_group_equiv}
use Rattle.lock_book.specs.Locks.{Locks, group_holder, other_than, claims_of, TakesWriter, Releases}

option_claims : (lane : ℕ) (base : Option SnapshotKey) → option_to_list (option_map (λ key. (key, lane)) base) ≡ claims_of lane base
option_claims lane None = refl
option_claims lane (Some key) = refl

pub takes_writer : (locks : Locks) (entries : List (GroupKey × ℕ)) (claims : List (SnapshotKey × ℕ)) (lane : ℕ) (group copy : GroupKey) (base : Option SnapshotKey) → copy ≡ group →
    ((g : GroupKey) → lookup (same_group g) entries ≡ cond (same_group copy g) (Some lane) (group_holder locks g)) →
    claims ≡ locks.shared ++ option_to_list (option_map (λ key. (key, lane)) base) →
    TakesWriter locks (record { groups = entries; shared = claims }) lane group base
takes_writer locks entries claims lane group copy base is updates more = record {
  groups = λ g. updates g ∙ ap (λ c. cond (same_group c g) (Some lane) (group_holder locks g)) is;
  shared = more ∙ ap (λ l. locks.shared ++ l) (option_claims lane base);
}

abbrev not_of : ℕ → ℕ → Bool
not_of lane l = not (eqb l lane)

turned : {A : Type 0} (b : Bool) (x y : A) → cond (not b) x y ≡ cond b y x
turned true x y = refl
turned false x y = refl

other_than_filter : (lane : ℕ) (o : Option ℕ) → option_filter (not_of lane) o ≡ other_than lane o
other_than_filter lane None = refl
other_than_filter lane (Some l) = turned (eqb l lane) (Some l) None

map_cond : {A B : Type 0} (f : A → B) (b : Bool) (xs ys : List A) → map f (cond b xs ys) ≡ cond b (map f xs) (map f ys)
map_cond f true xs ys = refl
map_cond f false xs ys = refl

filter_cond : {A : Type 0} (p : A → Bool) (b : Bool) (xs ys : List A) → filter p (cond b xs ys) ≡ cond b (filter p xs) (filter p ys)
filter_cond p true xs ys = refl
filter_cond p false xs ys = refl

-- a head that passes both tests, in either order
both_tests : (s o : Bool) (l : ℕ) (xs ys : List ℕ) → xs ≡ ys → cond o (cond s (l ∷ xs) xs) xs ≡ cond s (cond o (l ∷ ys) ys) ys
both_tests true true l xs ys e = ap (λ zs. l ∷ zs) e
both_tests true false l xs ys e = e
both_tests false true l xs ys e = e
both_tests false false l xs ys e = e

abbrev claims_to : SnapshotKey → List (SnapshotKey × ℕ) → List (SnapshotKey × ℕ)
claims_to key claims = filter (λ c. same_key c.0 key) claims

abbrev lanes_of : List (SnapshotKey × ℕ) → List ℕ
lanes_of claims = map (λ c. c.1) claims

abbrev claims_but : ℕ → List (SnapshotKey × ℕ) → List (SnapshotKey × ℕ)
claims_but lane claims = filter (λ c. not_of lane c.1) claims

sharers_filter : (lane : ℕ) (k : SnapshotKey) (claims : List (SnapshotKey × ℕ)) →
    lanes_of (claims_to k (claims_but lane claims)) ≡ filter (not_of lane) (lanes_of (claims_to k claims))
sharers_filter lane k [] = refl
sharers_filter lane k (c ∷ cs) =
    let same = same_key c.0 k in
    let other = not_of lane c.1 in
    let kept = claims_but lane cs in
    ap lanes_of (filter_cond (λ d. same_key d.0 k) other (c ∷ kept) kept)
    ∙ map_cond (λ d. d.1) other _ _
    ∙ ap (λ xs. cond other xs (lanes_of (claims_to k kept))) (map_cond (λ d. d.1) same (c ∷ claims_to k kept) (claims_to k kept))
    ∙ both_tests same other c.1 _ _ (sharers_filter lane k cs)
    ∙ sym (filter_cond (not_of lane) same (c.1 ∷ lanes_of (claims_to k cs)) (lanes_of (claims_to k cs)))
    ∙ ap (filter (not_of lane)) (sym (map_cond (λ d. d.1) same (c ∷ claims_to k cs) (claims_to k cs)))

pub releases : (locks : Locks) (lane : ℕ) (groups : List (GroupKey × ℕ)) (shared : List (SnapshotKey × ℕ)) →
    IsDistinct same_group (keys_of locks.groups) →
    groups ≡ filter (λ e. not_of lane e.1) locks.groups → shared ≡ claims_but lane locks.shared →
    Releases locks (record { groups = groups; shared = shared }) lane
releases locks lane groups shared distinct kept_groups kept_shared = record {
  groups = λ g. ap (lookup (same_group g)) kept_groups
      ∙ lookup-filter-values same_group_equiv (not_of lane) g locks.groups distinct ∙ other_than_filter lane (group_holder locks g);
  shared = λ k. ap (λ claims. lanes_of (claims_to k claims)) kept_shared ∙ sharers_filter lane k locks.shared;
}

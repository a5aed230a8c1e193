-- The chunks that a disk lists are those of the sweep, in the same order.
use Rattle.std.proofs.Common.{◌≡◌, inl, inr, ℕ, zero, suc, true, List, [], ◌∷◌, map, refl, sym, subst, ap, ◌∙◌, arith}
use Rattle.std.specs.List.{All, Contains}
use Rattle.std.specs.Ordering.{is_lt}
use Rattle.std.specs.declared.cmp.Ordering.{Ordering}
use Rattle.std.specs.declared.cmp.Ordering.TheVariants.{Less, Equal, Greater}
use Rattle.std.proofs.lemmas.Bool.{and_parts}
use Rattle.std.proofs.lemmas.Cmp.{nat_list_cmp_total}
use Rattle.std.proofs.lemmas.List.Elements.{All-contains}
use Rattle.disk_trait.specs.Files.{Files}
use Rattle.store_types.specs.declared.names.Digest32.{Digest32}
use Rattle.store_types.specs.Names.{name_lt, text_cmp}
use Rattle.store_files.specs.Folder.{IsDigest}
use Rattle.chunk_store.specs.Listed.{Lists as ListsFiles, digests_rise}
use Rattle.store_history.specs.LastTouches.{LastTouches}
use Rattle.store_upkeep.specs.Laws.{Above, Lists, Rising}
use Rattle.store_upkeep.specs.Safety.{In}
use Rattle.store_upkeep.proofs.Listing.{rising_same}
use Rattle.core_collect.specs.Beside.{IsPresent}

abbrev pub bytes_of : List Digest32 → List (List ℕ)
bytes_of names = map (λ (d : Digest32). d.0) names

-- ---- members

pub contains_in : {A : Type 0} (xs : List A) (x : A) → Contains xs x → In x xs
contains_in [] x (k, below, e) = absurd (omega (arith, below))
contains_in (y ∷ ys) x (zero, below, e) = inl (sym e)
contains_in (y ∷ ys) x (suc k, below, e) = inr (contains_in ys x (k, omega (arith, below), e))

pub in_contains : {A : Type 0} (xs : List A) (x : A) → In x xs → Contains xs x
in_contains [] x h = absurd h
in_contains (y ∷ ys) x (inl e) = (0, omega arith, sym e)
in_contains (y ∷ ys) x (inr h) = let at = in_contains ys x h in (suc at.0, omega (arith, at.1), at.2)

-- a digest of the list has these bytes
named_of : (names : List Digest32) (x : List ℕ) → In x (bytes_of names) → (d : Digest32) × Contains names d × (d.0 ≡ x)
named_of [] x h = absurd h
named_of (e ∷ ds) x (inl is) = (e, (0, omega arith, refl), sym is)
named_of (e ∷ ds) x (inr h) = let at = named_of ds x h in (at.0, (suc (at.1).0, omega (arith, (at.1).1), (at.1).2), at.2)

named_in : (names : List Digest32) (d : Digest32) → Contains names d → In d.0 (bytes_of names)
named_in [] d (k, below, e) = absurd (omega (arith, below))
named_in (x ∷ ds) d (zero, below, e) = inl (ap (λ (y : Digest32). y.0) (sym e))
named_in (x ∷ ds) d (suc k, below, e) = inr (named_in ds d (k, omega (arith, below), e))

-- ---- order

less_of : (o : Ordering) → is_lt o ≡ true → o ≡ Less
less_of Less h = refl
less_of Equal h = cc
less_of Greater h = cc

lt_trans : (a b c : List ℕ) → name_lt a b ≡ true → name_lt b c ≡ true → name_lt a c ≡ true
lt_trans a b c h g = ap is_lt (nat_list_cmp_total.trans a b c (less_of (text_cmp a b) h) (less_of (text_cmp b c) g))

above_all : (d : Digest32) (ds : List Digest32) → digests_rise (d ∷ ds) ≡ true → Above d.0 (bytes_of ds)
above_all d [] h y at = absurd at
above_all d (e ∷ ds) h y (inl is) = ap (name_lt d.0) is ∙ (and_parts (name_lt d.0 e.0) (digests_rise (e ∷ ds)) h).0
above_all d (e ∷ ds) h y (inr later) =
    let parts = and_parts (name_lt d.0 e.0) (digests_rise (e ∷ ds)) h in
    lt_trans d.0 e.0 y parts.0 (above_all e ds parts.1 y later)

rise_behind : (d : Digest32) (ds : List Digest32) → digests_rise (d ∷ ds) ≡ true → digests_rise ds ≡ true
rise_behind d [] h = refl
rise_behind d (e ∷ ds) h = (and_parts (name_lt d.0 e.0) (digests_rise (e ∷ ds)) h).1

rises : (ds : List Digest32) → digests_rise ds ≡ true → Rising (bytes_of ds)
rises [] h = tt
rises (d ∷ ds) h = (above_all d ds h, rises ds (rise_behind d ds h))

-- ---- the same chunks

module _ (m : Files) (names : List Digest32) (touches : LastTouches) (chunks : List (List ℕ)) (there : ListsFiles m names) (all : Lists touches chunks) (digests : All IsDigest chunks) (present : IsPresent m touches) where
  listed_chunk : (x : List ℕ) → In x (bytes_of names) → In x chunks
  listed_chunk x at =
      let (d, has, is) = named_of names x at in
      let digest : IsDigest d.0 = All-contains (λ (y : Digest32). IsDigest y.0) names d there.each has in
      subst (λ y. In y chunks) is (contains_in chunks d.0 ((all.each d.0).0 ((present d.0 digest).0 ((there.exactly d digest).0 has))))

  chunk_listed : (x : List ℕ) → In x chunks → In x (bytes_of names)
  chunk_listed x at =
      let has : Contains chunks x = in_contains chunks x at in
      let digest : IsDigest x = All-contains IsDigest chunks x digests has in
      named_in names (record { 0 = x }) ((there.exactly (record { 0 = x }) digest).1 ((present x digest).1 ((all.each x).1 has)))

  pub listed_same : Rising chunks → bytes_of names ≡ chunks
  listed_same rise = rising_same (bytes_of names) chunks (rises names there.rising) rise (λ x. (listed_chunk x, chunk_listed x))

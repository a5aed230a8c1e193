-- The group of a type and an id is the one that the text of both names.
use Rattle.std.proofs.Common.{◌≡◌, ℕ, ◌+◌, ◌≤◌, ◌<◌, List, [], ◌∷◌, ◌++◌, length, Bool, true, false, not, ◌&&◌, nat_eq, cond, Option, Some, None, refl, sym, ap, ◌∙◌, arith, append_assoc}
use Rattle.std.specs.Prelude.{codes, count_by, nat_le}
use Rattle.std.specs.Str.{bytes_eq}
use Rattle.std.proofs.lemmas.Slice.Eq.{bytes_eq-Decides}
use Rattle.std.proofs.lemmas.Bool.{le-leb, lt-leb}
use Rattle.std.proofs.lemmas.List.Sums.{sum_by-append, sum_by-cons}
use Rattle.std.proofs.lemmas.List.Splits.{length-slice_split}
use Rattle.serde_json.specs.Data.{Data}
use Rattle.store_types.specs.declared.names.Kind.{Kind}
use Rattle.store_types.specs.declared.names.GroupKey.{GroupKey}
use Rattle.store_types.specs.declared.names.SnapshotKey.{SnapshotKey}
use Rattle.store_types.specs.Chain.Reading.{◌>>=◌, only_if}
use Rattle.store_types.specs.FileNames.{is_id}
use Rattle.store_types.specs.Times.{last_moment}
use Rattle.store_types.specs.Names.{parts, kind_of, group_of, group_from}
use Rattle.store_types.proofs.KeyTexts.{no_slash, first_part, group_of-parts, group_read, group_read-no_kind}
use Rattle.store_files.specs.Manifest.Fields.{text_in, number_in, key_in}
use Rattle.manifest.specs.Fields.{group_in, key_at}

abbrev slashes : List ℕ → ℕ
slashes text = count_by (λ b. nat_eq b 47) text

abbrev one_slash : ℕ → ℕ
one_slash b = cond (nat_eq b 47) 1 0

some_slash : (text : List ℕ) → no_slash text ≡ false → 1 ≤ slashes text
some_slash [] h = cc
some_slash (x ∷ xs) h = omega (arith, sum_by-cons one_slash x xs, by_first (nat_eq x 47) h (some_slash xs))
  where
    by_first : (b : Bool) → (not b && no_slash xs) ≡ false → (no_slash xs ≡ false → 1 ≤ slashes xs) → 1 ≤ cond b 1 0 + slashes xs
    by_first true h go = omega arith
    by_first false h go = omega (arith, go h)

slashes_around : (kind id : List ℕ) → slashes (kind ++ 47 ∷ id) ≡ slashes kind + (1 + slashes id)
slashes_around kind id = sum_by-append one_slash kind (47 ∷ id) ∙ ap (λ n. slashes kind + n) (sum_by-cons one_slash 47 id)

more_parts : (ps : List (List ℕ)) → 3 ≤ length ps → group_from ps ≡ None
more_parts [] h = refl
more_parts (p ∷ []) h = refl
more_parts (p ∷ q ∷ []) h = absurd (omega arith)
more_parts (p ∷ q ∷ r ∷ ps) h = refl

other_word : (kind word : List ℕ) → no_slash word ≡ true → no_slash kind ≡ false → bytes_eq kind word ≡ false
other_word kind word whole h = by_test (bytes_eq kind word) refl
  where
    by_test : (b : Bool) → bytes_eq kind word ≡ b → b ≡ false
    by_test true e = let same = (bytes_eq-Decides kind word).0 e in let both = sym whole ∙ ap no_slash (sym same) ∙ h in cc
    by_test false e = refl

no_kind : (kind : List ℕ) → no_slash kind ≡ false → kind_of kind ≡ None
no_kind kind h = rw (other_word kind (codes "ct") refl h, other_word kind (codes "host") refl h, other_word kind (codes "vm") refl h) refl

joined : (kind id : List ℕ) (b : Bool) → no_slash kind ≡ b → group_of (kind ++ 47 ∷ id) ≡ group_read kind id
unfolding group_of
joined kind id true h = group_of-parts (kind ++ 47 ∷ id) kind id (first_part kind id h)
joined kind id false h =
    more_parts (parts (kind ++ 47 ∷ id)) (omega (arith, length-slice_split (λ b. nat_eq b 47) (kind ++ 47 ∷ id), slashes_around kind id, some_slash kind h))
    ∙ sym (group_read-no_kind kind id (no_kind kind h))

pub group_of-joined : (kind id : List ℕ) → group_of ((kind ++ codes "/") ++ id) ≡ group_read kind id
group_of-joined kind id = ap group_of (append_assoc kind (codes "/") id) ∙ joined kind id (no_slash kind) refl

pub group_in-texts : (d : Data) (kind id : List ℕ) → text_in (codes "backup-type") d ≡ Some kind → text_in (codes "backup-id") d ≡ Some id → group_in d ≡ group_of ((kind ++ codes "/") ++ id)
group_in-texts d kind id has_kind has_id = rw (has_kind, has_id) (sym (group_of-joined kind id))

-- ---- snapshots

abbrev key : Kind → List ℕ → ℕ → Option SnapshotKey
key kind id time = Some (record { kind = kind; id = id; time = time })

abbrev group : Kind → List ℕ → Option GroupKey
group kind id = Some (record { kind = kind; id = id })

abbrev with_time : Kind → List ℕ → Option ℕ → Option SnapshotKey
with_time kind id time = time >>= (λ t. only_if (nat_le t last_moment) >>= (λ _. key kind id t))

by_id : (kind : Kind) (id : List ℕ) (time : Option ℕ) (b : Bool) → (only_if b >>= (λ _. with_time kind id time)) ≡ key_at (only_if b >>= (λ _. group kind id)) time
by_id kind id time true = refl
by_id kind id time false = refl

by_kind : (kind : Option Kind) (id : Option (List ℕ)) (time : Option ℕ)
    → (kind >>= (λ k. id >>= (λ i. only_if (is_id i) >>= (λ _. with_time k i time)))) ≡ key_at (kind >>= (λ k. id >>= (λ i. only_if (is_id i) >>= (λ _. group k i)))) time
by_kind None id time = refl
by_kind (Some k) None time = refl
by_kind (Some k) (Some i) time = by_id k i time (is_id i)

by_name : (name id : Option (List ℕ)) (time : Option ℕ)
    → (name >>= (λ n. kind_of n >>= (λ k. id >>= (λ i. only_if (is_id i) >>= (λ _. with_time k i time)))))
    ≡ key_at (name >>= (λ n. kind_of n >>= (λ k. id >>= (λ i. only_if (is_id i) >>= (λ _. group k i))))) time
by_name None id time = refl
by_name (Some n) id time = by_kind (kind_of n) id time

key_in-group : (d : Data) → key_in d ≡ key_at (group_in d) (number_in (codes "backup-time") d)
unfolding key_in
key_in-group d = by_name (text_in (codes "backup-type") d) (text_in (codes "backup-id") d) (number_in (codes "backup-time") d)

module _ (d : Data) where
  abbrev time_in : Option ℕ
  time_in = number_in (codes "backup-time") d

  pub key-no_group : group_in d ≡ None → key_in d ≡ None
  key-no_group h = key_in-group d ∙ ap (λ g. key_at g time_in) h

  module _ (g : GroupKey) (has_group : group_in d ≡ Some g) where
    pub key-no_time : time_in ≡ None → key_in d ≡ None
    key-no_time h = key_in-group d ∙ (λ i. key_at (has_group i) (h i))

    module _ (t : ℕ) (has_time : time_in ≡ Some t) where
      timed : key_in d ≡ key_at (Some g) (Some t)
      timed = key_in-group d ∙ (λ i. key_at (has_group i) (has_time i))

      abbrev made : Bool → Option SnapshotKey
      made b = only_if b >>= (λ _. Some (record { kind = g.kind; id = g.id; time = t }))

      pub key-late : last_moment < t → key_in d ≡ None
      key-late h = timed ∙ ap made (lt-leb t last_moment h)

      pub key-some : t ≤ last_moment → key_in d ≡ Some (record { kind = g.kind; id = g.id; time = t })
      key-some h = timed ∙ ap made (le-leb t last_moment h)

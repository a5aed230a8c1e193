-- The snapshot that is read from a manifest's fields has a text.
use Rattle.std.proofs.Common.{◌≡◌, ℕ, Bool, true, false, List, Option, Some, None, refl}
use Rattle.std.specs.Prelude.{codes, nat_le, IfSome}
use Rattle.std.proofs.lemmas.Bool.{leb-true}
use Rattle.serde_json.specs.Data.{Data}
use Rattle.store_types.specs.declared.names.Kind.{Kind}
use Rattle.store_types.specs.declared.names.SnapshotKey.{SnapshotKey}
use Rattle.store_types.specs.Chain.Reading.{◌>>=◌, only_if}
use Rattle.store_types.specs.FileNames.{is_id}
use Rattle.store_types.specs.Times.{last_moment}
use Rattle.store_types.specs.Names.{IsKey, kind_of}
use Rattle.store_files.specs.Manifest.Fields.{text_in, number_in, key_in}

abbrev timed : Kind → List ℕ → Option ℕ → Option SnapshotKey
timed kind id time = do
  t ← time
  _ ← only_if (nat_le t last_moment)
  Some (record { kind = kind; id = id; time = t })

abbrev named : Option Kind → Option (List ℕ) → Option ℕ → Option SnapshotKey
named kind id time = do
  k ← kind
  i ← id
  _ ← only_if (is_id i)
  timed k i time

at_time : (kind : Kind) (id : List ℕ) (time : ℕ) (b : Bool) → is_id id ≡ true → nat_le time last_moment ≡ b →
    IfSome (only_if b >>= (λ _. Some (record { kind = kind; id = id; time = time }))) IsKey
at_time kind id time true grammar early = (grammar, leb-true time last_moment early)
at_time kind id time false grammar late = tt

with_time : (kind : Kind) (id : List ℕ) (time : Option ℕ) (b : Bool) → is_id id ≡ b → IfSome (only_if b >>= (λ _. timed kind id time)) IsKey
with_time kind id None true grammar = tt
with_time kind id (Some t) true grammar = at_time kind id t (nat_le t last_moment) grammar refl
with_time kind id time false grammar = tt

with_id : (kind : Option Kind) (id : Option (List ℕ)) (time : Option ℕ) → IfSome (named kind id time) IsKey
with_id None id time = tt
with_id (Some k) None time = tt
with_id (Some k) (Some i) time = with_time k i time (is_id i) refl

with_kind : (name : Option (List ℕ)) (id : Option (List ℕ)) (time : Option ℕ) → IfSome (name >>= (λ n. named (kind_of n) id time)) IsKey
with_kind None id time = tt
with_kind (Some n) id time = with_id (kind_of n) id time

pub key_in-fits : (d : Data) → IfSome (key_in d) IsKey
unfolding key_in
key_in-fits d = with_kind (text_in (codes "backup-type") d) (text_in (codes "backup-id") d) (number_in (codes "backup-time") d)

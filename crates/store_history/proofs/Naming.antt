-- The book's name is that of no snapshot's file.
use Rattle.std.proofs.Common.{◌≡◌, ◌≢◌, ℕ, get_or, append_assoc, List, ◌∷◌, ◌++◌, refl, sym, ap, ◌∙◌, arith}
use Rattle.store_types.specs.declared.names.Kind.{Kind}
use Rattle.store_types.specs.declared.names.Kind.TheVariants.{Ct, Host, Vm}
use Rattle.store_types.specs.declared.names.SnapshotKey.{SnapshotKey}
use Rattle.store_types.specs.Times.{time_text}
use Rattle.store_types.specs.Names.{kind_text, group_text, key_text}
use Rattle.store_files.specs.Folder.{file_path}
use Rattle.store_history.specs.Saved.{book_name}

from_kind : (k : SnapshotKey) (name : List ℕ) → file_path k name ≡ kind_text k.kind ++ 47 ∷ (k.id ++ 47 ∷ (time_text k.time ++ 47 ∷ name))
unfolding key_text group_text
from_kind k name = simp append_assoc refl

kind_head : (k : Kind) (rest : List ℕ) → get_or (kind_text k ++ rest) 0 0 ≡ 46 → ⊥
kind_head Ct rest e = omega (arith, e)
kind_head Host rest e = omega (arith, e)
kind_head Vm rest e = omega (arith, e)

-- it begins with a dot, and a snapshot's with its kind
pub book_apart : (key : SnapshotKey) (name : List ℕ) → book_name ≢ file_path key name
book_apart key name e = kind_head key.kind _ (sym (ap (λ q. get_or q 0 0) (e ∙ from_kind key name)))

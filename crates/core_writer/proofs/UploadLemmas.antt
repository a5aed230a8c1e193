-- Where a new file of a writer comes.
use Rattle.std.proofs.Common.{◌≡◌, Bool, List, refl}
use Rattle.std.specs.List.{insert, position_or_len}
use Rattle.store_types.specs.Names.{name_lt}
use Rattle.core_state.specs.declared.kept.StoredFile.{StoredFile}
use Rattle.core_writer.specs.Uploaded.{insert_stored}
use Rattle.core_state.proofs.Places.{insert_at}

abbrev pub is_after : StoredFile → StoredFile → Bool
is_after x y = name_lt x.name y.name

pub insert_stored-is : (x : StoredFile) (xs : List StoredFile) → insert xs (position_or_len (is_after x) xs) x ≡ insert_stored x xs
insert_stored-is x xs = insert_at (is_after x) x (insert_stored x) refl (λ y ys. refl) xs

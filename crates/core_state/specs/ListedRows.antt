-- What LIST and views tell of a finished snapshot.
use Rattle.std.specs.Prelude.{ℕ, length, min, is_some, if◌then◌else◌}
use Rattle.core_state.specs.declared.kept.Kept.{Kept}
use Rattle.core_state.specs.declared.listed_row.ListedRow.{ListedRow}

-- of a damaged snapshot no files are told; a whole one has 64 at most, so their number fits its field
abbrev pub files_counted : Kept → ℕ
files_counted k = if is_some k.unreadable then 0 else min (length k.files) 255

abbrev pub row_of : Kept → ListedRow
row_of k = record { damaged = is_some k.unreadable; files = files_counted k }

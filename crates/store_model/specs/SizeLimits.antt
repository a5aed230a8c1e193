-- How many bytes a file of a snapshot has at most.
use Rattle.std.specs.Prelude.{ℕ, ◌+◌, ◌*◌, List, if◌then◌else◌}
use Rattle.store_types.specs.FileNames.{is_fixed_name, is_dynamic_name}
use Rattle.blob_codec.specs.Blob.{blob_limit}
use Rattle.store_files.specs.Cells.{header_len, entry_limit}

-- a header and an index's most entries
abbrev pub fixed_limit : ℕ
fixed_limit = header_len + entry_limit * 32

abbrev pub dynamic_limit : ℕ
dynamic_limit = header_len + entry_limit * 40

-- by the file's name
abbrev pub size_limit : List ℕ → ℕ
size_limit name =
    if is_fixed_name name then fixed_limit else
    if is_dynamic_name name then dynamic_limit else
    blob_limit

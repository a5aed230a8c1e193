-- What an example unfolds to compute these definitions on literals.
use Rattle.std.specs.Prelude.{⊤}
use Rattle.crc_core.specs.Crc as crc_
use Rattle.blob_codec.specs.Blob as blob_
use Rattle.store_files.specs.Cells as cells_
use Rattle.store_files.specs.FixedIndex as fixedindex_
use Rattle.store_files.specs.DynamicIndex as dynamicindex_
use Rattle.store_files.specs.Book as book_
use Rattle.store_files.specs.Order as order_
use Rattle.store_files.specs.Archive as archive_
use Rattle.store_files.specs.Manifest as manifest_
use Rattle.store_files.specs.Manifest.Fields as manifest_fields_
use Rattle.store_files.specs.Manifest.Mismatch as manifest_mismatch_
use Rattle.store_types.proofs.OnLiterals.{store_types_on_literals}

unfoldable pub store_files_on_literals : ⊤
unfolding store_types_on_literals crc_.shift_bits crc_.crc blob_.blob blob_.data_of cells_.first_cells fixedindex_.fixed_text fixedindex_.fixed_of dynamicindex_.dynamic_text dynamicindex_.dynamic_of book_.book_text book_.book_of order_.order_text order_.keeps_rules order_.order_of archive_.archive_text archive_.file_text manifest_.files_in manifest_.manifest_of manifest_fields_.csum_in manifest_fields_.key_in manifest_fields_.fact_in manifest_mismatch_.mismatch
store_files_on_literals = tt

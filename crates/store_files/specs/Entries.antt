-- The entries of an index.
use Rattle.std.specs.Prelude.{◌≤◌, IsTrue, List, length}
use Rattle.store_files.specs.Cells.{entry_limit}
use Rattle.store_files.specs.DynamicIndex.{Ended, steps_fit}

-- entries that an archive may have: not too many, and each piece of 1 to 16,777,216 bytes
pub record FitsIndex (entries : List Ended) : Type 0 where
  pub limit : length entries ≤ entry_limit
  pub steps : IsTrue (steps_fit 0 entries)

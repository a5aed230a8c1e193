-- The entries that a writer keeps, as the format has them.
use Rattle.std.specs.Prelude.{ℕ, List, map}
use Rattle.std.specs.List.{flat_map}
use Rattle.store_files.specs.DynamicIndex.{Ended, entry_text}
use Rattle.dynamic_index.specs.declared.writer.Entry.{Entry}

abbrev pub ended_of : Entry → Ended
ended_of e = record { end = e.end; digest = e.digest.0 }

abbrev pub ends_of : List Entry → List Ended
ends_of entries = map ended_of entries

-- their bytes, one after another
abbrev pub spelled : List Entry → List ℕ
spelled entries = flat_map entry_text (ends_of entries)

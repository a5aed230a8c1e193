-- How often an honest disk is called for a part of a file.
use Rattle.std.specs.Prelude.{ℕ, ◌+◌, List, Option, None, Some}
use Rattle.std.specs.FinMap.{get}
use Rattle.disk_trait.specs.declared.disk.Disk.{Ghosts}
use Rattle.index_pages.specs.Calls.{CallsAtMost, opening_calls}
use Rattle.paged_indexes.specs.Calls.{entry_width}
use Rattle.paged_indexes.specs.declared.kinds.IndexKind.{IndexKind}

-- Its size, and its bytes. An index that is read whole is opened besides.
abbrev pub part_calls : Option IndexKind → Option (List ℕ) → ℕ
part_calls None text = 2
part_calls (Some kind) text = 2 + opening_calls (entry_width kind) text

abbrev pub CallsForPart : {D : Type 0} → Ghosts D → D → D → List ℕ → Option IndexKind → Type 0
CallsForPart d old new path whole = CallsAtMost d old new (part_calls whole (get (d.content old) path))

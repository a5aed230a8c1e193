-- How often an honest disk is called.
use Rattle.std.specs.Prelude.{ℕ, List}
use Rattle.std.specs.FinMap.{get}
use Rattle.disk_trait.specs.declared.disk.Disk.{Ghosts}
use Rattle.index_pages.specs.Calls.{CallsAtMost, opening_calls}
use Rattle.paged_indexes.specs.declared.kinds.IndexKind.{IndexKind}
use Rattle.paged_indexes.specs.declared.kinds.IndexKind.TheVariants.{Fixed, Dynamic}

-- how many bytes an entry has
abbrev pub entry_width : IndexKind → ℕ
entry_width Fixed = 32
entry_width Dynamic = 40

-- as often as an opening of the index of this kind does that stands there
abbrev pub CallsToOpen : {D : Type 0} → Ghosts D → D → D → List ℕ → IndexKind → Type 0
CallsToOpen d old new name kind = CallsAtMost d old new (opening_calls (entry_width kind) (get (d.content old) name))

-- How often an honest disk is called.
use Rattle.std.specs.Prelude.{ℕ, ◌+◌, ◌≤◌, List, Option, None, Some}
use Rattle.disk_trait.specs.declared.disk.Disk.{Ghosts}
use Rattle.index_pages.specs.Paged.{count_of, page_count}

-- at most so many times
abbrev pub CallsAtMost : {D : Type 0} → Ghosts D → D → D → ℕ → Type 0
CallsAtMost d old new count = d.honest old → d.calls new ≤ d.calls old + count

-- for the size of what stands at a name, and its front
abbrev pub head_calls : Option (List ℕ) → ℕ
head_calls None = 1
head_calls (Some text) = 2

-- An opening asks for the size of what stands there, and reads its front and each page of entries of a width.
abbrev pub opening_calls : ℕ → Option (List ℕ) → ℕ
opening_calls width None = 1
opening_calls width (Some text) = 2 + page_count (count_of width text)

-- Texts as names of files.
use Rattle.std.specs.Prelude.{◌≡◌, ℕ, false, List}
use Rattle.store_types.specs.FileNames.{is_file_name}
use Rattle.store_types.specs.declared.refusal.Refusal.TheVariants.{BadName}
use Rattle.store_stops.specs.declared.stop.Stop.{Stop}
use Rattle.store_stops.specs.declared.stop.Stop.TheVariants.{Refused, NoMemory, DiskFailed}

-- the text is no file's name, or memory was wanting
abbrev pub IsNoName : List ℕ → Stop → Type 0
IsNoName text (Refused refusal) = (refusal ≡ BadName) × (is_file_name text ≡ false)
IsNoName text NoMemory = Unit {0}
IsNoName text DiskFailed = ⊥

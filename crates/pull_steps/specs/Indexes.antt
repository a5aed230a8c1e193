-- An index as a SYNC sends it.
use Rattle.std.specs.Prelude.{◌≡◌, ℕ, ◌+◌, Bool, List, [], ◌∷◌, drop, ◌==◌, Option, option_map, Result, IfOk}
use Rattle.store_types.specs.declared.append.AppendEntry.{AppendEntry}
use Rattle.store_history.specs.Pulling as model
use Rattle.pull_steps.specs.declared.stages.Index.{Index}
use Rattle.pull_steps.specs.States.{shown_index}

-- this is the index, or there is none
abbrev pub GivesIndex : {E : Type 0} → Result (Option Index) E → Option model.Index → Type 0
GivesIndex result index = IfOk result (λ given. option_map shown_index given ≡ index)

-- where the piece of the entry at a place ends
abbrev pub end_at : Index → ℕ → ℕ
end_at x place = model.end_before (shown_index x) (drop (place + 1) x.entries.items)

-- the size that the index gives the blob of the first of these entries
abbrev pub size_first : model.Index → List AppendEntry → ℕ
size_first x [] = 0
size_first x (e ∷ later) = model.blob_size x e later

-- it is this at a place
abbrev pub fits_at : Index → ℕ → ℕ → Bool
fits_at x place size = size == size_first (shown_index x) (drop place x.entries.items)

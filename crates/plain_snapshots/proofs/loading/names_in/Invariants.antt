use Rattle.std.proofs.Common.{◌≡◌, ◌≤◌, ◌+◌, ◌∷◌, take, map, filter, not, length}
use Rattle.std.specs.Str.{bytes_eq}
use Rattle.store_types.specs.FileNames.{manifest_name}
use Rattle.plain_snapshots.proofs.loading.names_in.Given as goal

abbrev pub invariant-loop-fact : goal.invariant-loop-fact
invariant-loop-fact l =
    (l.names.items ≡ manifest_name ∷ filter (λ name. not (bytes_eq name manifest_name)) (map (λ f. f.name) (take l.fact-index l.fact-items)))
    × (length l.names.items ≤ l.fact-index + 1)

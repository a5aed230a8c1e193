-- What is told of a run of the sessions.
use Rattle.std.specs.Prelude.{ℕ, ◌+◌, List, [], ◌∷◌, ◌++◌, length, drop, codes, decimal}
use Rattle.std.specs.List.{flat_map}
use Rattle.hex.specs.Hex.{encode_lower}
use Rattle.sha2.specs.Sha256.{sha256}
use Rattle.wire_commands.specs.declared.rows.ListRow.{ListRow}

-- how many bytes of replies a lane was told, and their SHA-256
abbrev pub lane_line : ℕ → List ℕ → List ℕ
lane_line k replies =
    codes "lane " ++ decimal k ++ codes " " ++ decimal (length replies) ++ codes " " ++ encode_lower (sha256 replies) ++ codes "\n"

-- of the lanes from k on
abbrev pub lane_lines : ℕ → List (List ℕ) → List ℕ
lane_lines k [] = []
lane_lines k (replies ∷ others) = lane_line k replies ++ lane_lines (k + 1) others

-- how many files a finished snapshot has
abbrev pub snapshot_line : ListRow → List ℕ
snapshot_line row = row.snapshot ++ codes " " ++ decimal row.files ++ codes "\n"

-- The replies of all lanes but lane 0, whose numbers depend on how the lanes' acts came between each other; the snapshots; and that all is well.
unfoldable pub summary_text : List (List ℕ) → List ListRow → List ℕ
summary_text replies rows = lane_lines 1 (drop 1 replies) ++ flat_map snapshot_line rows ++ codes "status 0\n"

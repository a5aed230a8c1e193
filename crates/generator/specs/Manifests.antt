-- The names of a session's snapshots, and their manifests.
use Rattle.std.specs.Prelude.{ℕ, ◌+◌, ◌*◌, List, [], ◌∷◌, ◌++◌, codes, decimal}
use Rattle.std.specs.List.{concat}
use Rattle.hex.specs.Hex.{encode_lower}
use Rattle.store_types.specs.declared.names.Digest32.{Digest32}

-- the group's id of lane k
abbrev pub id_of : ℕ → List ℕ
id_of k = codes "g" ++ decimal k

abbrev pub group_of : ℕ → List ℕ
group_of k = codes "host/" ++ id_of k

-- snapshot j, from 0, is of the day j + 1 of January 2020
abbrev pub snapshot_of : ℕ → ℕ → List ℕ
snapshot_of k j = group_of k ++ codes "/2020-01-0" ++ decimal (j + 1) ++ codes "T00:00:00Z"

-- its second since 1970
abbrev pub time_of : ℕ → ℕ
time_of j = 1_577_836_800 + 86_400 * j

abbrev pub archive_name : List ℕ
archive_name = codes "root.didx"

-- the JSON of a manifest that lists one archive, of a size, whose index has a checksum
unfoldable pub manifest_text : ℕ → ℕ → Digest32 → ℕ → List ℕ
manifest_text k j csum size = concat (
    codes "{\"backup-id\":\"" ∷ id_of k
    ∷ codes "\",\"backup-time\":" ∷ decimal (time_of j)
    ∷ codes ",\"backup-type\":\"host\",\"files\":[{\"crypt-mode\":\"none\",\"csum\":\"" ∷ encode_lower csum.0
    ∷ codes "\",\"filename\":\"root.didx\",\"size\":" ∷ decimal size
    ∷ codes "}]}" ∷ [])

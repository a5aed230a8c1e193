-- The JSON values of which a manifest is the text: the keys of an object are in byte order.
use Rattle.std.specs.Prelude.{ℕ, codes}
use Rattle.hex.specs.Hex.{encode_lower}
use Rattle.serde_json.specs.Data.{Data, no_items, item, object, member, no_members, string, number, unsigned, array}
use Rattle.store_types.specs.declared.names.Digest32.{Digest32}
use Rattle.generator.specs.Manifests.{id_of, time_of, archive_name}

abbrev pub file_data : Digest32 → ℕ → Data
file_data csum size =
    object (member (codes "crypt-mode") (string (codes "none")) (member (codes "csum") (string (encode_lower csum.0))
    (member (codes "filename") (string archive_name) (member (codes "size") (number (unsigned size)) no_members))))

abbrev pub manifest_data : ℕ → ℕ → Data → Data
manifest_data k j file =
    object (member (codes "backup-id") (string (id_of k)) (member (codes "backup-time") (number (unsigned (time_of j)))
    (member (codes "backup-type") (string (codes "host")) (member (codes "files") (array (item file no_items)) no_members))))

use Rattle.std.proofs.Common.{◌≡◌, rules}
use Rattle.std.specs.Prelude.{string_bytes}
use Rattle.store_files.specs.Folder.{file_path}
use Rattle.snapshot_files.proofs.PathLengths.{path_short}
use Rattle.snapshot_files.proofs.path.path_of.Goals as goal

pub from_string-requires : goal.from_string-requires
from_string-requires c =
    let is : string_bytes c.push_str-2.new.self ≡ file_path c.args.key.now c.args.name.now = search rules in
    rw is (path_short c.args.key.now c.args.name.now c.requires c.as_str.ensures.grammar)

use Rattle.std.proofs.Common.{◌≡◌, false, sym, rules}
use Rattle.std.proofs.lemmas.Bool.{or_parts}
use Rattle.store_types.specs.FileNames.{is_file_name, is_index_name, is_blob_name}
use Rattle.core_reader.proofs.ranges.index_name.Goals as goal

pub returns-in_default-clause-exact : goal.returns-in_default-clause-exact
returns-in_default-clause-exact c =
    let bad : is_file_name c.args.text.now ≡ false = search rules in
    sym (or_parts (is_index_name c.args.text.now) (is_blob_name c.args.text.now) bad).0

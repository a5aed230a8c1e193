use Rattle.std.proofs.Common.{rules}
use Rattle.snapshot_files.proofs.Telling.{tells_plain, tells_no_folder, tells_no_name, tells_it}
use Rattle.snapshot_files.proofs.unfinished.snapshot_of.Goals as goal

pub returns-in_default : goal.returns-in_default
returns-in_default c = tells_plain c.args.name.now (search rules)

pub returns-in_default-2 : goal.returns-in_default-2
returns-in_default-2 c =
    tells_no_folder c.args.name.now c.in-Some.folder.now c.in-Some.file.now (search rules) (search rules) (search rules)

pub returns-in-Ok-2 : goal.returns-in-Ok-2
returns-in-Ok-2 c =
    tells_it c.args.name.now c.in-Some.folder.now c.in-Some.file.now (search rules) (search rules) c.in-Ok.key (search rules) (search rules)

pub returns-in-Err : goal.returns-in-Err
returns-in-Err c =
    tells_no_name c.args.name.now c.in-Some.folder.now c.in-Some.file.now (search rules) (search rules) (search rules)

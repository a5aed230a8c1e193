use Rattle.std.proofs.Common.{◌<◌, length, rules}
use Rattle.snapshot_files.proofs.Texts.{unreadable_has_text}
use Rattle.snapshot_files.proofs.parts.unreadable.Goals as goal

pub returns-clause-text : goal.returns-clause-text
returns-clause-text c =
    let short : length c.in_ok-name.name < 256 = search rules in
    unreadable_has_text c.in_ok-name.name short

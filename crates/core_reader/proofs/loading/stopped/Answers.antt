use Rattle.std.proofs.Common.{◌≡◌, length, rules}
use Rattle.wire_commands.specs.HasText.{FitsChunkFault}
use Rattle.core_state.proofs.Texts.{damaged_has_text}
use Rattle.core_reader.proofs.loading.stopped.Goals as goal

pub returns-in-Damaged-clause-text : goal.returns-in-Damaged-clause-text
returns-in-Damaged-clause-text c =
    let is : length c.in-Damaged.digest.0 ≡ 32 = search rules in
    let fits : FitsChunkFault c.in-Damaged.found = search rules in
    damaged_has_text c.in-Damaged.digest c.in-Damaged.found is fits

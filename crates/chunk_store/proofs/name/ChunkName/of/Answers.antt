use Rattle.std.proofs.Common.{◌≤◌, ◌∙◌, length, rules}
use Rattle.chunk_store.proofs.Names.{digits_utf8, cut_in_digits}
use Rattle.chunk_store.proofs.name.ChunkName.of.Goals as goal

pub unreachable-requires : goal.unreachable-requires
unreachable-requires c = c.in_default.ensures.cases.0 (digits_utf8 c.digits_of-digits.result c.args.digest.now.0 c.digits_of-digits.ensures.value)

pub range-requires-clause-end_boundary : goal.range-requires-clause-end_boundary
range-requires-clause-end_boundary c =
    let long : 4 ≤ length c.in-Ok.digits.now = search rules in
    cut_in_digits c.in-Ok.digits.now c.args.digest.now.0 (c.in-Ok.ensures.cases.0 ∙ c.digits_of-digits.ensures.value) long

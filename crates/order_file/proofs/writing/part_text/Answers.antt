use Rattle.std.proofs.Common.{◌≡◌, ◌*◌, length, take, ap, ◌∙◌, arith}
use Rattle.std.proofs.lemmas.List.{length-take-le}
use Rattle.order_file.proofs.Texts.{length-texts}
use Rattle.order_file.proofs.writing.part_text.Goals as goal

pub push_entry-requires : goal.push_entry-requires
push_entry-requires c =
    let size : length c.loop-entry.text.items ≡ length (take c.loop-entry.entry-index c.args.part.now) * 13 =
    ap length c.loop-entry.invariant ∙ length-texts (take c.loop-entry.entry-index c.args.part.now) in
    let count = length-take-le c.loop-entry.entry-index c.args.part.now (omega arith) in
    omega (arith, size, count)

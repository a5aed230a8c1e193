use Rattle.std.proofs.Common.{◌∙◌, length, ap, arith}
use Rattle.std.specs.List.{list_any}
use Rattle.store_model.specs.Store.{Writer}
use Rattle.store_model.specs.WriterCalls.{has_number, with_pieces}
use Rattle.store_model.proofs.FileInsertions.{length-insert_file}
use Rattle.plain_sessions.proofs.Counts.{length-change_first, length-without_first}
use Rattle.plain_sessions.proofs.writer.Writer.change.Goals as goal

pub invariant_of-self-in-Continue-branch-3 : goal.invariant_of-self-in-Continue-branch-3
invariant_of-self-in-Continue-branch-3 c =
    let begun = c.self-in-Grow.inside.begun in
    let same = ap length c.in_ok-grow-in-Grow.ensures.ok ∙ length-change_first (has_number c.in-Grow.number) (with_pieces c.in-Grow.pieces.items) begun in
    omega (arith, same, c.self-in-Grow.invariant)

pub invariant_of-self-in-Close : goal.invariant_of-self-in-Close
invariant_of-self-in-Close c =
    let n = c.in-Close.number in
    let begun = c.self-in-Close.inside.begun in
    let asked = (rw c.in-Close.is at c.requires) in
    let stands = ap (λ (w : Writer). list_any (has_number n) w.begun) c.self-in-Close.view_is ∙ asked in
    let more = ap length c.in_ok-insert-in-Close.ensures.ok ∙ length-insert_file c.in-Close.file c.self-in-Close.inside.uploads in
    let fewer = ap length c.close.ensures in
    omega (arith, more, fewer, length-without_first (has_number n) begun stands, c.self-in-Close.invariant)

pub invariant_of-self-in-Continue-branch-5 : goal.invariant_of-self-in-Continue-branch-5
invariant_of-self-in-Continue-branch-5 c =
    let asked = (rw c.in-Upload.is at c.requires) in
    let files = ap (λ (w : Writer). length w.files) c.self-in-Upload.view_is in
    let begun = ap (λ (w : Writer). length w.begun) c.self-in-Upload.view_is in
    let more = ap length c.in_ok-insert-in-Upload.ensures.ok ∙ length-insert_file c.in-Upload.file c.self-in-Upload.inside.uploads in
    omega (arith, more, files, begun, asked)

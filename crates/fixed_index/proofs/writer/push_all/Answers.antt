use Rattle.std.proofs.Common.{◌++◌, [], get_or, take, sym, ap, ◌∙◌, append_assoc}
use Rattle.store_types.specs.declared.names.Digest32.{Digest32}
use Rattle.fixed_index.proofs.Joining.{joined, joined_more}
use Rattle.fixed_index.proofs.writer.push_all.Goals as goal

pub loop-digest-preserved : goal.loop-digest-preserved
loop-digest-preserved c =
    let i = c.loop-digest.digest-index in
    let digests = c.args.digests.now in
    let none : Digest32 = record { 0 = [] } in
    let one = (get_or digests i none).0 in
    c.in_ok-extend_from_slice.ensures.items ∙ ap (λ t. t ++ one) c.loop-digest.invariant
    ∙ append_assoc c.args.text.now.items (joined (take i digests)) one
    ∙ ap (λ z. c.args.text.now.items ++ z) (sym (joined_more digests i none c.loop-digest-test.true))

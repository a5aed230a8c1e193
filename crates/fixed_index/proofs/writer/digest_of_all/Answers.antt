use Rattle.std.proofs.Common.{◌++◌, take, sym, ap, ◌∙◌, subst}
use Rattle.sha2.specs.Hashers.{Holds256}
use Rattle.fixed_index.proofs.Joining.{joined, joined_more, joined_all}
use Rattle.fixed_index.proofs.writer.digest_of_all.Goals as goal

pub loop-digest-preserved : goal.loop-digest-preserved
loop-digest-preserved c =
    let i = c.loop-digest.digest-index in
    let digests = c.args.digests.now in
    let more = ap (λ z. joined (take i digests) ++ z) c.as_slice.ensures ∙ sym (joined_more digests i _ c.loop-digest-test.true) in
    subst (λ m. Holds256 c.update.new.self m) more (c.update.ensures _ c.loop-digest.invariant)

pub returns : goal.returns
returns c =
    let all = joined_all c.args.digests.now c.loop-digest.digest-index c.loop-digest-test.false in
    c.finalize.ensures _ (subst (λ m. Holds256 c.loop-digest.hasher m) all c.loop-digest.invariant)

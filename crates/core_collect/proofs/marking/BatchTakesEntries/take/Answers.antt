use Rattle.std.proofs.Common.{refl, arith}
use Rattle.paged_indexes.specs.Handing.{ended_of}
use Rattle.core_collect.specs.Entries.{entry_digests}
use Rattle.core_collect.proofs.Batches.{leaves_one, passes_one, taken_one, takes_one}
use Rattle.core_collect.proofs.marking.BatchTakesEntries.take.Goals as goal

pub returns-then-self-gt0 : goal.returns-then-self-gt0
returns-then-self-gt0 c = λ base before had at.
    let e = ended_of c.args.entry.now in
    taken_one _ before e (passes_one c.args.self.now _ e (entry_digests before) (omega (arith, c.if-self-gt0.true)) refl refl had)

pub returns-in_ok-push : goal.returns-in_ok-push
returns-in_ok-push c = λ base before had at.
    let e = ended_of c.args.entry.now in
    taken_one _ before e
    (takes_one c.args.self.now _ e c.args.entry.now.digest (entry_digests before) (omega (arith, c.if-self-gt0.false)) refl (omega (arith, c.if-len.true, c.len.ensures, c.args.self.now.digests.ok.0)) c.in_ok-push.ensures.items refl had)

pub returns-else-len : goal.returns-else-len
returns-else-len c = λ base before had at.
    let e = ended_of c.args.entry.now in
    taken_one _ before e
    (leaves_one c.args.self.now _ e (entry_digests before) (omega (arith, c.if-self-gt0.false)) refl (omega (arith, c.if-len.false, c.len.ensures, c.args.self.now.digests.ok.0)) had)

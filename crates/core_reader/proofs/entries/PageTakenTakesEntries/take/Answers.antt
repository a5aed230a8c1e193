use Rattle.std.proofs.Common.{refl, arith}
use Rattle.paged_indexes.specs.Handing.{ended_of}
use Rattle.core_reader.proofs.FirstPage.{leaves_one, passes_one, takes_one}
use Rattle.core_reader.proofs.entries.PageTakenTakesEntries.take.Goals as goal

pub returns-then-self-gt0 : goal.returns-then-self-gt0
returns-then-self-gt0 c = λ base before had at.
    passes_one c.args.self.now _ before (ended_of c.args.entry.now) (omega (arith, c.if-self-gt0.true)) refl refl had

pub returns-in_ok-push : goal.returns-in_ok-push
returns-in_ok-push c = λ base before had at.
    takes_one c.args.self.now _ before c.args.entry.now (omega (arith, c.if-self-gt0.false)) refl (omega (arith, c.if-len.true, c.len.ensures, c.args.self.now.entries.ok.0)) c.in_ok-push.ensures.items had

pub returns-else-len : goal.returns-else-len
returns-else-len c = λ base before had at.
    leaves_one c.args.self.now _ before (ended_of c.args.entry.now) (omega (arith, c.if-self-gt0.false)) refl (omega (arith, c.if-len.false, c.len.ensures, c.args.self.now.entries.ok.0)) had

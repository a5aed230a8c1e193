use Rattle.std.proofs.Common.{◌∙◌, inl, sym, ap, rules, is_some, Some, arith}
use Rattle.command_line.specs.Plans.{ports_of, said_by}
use Rattle.command_line.specs.Reading.{texts}
use Rattle.pbs_server.proofs.Words.{made_asks}
use Rattle.pbs_server.proofs.asking.read_words.Goals as goal

-- there are too many sessions
pub returns-then-ports-gt-LANES : goal.returns-then-ports-gt-LANES
returns-then-ports-gt-LANES c = inl ((is_some c.in-Run.order, search rules), omega arith)

-- sessions are to be made
pub returns-in-Gen : goal.returns-in-Gen
returns-in-Gen c =
    made_asks (texts c.args.words.now) c.args.ports c.in-Gen.root c.in-Gen.n
    (c.in-Ok.ensures ∙ ap (λ p. Some (said_by p)) c.in-Gen.is)
    (ap (λ p. ports_of (said_by p)) (sym c.in-Gen.is) ∙ sym c.ports.ensures ∙ c.if-ports.false)

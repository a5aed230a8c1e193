use Rattle.std.proofs.Common.{◌≡◌, ◌∙◌, sym, subst}
use Rattle.std.specs.Prelude.{IfOk, string_bytes}
use Rattle.replay.specs.Compare.{line}
use Rattle.run_check.specs.declared.checking.Compared.{Compared}
use Rattle.pbs_server.specs.Checking.{TellsLine}
use Rattle.pbs_server.proofs.Journal.{takes_text}
use Rattle.pbs_server.proofs.checking.tell_line.Goals as goal

pub returns-in-Ok : goal.returns-in-Ok
returns-in-Ok g c =
    let wrote = c.write_all_of in
    let is_line = subst (λ w. IfOk w (λ (x : Compared). string_bytes x.line ≡ line x.unequal)) c.in-Ok.is c.requires in
    subst (λ w. TellsLine g.J.Sink c.args.journal.now wrote.new.sink w c.is_err.result) (sym c.in-Ok.is)
    (takes_text g.J.Sink c.args.journal.now wrote.new.sink (line c.in-Ok.compared.unequal) c.as_bytes.result.now wrote.result c.is_err.result
    (c.as_bytes.ensures.value ∙ is_line) c.is_err.ensures.value wrote.ensures.bytes wrote.ensures.cause)

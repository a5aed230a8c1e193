use Rattle.std.proofs.Common.{◌≡◌, rules, sym, subst}
use Rattle.wire_commands.specs.declared.command.Command.TheVariants.{Previous}
use Rattle.store_history.specs.declared.act.Act.TheVariants.{Plain}
use Rattle.core_state.specs.Tells.{ActTells}
use Rattle.core_writer.specs.WriterWords.{writer_words}
use Rattle.core_writer.proofs.Telling.{told_previous}
use Rattle.core_writer.proofs.act.perform.Goals as goal

pub returns-in-Plain-Previous-clause-tells : goal.returns-in-Plain-Previous-clause-tells
returns-in-Plain-Previous-clause-tells g c =
    let old = c.args.parts.now in
    let at = c.args.at in
    let file = c.as_slice-in-Plain-Previous.result.now in
    let offset = c.in-Plain-Previous.offset in
    let is : c.args.act ≡ Plain (Previous file offset) = search rules in
    subst (λ act. ActTells (writer_words act) g.D.Disk old c.previous.new.parts at c.previous.result) (sym is)
    (told_previous g.D.Disk old c.previous.new.parts at c.previous.result file offset c.previous.ensures.does.answers c.previous.ensures.unreadable c.previous.ensures.calls c.previous.ensures.notes)

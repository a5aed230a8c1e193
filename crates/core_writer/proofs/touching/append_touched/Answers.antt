use Rattle.std.proofs.Common.{◌∙◌, refl, sym}
use Rattle.wire_commands.specs.declared.command.Command.TheVariants.{Append}
use Rattle.store_history.specs.declared.act.Act.TheVariants.{Plain}
use Rattle.core_state.specs.declared.upkeep.Upkeep.{Upkeep}
use Rattle.core_writer.proofs.TouchLemmas.{append_touches, undone_touches}
use Rattle.core_writer.proofs.touching.append_touched.Goals as goal

pub returns-then-is_ok-clause-touches : goal.returns-then-is_ok-clause-touches
returns-then-is_ok-clause-touches g c =
    let old = c.args.upkeep.now in
    let new : Upkeep = record old { book = c.touch_all.new.book } in
    let does = c.append-ended.ensures.does in
    append_touches old new c.args.at c.args.number c.args.entries.now c.append-ended.result does.answers does.plain refl (sym c.is_ok.ensures.value ∙ c.if-is_ok.true) c.touch_all.ensures

pub returns-else-is_ok-clause-touches : goal.returns-else-is_ok-clause-touches
returns-else-is_ok-clause-touches g c =
    undone_touches c.args.upkeep.now c.args.at (Plain (Append c.args.number c.args.entries.now)) c.append-ended.result (sym c.is_ok.ensures.value ∙ c.if-is_ok.false)

use Rattle.std.proofs.Common.{◌<◌, length, refl, arith}
use Rattle.wire_commands.specs.declared.command.Command.TheVariants.{NewDynamic}
use Rattle.store_history.specs.declared.act.Act.TheVariants.{Plain}
use Rattle.core_state.specs.Named.{is_named}
use Rattle.core_state.proofs.Commanding.{unwritten_does, unwritten_leaves}
use Rattle.core_state.proofs.NamedLemmas.{list_all-set}
use Rattle.core_writer.specs.declared.archives.NewIndex.TheVariants.{Dynamic}
use Rattle.core_writer.proofs.ArchiveLemmas.{not_writing}
use Rattle.core_writer.proofs.KeepLemmas.{found_writes}
use Rattle.core_writer.proofs.SteppedLemmas.{false_true, stepped_does, stepped_leaves}
use Rattle.core_writer.proofs.archives.new_dynamic.Goals as goal

pub returns-in_err-writer-clause-does : goal.returns-in_err-writer-clause-does
returns-in_err-writer-clause-does g c =
    unwritten_does g.D.Disk c.args.parts.now c.args.at (Plain (NewDynamic c.args.name.now)) _ _ c.from_residual.ensures.1 c.requires.lane
    c.in_err-writer.ensures.value c.in_err-writer.ensures.text (λ state. refl) (λ s none. not_writing s c.args.at.lane c.args.at.moment Dynamic c.args.name.now _ none)

pub returns-in_err-writer-clause-leaves : goal.returns-in_err-writer-clause-leaves
returns-in_err-writer-clause-leaves g c =
    unwritten_leaves g.D.Disk c.args.parts.now c.args.at (Plain (NewDynamic c.args.name.now)) _ _ c.from_residual.ensures.1 c.in_err-writer.ensures.value (λ closing. absurd (false_true closing))

pub begin_index-requires-clause-writer : goal.begin_index-requires-clause-writer
begin_index-requires-clause-writer g c =
    let items = c.args.parts.now.sessions.items in
    let within : c.args.at.lane < length items = omega (arith, c.args.parts.now.lanes, c.args.parts.now.sessions.ok.0, c.requires.lane) in
    found_writes items c.args.at.lane c.index_mut-session.result.now _ within c.index_mut-session.ensures.value c.in_ok-writer.ensures.value

pub invariant_of-parts-clause-named : goal.invariant_of-parts-clause-named
invariant_of-parts-clause-named g c =
    list_all-set is_named c.args.parts.now.sessions.items c.args.at.lane c.begin_index.new.session c.args.parts.now.named (c.begin_index.ensures).named

pub returns-clause-does : goal.returns-clause-does
returns-clause-does g c =
    stepped_does g.D.Disk c.args.parts.now _ c.args.at (Plain (NewDynamic c.args.name.now)) c.index_mut-session.result.now c.begin_index.new.session c.begin_index.result
    c.requires.lane c.index_mut-session.ensures.value refl refl refl refl refl (c.begin_index.ensures)

pub returns-clause-leaves : goal.returns-clause-leaves
returns-clause-leaves g c =
    stepped_leaves g.D.Disk c.args.parts.now _ c.args.at (Plain (NewDynamic c.args.name.now)) c.index_mut-session.result.now c.begin_index.new.session c.begin_index.result
    c.requires.lane c.index_mut-session.ensures.value refl refl refl refl refl refl (λ reply. refl) refl refl refl (c.begin_index.ensures)

use Rattle.std.proofs.Common.{◌<◌, length, refl, arith}
use Rattle.wire_commands.specs.declared.command.Command.TheVariants.{Append}
use Rattle.store_history.specs.declared.act.Act.TheVariants.{Plain}
use Rattle.core_state.specs.Named.{is_named}
use Rattle.core_state.proofs.Commanding.{unwritten_does, unwritten_leaves}
use Rattle.core_state.proofs.NamedLemmas.{list_all-set}
use Rattle.core_writer.proofs.AppendLemmas.{not_writing}
use Rattle.core_writer.proofs.KeepLemmas.{found_writes}
use Rattle.core_writer.proofs.SteppedLemmas.{false_true, stepped_does, stepped_leaves}
use Rattle.core_writer.proofs.archives.append.Goals as goal

pub returns-in_err-writer-clause-does : goal.returns-in_err-writer-clause-does
returns-in_err-writer-clause-does g c =
    unwritten_does g.D.Disk c.args.parts.now c.args.at (Plain (Append c.args.number c.args.entries.now)) _ _ c.from_residual.ensures.1 c.requires
    c.in_err-writer.ensures.value c.in_err-writer.ensures.text (λ state. refl) (λ s none. not_writing s c.args.at.lane c.args.at.moment c.args.number c.args.entries.now _ none)

pub returns-in_err-writer-clause-leaves : goal.returns-in_err-writer-clause-leaves
returns-in_err-writer-clause-leaves g c =
    unwritten_leaves g.D.Disk c.args.parts.now c.args.at (Plain (Append c.args.number c.args.entries.now)) _ _ c.from_residual.ensures.1 c.in_err-writer.ensures.value (λ closing. absurd (false_true closing))

pub append_to-requires-clause-writer : goal.append_to-requires-clause-writer
append_to-requires-clause-writer g c =
    let items = c.args.parts.now.sessions.items in
    let within : c.args.at.lane < length items = omega (arith, c.args.parts.now.lanes, c.args.parts.now.sessions.ok.0, c.requires) in
    found_writes items c.args.at.lane c.index_mut-session.result.now _ within c.index_mut-session.ensures.value c.in_ok-writer.ensures.value

pub invariant_of-parts-clause-named : goal.invariant_of-parts-clause-named
invariant_of-parts-clause-named g c =
    list_all-set is_named c.args.parts.now.sessions.items c.args.at.lane c.append_to.new.session c.args.parts.now.named (c.append_to.ensures c.args.at.moment).named

pub returns-clause-does : goal.returns-clause-does
returns-clause-does g c =
    stepped_does g.D.Disk c.args.parts.now _ c.args.at (Plain (Append c.args.number c.args.entries.now)) c.index_mut-session.result.now c.append_to.new.session c.append_to.result
    c.requires c.index_mut-session.ensures.value refl refl refl refl refl (c.append_to.ensures c.args.at.moment)

pub returns-clause-leaves : goal.returns-clause-leaves
returns-clause-leaves g c =
    stepped_leaves g.D.Disk c.args.parts.now _ c.args.at (Plain (Append c.args.number c.args.entries.now)) c.index_mut-session.result.now c.append_to.new.session c.append_to.result
    c.requires c.index_mut-session.ensures.value refl refl refl refl refl refl (λ reply. refl) refl refl refl (c.append_to.ensures c.args.at.moment)

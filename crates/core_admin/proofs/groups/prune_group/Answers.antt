use Rattle.std.proofs.Common.{◌≡◌, ◌∙◌, ap, refl, Ok}
use Rattle.std.proofs.lemmas.Bool.{le-leb}
use Rattle.wire_commands.specs.declared.command.Command.TheVariants as commands
use Rattle.wire_commands.specs.declared.reply.Reply.TheVariants.{Keys}
use Rattle.store_history.specs.declared.act.Act.TheVariants.{JobGroup}
use Rattle.core_state.specs.Kept.{kept_at}
use Rattle.core_state.proofs.Commanding.{read_does, reads_none, same_kept}
use Rattle.core_state.proofs.Decided.{decided_does, decided_told}
use Rattle.core_state.proofs.Texts.{keys_has_text}
use Rattle.core_admin.specs.Listings.{texts_in, texts_of, to_prune}
use Rattle.core_admin.proofs.Told.{prune_answers, prune_is, step_refuses, step_tells, told_as}
use Rattle.core_admin.proofs.groups.prune_group.Goals as goal

pub returns-in_err-group-clause-does : goal.returns-in_err-group-clause-does
returns-in_err-group-clause-does g c =
    let parts = c.args.parts.now in
    let text = c.args.name.now in
    let keep = c.args.keep.now in
    decided_does g.D.Disk (λ group. group) (to_prune text keep) parts parts c.args.at (JobGroup (commands.Prune text keep c.args._dry)) c.in_err-group.field-0.0 _ c.from_residual.ensures.1 c.in_err-group.ensures refl (same_kept parts)
    (prune_answers text keep (kept_at parts c.args.at.lane))
    (λ s h. step_refuses s _ (to_prune text keep (kept_at parts c.args.at.lane)) (λ group. Keys (texts_in group parts.catalogue.listed)) (prune_is parts s h.shows c.args.at.lane c.args.at.moment text keep c.args._dry c.requires))

pub returns-in_err-group-clause-from_state : goal.returns-in_err-group-clause-from_state
returns-in_err-group-clause-from_state g c =
    let parts = c.args.parts.now in
    decided_told (λ group. group) (to_prune c.args.name.now c.args.keep.now) parts c.args.at.lane (λ group. Ok (Keys (texts_in group parts.catalogue.listed))) c.in_err-group.field-0.0 _ c.from_residual.ensures.1 c.in_err-group.ensures

pub returns-clause-from_state : goal.returns-clause-from_state
returns-clause-from_state g c =
    let items = c.args.parts.now.catalogue.listed in
    let texts : c.in_ok-texts.texts ≡ texts_in c.in_ok-group.group items = c.in_ok-texts.ensures.value ∙ ap texts_of c.group.ensures.value in
    told_as _ (λ group. Keys (texts_in group items)) c.in_ok-group.group _ c.in_ok-group.ensures (ap (λ t. Keys t) texts)

pub returns-clause-does : goal.returns-clause-does
returns-clause-does g c =
    let parts = c.args.parts.now in
    let text = c.args.name.now in
    let keep = c.args.keep.now in
    let texts : c.in_ok-texts.texts ≡ texts_in c.in_ok-group.group parts.catalogue.listed = c.in_ok-texts.ensures.value ∙ ap texts_of c.group.ensures.value in
    read_does g.D.Disk parts parts c.args.at (JobGroup (commands.Prune text keep c.args._dry)) _ ⊥ (reads_none g.D.Disk _ _ ⊥ refl (λ f. f)) (same_kept parts)
    (keys_has_text c.in_ok-texts.texts c.in_ok-texts.ensures.few c.in_ok-texts.ensures.short) (le-leb _ 4096 c.in_ok-texts.ensures.few) tt
    (λ s h. step_tells s _ (to_prune text keep (kept_at parts c.args.at.lane)) (λ group. Keys (texts_in group parts.catalogue.listed))
    (prune_is parts s h.shows c.args.at.lane c.args.at.moment text keep c.args._dry c.requires) c.in_ok-group.group _ c.in_ok-group.ensures (ap (λ t. Keys t) texts))

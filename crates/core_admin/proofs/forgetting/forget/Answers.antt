use Rattle.std.proofs.Common.{Ok, refl, ◌∙◌}
use Rattle.wire_commands.specs.declared.command.Command.TheVariants.{Forget}
use Rattle.wire_commands.specs.declared.reply.Reply.TheVariants.{Done}
use Rattle.store_history.specs.declared.act.Act.TheVariants.{Plain}
use Rattle.core_state.specs.Kept.{kept_at}
use Rattle.core_state.proofs.Commanding.{failed_does}
use Rattle.core_state.proofs.Decided.{decided_does, decided_told}
use Rattle.core_state.proofs.Finding.{mapped}
use Rattle.core_admin.specs.Forgotten.{to_forget}
use Rattle.core_admin.proofs.ForgetLemmas.{done_does, done_leaves, forget_answers, told_done, undone_leaves}
use Rattle.core_admin.proofs.TakenOut.{forget_refuses}
use Rattle.core_admin.proofs.forgetting.forget.Goals as goal

-- ---- refused by its tests

pub returns-in_err-target-clause-does : goal.returns-in_err-target-clause-does
returns-in_err-target-clause-does g c =
    let old = c.args.parts.now in
    let text = c.args.snapshot.now in
    decided_does g.D.Disk (λ key. key) (to_forget text) old _ c.args.at (Plain (Forget text)) c.in_err-target.field-0.0 _ c.from_residual.ensures.1 c.in_err-target.ensures.decides
    refl (record { catalogue = refl; sessions = refl; locks = refl; indexes = refl })
    (forget_answers text (kept_at old c.args.at.lane)) (λ s h. forget_refuses old s c.args.at.lane c.args.at.moment text h.shows c.requires)

pub returns-in_err-target-clause-from_state : goal.returns-in_err-target-clause-from_state
returns-in_err-target-clause-from_state g c =
    decided_told (λ key. key) (to_forget c.args.snapshot.now) c.args.parts.now c.args.at.lane (λ key. Ok Done) c.in_err-target.field-0.0 _ c.from_residual.ensures.1 c.in_err-target.ensures.decides

-- ---- the files are not removed

pub returns-in_err-forget-clause-does : goal.returns-in_err-forget-clause-does
returns-in_err-forget-clause-does g c =
    failed_does g.D.Disk c.args.parts.now _ c.args.at (Plain (Forget c.args.snapshot.now)) c.forget.result c.in_err-forget.field-0.0 _ c.from_residual-in_err-forget.ensures.1 c.in_err-forget.was
    c.forget.ensures.serves (λ short. (c.forget.ensures.unchanged short).0) (record { catalogue = refl; sessions = refl; locks = refl; indexes = refl })

pub returns-in_err-forget-clause-leaves : goal.returns-in_err-forget-clause-leaves
returns-in_err-forget-clause-leaves g c =
    let t = c.in_ok-target.target in
    let found = mapped _ _ _ c.in_ok-target.ensures.names in
    undone_leaves g.D.Disk c.args.parts.now _ c.args.at c.args.snapshot.now t.key found.0 c.deref.result.now c.in_ok-target.ensures.decides found.1 (c.deref.ensures.value ∙ found.2)
    c.forget.result c.in_err-forget.field-0.0 _ c.from_residual-in_err-forget.ensures.1 c.in_err-forget.was (record { catalogue = refl; sessions = refl; locks = refl; indexes = refl }) c.requires
    c.forget.ensures.crash (λ short. (c.forget.ensures.unchanged short).0) (λ short. (c.forget.ensures.unchanged short).1)

-- ---- the snapshot is taken out

pub returns-clause-from_state : goal.returns-clause-from_state
returns-clause-from_state g c =
    told_done c.args.snapshot.now (kept_at c.args.parts.now c.args.at.lane) c.in_ok-target.target.key c.in_ok-target.ensures.decides

pub returns-clause-does : goal.returns-clause-does
returns-clause-does g c =
    let t = c.in_ok-target.target in
    let found = mapped _ _ _ c.in_ok-target.ensures.names in
    done_does g.D.Disk c.args.parts.now _ c.args.at c.args.snapshot.now t.key found.0 c.deref.result.now c.in_ok-target.ensures.decides found.1 (c.deref.ensures.value ∙ found.2) _ c.forget.ensures.serves c.requires
    c.in_ok-target.ensures.grammar c.in_ok-forget.ensures.removed c.take_out.ensures refl refl refl

pub returns-clause-leaves : goal.returns-clause-leaves
returns-clause-leaves g c =
    let t = c.in_ok-target.target in
    let found = mapped _ _ _ c.in_ok-target.ensures.names in
    done_leaves g.D.Disk c.args.parts.now _ c.args.at c.args.snapshot.now t.key found.0 c.deref.result.now c.in_ok-target.ensures.decides found.1 (c.deref.ensures.value ∙ found.2)
    c.take_out.ensures refl refl refl c.in_ok-forget.ensures.removed c.forget.ensures.crash c.in_ok-forget.ensures.firm

use Rattle.std.proofs.Common.{◌≡◌, ◌∙◌, ap, false, true, refl, IsTrue, Ok}
use Rattle.wire_commands.specs.declared.command.Command.TheVariants as commands
use Rattle.wire_commands.specs.declared.reply.Reply.TheVariants.{Listing, Refused}
use Rattle.store_history.specs.declared.act.Act.TheVariants.{Plain}
use Rattle.core_state.specs.Heads.{after_in}
use Rattle.core_state.specs.Kept.{kept_at}
use Rattle.store_history.specs.Replies.{answers_list}
use Rattle.core_state.proofs.Commanding.{read_does, reads_none, same_kept}
use Rattle.core_state.proofs.Decided.{decided_does, decided_leaves, decided_told}
use Rattle.core_state.proofs.HeadLemmas.{after_in_refuses}
use Rattle.core_admin.specs.Listings.{rows_behind, rows_of}
use Rattle.core_admin.proofs.RowTexts.{listing_has_text}
use Rattle.core_admin.proofs.Told.{list_is, step_refuses, step_tells, told_as}
use Rattle.core_admin.proofs.listing.list.Goals as goal

never : false ≡ true → ⊥
never e = cc

pub returns-in_err-after-clause-does : goal.returns-in_err-after-clause-does
returns-in_err-after-clause-does g c =
    let parts = c.args.parts.now in
    let text = c.args.after.now in
    decided_does g.D.Disk (λ after. after) (after_in text) parts parts c.args.at (Plain (commands.List text)) c.in_err-after.field-0.0 _ c.from_residual.ensures.1 c.in_err-after.ensures.decides refl (same_kept parts)
    (after_in_refuses (λ r. IsTrue (answers_list (Refused r))) (kept_at parts c.args.at.lane) text refl)
    (λ s h. step_refuses s _ (after_in text (kept_at parts c.args.at.lane)) (λ after. Listing (rows_behind after parts.catalogue.listed)) (list_is parts s h.shows c.args.at.lane c.args.at.moment text))

pub returns-in_err-after-clause-leaves : goal.returns-in_err-after-clause-leaves
returns-in_err-after-clause-leaves g c =
    let parts = c.args.parts.now in
    decided_leaves g.D.Disk (λ after. after) (after_in c.args.after.now) parts parts c.args.at (Plain (commands.List c.args.after.now)) c.in_err-after.field-0.0 _ c.from_residual.ensures.1 c.in_err-after.ensures.decides refl (same_kept parts) never

pub returns-in_err-after-clause-from_state : goal.returns-in_err-after-clause-from_state
returns-in_err-after-clause-from_state g c =
    let parts = c.args.parts.now in
    decided_told (λ after. after) (after_in c.args.after.now) parts c.args.at.lane (λ after. Ok (Listing (rows_behind after parts.catalogue.listed))) c.in_err-after.field-0.0 _ c.from_residual.ensures.1 c.in_err-after.ensures.decides

pub returns-clause-from_state : goal.returns-clause-from_state
returns-clause-from_state g c =
    let items = c.args.parts.now.catalogue.listed in
    let rows : c.in_ok-rows.rows ≡ rows_behind c.in_ok-after.after items = c.in_ok-rows.ensures.value ∙ ap rows_of c.after.ensures.value ∙ ap (λ o. rows_behind o items) c.as_ref.ensures.value in
    told_as _ (λ after. Listing (rows_behind after items)) c.in_ok-after.after _ c.in_ok-after.ensures.decides (ap (λ r. Listing r) rows)

pub returns-clause-does : goal.returns-clause-does
returns-clause-does g c =
    let parts = c.args.parts.now in
    let items = parts.catalogue.listed in
    let text = c.args.after.now in
    let rows : c.in_ok-rows.rows ≡ rows_behind c.in_ok-after.after items = c.in_ok-rows.ensures.value ∙ ap rows_of c.after.ensures.value ∙ ap (λ o. rows_behind o items) c.as_ref.ensures.value in
    read_does g.D.Disk parts parts c.args.at (Plain (commands.List text)) _ ⊥ (reads_none g.D.Disk _ _ ⊥ refl (λ f. f)) (same_kept _)
    (listing_has_text c.in_ok-rows.rows c.in_ok-rows.ensures.few c.in_ok-rows.ensures.listable) refl tt
    (λ s h. step_tells s _ (after_in text (kept_at parts c.args.at.lane)) (λ after. Listing (rows_behind after items)) (list_is parts s h.shows c.args.at.lane c.args.at.moment text)
    c.in_ok-after.after _ c.in_ok-after.ensures.decides (ap (λ r. Listing r) rows))

use Rattle.std.proofs.Common.{◌≡◌, List, Ok, Err, length, sym, ap, subst, ◌∙◌}
use Rattle.std.specs.Prelude.{Result, MatchResult}
use Rattle.std.specs.FinMap.{entries}
use Rattle.store_stops.specs.Outcomes.{IfAnswered}
use Rattle.store_types.specs.declared.piece.Piece.{Piece}
use Rattle.store_types.specs.declared.refusal.Refusal.{Refusal}
use Rattle.store_stops.proofs.OutcomeLemmas.{refused}
use Rattle.store_model.specs.Archives.{want_entries}
use Rattle.backup_session.specs.Answers.{TellsPieces}
use Rattle.backup_session.specs.Indexes.{layout_view}
use Rattle.backup_session.specs.Steps.{pieces_for as pieces_of}
use Rattle.backup_session.proofs.StateSteps.{for_refused, for_passed, entries_room, fits_told}
use Rattle.backup_session.proofs.entries.pieces_for.Goals as goal

pub returns-in_err-want_entries-clause-exact : goal.returns-in_err-want_entries-clause-exact
returns-in_err-want_entries-clause-exact c =
    let refusal = c.in_err-want_entries.field-0.0 in
    refused (TellsPieces (pieces_of (entries c.args.pool.now) c.args.index.now c.args.entries.now)) c.from_residual.result refusal c.from_residual.ensures.1
    (for_refused (entries c.args.pool.now) c.args.index.now c.args.entries.now refusal
    (ap (λ n. want_entries n (length c.args.entries.now)) (sym c.len.ensures) ∙ sym c.want_entries.ensures.value ∙ c.in_err-want_entries.was))

pub returns-clause-exact : goal.returns-clause-exact
returns-clause-exact c =
    let passed : want_entries c.len.result (length c.args.entries.now) ≡ Ok tt = sym c.want_entries.ensures.value ∙ c.in_ok-want_entries.was in
    let told = for_passed (entries c.args.pool.now) c.args.index.now c.args.entries.now tt (layout_view c.layout.result) c.end.result
    (ap (λ n. want_entries n (length c.args.entries.now)) (sym c.len.ensures) ∙ passed) c.layout.ensures c.end.ensures.value in
    subst (λ (r : Result (List Piece) Refusal). IfAnswered c.pieces_named.result (λ t. MatchResult t (λ pieces. r ≡ Ok pieces.items) (λ refusal. r ≡ Err refusal))) told c.pieces_named.ensures.exact

pub returns-clause-fits : goal.returns-clause-fits
returns-clause-fits c =
    let passed : want_entries c.len.result (length c.args.entries.now) ≡ Ok tt = sym c.want_entries.ensures.value ∙ c.in_ok-want_entries.was in
    fits_told (λ pieces. pieces.items) (entries c.args.pool.now) c.args.index.now c.args.entries.now (layout_view c.layout.result) c.end.result c.requires
    (entries_room _ _ tt (ap (λ n. want_entries n (length c.args.entries.now)) (sym c.len.ensures) ∙ passed)) c.layout.ensures c.end.ensures.value c.pieces_named.result c.pieces_named.ensures.exact

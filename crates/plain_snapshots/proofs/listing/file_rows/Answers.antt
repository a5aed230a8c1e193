use Rattle.std.proofs.Common.{◌∙◌, List, map, ap, sym, subst, length, arith}
use Rattle.std.specs.Prelude.{All, option_map}
use Rattle.std.proofs.lemmas.List.{length_push}
use Rattle.std.proofs.lemmas.List.Elements.{All-push}
use Rattle.wire_commands.specs.declared.rows.FileRow.{FileRow}
use Rattle.wire_commands.specs.HasText.{FitsFileRow}
use Rattle.manifest.specs.declared.facts.FileFact.{FileFact}
use Rattle.manifest.specs.Views.{fact_view}
use Rattle.store_model.specs.AdminSteps.{file_row, fact_shown}
use Rattle.plain_snapshots.proofs.Telling.{rows_pushed, rows_kept}
use Rattle.plain_snapshots.proofs.listing.file_rows.Goals as goal
use Rattle.plain_snapshots.proofs.listing.file_rows.Goals.{in-Some+in_ok-push, in_default}

pub loop-file-preserved : goal.loop-file-preserved
loop-file-preserved c =
    let facts = map fact_view c.in_ok-facts.facts.items in
    let files = c.args.files.now in
    let i = c.loop-file.file-index in
    let x = c.file-item.result in
    let rows = c.loop-file.rows.items in
    let so_far = c.loop-file.invariant in
    let told = c.in_ok-row.ensures.row ∙ ap (λ (l : List FileFact). option_map file_row (fact_shown (map fact_view l) x)) c.deref.ensures.value in
    elim c.match-branch-3.branch [
      | in-Some+in_ok-push w ↦
          let row = w.in-Some.row in
          let is = ap (λ v. v.items) w.rows-is in
          let pushed = is ∙ w.in_ok-push.ensures.items in
          let fits = (rw w.in-Some.is at c.in_ok-row.ensures.fits) in (
            rows_pushed (fact_shown facts) files i x (omega arith) c.file-item.is rows c.match-branch-3.rows.items row so_far.0 (sym w.in-Some.is ∙ told) pushed,
            subst (λ (l : List FileRow). All FitsFileRow l) (sym pushed) (All-push FitsFileRow rows row so_far.1 fits),
            omega (arith, ap length pushed, length_push rows row, so_far.2),
          )
      | in_default w ↦
          let is = ap (λ v. v.items) w.rows-is in (
            is ∙ rows_kept (fact_shown facts) files i x (omega arith) c.file-item.is rows so_far.0 (sym w.in_default.is ∙ told),
            subst (λ (l : List FileRow). All FitsFileRow l) (sym is) so_far.1,
            omega (arith, ap length is, so_far.2),
          )
    ]

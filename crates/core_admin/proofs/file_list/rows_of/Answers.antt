use Rattle.std.proofs.Common.{◌∙◌, List, map, ap, sym, subst, length, arith}
use Rattle.std.proofs.lemmas.List.{length_push}
use Rattle.std.proofs.lemmas.List.Elements.{All-push}
use Rattle.std.specs.List.{All}
use Rattle.wire_commands.specs.declared.rows.FileRow.{FileRow}
use Rattle.manifest.specs.Views.{fact_view}
use Rattle.core_admin.specs.FilesTold.{IsFileRow}
use Rattle.core_admin.proofs.FactRows.{rows_pushed, rows_kept}
use Rattle.core_admin.proofs.file_list.rows_of.Goals as goal
use Rattle.core_admin.proofs.file_list.rows_of.Goals.{in-Some+in_ok-push, in_default}

pub loop-file-preserved : goal.loop-file-preserved
loop-file-preserved c =
    let bytes = c.args.bytes.now in
    let facts = map fact_view c.args.listed.now in
    let files = c.args.files.now in
    let i = c.loop-file.file-index in
    let x = c.file-item.result in
    let rows = c.loop-file.rows.items in
    let so_far = c.loop-file.invariant in
    let told = c.in_ok-row.ensures.value in
    elim c.match-branch-2.branch [
      | in-Some+in_ok-push w ↦
          let row = w.in-Some.row in
          let pushed = ap (λ v. v.items) w.rows-is ∙ w.in_ok-push.ensures.items in
          let fits = (rw w.in-Some.is at c.in_ok-row.ensures.fits) in
          record {
            found = rows_pushed bytes facts files i x (omega arith) c.file-item.is rows c.match-branch-2.rows.items row so_far.found (sym w.in-Some.is ∙ told) pushed;
            few = omega (arith, ap length pushed, length_push rows row, so_far.few);
            fit = subst (λ (l : List FileRow). All IsFileRow l) (sym pushed) (All-push IsFileRow rows row so_far.fit fits);
          }
      | in_default w ↦
          let is = ap (λ v. v.items) w.rows-is in
          record {
            found = is ∙ rows_kept bytes facts files i x (omega arith) c.file-item.is rows so_far.found (sym w.in_default.is ∙ told);
            few = omega (arith, ap length is, so_far.few);
            fit = subst (λ (l : List FileRow). All IsFileRow l) (sym is) so_far.fit;
          }
    ]

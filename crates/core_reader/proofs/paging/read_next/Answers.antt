use Rattle.std.proofs.Common.{IsTrue, Vec, refl, sym, subst}
use Rattle.std.specs.declared.alloc.Global.{Global}
use Rattle.store_files.specs.DynamicIndex.{steps_fit}
use Rattle.paged_indexes.specs.declared.kinds.IndexEntry.{IndexEntry}
use Rattle.restore_reader.specs.Plan.{ends_of}
use Rattle.snapshot_files.specs.Indexes.{page_entries}
use Rattle.core_state.specs.declared.pages.ReadPage.{ReadPage}
use Rattle.core_reader.proofs.Loads.{handed_unrefused}
use Rattle.core_reader.proofs.PageReads.{kept_fit, stops_as}
use Rattle.core_reader.proofs.paging.read_next.Goals as goal

pub invariant_of-result : goal.invariant_of-result
invariant_of-result g c = record {
  steps = subst (λ s. IsTrue (steps_fit s (ends_of c.in_ok-entries.entries.items))) (sym c.start.ensures)
      (kept_fit c.args.pages.now c.args.i (ends_of c.in_ok-entries.entries.items) c.in_ok-entries.ensures.kept);
}

pub returns-in_err-entries-clause-exact : goal.returns-in_err-entries-clause-exact
returns-in_err-entries-clause-exact g c = λ h.
    stops_as {A = Vec IndexEntry Global} {B = ReadPage} (λ es. ends_of es.items) (λ x. ends_of x.entries.items) (page_entries (g.D.Disk.content c.args.disk.now) c.args.path.now c.args.pages.now c.args.i)
    _ _ c.from_residual.ensures.1 (c.in_err-entries.ensures.exact h)

pub returns-in_err-entries-clause-whole : goal.returns-in_err-entries-clause-whole
returns-in_err-entries-clause-whole g c = λ h whole. handed_unrefused _ _ c.from_residual.ensures.1 (c.in_err-entries.ensures.whole h whole)

pub returns-clause-page : goal.returns-clause-page
returns-clause-page g c = record { number = refl; start = c.start.ensures; spelled = c.in_ok-entries.ensures.kept }

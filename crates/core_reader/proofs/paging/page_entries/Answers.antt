use Rattle.std.proofs.Common.{◌≡◌, ◌∙◌, [], Ok, Vec, map, refl, sym, ap}
use Rattle.std.specs.declared.alloc.Global.{Global}
use Rattle.paged_indexes.specs.declared.kinds.IndexEntry.{IndexEntry}
use Rattle.paged_indexes.specs.Handing.{ended_of}
use Rattle.paged_indexes.specs.Index.{start_by}
use Rattle.restore_reader.specs.Plan.{ends_of}
use Rattle.core_reader.specs.declared.paging.PageEntries.{PageEntries}
use Rattle.core_reader.proofs.PageReads.{page_stop, page_unrefused}
use Rattle.core_reader.proofs.paging.page_entries.Goals as goal

pub returns-in_err-read_page-clause-exact : goal.returns-in_err-read_page-clause-exact
returns-in_err-read_page-clause-exact g c = λ h.
    page_stop {A = Vec IndexEntry Global} {T = PageEntries} ((g.D.Disk).content c.args.disk.now) c.args.path.now c.args.pages.now c.args.i (λ e base entries. ends_of e.items.items ≡ entries)
    (record { items = c.new.result }) c.read_page.new.taker _ (λ (es : Vec IndexEntry Global). ends_of es.items) _ c.from_residual.ensures.1 (c.in_err-read_page.ensures.exact h)

pub returns-in_err-read_page-clause-whole : goal.returns-in_err-read_page-clause-whole
returns-in_err-read_page-clause-whole g c = λ h whole.
    page_unrefused {A = Vec IndexEntry Global} (λ (es : Vec IndexEntry Global). ends_of es.items) ((g.D.Disk).content c.args.disk.now) c.args.path.now c.args.pages.now c.args.i _ whole c.requires.place
    (page_stop {A = Vec IndexEntry Global} {T = PageEntries} ((g.D.Disk).content c.args.disk.now) c.args.path.now c.args.pages.now c.args.i (λ e base entries. ends_of e.items.items ≡ entries)
    (record { items = c.new.result }) c.read_page.new.taker _ (λ (es : Vec IndexEntry Global). ends_of es.items) _ c.from_residual.ensures.1 (c.in_err-read_page.ensures.exact h))

pub returns-clause-exact : goal.returns-clause-exact
returns-clause-exact g c = λ h.
    let x = c.in_ok-read_page.ensures.exact h in
    x.read ∙ ap Ok (sym (x.hands (start_by c.args.pages.now c.args.i) [] (ap (map ended_of) c.new.ensures.items) refl))

pub returns-clause-kept : goal.returns-clause-kept
returns-clause-kept g c =
    let x = c.in_ok-read_page.ensures.kept in
    record {
      bytes = x.bytes;
      kept = x.kept;
      told = (x.hands).told_is ∙ ap Ok (sym ((x.hands).hands (start_by c.args.pages.now c.args.i) [] (ap (map ended_of) c.new.ensures.items) refl));
    }

use Rattle.std.proofs.Common.{◌≡◌, Ok, Err, inr, ap, subst, ◌∙◌, rules, arith}
use Rattle.std.specs.FinMap.{get}
use Rattle.store_stops.specs.Stops.{Gives}
use Rattle.paged_indexes.specs.declared.index.IndexPages.{IndexPages}
use Rattle.snapshot_files.specs.Indexes.{index_opened}
use Rattle.snapshot_files.specs.Parts.{part_reply}
use Rattle.disk_trait.proofs.OnlyReading.{reads_then}
use Rattle.snapshot_files.proofs.Calling.{read_and_opened}
use Rattle.snapshot_files.proofs.Opened.{is_read, ok_unfailed, open_stops, part_stops}
use Rattle.snapshot_files.proofs.index.read_index.Goals as goal

pub returns-in_err-part-clause-exact : goal.returns-in_err-part-clause-exact
returns-in_err-part-clause-exact g c = let d = g.D.Disk in λ h.
    part_stops (d.content c.args.disk.now) c.args.path.now c.args.kind c.args.offset g.T.TakesEntries.taken c.args.taker.now c.args.taker.now c.in_err-part.field-0.0 _
    c.from_residual.ensures.1 (c.in_err-part.ensures.exact h)

pub returns-in_err-pages-clause-reads : goal.returns-in_err-pages-clause-reads
returns-in_err-pages-clause-reads g c = reads_then g.D.Disk _ _ _ _ _ _ c.read_part.ensures.reads c.open_index.ensures.reads (λ f. inr (search rules))

pub returns-in_err-pages-clause-exact : goal.returns-in_err-pages-clause-exact
returns-in_err-pages-clause-exact g c = let d = g.D.Disk in λ h.
    let reads = c.read_part.ensures.reads in
    open_stops (d.content c.args.disk.now) c.args.path.now c.args.kind c.args.offset g.T.TakesEntries.taken c.args.taker.now c.open_index.new.taker c.in_err-pages.field-0.0 _ (part_reply c.in_ok-part.part)
    c.from_residual-in_err-pages.ensures.1 (c.in_ok-part.ensures.exact h)
    (subst (λ m. Gives {A = IndexPages} (λ x. x) (Err c.in_err-pages.field-0.0) (index_opened m c.args.path.now c.args.kind)) (reads.same h) (c.in_err-pages.ensures.exact (reads.serves.kept.0 h)))

pub returns-clause-reads : goal.returns-clause-reads
returns-clause-reads g c = reads_then g.D.Disk _ _ _ _ _ _ c.read_part.ensures.reads c.open_index.ensures.reads (λ f. absurd (ok_unfailed _ f))

pub returns-clause-exact : goal.returns-clause-exact
returns-clause-exact g c = let d = g.D.Disk in λ h.
    let reads = c.read_part.ensures.reads in
    let safe = reads.serves.kept.0 h in
    is_read (d.content c.args.disk.now) c.args.path.now c.args.kind c.args.offset g.T.TakesEntries.taken c.args.taker.now c.open_index.new.taker
    (record { part = c.in_ok-part.part; pages = c.in_ok-pages.pages }) (c.in_ok-part.ensures.exact h)
    (subst (λ m. index_opened m c.args.path.now c.args.kind ≡ Ok c.in_ok-pages.pages) (reads.same h) (c.in_ok-pages.ensures.exact safe))
    (λ text entries there is. c.in_ok-pages.ensures.those safe text entries (ap (λ m. get m c.args.path.now) (reads.same h) ∙ there) is)

pub returns-in_err-part-clause-calls : goal.returns-in_err-part-clause-calls
returns-in_err-part-clause-calls g c = λ h. let calls = c.read_part.ensures.calls h in omega (arith, calls)

pub returns-in_err-pages-clause-calls : goal.returns-in_err-pages-clause-calls
returns-in_err-pages-clause-calls g c = read_and_opened g.D.Disk _ _ _ c.args.path.now c.args.kind _ c.read_part.ensures.reads c.read_part.ensures.calls c.open_index.ensures.calls

pub returns-clause-calls : goal.returns-clause-calls
returns-clause-calls g c = read_and_opened g.D.Disk _ _ _ c.args.path.now c.args.kind _ c.read_part.ensures.reads c.read_part.ensures.calls c.open_index.ensures.calls

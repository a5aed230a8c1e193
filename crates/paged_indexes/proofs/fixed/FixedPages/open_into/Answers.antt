use Rattle.std.proofs.Common.{◌≡◌, List, ℕ, Option, Some, Result, Ok, true, false, inl, inr, drop, refl, sym, ap, ap₂, subst, ◌∙◌, rules}
use Rattle.std.specs.FinMap.{get}
use Rattle.store_files.specs.declared.causes.IndexFault.TheVariants.{Csum}
use Rattle.store_files.specs.FixedIndex.{fixed_of, magic}
use Rattle.index_pages.specs.declared.fault.PageFault.{PageFault}
use Rattle.index_pages.specs.declared.fault.PageFault.TheVariants.{BadIndex}
use Rattle.index_pages.specs.declared.head.Head.{Head}
use Rattle.index_pages.specs.Gives.{Gives}
use Rattle.index_pages.specs.Opening.{front_in, opened_by}
use Rattle.index_pages.proofs.Carried.{by_err, ok_not, short_not_failed, told_not_failed}
use Rattle.index_pages.proofs.Filled.{gives_err, gives_told}
use Rattle.disk_trait.proofs.OnlyReading.{reads_then}
use Rattle.index_pages.proofs.Opened.{has_count, has_front, no_count, no_front}
use Rattle.store_files.specs.Cells.{cells}
use Rattle.store_files.specs.FixedIndex.{is_chunk_size, piece_count}
use Rattle.std.specs.Prelude.{◌==◌}
use Rattle.std.proofs.lemmas.Bool.{and_parts, eqb-true}
use Rattle.index_pages.specs.Paged.{Paged}
use Rattle.paged_indexes.specs.Fixed.{FixedPaged, HasSizes, fixed_ends_from, fixed_entries, fixed_paged, opened}
use Rattle.paged_indexes.specs.Handing.{HandsOn}
use Rattle.paged_indexes.proofs.Handed.{same_some}
use Rattle.paged_indexes.proofs.Opened.{bad_sizes, chunk_size_is, fixed_by, fixed_paged_is, fixed_rest, fixed_summed, no_fixed_body, size_is, sizes_are}
use Rattle.paged_indexes.proofs.Spelled.{fixed_some}
use Rattle.index_pages.proofs.Calling.{calls_head, calls_open}
use Rattle.paged_indexes.proofs.fixed.FixedPages.open_into.Goals as goal

abbrev itself : FixedPaged → FixedPaged
itself p = p

abbrev opened_in : List ℕ → Option (List ℕ) → Result FixedPaged PageFault
opened_in name o = opened_by fixed_of (fixed_paged name) o

pub returns-in_err-head-clause-exact : goal.returns-in_err-head-clause-exact
unfolding opened
returns-in_err-head-clause-exact g c = let d = g.D.Disk in λ h.
    let name = c.args.name.now in
    let o = get (d.content c.args.disk.now) name in
    by_err c.from_residual-in_err-head.result c.in_err-head.field-0.0 (λ r. Gives itself r (opened_in name o)) c.from_residual-in_err-head.ensures.1
    (gives_err {A = Head} {B = ℕ × List ℕ} {C = FixedPaged} {E = FixedPaged} (λ (x : Head). (x.size, x.front)) itself c.in_err-head.field-0.0 (front_in o) (opened_in name o) (c.in_err-head.ensures.exact h)
    (no_front magic 32 fixed_of fixed_rest (fixed_paged name) fixed_by o c.in_err-head.field-0.0))

pub returns-in_err-count-clause-exact : goal.returns-in_err-count-clause-exact
unfolding opened
returns-in_err-count-clause-exact g c = let d = g.D.Disk in λ h.
    let name = c.args.name.now in
    let o = get (d.content c.args.disk.now) name in
    let f = has_front o c.in_ok-head.head (c.in_ok-head.ensures.exact h) in
    by_err c.from_residual-in_err-count.result c.in_err-count.field-0.0 (λ r. Gives itself r (opened_in name o)) c.from_residual-in_err-count.ensures.1
    (gives_told itself c.in_err-count.field-0.0 (opened_in name o)
    (ap (opened_in name) f.there
    ∙ no_count magic 32 fixed_of fixed_rest (fixed_paged name) fixed_by f.text c.in_ok-head.head c.in_err-count.field-0.0 f.size f.front f.long c.in_err-count.ensures.exact))

pub returns-in_err-body-clause-reads : goal.returns-in_err-body-clause-reads
returns-in_err-body-clause-reads g c = reads_then g.D.Disk _ _ _ _ _ _ c.read_head.ensures.reads c.read_body.ensures.reads (λ f. inr (search rules))

pub returns-in_err-body-clause-exact : goal.returns-in_err-body-clause-exact
unfolding opened
returns-in_err-body-clause-exact g c = let d = g.D.Disk in λ h.
    let name = c.args.name.now in
    let o = get (d.content c.args.disk.now) name in
    let f = has_front o c.in_ok-head.head (c.in_ok-head.ensures.exact h) in
    let n = has_count magic 32 fixed_of fixed_rest (fixed_paged name) fixed_by (inl refl) f.text c.in_ok-head.head c.in_ok-count.count f.size f.front f.long c.in_ok-count.ensures.exact in
    let reads = c.read_head.ensures.reads in
    let there : get (d.content c.read_head.new.disk) name ≡ Some f.text = ap (λ x. get x name) (reads.same h) ∙ f.there in
    let b = c.in_err-body.ensures.exact (reads.serves.kept.0 h) f.text there n.len in
    by_err c.from_residual-in_err-body.result c.in_err-body.field-0.0 (λ r. Gives itself r (opened_in name o)) c.from_residual-in_err-body.ensures.1
    (no_fixed_body itself (drop 4096 f.text) c.in_ok-count.count c.in_err-body.field-0.0 (opened_in name o) b)

pub returns-then-not-has_sizes-clause-exact : goal.returns-then-not-has_sizes-clause-exact
unfolding opened
returns-then-not-has_sizes-clause-exact g c = let d = g.D.Disk in λ h.
    let name = c.args.name.now in
    let f = has_front (get (d.content c.args.disk.now) name) c.in_ok-head.head (c.in_ok-head.ensures.exact h) in
    let n = has_count magic 32 fixed_of fixed_rest (fixed_paged name) fixed_by (inl refl) f.text c.in_ok-head.head c.in_ok-count.count f.size f.front f.long c.in_ok-count.ensures.exact in
    let size = c.number_at-size.ensures ∙ size_is f.text c.in_ok-head.head.front f.front in
    let chunk_size = c.number_at-chunk_size.ensures ∙ chunk_size_is f.text c.in_ok-head.head.front f.front in
    let sizes = sizes_are f.text c.number_at-size.result c.number_at-chunk_size.result c.in_ok-count.count size chunk_size n.len ∙ sym c.if-not-has_sizes.ensures in
    ap (opened_in name) f.there ∙ bad_sizes (fixed_paged name) f.text n.by_rest sizes

pub returns-then-not-has_csum-clause-reads : goal.returns-then-not-has_csum-clause-reads
returns-then-not-has_csum-clause-reads g c =
    reads_then g.D.Disk _ _ _ _ _ _ c.read_head.ensures.reads c.read_body.ensures.reads (λ f. absurd (told_not_failed FixedPaged (BadIndex Csum) tt f))

pub returns-then-not-has_csum-clause-exact : goal.returns-then-not-has_csum-clause-exact
unfolding opened
returns-then-not-has_csum-clause-exact g c = let d = g.D.Disk in λ h.
    let name = c.args.name.now in
    let f = has_front (get (d.content c.args.disk.now) name) c.in_ok-head.head (c.in_ok-head.ensures.exact h) in
    let n = has_count magic 32 fixed_of fixed_rest (fixed_paged name) fixed_by (inl refl) f.text c.in_ok-head.head c.in_ok-count.count f.size f.front f.long c.in_ok-count.ensures.exact in
    let reads = c.read_head.ensures.reads in
    let there : get (d.content c.read_head.new.disk) name ≡ Some f.text = ap (λ x. get x name) (reads.same h) ∙ f.there in
    let b = c.in_ok-body.ensures.exact (reads.serves.kept.0 h) f.text there n.len in
    let size = c.number_at-size.ensures ∙ size_is f.text c.in_ok-head.head.front f.front in
    let chunk_size = c.number_at-chunk_size.ensures ∙ chunk_size_is f.text c.in_ok-head.head.front f.front in
    let sizes = sizes_are f.text c.number_at-size.result c.number_at-chunk_size.result c.in_ok-count.count size chunk_size n.len ∙ sym c.if-not-has_sizes.ensures in
    ap (opened_in name) f.there
    ∙ fixed_summed (fixed_paged name) f.text c.in_ok-head.head.front c.in_ok-count.count c.in_ok-body.body false f.front n.len n.by_rest sizes b (sym c.if-not-has_csum.ensures)

pub returns-in_err-pages-clause-reads : goal.returns-in_err-pages-clause-reads
returns-in_err-pages-clause-reads g c =
    reads_then g.D.Disk _ _ _ _ _ _ c.read_head.ensures.reads c.read_body.ensures.reads (λ f. absurd (short_not_failed _ c.from_residual-in_err-pages.ensures.1 f))

pub returns-clause-reads : goal.returns-clause-reads
returns-clause-reads g c = reads_then g.D.Disk _ _ _ _ _ _ c.read_head.ensures.reads c.read_body.ensures.reads (λ f. absurd (ok_not _ _ f))

pub returns-clause-exact : goal.returns-clause-exact
unfolding opened
returns-clause-exact g c = let d = g.D.Disk in λ h.
    let name = c.args.name.now in
    let f = has_front (get (d.content c.args.disk.now) name) c.in_ok-head.head (c.in_ok-head.ensures.exact h) in
    let n = has_count magic 32 fixed_of fixed_rest (fixed_paged name) fixed_by (inl refl) f.text c.in_ok-head.head c.in_ok-count.count f.size f.front f.long c.in_ok-count.ensures.exact in
    let reads = c.read_head.ensures.reads in
    let there : get (d.content c.read_head.new.disk) name ≡ Some f.text = ap (λ x. get x name) (reads.same h) ∙ f.there in
    let b = c.in_ok-body.ensures.exact (reads.serves.kept.0 h) f.text there n.len in
    let size = c.number_at-size.ensures ∙ size_is f.text c.in_ok-head.head.front f.front in
    let chunk_size = c.number_at-chunk_size.ensures ∙ chunk_size_is f.text c.in_ok-head.head.front f.front in
    let sizes = sizes_are f.text c.number_at-size.result c.number_at-chunk_size.result c.in_ok-count.count size chunk_size n.len ∙ sym c.if-not-has_sizes.ensures in
    ap (opened_in name) f.there
    ∙ fixed_summed (fixed_paged name) f.text c.in_ok-head.head.front c.in_ok-count.count c.in_ok-body.body true f.front n.len n.by_rest sizes b (sym c.if-not-has_csum.ensures)
    ∙ ap Ok (sym (fixed_paged_is name f.text c.number_at-size.result c.number_at-chunk_size.result c.in_ok-count.count c.in_ok-body.body c.in_ok-pages.pages c.in_ok-pages.ensures n.counted b size chunk_size))

pub returns-clause-those : goal.returns-clause-those
returns-clause-those g c = let d = g.D.Disk in λ h text at.
    let name = c.args.name.now in
    let f = has_front (get (d.content c.args.disk.now) name) c.in_ok-head.head (c.in_ok-head.ensures.exact h) in
    let n = has_count magic 32 fixed_of fixed_rest (fixed_paged name) fixed_by (inl refl) f.text c.in_ok-head.head c.in_ok-count.count f.size f.front f.long c.in_ok-count.ensures.exact in
    let reads = c.read_head.ensures.reads in
    let there : get (d.content c.read_head.new.disk) name ≡ Some f.text = ap (λ x. get x name) (reads.same h) ∙ f.there in
    let size = c.number_at-size.ensures ∙ size_is f.text c.in_ok-head.head.front f.front in
    let chunk_size = c.number_at-chunk_size.ensures ∙ chunk_size_is f.text c.in_ok-head.head.front f.front in
    let taken = g.T.TakesEntries.taken in
    subst (λ t. HandsOn taken 0 (fixed_entries t) c.args.taker.now c.read_body.new.taker) (same_some f.text text (sym f.there ∙ at))
    (subst (λ es. HandsOn taken 0 es c.args.taker.now c.read_body.new.taker)
    (ap₂ (λ s k. fixed_ends_from s k 0 (cells 32 (drop 4096 f.text))) size chunk_size)
    (c.in_ok-body.ensures.those (reads.serves.kept.0 h) f.text there n.len))

pub invariant_of-result : goal.invariant_of-result
invariant_of-result g c =
    let size = c.number_at-size.result in
    let chunk_size = c.number_at-chunk_size.result in
    let both = and_parts (is_chunk_size chunk_size) (c.in_ok-count.count == piece_count size chunk_size) (sym c.if-not-has_sizes.ensures) in
    subst (λ (p : Paged). HasSizes p size chunk_size) (sym c.in_ok-pages.ensures)
    (record { width = refl; limit = c.in_ok-count.ensures.limit; allowed = both.0; pieces = eqb-true _ _ both.1 })

pub returns-clause-some : goal.returns-clause-some
returns-clause-some g c =
    fixed_some g.T.TakesEntries.taken c.args.name.now c.args.taker.now c.read_body.new.taker c.number_at-size.result c.number_at-chunk_size.result c.in_ok-count.count c.in_ok-body.body
    c.in_ok-pages.pages c.in_ok-pages.ensures c.in_ok-count.ensures.limit (sym c.if-not-has_sizes.ensures) c.in_ok-body.ensures.some

pub of-requires-clause-bytes : goal.of-requires-clause-bytes
of-requires-clause-bytes g c =
    let some = c.in_ok-body.ensures.some in
    record { body = some.body; whole = some.len; sums = (some.is).sums }

pub returns-in_err-head-clause-calls : goal.returns-in_err-head-clause-calls
returns-in_err-head-clause-calls g c = calls_head g.D.Disk _ _ 32 (get (g.D.Disk.content c.args.disk.now) c.args.name.now) c.read_head.ensures.calls

pub returns-in_err-count-clause-calls : goal.returns-in_err-count-clause-calls
returns-in_err-count-clause-calls g c = calls_head g.D.Disk _ _ 32 (get (g.D.Disk.content c.args.disk.now) c.args.name.now) c.read_head.ensures.calls

pub returns-then-not-has_sizes-clause-calls : goal.returns-then-not-has_sizes-clause-calls
returns-then-not-has_sizes-clause-calls g c = calls_head g.D.Disk _ _ 32 (get (g.D.Disk.content c.args.disk.now) c.args.name.now) c.read_head.ensures.calls

pub returns-in_err-body-clause-calls : goal.returns-in_err-body-clause-calls
returns-in_err-body-clause-calls g c = let d = g.D.Disk in λ h.
    let name = c.args.name.now in
    let o = get (d.content c.args.disk.now) name in
    let f = has_front o c.in_ok-head.head (c.in_ok-head.ensures.exact h) in
    let n = has_count magic 32 fixed_of fixed_rest (fixed_paged name) fixed_by (inl refl) f.text c.in_ok-head.head c.in_ok-count.count f.size f.front f.long c.in_ok-count.ensures.exact in
    calls_open d _ _ _ 32 c.in_ok-count.count o f.text f.there n.counted c.read_head.ensures.reads.serves.kept.0 c.read_head.ensures.calls c.read_body.ensures.calls h

pub returns-then-not-has_csum-clause-calls : goal.returns-then-not-has_csum-clause-calls
returns-then-not-has_csum-clause-calls g c = let d = g.D.Disk in λ h.
    let name = c.args.name.now in
    let o = get (d.content c.args.disk.now) name in
    let f = has_front o c.in_ok-head.head (c.in_ok-head.ensures.exact h) in
    let n = has_count magic 32 fixed_of fixed_rest (fixed_paged name) fixed_by (inl refl) f.text c.in_ok-head.head c.in_ok-count.count f.size f.front f.long c.in_ok-count.ensures.exact in
    calls_open d _ _ _ 32 c.in_ok-count.count o f.text f.there n.counted c.read_head.ensures.reads.serves.kept.0 c.read_head.ensures.calls c.read_body.ensures.calls h

pub returns-in_err-pages-clause-calls : goal.returns-in_err-pages-clause-calls
returns-in_err-pages-clause-calls g c = let d = g.D.Disk in λ h.
    let name = c.args.name.now in
    let o = get (d.content c.args.disk.now) name in
    let f = has_front o c.in_ok-head.head (c.in_ok-head.ensures.exact h) in
    let n = has_count magic 32 fixed_of fixed_rest (fixed_paged name) fixed_by (inl refl) f.text c.in_ok-head.head c.in_ok-count.count f.size f.front f.long c.in_ok-count.ensures.exact in
    calls_open d _ _ _ 32 c.in_ok-count.count o f.text f.there n.counted c.read_head.ensures.reads.serves.kept.0 c.read_head.ensures.calls c.read_body.ensures.calls h

pub returns-clause-calls : goal.returns-clause-calls
returns-clause-calls g c = let d = g.D.Disk in λ h.
    let name = c.args.name.now in
    let o = get (d.content c.args.disk.now) name in
    let f = has_front o c.in_ok-head.head (c.in_ok-head.ensures.exact h) in
    let n = has_count magic 32 fixed_of fixed_rest (fixed_paged name) fixed_by (inl refl) f.text c.in_ok-head.head c.in_ok-count.count f.size f.front f.long c.in_ok-count.ensures.exact in
    calls_open d _ _ _ 32 c.in_ok-count.count o f.text f.there n.counted c.read_head.ensures.reads.serves.kept.0 c.read_head.ensures.calls c.read_body.ensures.calls h

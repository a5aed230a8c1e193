use Rattle.std.proofs.Common.{◌≡◌, List, ℕ, Option, Some, Result, Ok, Err, true, false, inr, refl, sym, ap, subst, ◌∙◌, rules}
use Rattle.std.specs.FinMap.{get}
use Rattle.store_files.specs.declared.causes.IndexFault.TheVariants.{Csum}
use Rattle.store_files.specs.DynamicIndex.{dynamic_of, magic}
use Rattle.index_pages.specs.declared.fault.PageFault.{PageFault}
use Rattle.index_pages.specs.declared.fault.PageFault.TheVariants.{BadIndex}
use Rattle.index_pages.specs.declared.head.Head.{Head}
use Rattle.index_pages.specs.Gives.{Gives}
use Rattle.index_pages.specs.Opening.{front_in, opened_by}
use Rattle.index_pages.specs.Paged.{Paged}
use Rattle.index_pages.proofs.Carried.{by_err, ok_not, short_not_failed, told_not_failed}
use Rattle.index_pages.proofs.Filled.{gives_err, gives_told}
use Rattle.disk_trait.proofs.OnlyReading.{reads_then}
use Rattle.index_pages.proofs.Opened.{has_count, has_front, no_count, no_front}
use Rattle.paged_indexes.specs.Dynamic.{DynamicPaged, HasEnds, dynamic_entries, dynamic_paged, opened}
use Rattle.paged_indexes.specs.Handing.{HandsOn}
use Rattle.paged_indexes.proofs.Handed.{same_some}
use Rattle.paged_indexes.proofs.Opened.{dynamic_by, dynamic_rest, no_body, paged_is, summed}
use Rattle.paged_indexes.proofs.Spelled.{dynamic_some}
use Rattle.index_pages.proofs.Calling.{calls_head, calls_open}
use Rattle.paged_indexes.proofs.dynamic.DynamicPages.open_into.Goals as goal

abbrev itself : DynamicPaged → DynamicPaged
itself p = p

abbrev opened_in : List ℕ → Option (List ℕ) → Result DynamicPaged PageFault
opened_in name o = opened_by dynamic_of (dynamic_paged name) o

pub returns-in_err-head-clause-exact : goal.returns-in_err-head-clause-exact
unfolding opened
returns-in_err-head-clause-exact g c = let d = g.D.Disk in λ h.
    let name = c.args.name.now in
    let o = get (d.content c.args.disk.now) name in
    by_err c.from_residual-in_err-head.result c.in_err-head.field-0.0 (λ r. Gives itself r (opened_in name o)) c.from_residual-in_err-head.ensures.1
    (gives_err {A = Head} {B = ℕ × List ℕ} {C = DynamicPaged} {E = DynamicPaged} (λ (x : Head). (x.size, x.front)) itself c.in_err-head.field-0.0 (front_in o) (opened_in name o) (c.in_err-head.ensures.exact h)
    (no_front magic 40 dynamic_of dynamic_rest (dynamic_paged name) dynamic_by o c.in_err-head.field-0.0))

pub returns-in_err-count-clause-exact : goal.returns-in_err-count-clause-exact
unfolding opened
returns-in_err-count-clause-exact g c = let d = g.D.Disk in λ h.
    let name = c.args.name.now in
    let o = get (d.content c.args.disk.now) name in
    let f = has_front o c.in_ok-head.head (c.in_ok-head.ensures.exact h) in
    by_err c.from_residual-in_err-count.result c.in_err-count.field-0.0 (λ r. Gives itself r (opened_in name o)) c.from_residual-in_err-count.ensures.1
    (gives_told itself c.in_err-count.field-0.0 (opened_in name o)
    (ap (opened_in name) f.there
    ∙ no_count magic 40 dynamic_of dynamic_rest (dynamic_paged name) dynamic_by f.text c.in_ok-head.head c.in_err-count.field-0.0 f.size f.front f.long c.in_err-count.ensures.exact))

pub returns-in_err-read-clause-reads : goal.returns-in_err-read-clause-reads
returns-in_err-read-clause-reads g c = reads_then g.D.Disk _ _ _ _ _ _ c.read_head.ensures.reads c.read_body.ensures.reads (λ f. inr (search rules))

pub returns-in_err-read-clause-exact : goal.returns-in_err-read-clause-exact
unfolding opened
returns-in_err-read-clause-exact g c = let d = g.D.Disk in λ h.
    let name = c.args.name.now in
    let o = get (d.content c.args.disk.now) name in
    let f = has_front o c.in_ok-head.head (c.in_ok-head.ensures.exact h) in
    let n = has_count magic 40 dynamic_of dynamic_rest (dynamic_paged name) dynamic_by (inr refl) f.text c.in_ok-head.head c.in_ok-count.count f.size f.front f.long c.in_ok-count.ensures.exact in
    let reads = c.read_head.ensures.reads in
    let there : get (d.content c.read_head.new.disk) name ≡ Some f.text = ap (λ x. get x name) (reads.same h) ∙ f.there in
    let b = c.in_err-read.ensures.exact (reads.serves.kept.0 h) f.text there n.len in
    by_err c.from_residual-in_err-read.result c.in_err-read.field-0.0 (λ r. Gives itself r (opened_in name o)) c.from_residual-in_err-read.ensures.1
    (subst (λ (x : Option (List ℕ)). Gives itself (Err c.in_err-read.field-0.0) (opened_in name x)) (sym f.there)
    (no_body itself (dynamic_paged name) f.text c.in_ok-count.count c.in_err-read.field-0.0 n.by_rest b))

pub returns-then-not-has_csum-clause-reads : goal.returns-then-not-has_csum-clause-reads
returns-then-not-has_csum-clause-reads g c =
    reads_then g.D.Disk _ _ _ _ _ _ c.read_head.ensures.reads c.read_body.ensures.reads (λ f. absurd (told_not_failed DynamicPaged (BadIndex Csum) tt f))

pub returns-then-not-has_csum-clause-exact : goal.returns-then-not-has_csum-clause-exact
unfolding opened
returns-then-not-has_csum-clause-exact g c = let d = g.D.Disk in λ h.
    let name = c.args.name.now in
    let f = has_front (get (d.content c.args.disk.now) name) c.in_ok-head.head (c.in_ok-head.ensures.exact h) in
    let n = has_count magic 40 dynamic_of dynamic_rest (dynamic_paged name) dynamic_by (inr refl) f.text c.in_ok-head.head c.in_ok-count.count f.size f.front f.long c.in_ok-count.ensures.exact in
    let reads = c.read_head.ensures.reads in
    let there : get (d.content c.read_head.new.disk) name ≡ Some f.text = ap (λ x. get x name) (reads.same h) ∙ f.there in
    let b = c.in_ok-read.ensures.exact (reads.serves.kept.0 h) f.text there n.len in
    ap (opened_in name) f.there
    ∙ summed (dynamic_paged name) f.text c.in_ok-head.head.front c.in_ok-count.count c.in_ok-read.read false f.front n.len n.by_rest b (sym c.if-not-has_csum.ensures)

pub returns-in_err-pages-clause-reads : goal.returns-in_err-pages-clause-reads
returns-in_err-pages-clause-reads g c =
    reads_then g.D.Disk _ _ _ _ _ _ c.read_head.ensures.reads c.read_body.ensures.reads (λ f. absurd (short_not_failed _ c.from_residual-in_err-pages.ensures.1 f))

pub returns-clause-reads : goal.returns-clause-reads
returns-clause-reads g c = reads_then g.D.Disk _ _ _ _ _ _ c.read_head.ensures.reads c.read_body.ensures.reads (λ f. absurd (ok_not _ _ f))

pub returns-clause-exact : goal.returns-clause-exact
unfolding opened
returns-clause-exact g c = let d = g.D.Disk in λ h.
    let name = c.args.name.now in
    let f = has_front (get (d.content c.args.disk.now) name) c.in_ok-head.head (c.in_ok-head.ensures.exact h) in
    let n = has_count magic 40 dynamic_of dynamic_rest (dynamic_paged name) dynamic_by (inr refl) f.text c.in_ok-head.head c.in_ok-count.count f.size f.front f.long c.in_ok-count.ensures.exact in
    let reads = c.read_head.ensures.reads in
    let there : get (d.content c.read_head.new.disk) name ≡ Some f.text = ap (λ x. get x name) (reads.same h) ∙ f.there in
    let b = c.in_ok-read.ensures.exact (reads.serves.kept.0 h) f.text there n.len in
    ap (opened_in name) f.there
    ∙ summed (dynamic_paged name) f.text c.in_ok-head.head.front c.in_ok-count.count c.in_ok-read.read true f.front n.len n.by_rest b (sym c.if-not-has_csum.ensures)
    ∙ ap Ok (sym (paged_is name f.text c.in_ok-count.count c.in_ok-read.read c.in_ok-pages.pages c.in_ok-pages.ensures n.counted b))

pub returns-clause-those : goal.returns-clause-those
returns-clause-those g c = let d = g.D.Disk in λ h text at.
    let name = c.args.name.now in
    let f = has_front (get (d.content c.args.disk.now) name) c.in_ok-head.head (c.in_ok-head.ensures.exact h) in
    let n = has_count magic 40 dynamic_of dynamic_rest (dynamic_paged name) dynamic_by (inr refl) f.text c.in_ok-head.head c.in_ok-count.count f.size f.front f.long c.in_ok-count.ensures.exact in
    let reads = c.read_head.ensures.reads in
    let there : get (d.content c.read_head.new.disk) name ≡ Some f.text = ap (λ x. get x name) (reads.same h) ∙ f.there in
    subst (λ t. HandsOn g.T.TakesEntries.taken 0 (dynamic_entries t) c.args.taker.now c.read_body.new.taker) (same_some f.text text (sym f.there ∙ at))
    (c.in_ok-read.ensures.those (reads.serves.kept.0 h) f.text there n.len)

pub returns-clause-some : goal.returns-clause-some
returns-clause-some g c =
    dynamic_some g.T.TakesEntries.taken c.args.name.now c.args.taker.now c.read_body.new.taker c.in_ok-count.count c.in_ok-read.read c.in_ok-pages.pages c.in_ok-pages.ensures
    c.in_ok-count.ensures.limit c.in_ok-read.ensures.some

pub invariant_of-result : goal.invariant_of-result
invariant_of-result g c =
    subst (λ (p : Paged). HasEnds p c.in_ok-read.read.ends.items) (sym c.in_ok-pages.ensures)
    (record { width = refl; limit = c.in_ok-count.ensures.limit; len = c.in_ok-read.ensures.ends; rises = c.in_ok-read.ensures.rises })

pub of-requires-clause-bytes : goal.of-requires-clause-bytes
of-requires-clause-bytes g c =
    let some = c.in_ok-read.ensures.some in
    record { body = some.body; whole = some.len; sums = ((some.is).read).sums }

pub returns-in_err-head-clause-calls : goal.returns-in_err-head-clause-calls
returns-in_err-head-clause-calls g c = calls_head g.D.Disk _ _ 40 (get (g.D.Disk.content c.args.disk.now) c.args.name.now) c.read_head.ensures.calls

pub returns-in_err-count-clause-calls : goal.returns-in_err-count-clause-calls
returns-in_err-count-clause-calls g c = calls_head g.D.Disk _ _ 40 (get (g.D.Disk.content c.args.disk.now) c.args.name.now) c.read_head.ensures.calls

pub returns-in_err-read-clause-calls : goal.returns-in_err-read-clause-calls
returns-in_err-read-clause-calls g c = let d = g.D.Disk in λ h.
    let name = c.args.name.now in
    let o = get (d.content c.args.disk.now) name in
    let f = has_front o c.in_ok-head.head (c.in_ok-head.ensures.exact h) in
    let n = has_count magic 40 dynamic_of dynamic_rest (dynamic_paged name) dynamic_by (inr refl) f.text c.in_ok-head.head c.in_ok-count.count f.size f.front f.long c.in_ok-count.ensures.exact in
    calls_open d _ _ _ 40 c.in_ok-count.count o f.text f.there n.counted c.read_head.ensures.reads.serves.kept.0 c.read_head.ensures.calls c.read_body.ensures.calls h

pub returns-then-not-has_csum-clause-calls : goal.returns-then-not-has_csum-clause-calls
returns-then-not-has_csum-clause-calls g c = let d = g.D.Disk in λ h.
    let name = c.args.name.now in
    let o = get (d.content c.args.disk.now) name in
    let f = has_front o c.in_ok-head.head (c.in_ok-head.ensures.exact h) in
    let n = has_count magic 40 dynamic_of dynamic_rest (dynamic_paged name) dynamic_by (inr refl) f.text c.in_ok-head.head c.in_ok-count.count f.size f.front f.long c.in_ok-count.ensures.exact in
    calls_open d _ _ _ 40 c.in_ok-count.count o f.text f.there n.counted c.read_head.ensures.reads.serves.kept.0 c.read_head.ensures.calls c.read_body.ensures.calls h

pub returns-in_err-pages-clause-calls : goal.returns-in_err-pages-clause-calls
returns-in_err-pages-clause-calls g c = let d = g.D.Disk in λ h.
    let name = c.args.name.now in
    let o = get (d.content c.args.disk.now) name in
    let f = has_front o c.in_ok-head.head (c.in_ok-head.ensures.exact h) in
    let n = has_count magic 40 dynamic_of dynamic_rest (dynamic_paged name) dynamic_by (inr refl) f.text c.in_ok-head.head c.in_ok-count.count f.size f.front f.long c.in_ok-count.ensures.exact in
    calls_open d _ _ _ 40 c.in_ok-count.count o f.text f.there n.counted c.read_head.ensures.reads.serves.kept.0 c.read_head.ensures.calls c.read_body.ensures.calls h

pub returns-clause-calls : goal.returns-clause-calls
returns-clause-calls g c = let d = g.D.Disk in λ h.
    let name = c.args.name.now in
    let o = get (d.content c.args.disk.now) name in
    let f = has_front o c.in_ok-head.head (c.in_ok-head.ensures.exact h) in
    let n = has_count magic 40 dynamic_of dynamic_rest (dynamic_paged name) dynamic_by (inr refl) f.text c.in_ok-head.head c.in_ok-count.count f.size f.front f.long c.in_ok-count.ensures.exact in
    calls_open d _ _ _ 40 c.in_ok-count.count o f.text f.there n.counted c.read_head.ensures.reads.serves.kept.0 c.read_head.ensures.calls c.read_body.ensures.calls h

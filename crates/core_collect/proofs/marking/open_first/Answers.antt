use Rattle.std.proofs.Common.{◌∙◌, refl, sym, ap, subst, arith}
use Rattle.std.specs.FinMap.{get}
use Rattle.paged_indexes.specs.Calls.{CallsToOpen}
use Rattle.paged_indexes.specs.Index.{opened}
use Rattle.core_collect.specs.declared.marking.Batch.{Batch}
use Rattle.core_collect.proofs.Batches.{hands_all, whole_batch}
use Rattle.core_collect.proofs.Counted.{first_many}
use Rattle.core_collect.proofs.ReadLemmas.{opened_stands}
use Rattle.core_collect.proofs.Reading.{first_kept, opened_as, unopened_stands, unread_named, unread_reads}
use Rattle.core_collect.proofs.marking.open_first.Goals as goal

pub returns-in-Ok-clause-calls : goal.returns-in-Ok-clause-calls
returns-in-Ok-clause-calls g c = subst (λ p. CallsToOpen g.D.Disk c.args.disk.now c.open_into.new.disk p c.args.kind) c.as_str.ensures.text c.in-Ok.ensures.calls

pub returns-in-Ok-clause-exact : goal.returns-in-Ok-clause-exact
returns-in-Ok-clause-exact g c = λ honest.
    let m = (g.D.Disk).content c.args.disk.now in
    let path = c.args.path.now in
    let kind = c.args.kind in
    let old : Batch = record { skip = 0; digests = c.new.result } in
    let new = c.open_into.new.taker in
    opened_stands m path kind (record { pages = c.in-Ok.pages; digests = new.digests }) (opened_as m path kind c.in-Ok.pages (ap (λ p. opened m p kind) (sym c.as_str.ensures.text) ∙ c.in-Ok.ensures.exact honest))
    (λ text entries there read.
    whole_batch old new 0 entries (omega arith) refl c.new.ensures.items
    (hands_all 0 entries old new (c.in-Ok.ensures.those honest text entries (ap (λ p. get m p) c.as_str.ensures.text ∙ there) read)))

pub returns-in-Ok-clause-many : goal.returns-in-Ok-clause-many
returns-in-Ok-clause-many g c =
    let some = c.in-Ok.ensures.some in
    let old : Batch = record { skip = 0; digests = c.new.result } in
    let new = c.open_into.new.taker in
    first_many new.digests.items some.entries _ (whole_batch old new 0 some.entries (omega arith) refl c.new.ensures.items (hands_all 0 some.entries old new some.hands)) some.many

pub returns-in-Ok-clause-kept : goal.returns-in-Ok-clause-kept
returns-in-Ok-clause-kept g c = λ more.
    let some = c.in-Ok.ensures.some in
    let old : Batch = record { skip = 0; digests = c.new.result } in
    let new = c.open_into.new.taker in
    first_kept c.in-Ok.pages new.digests.items some.entries (whole_batch old new 0 some.entries (omega arith) refl c.new.ensures.items (hands_all 0 some.entries old new some.hands))
    (some.pages 0 (omega (arith, more)))

pub returns-in-Err-clause-reads : goal.returns-in-Err-clause-reads
returns-in-Err-clause-reads g c = unread_reads g.D.Disk c.args.disk.now c.open_into.new.disk c.args.path.now c.in-Err.fault c.why_unread.result c.why_unread.ensures c.in-Err.ensures.reads

pub returns-in-Err-clause-calls : goal.returns-in-Err-clause-calls
returns-in-Err-clause-calls g c = subst (λ p. CallsToOpen g.D.Disk c.args.disk.now c.open_into.new.disk p c.args.kind) c.as_str.ensures.text c.in-Err.ensures.calls

pub returns-in-Err-clause-exact : goal.returns-in-Err-clause-exact
returns-in-Err-clause-exact g c = λ honest.
    unopened_stands ((g.D.Disk).content c.args.disk.now) c.args.path.now c.as_str.result.now c.args.kind c.in-Err.fault c.why_unread.result c.as_str.ensures.text c.why_unread.ensures (c.in-Err.ensures.exact honest)

pub returns-in-Err-clause-named : goal.returns-in-Err-clause-named
returns-in-Err-clause-named g c = unread_named c.args.path.now c.why_unread.result c.in-Err.fault c.why_unread.ensures

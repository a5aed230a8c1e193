use Rattle.std.proofs.Common.{◌≡◌, Ok, None, Some, IsSome, rules}
use Rattle.gc_plan.specs.Plan.{next_mark}
use Rattle.core_collect.proofs.Settling.{all_passed, passed_none, search_found, search_found_reads, search_kept, search_over_reads, search_most, search_over_most, search_passed, search_unread, search_unread_reads}
use Rattle.core_collect.proofs.marking.find_next.Goals as goal

pub loop-alloc-init : goal.loop-alloc-init
loop-alloc-init g c = passed_none g.D.Disk c.args.parts.now c.args.collector.now

pub loop-alloc-smaller : goal.loop-alloc-smaller
loop-alloc-smaller g c =
    let is : c.settle_next.result ≡ Ok None = search rules in
    let some : IsSome (next_mark c.loop-alloc.collector.plan) = search rules in
    (c.settle_next.ensures.next.passes is some).0.less

pub loop-alloc-preserved : goal.loop-alloc-preserved
loop-alloc-preserved g c =
    let is : c.settle_next.result ≡ Ok None = search rules in
    let some : IsSome (next_mark c.loop-alloc.collector.plan) = search rules in
    search_passed g.D.Disk c.args.parts.now c.loop-alloc.parts c.settle_next.new.parts c.args.collector.now c.loop-alloc.collector c.settle_next.new.collector c.loop-alloc.invariant c.settle_next.result
    c.settle_next.ensures.reads c.settle_next.ensures.kept c.settle_next.ensures.next is some c.settle_next.ensures.calls

pub returns-in-Some-clause-reads : goal.returns-in-Some-clause-reads
returns-in-Some-clause-reads g c =
    search_found_reads g.D.Disk c.args.parts.now c.loop-alloc.parts c.settle_next.new.parts c.args.collector.now c.loop-alloc.collector c.settle_next.new.collector c.loop-alloc.invariant c.settle_next.result
    c.settle_next.ensures.reads c.settle_next.ensures.kept c.settle_next.ensures.next _

pub returns-in-Some-clause-calls : goal.returns-in-Some-clause-calls
returns-in-Some-clause-calls g c = search_most g.D.Disk c.args.parts.now c.loop-alloc.parts c.args.collector.now c.loop-alloc.collector c.loop-alloc.invariant c.settle_next.new.parts c.settle_next.ensures.calls

pub returns-in-Some-clause-kept : goal.returns-in-Some-clause-kept
returns-in-Some-clause-kept g c =
    search_kept g.D.Disk c.args.parts.now c.loop-alloc.parts c.settle_next.new.parts c.args.collector.now c.loop-alloc.collector c.settle_next.new.collector c.loop-alloc.invariant c.settle_next.result
    c.settle_next.ensures.reads c.settle_next.ensures.kept c.settle_next.ensures.next

pub returns-in-Some-clause-next : goal.returns-in-Some-clause-next
returns-in-Some-clause-next g c =
    let is : c.settle_next.result ≡ Ok (Some c.in-Some.digests) = search rules in
    search_found g.D.Disk c.args.parts.now c.loop-alloc.parts c.settle_next.new.parts c.args.collector.now c.loop-alloc.collector c.settle_next.new.collector c.loop-alloc.invariant c.settle_next.result
    c.settle_next.ensures.reads c.settle_next.ensures.kept c.settle_next.ensures.next c.in-Some.digests is

pub returns-in_err-digests-clause-reads : goal.returns-in_err-digests-clause-reads
returns-in_err-digests-clause-reads g c =
    search_unread_reads g.D.Disk c.args.parts.now c.loop-alloc.parts c.settle_next.new.parts c.args.collector.now c.loop-alloc.collector c.settle_next.new.collector c.loop-alloc.invariant c.settle_next.result
    c.settle_next.ensures.reads c.settle_next.ensures.kept c.settle_next.ensures.next _ _ c.from_residual.ensures.1 c.in_err-digests.was

pub returns-in_err-digests-clause-calls : goal.returns-in_err-digests-clause-calls
returns-in_err-digests-clause-calls g c = search_most g.D.Disk c.args.parts.now c.loop-alloc.parts c.args.collector.now c.loop-alloc.collector c.loop-alloc.invariant c.settle_next.new.parts c.settle_next.ensures.calls

pub returns-in_err-digests-clause-kept : goal.returns-in_err-digests-clause-kept
returns-in_err-digests-clause-kept g c =
    search_kept g.D.Disk c.args.parts.now c.loop-alloc.parts c.settle_next.new.parts c.args.collector.now c.loop-alloc.collector c.settle_next.new.collector c.loop-alloc.invariant c.settle_next.result
    c.settle_next.ensures.reads c.settle_next.ensures.kept c.settle_next.ensures.next

pub returns-in_err-digests-clause-next : goal.returns-in_err-digests-clause-next
returns-in_err-digests-clause-next g c =
    search_unread g.D.Disk c.args.parts.now c.loop-alloc.parts c.settle_next.new.parts c.args.collector.now c.loop-alloc.collector c.settle_next.new.collector c.loop-alloc.invariant c.settle_next.result
    c.settle_next.ensures.reads c.settle_next.ensures.kept c.settle_next.ensures.next _ _ c.from_residual.ensures.1 c.in_err-digests.was

pub returns-clause-reads : goal.returns-clause-reads
returns-clause-reads g c = search_over_reads g.D.Disk c.args.parts.now c.loop-alloc.parts c.args.collector.now c.loop-alloc.collector c.loop-alloc.invariant

pub returns-clause-calls : goal.returns-clause-calls
returns-clause-calls g c = search_over_most g.D.Disk c.args.parts.now c.loop-alloc.parts c.args.collector.now c.loop-alloc.collector c.loop-alloc.invariant

pub returns-clause-kept : goal.returns-clause-kept
returns-clause-kept g c = c.loop-alloc.invariant.kept

pub returns-clause-next : goal.returns-clause-next
returns-clause-next g c =
    let none : next_mark c.loop-alloc.collector.plan ≡ None = search rules in
    all_passed g.D.Disk c.args.parts.now c.loop-alloc.parts c.args.collector.now c.loop-alloc.collector c.loop-alloc.invariant none

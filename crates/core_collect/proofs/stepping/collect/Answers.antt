use Rattle.std.proofs.Common.{◌≡◌, ◌∙◌, List, Option, Some, None, Ok, Err, Result, Vec, Global, ap, refl, sym, subst, rules}
use Rattle.std.specs.Prelude.{IsErrOf}
use Rattle.disk_trait.specs.Effects.{OnlyReads}
use Rattle.store_types.specs.declared.names.Digest32.{Digest32}
use Rattle.snapshot_files.specs.declared.path.FilePath.{FilePath}
use Rattle.core_state.specs.declared.collector.Early.TheVariants as earlies
use Rattle.core_state.specs.Unchanged.{SameKept}
use Rattle.core_collect.specs.Marking.{AtHand, FindsNext, MarksSome}
use Rattle.core_collect.specs.Stepping.{CollectDoes}
use Rattle.core_collect.specs.declared.marking.Unread.{Unread}
use Rattle.core_collect.specs.declared.marking.Unread.TheVariants as unread
use Rattle.core_collect.proofs.Collected.{ended_does, failed_does, marked_does, stopped_as, unended_does, unread_does, unvisited_does, visited_does, wanting_does}
use Rattle.core_collect.proofs.stepping.collect.Goals as goal

pub returns-in_err-report : goal.returns-in_err-report
returns-in_err-report g c =
    let over = sym c.is_over.ensures ∙ c.if-is_over.true in
    subst (CollectDoes g.D.Disk c.args.parts.now _ c.args.upkeep.now c.args.upkeep.now c.args.collector.now c.args.collector.now c.args.at) (sym (stopped_as _ _ c.from_residual.ensures.1))
    (unended_does g.D.Disk c.args.parts.now _ c.args.upkeep.now c.args.collector.now c.args.at (record { catalogue = refl; sessions = refl; locks = refl; indexes = refl }) over c.requires _
    c.in_err-report.ensures.serves c.in_err-report.ensures.ends c.in_err-report.ensures.unchanged)

pub returns-then-is_over : goal.returns-then-is_over
returns-then-is_over g c =
    let over = sym c.is_over.ensures ∙ c.if-is_over.true in
    ended_does g.D.Disk c.args.parts.now _ c.args.upkeep.now c.args.collector.now c.args.at (record { catalogue = refl; sessions = refl; locks = refl; indexes = refl }) over c.requires _
    c.in_ok-report.ensures.serves c.in_ok-report.ensures.ends c.in_ok-report.ensures.unchanged

pub mark-requires : goal.mark-requires
mark-requires g c =
    let is : c.find_next.result ≡ Ok (Some c.in-Ok-Some.digests) = search rules in
    subst (AtHand c.find_next.new.collector) (sym c.deref.ensures.value) (c.find_next.ensures.next.at_hand c.in-Ok-Some.digests is)

pub returns-in-Ok-Some : goal.returns-in-Ok-Some
returns-in-Ok-Some g c =
    let old = c.args.parts.now in
    let mid = c.find_next.new.parts in
    let going = sym c.is_over.ensures ∙ c.if-is_over.false in
    let is : c.find_next.result ≡ Ok (Some c.in-Ok-Some.digests) = search rules in
    marked_does g.D.Disk old mid c.args.upkeep.now _ c.args.collector.now c.find_next.new.collector c.mark.new.collector c.args.at c.in-Ok-Some.digests
    (subst (λ (r : Result (Option (Vec Digest32 Global)) Unread). OnlyReads g.D.Disk old.disk mid.disk (IsErrOf r unread.DiskFailed)) is c.find_next.ensures.reads) c.find_next.ensures.kept
    (subst (FindsNext g.D.Disk old c.args.collector.now c.find_next.new.collector) is c.find_next.ensures.next) c.find_next.ensures.calls
    (subst (λ (ds : List Digest32). MarksSome c.args.upkeep.now.book c.mark.new.book c.find_next.new.collector c.mark.new.collector ds c.args.at.moment) c.deref.ensures.value c.mark.ensures) refl going c.requires

pub returns-in_err-visit_next-in-Ok-None : goal.returns-in_err-visit_next-in-Ok-None
returns-in_err-visit_next-in-Ok-None g c =
    let old = c.args.parts.now in
    let mid = c.find_next.new.parts in
    let going = sym c.is_over.ensures ∙ c.if-is_over.false in
    let is : c.find_next.result ≡ Ok None = search rules in
    let kept : SameKept old _ = record { catalogue = c.find_next.ensures.kept.catalogue; sessions = c.find_next.ensures.kept.sessions; locks = c.find_next.ensures.kept.locks; indexes = c.find_next.ensures.kept.indexes } in
    subst (CollectDoes g.D.Disk old _ c.args.upkeep.now _ c.args.collector.now _ c.args.at) (sym (stopped_as _ _ c.from_residual-in_err-visit_next-in-Ok-None.ensures.1))
    (unvisited_does g.D.Disk old _ mid.disk c.args.upkeep.now _ c.args.collector.now c.find_next.new.collector _ c.args.at
    (subst (λ (r : Result (Option (Vec Digest32 Global)) Unread). OnlyReads g.D.Disk old.disk mid.disk (IsErrOf r unread.DiskFailed)) is c.find_next.ensures.reads) kept
    (subst (FindsNext g.D.Disk old c.args.collector.now c.find_next.new.collector) is c.find_next.ensures.next) refl refl refl refl going c.requires _
    c.in_err-visit_next-in-Ok-None.ensures.serves c.in_err-visit_next-in-Ok-None.ensures.visits)

pub returns-in_ok-visit_next-in-Ok-None : goal.returns-in_ok-visit_next-in-Ok-None
returns-in_ok-visit_next-in-Ok-None g c =
    let old = c.args.parts.now in
    let mid = c.find_next.new.parts in
    let going = sym c.is_over.ensures ∙ c.if-is_over.false in
    let is : c.find_next.result ≡ Ok None = search rules in
    let kept : SameKept old _ = record { catalogue = c.find_next.ensures.kept.catalogue; sessions = c.find_next.ensures.kept.sessions; locks = c.find_next.ensures.kept.locks; indexes = c.find_next.ensures.kept.indexes } in
    visited_does g.D.Disk old _ mid.disk c.args.upkeep.now _ c.args.collector.now c.find_next.new.collector _ c.args.at
    (subst (λ (r : Result (Option (Vec Digest32 Global)) Unread). OnlyReads g.D.Disk old.disk mid.disk (IsErrOf r unread.DiskFailed)) is c.find_next.ensures.reads) kept
    (subst (FindsNext g.D.Disk old c.args.collector.now c.find_next.new.collector) is c.find_next.ensures.next) refl refl refl refl going c.requires _
    c.in_ok-visit_next-in-Ok-None.ensures.serves c.in_ok-visit_next-in-Ok-None.ensures.visits

pub invariant_of-collector : goal.invariant_of-collector
invariant_of-collector g c = record { fits = c.visit_next.ensures.visits.fits _ c.find_next.new.collector.fits }

pub returns-in-Err-Unreadable : goal.returns-in-Err-Unreadable
returns-in-Err-Unreadable g c =
    let old = c.args.parts.now in
    let mid = c.find_next.new.parts in
    let is : c.find_next.result ≡ Err (unread.Unreadable c.in-Err-Unreadable.path) = c.in-Err-Unreadable.is ∙ ap (λ (u : Unread). Err u) c.in-Err-Unreadable.field-0-is in
    let ended = ap (λ (q : FilePath). Some (earlies.Unreadable q)) c.in-Err-Unreadable.path-is in
    let going = sym c.is_over.ensures ∙ c.if-is_over.false in
    unread_does g.D.Disk old mid c.args.upkeep.now c.args.collector.now c.find_next.new.collector c.args.at _ c.in-Err-Unreadable.path
    (subst (λ (r : Result (Option (Vec Digest32 Global)) Unread). OnlyReads g.D.Disk old.disk mid.disk (IsErrOf r unread.DiskFailed)) is c.find_next.ensures.reads) c.find_next.ensures.kept
    (subst (FindsNext g.D.Disk old c.args.collector.now c.find_next.new.collector) is c.find_next.ensures.next) c.find_next.ensures.calls refl refl ended going c.requires

pub returns-in-Err-NoMemory : goal.returns-in-Err-NoMemory
returns-in-Err-NoMemory g c =
    let old = c.args.parts.now in
    let mid = c.find_next.new.parts in
    let is : c.find_next.result ≡ Err unread.NoMemory = c.in-Err-NoMemory.is ∙ ap (λ (u : Unread). Err u) c.in-Err-NoMemory.field-0-is in
    wanting_does g.D.Disk old mid c.args.upkeep.now c.args.collector.now c.find_next.new.collector c.args.at
    (subst (λ (r : Result (Option (Vec Digest32 Global)) Unread). OnlyReads g.D.Disk old.disk mid.disk (IsErrOf r unread.DiskFailed)) is c.find_next.ensures.reads) c.find_next.ensures.kept
    (subst (FindsNext g.D.Disk old c.args.collector.now c.find_next.new.collector) is c.find_next.ensures.next) c.requires

pub returns-in-Err-DiskFailed : goal.returns-in-Err-DiskFailed
returns-in-Err-DiskFailed g c =
    let old = c.args.parts.now in
    let mid = c.find_next.new.parts in
    let is : c.find_next.result ≡ Err unread.DiskFailed = c.in-Err-DiskFailed.is ∙ ap (λ (u : Unread). Err u) c.in-Err-DiskFailed.field-0-is in
    failed_does g.D.Disk old mid c.args.upkeep.now c.args.collector.now c.find_next.new.collector c.args.at
    (subst (λ (r : Result (Option (Vec Digest32 Global)) Unread). OnlyReads g.D.Disk old.disk mid.disk (IsErrOf r unread.DiskFailed)) is c.find_next.ensures.reads) c.find_next.ensures.kept
    (subst (FindsNext g.D.Disk old c.args.collector.now c.find_next.new.collector) is c.find_next.ensures.next) c.requires

use Rattle.std.proofs.Common.{◌≡◌, ◌<◌, ◌-◌, ◌∙◌, min, is_some, Some, None, Ok, Err, Vec, Global, refl, sym, ap, subst, rules, arith}
use Rattle.std.specs.FinMap.{get}
use Rattle.store_types.specs.declared.names.Digest32.{Digest32}
use Rattle.gc_plan.specs.Plan.{mark_limit, next_index, next_mark}
use Rattle.index_pages.specs.Calls.{CallsAtMost, opening_calls}
use Rattle.index_pages.proofs.Calling.{calls_none}
use Rattle.paged_indexes.specs.Calls.{entry_width}
use Rattle.paged_indexes.specs.Index.{pages_by}
use Rattle.snapshot_files.specs.Indexes.{index_opened, kind_of_index}
use Rattle.core_state.specs.Entries.{count_at_hand, marked_in}
use Rattle.core_collect.specs.Calls.{pages_calls}
use Rattle.core_collect.specs.Entries.{AreNext, bytes_of, next_read}
use Rattle.core_collect.specs.Marking.{KeepsLast, PassesOver, SettlesNext, TellsStanding, first_standing, marked_next, path_at, standing_as, standing_by}
use Rattle.core_collect.proofs.Calls.{calls_had, calls_opened}
use Rattle.core_collect.proofs.MarkLemmas.{fits_kept, fits_opened, mark_is, mark_there, same_fits}
use Rattle.core_collect.proofs.Settling.{empty_settles, gone_settles, handed_on, handed_reads, kept_settles, none_settles, read_settles, unkept_settles, unmarked_settles, unopened_settles}
use Rattle.core_collect.proofs.marking.settle_next.Goals as goal

-- ---- no index is next

pub returns-in_default-clause-calls : goal.returns-in_default-clause-calls
returns-in_default-clause-calls g c = calls_none g.D.Disk c.args.parts.now.disk _

pub returns-in_default-clause-next : goal.returns-in_default-clause-next
returns-in_default-clause-next g c =
    let none : next_mark c.args.collector.now.plan ≡ None = search rules in
    unmarked_settles g.D.Disk c.args.parts.now c.args.collector.now none

pub returns-in_default-index_next-clause-calls : goal.returns-in_default-index_next-clause-calls
returns-in_default-index_next-clause-calls g c = calls_none g.D.Disk c.args.parts.now.disk _

pub returns-in_default-index_next-clause-next : goal.returns-in_default-index_next-clause-next
returns-in_default-index_next-clause-next g c =
    let none : next_index c.args.collector.now.plan ≡ None = search rules in
    none_settles g.D.Disk c.args.parts.now c.args.collector.now none

-- ---- it was forgotten

pub pass_over-requires : goal.pass_over-requires
pass_over-requires g c =
    let plan = c.args.collector.now.plan in
    let at : next_index plan ≡ Some c.in-Some-index_next.index.now = search rules in
    mark_there plan.indexes plan.stage c.in-Some-index_next.index.now at

pub returns-in_default-path_of-clause-calls : goal.returns-in_default-path_of-clause-calls
returns-in_default-path_of-clause-calls g c = calls_none g.D.Disk c.args.parts.now.disk _

pub returns-in_default-path_of-clause-next : goal.returns-in_default-path_of-clause-next
returns-in_default-path_of-clause-next g c =
    let i = c.in-Some-index_next.index.now in
    let at : next_index c.args.collector.now.plan ≡ Some i = search rules in
    let missing : path_at i c.args.parts.now.catalogue.listed ≡ None = search rules in
    gone_settles g.D.Disk c.args.parts.now c.args.collector.now c.pass_over.new.collector i at missing c.pass_over.ensures

-- ---- its pages are at hand

pub invariant_of-collector : goal.invariant_of-collector
invariant_of-collector g c =
    let old = c.args.collector.now in
    let had : old.pages ≡ Some c.in-Some-pages.pages = search rules in
    record { fits = fits_kept old.plan old.pages c.in-Some-pages.pages c.read_next.new.pages old.fits had c.read_next.ensures.pages.kept }

pub read_next-requires : goal.read_next-requires
read_next-requires g c =
    let old = c.args.collector.now in
    let p = c.in-Some-pages.pages in
    let at : next_mark old.plan ≡ Some (c.in-Some.field-0-0, c.in-Some.first) = search rules in
    let had : old.pages ≡ Some p = search rules in
    subst (λ n. n < (pages_by p.kept).count) (sym (mark_is old.plan.indexes old.plan.stage (c.in-Some.field-0-0, c.in-Some.first) at))
    (subst (λ o. marked_in old.plan.stage < count_at_hand o) had (old.fits.within (ap is_some had)))

pub returns-in_err-digests-clause-reads : goal.returns-in_err-digests-clause-reads
returns-in_err-digests-clause-reads g c =
    handed_reads g.D.Disk c.args.parts.now.disk c.read_next.new.disk _ c.read_next.result _ c.from_residual.ensures.1 c.in_err-digests.was c.read_next.ensures.reads

pub returns-in_err-digests-clause-calls : goal.returns-in_err-digests-clause-calls
returns-in_err-digests-clause-calls g c =
    let parts = c.args.parts.now in
    let old = c.args.collector.now in
    let i = c.in-Some-index_next.index.now in
    let path = c.in-Some-path_of.path.now in
    let p = c.in-Some-pages.pages in
    let mark : next_mark old.plan ≡ Some (c.in-Some.field-0-0, c.in-Some.first) = search rules in
    let at : next_index old.plan ≡ Some i = search rules in
    let found : path_at i parts.catalogue.listed ≡ Some path = search rules in
    let had : old.pages ≡ Some p = search rules in
    subst (CallsAtMost g.D.Disk parts.disk c.read_next.new.disk)
    (ap (pages_calls p.kept p.last) (mark_is old.plan.indexes old.plan.stage (c.in-Some.field-0-0, c.in-Some.first) mark)
    ∙ sym (calls_had ((g.D.Disk).content parts.disk) parts.catalogue.listed old i path at found p had)) c.read_next.ensures.calls

pub returns-in_err-digests-clause-next : goal.returns-in_err-digests-clause-next
returns-in_err-digests-clause-next g c =
    let parts = c.args.parts.now in
    let old = c.args.collector.now in
    let i = c.in-Some-index_next.index.now in
    let path = c.in-Some-path_of.path.now in
    let p = c.in-Some-pages.pages in
    let unread = c.in_err-digests.field-0.0 in
    let mark : next_mark old.plan ≡ Some (c.in-Some.field-0-0, c.in-Some.first) = search rules in
    let begins = mark_is old.plan.indexes old.plan.stage (c.in-Some.field-0-0, c.in-Some.first) mark in
    let at : next_index old.plan ≡ Some i = search rules in
    let found : path_at i parts.catalogue.listed ≡ Some path = search rules in
    let had : old.pages ≡ Some p = search rules in
    let r = c.read_next.new.pages in
    handed_on (SettlesNext g.D.Disk parts old _) _ unread c.from_residual.ensures.1
    (unkept_settles g.D.Disk parts old _ i path p r unread at found refl refl refl had refl
    (subst (λ n. KeepsLast g.D.Disk parts.disk p r n (Err unread)) begins c.in_err-digests.ensures.pages)
    (λ honest.
    subst (λ n. TellsStanding {A = Vec Digest32 Global} (λ digests. marked_next p.kept (bytes_of digests.items)) (standing_by path p.kept (next_read ((g.D.Disk).content parts.disk) path p.kept p.last n)) (Err unread)) begins
    (c.in_err-digests.ensures.exact honest)))

pub returns-in-Some-pages-clause-calls : goal.returns-in-Some-pages-clause-calls
returns-in-Some-pages-clause-calls g c =
    let parts = c.args.parts.now in
    let old = c.args.collector.now in
    let i = c.in-Some-index_next.index.now in
    let path = c.in-Some-path_of.path.now in
    let p = c.in-Some-pages.pages in
    let mark : next_mark old.plan ≡ Some (c.in-Some.field-0-0, c.in-Some.first) = search rules in
    let at : next_index old.plan ≡ Some i = search rules in
    let found : path_at i parts.catalogue.listed ≡ Some path = search rules in
    let had : old.pages ≡ Some p = search rules in
    subst (CallsAtMost g.D.Disk parts.disk c.read_next.new.disk)
    (ap (pages_calls p.kept p.last) (mark_is old.plan.indexes old.plan.stage (c.in-Some.field-0-0, c.in-Some.first) mark)
    ∙ sym (calls_had ((g.D.Disk).content parts.disk) parts.catalogue.listed old i path at found p had)) c.read_next.ensures.calls

pub returns-in-Some-pages-clause-next : goal.returns-in-Some-pages-clause-next
returns-in-Some-pages-clause-next g c =
    let parts = c.args.parts.now in
    let old = c.args.collector.now in
    let i = c.in-Some-index_next.index.now in
    let path = c.in-Some-path_of.path.now in
    let p = c.in-Some-pages.pages in
    let digests = c.in_ok-digests.digests in
    let mark : next_mark old.plan ≡ Some (c.in-Some.field-0-0, c.in-Some.first) = search rules in
    let begins = mark_is old.plan.indexes old.plan.stage (c.in-Some.field-0-0, c.in-Some.first) mark in
    let at : next_index old.plan ≡ Some i = search rules in
    let found : path_at i parts.catalogue.listed ≡ Some path = search rules in
    let had : old.pages ≡ Some p = search rules in
    let r = c.read_next.new.pages in
    kept_settles g.D.Disk parts old _ i path p r digests at found refl refl refl had refl
    (subst (λ n. KeepsLast g.D.Disk parts.disk p r n (Ok digests)) begins c.in_ok-digests.ensures.pages)
    (λ honest.
    subst (λ n. standing_by path p.kept (next_read ((g.D.Disk).content parts.disk) path p.kept p.last n) ≡ marked_next p.kept (bytes_of digests.items)) begins
    (c.in_ok-digests.ensures.exact honest))
    (c.in_ok-digests.ensures.many ∙ ap (λ n. min mark_limit ((pages_by p.kept).count - n)) begins)
    (subst (λ n. AreNext p.kept n digests.items) begins c.in_ok-digests.ensures.kept)

-- ---- it is not opened

pub returns-in_err-opened-clause-reads : goal.returns-in_err-opened-clause-reads
returns-in_err-opened-clause-reads g c =
    handed_reads g.D.Disk c.args.parts.now.disk c.open_first.new.disk _ c.open_first.result _ c.from_residual-in_err-opened.ensures.1 c.in_err-opened.was c.open_first.ensures.reads

pub returns-in_err-opened-clause-calls : goal.returns-in_err-opened-clause-calls
returns-in_err-opened-clause-calls g c =
    let parts = c.args.parts.now in
    let old = c.args.collector.now in
    let i = c.in-Some-index_next.index.now in
    let path = c.in-Some-path_of.path.now in
    let at : next_index old.plan ≡ Some i = search rules in
    let found : path_at i parts.catalogue.listed ≡ Some path = search rules in
    let none : old.pages ≡ None = search rules in
    let kind : c.index_kind-kind.result ≡ kind_of_index i.name = search rules in
    let m = (g.D.Disk).content parts.disk in
    subst (CallsAtMost g.D.Disk parts.disk c.open_first.new.disk)
    (ap (λ b. opening_calls (entry_width b) (get m path)) kind ∙ sym (calls_opened m parts.catalogue.listed old i path at found none)) c.open_first.ensures.calls

pub returns-in_err-opened-clause-next : goal.returns-in_err-opened-clause-next
returns-in_err-opened-clause-next g c =
    let parts = c.args.parts.now in
    let old = c.args.collector.now in
    let i = c.in-Some-index_next.index.now in
    let path = c.in-Some-path_of.path.now in
    let unread = c.in_err-opened.field-0.0 in
    let at : next_index old.plan ≡ Some i = search rules in
    let found : path_at i parts.catalogue.listed ≡ Some path = search rules in
    let none : old.pages ≡ None = search rules in
    let kind : c.index_kind-kind.result ≡ kind_of_index i.name = search rules in
    let m = (g.D.Disk).content parts.disk in
    subst (λ x. SettlesNext g.D.Disk parts old x c.from_residual-in_err-opened.result) (sym (same_fits old _))
    (handed_on (SettlesNext g.D.Disk parts old old) _ unread c.from_residual-in_err-opened.ensures.1
    (unopened_settles g.D.Disk parts old i path unread at found none
    (λ honest. subst (λ b. TellsStanding first_standing (standing_as m path (index_opened m path b)) (Err unread)) kind (c.in_err-opened.ensures.exact honest))))

-- ---- it is opened

pub invariant_of-collector-2 : goal.invariant_of-collector-2
invariant_of-collector-2 g c =
    let old = c.args.collector.now in
    let none : old.pages ≡ None = search rules in
    record { fits = fits_opened old.plan old.pages _ old.fits none (λ empty. absurd (c.if-len-eq0.false (c.len.ensures.value ∙ empty))) }

pub returns-then-len-eq0-clause-calls : goal.returns-then-len-eq0-clause-calls
returns-then-len-eq0-clause-calls g c =
    let parts = c.args.parts.now in
    let old = c.args.collector.now in
    let i = c.in-Some-index_next.index.now in
    let path = c.in-Some-path_of.path.now in
    let at : next_index old.plan ≡ Some i = search rules in
    let found : path_at i parts.catalogue.listed ≡ Some path = search rules in
    let none : old.pages ≡ None = search rules in
    let kind : c.index_kind-kind.result ≡ kind_of_index i.name = search rules in
    let m = (g.D.Disk).content parts.disk in
    subst (CallsAtMost g.D.Disk parts.disk c.open_first.new.disk)
    (ap (λ b. opening_calls (entry_width b) (get m path)) kind ∙ sym (calls_opened m parts.catalogue.listed old i path at found none)) c.open_first.ensures.calls

pub returns-then-len-eq0-clause-next : goal.returns-then-len-eq0-clause-next
returns-then-len-eq0-clause-next g c =
    let parts = c.args.parts.now in
    let old = c.args.collector.now in
    let i = c.in-Some-index_next.index.now in
    let path = c.in-Some-path_of.path.now in
    let x = c.in_ok-opened.opened in
    let at : next_index old.plan ≡ Some i = search rules in
    let found : path_at i parts.catalogue.listed ≡ Some path = search rules in
    let none : old.pages ≡ None = search rules in
    let kind : c.index_kind-kind.result ≡ kind_of_index i.name = search rules in
    let m = (g.D.Disk).content parts.disk in
    empty_settles g.D.Disk parts old i path at found none c.pass_over-then-len-eq0.new.collector x (sym c.len.ensures.value ∙ c.if-len-eq0.true)
    (λ honest. subst (λ b. standing_as m path (index_opened m path b) ≡ first_standing x) kind (c.in_ok-opened.ensures.exact honest))
    (subst (λ y. PassesOver y c.pass_over-then-len-eq0.new.collector) (same_fits old _) c.pass_over-then-len-eq0.ensures)

pub returns-clause-calls : goal.returns-clause-calls
returns-clause-calls g c =
    let parts = c.args.parts.now in
    let old = c.args.collector.now in
    let i = c.in-Some-index_next.index.now in
    let path = c.in-Some-path_of.path.now in
    let at : next_index old.plan ≡ Some i = search rules in
    let found : path_at i parts.catalogue.listed ≡ Some path = search rules in
    let none : old.pages ≡ None = search rules in
    let kind : c.index_kind-kind.result ≡ kind_of_index i.name = search rules in
    let m = (g.D.Disk).content parts.disk in
    subst (CallsAtMost g.D.Disk parts.disk c.open_first.new.disk)
    (ap (λ b. opening_calls (entry_width b) (get m path)) kind ∙ sym (calls_opened m parts.catalogue.listed old i path at found none)) c.open_first.ensures.calls

pub returns-clause-next : goal.returns-clause-next
returns-clause-next g c =
    let parts = c.args.parts.now in
    let old = c.args.collector.now in
    let i = c.in-Some-index_next.index.now in
    let path = c.in-Some-path_of.path.now in
    let x = c.in_ok-opened.opened in
    let at : next_index old.plan ≡ Some i = search rules in
    let found : path_at i parts.catalogue.listed ≡ Some path = search rules in
    let none : old.pages ≡ None = search rules in
    let kind : c.index_kind-kind.result ≡ kind_of_index i.name = search rules in
    let m = (g.D.Disk).content parts.disk in
    read_settles g.D.Disk parts old _ i path x _ at found refl refl refl none refl (λ empty. absurd (c.if-len-eq0.false (c.len.ensures.value ∙ empty)))
    (λ honest. subst (λ b. standing_as m path (index_opened m path b) ≡ first_standing x) kind (c.in_ok-opened.ensures.exact honest)) c.in_ok-opened.ensures.many
    (c.in_ok-opened.ensures.kept (omega (arith, c.if-len-eq0.false, c.len.ensures.value)))

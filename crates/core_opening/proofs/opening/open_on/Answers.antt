use Rattle.std.proofs.Common.{◌≤◌, refl, inr, sym, subst}
use Rattle.disk_trait.specs.Files.{Files}
use Rattle.disk_trait.specs.Runs.{both_serve}
use Rattle.store_types.specs.Times.{last_moment}
use Rattle.snapshot_files.specs.Leaving.{Cleans, MayClean}
use Rattle.snapshot_files.proofs.Openings.{opens}
use Rattle.core_opening.specs.declared.opening.Opened.{Opened}
use Rattle.core_opening.proofs.Booked.{opened_touches}
use Rattle.core_opening.proofs.Opened.{opened_records, opened_stands}
use Rattle.core_opening.proofs.Recovering.{recovers_opened}
use Rattle.core_opening.proofs.Synced.{of_disk, of_memory, stops_opening}
use Rattle.core_opening.proofs.opening.open_on.Goals as goal

-- ---- opened

pub invariant_of-result-in-Ok-opened_of : goal.invariant_of-result-in-Ok-opened_of
invariant_of-result-in-Ok-opened_of g c = record { in_time = subst (λ n. n ≤ last_moment) (sym c.moment.ensures) c.in-Ok-opened_of.ensures.begins.in_time }

pub returns-in-Ok-opened_of-clause-opened : goal.returns-in-Ok-opened_of-clause-opened
returns-in-Ok-opened_of-clause-opened g c =
    let d = g.D.Disk in
    let now : Files = d.content c.opened_of.new.disk in
    λ L R remote honest stands.
    let x = c.in-Ok-opened_of.ensures in
    let begun = x.begins in
    let synced = c.sync.ensures.serves.kept.0 honest in
    opened_stands d g.C.Clock.readings c.args.disk _ L R
    (record { fault = refl; collector = refl; last = c.moment.ensures; entries = begun.entries; calls = begun.calls; sessions = begun.sessions; indexes = begun.indexes; locks = c.new.ensures })
    remote (x.serves.kept.0 synced) stands
    (subst (λ (m : Files). MayClean m m now) (c.in-Ok.ensures.same honest) (x.cleaned synced).only) (x.catalogue synced) (x.book synced)

pub returns-in-Ok-opened_of-clause-touches : goal.returns-in-Ok-opened_of-clause-touches
returns-in-Ok-opened_of-clause-touches g c =
    let d = g.D.Disk in
    let now : Files = d.content c.opened_of.new.disk in
    λ L R honest stands.
    let x = c.in-Ok-opened_of.ensures in
    let synced = c.sync.ensures.serves.kept.0 honest in
    opened_touches d (g.C.Clock.readings c.args.clock) c.args.disk _ L R stands
    (subst (λ (m : Files). MayClean m m now) (c.in-Ok.ensures.same honest) (x.cleaned synced).only) (x.book synced) refl (x.begins).numbers

pub returns-in-Ok-opened_of-clause-catalogue : goal.returns-in-Ok-opened_of-clause-catalogue
returns-in-Ok-opened_of-clause-catalogue g c = λ honest. c.in-Ok-opened_of.ensures.catalogue (c.sync.ensures.serves.kept.0 honest)

pub returns-in-Ok-opened_of-clause-book : goal.returns-in-Ok-opened_of-clause-book
returns-in-Ok-opened_of-clause-book g c = λ honest. c.in-Ok-opened_of.ensures.book (c.sync.ensures.serves.kept.0 honest)

pub returns-in-Ok-opened_of-clause-serves : goal.returns-in-Ok-opened_of-clause-serves
returns-in-Ok-opened_of-clause-serves g c =
    let d = g.D.Disk in
    both_serve d.honest d.faults c.args.disk c.sync.new.self c.opened_of.new.disk _ _ _ c.sync.ensures.serves c.in-Ok-opened_of.ensures.serves (λ never. absurd never)

pub returns-in-Ok-opened_of-clause-crash : goal.returns-in-Ok-opened_of-clause-crash
returns-in-Ok-opened_of-clause-crash g c =
    let d = g.D.Disk in let m = g.met.D.Disk in
    opens d m.told c.args.disk c.sync.new.self c.opened_of.new.disk c.sync.ensures.serves.kept c.in-Ok.ensures.same c.sync.ensures.tick c.sync.ensures.crash c.in-Ok.ensures.durable
    c.in-Ok-opened_of.ensures.crash

pub returns-in-Ok-opened_of-clause-recovers : goal.returns-in-Ok-opened_of-clause-recovers
returns-in-Ok-opened_of-clause-recovers g c =
    let d = g.D.Disk in let m = g.met.D.Disk in
    recovers_opened d g.C.Clock.readings c.args.disk _ c.args.clock
    (opens d m.told c.args.disk c.sync.new.self c.opened_of.new.disk c.sync.ensures.serves.kept c.in-Ok.ensures.same c.sync.ensures.tick c.sync.ensures.crash c.in-Ok.ensures.durable
    c.in-Ok-opened_of.ensures.crash)

pub returns-in-Ok-opened_of-clause-records : goal.returns-in-Ok-opened_of-clause-records
returns-in-Ok-opened_of-clause-records g c =
    let begun = c.in-Ok-opened_of.ensures.begins in
    opened_records g.C.Clock.readings _ (record { fault = refl; collector = refl; last = c.moment.ensures; entries = begun.entries; calls = begun.calls; sessions = begun.sessions; indexes = begun.indexes; locks = c.new.ensures }) begun.numbers begun.early

pub returns-in-Ok-opened_of-clause-cleaned : goal.returns-in-Ok-opened_of-clause-cleaned
returns-in-Ok-opened_of-clause-cleaned g c =
    let d = g.D.Disk in
    let now : Files = d.content c.opened_of.new.disk in
    λ honest. subst (λ (m : Files). Cleans m now) (c.in-Ok.ensures.same honest) (c.in-Ok-opened_of.ensures.cleaned (c.sync.ensures.serves.kept.0 honest))

-- ---- the disk failed, or memory was wanting

pub returns-in-Err-clause-serves : goal.returns-in-Err-clause-serves
returns-in-Err-clause-serves g c =
    let d = g.D.Disk in
    both_serve d.honest d.faults c.args.disk c.sync.new.self c.opened_of.new.disk _ _ _ c.sync.ensures.serves c.in-Err.ensures.serves
    (λ told. inr (of_disk Opened c.in-Err.e c.from.result c.from.ensures told))

pub returns-in-Err-clause-crash : goal.returns-in-Err-clause-crash
returns-in-Err-clause-crash g c =
    let d = g.D.Disk in let m = g.met.D.Disk in
    stops_opening d c.args.disk c.opened_of.new.disk c.in-Err.e c.from.result c.from.ensures
    (opens d m.told c.args.disk c.sync.new.self c.opened_of.new.disk c.sync.ensures.serves.kept c.in-Ok.ensures.same c.sync.ensures.tick c.sync.ensures.crash c.in-Ok.ensures.durable
    c.in-Err.ensures.crash)

pub returns-in-Err-clause-not_opened : goal.returns-in-Err-clause-not_opened
returns-in-Err-clause-not_opened g c =
    let d = g.D.Disk in
    let now : Files = d.content c.opened_of.new.disk in
    record {
      remote_is = refl;
      clock_is = refl;
      want = λ honest wanting.
          subst (λ (m : Files). MayClean m m now) (c.in-Ok.ensures.same honest)
          (c.in-Err.ensures.want (c.sync.ensures.serves.kept.0 honest) (of_memory Opened c.in-Err.e c.from.result c.from.ensures wanting));
    }

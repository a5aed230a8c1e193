use Rattle.std.proofs.Common.{List, ℕ, subst, rules}
use Rattle.disk_trait.specs.Files.{Files}
use Rattle.snapshot_files.specs.Removed.{Goes}
use Rattle.snapshot_files.proofs.Leavers.{cleans_all}
use Rattle.snapshot_files.proofs.Answering.{clean_same, leaves_by}
use Rattle.snapshot_files.proofs.Placing.{none_is}
use Rattle.snapshot_files.proofs.removing.clean.Goals as goal

pub returns-in_err-manifests-clause-crash : goal.returns-in_err-manifests-clause-crash
returns-in_err-manifests-clause-crash g c =
    let d = g.D.Disk in let m = g.met.D.Disk in
    clean_same d c.args.disk.now c.args.disk.now (none_is d.calls d.images d.honest m.told c.args.disk.now)

pub returns-in_err-remove_all_leaving-clause-crash : goal.returns-in_err-remove_all_leaving-clause-crash
returns-in_err-remove_all_leaving-clause-crash g c =
    let d = g.D.Disk in let m = g.met.D.Disk in
    let read : Files = d.content c.args.disk.now in
    leaves_by d m.told c.in_ok-manifests.manifests c.args.disk.now c.remove_all_leaving.new.disk (λ honest. c.in_ok-manifests.ensures read (c.requires honest))
    c.remove_all_leaving.ensures.crash

pub returns-in_err-remove_all_leaving-clause-want : goal.returns-in_err-remove_all_leaving-clause-want
returns-in_err-remove_all_leaving-clause-want g c =
    let d = g.D.Disk in
    let read : Files = d.content c.args.disk.now in
    λ honest want. c.remove_all_leaving.ensures.only honest (search rules) read (c.in_ok-manifests.ensures read (c.requires honest))

pub returns-clause-crash : goal.returns-clause-crash
returns-clause-crash g c =
    let d = g.D.Disk in let m = g.met.D.Disk in
    let read : Files = d.content c.args.disk.now in
    leaves_by d m.told c.in_ok-manifests.manifests c.args.disk.now c.remove_all_leaving.new.disk (λ honest. c.in_ok-manifests.ensures read (c.requires honest))
    c.remove_all_leaving.ensures.crash

pub returns-clause-cleaned : goal.returns-clause-cleaned
returns-clause-cleaned g c =
    let d = g.D.Disk in
    let read : Files = d.content c.args.disk.now in
    let now : Files = d.content c.remove_all_leaving.new.disk in
    λ honest.
    let listed = c.requires honest in
    let has = c.in_ok-manifests.ensures read listed in
    cleans_all read now (c.in_ok-remove_all_leaving.ensures.only honest (search rules) read has)
    (subst (λ (ns : List (List ℕ)). Goes read ns now) listed (c.in_ok-remove_all_leaving.ensures.gone honest read has))

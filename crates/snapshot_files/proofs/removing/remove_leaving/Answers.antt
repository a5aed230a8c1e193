use Rattle.std.proofs.Common.{◌∙◌, inr, None, ap}
use Rattle.std.specs.FinMap.{get}
use Rattle.disk_trait.specs.Laws.{placed_same}
use Rattle.snapshot_files.proofs.Leavers.{cleans_one, goes_here, goes_not}
use Rattle.snapshot_files.proofs.Answering.{leaves_none, leaves_one}
use Rattle.snapshot_files.proofs.removing.remove_leaving.Goals as goal

pub returns-in_err-is_leaving-clause-crash : goal.returns-in_err-is_leaving-clause-crash
returns-in_err-is_leaving-clause-crash g c =
    let d = g.D.Disk in let m = g.met.D.Disk in leaves_none d m.told c.args.manifests.now c.args.disk.now

pub returns-in_err-remove-clause-crash : goal.returns-in_err-remove-clause-crash
returns-in_err-remove-clause-crash g c =
    let d = g.D.Disk in let m = g.met.D.Disk in
    leaves_one d m.told c.args.manifests.now c.args.disk.now c.remove.new.self c.args.name.now
    (λ read has. (c.in_ok-is_leaving.ensures read has).0 c.if-branch.true) c.remove.ensures.crash

pub returns-in_ok-remove-clause-crash : goal.returns-in_ok-remove-clause-crash
returns-in_ok-remove-clause-crash g c =
    let d = g.D.Disk in let m = g.met.D.Disk in
    leaves_one d m.told c.args.manifests.now c.args.disk.now c.remove.new.self c.args.name.now
    (λ read has. (c.in_ok-is_leaving.ensures read has).0 c.if-branch.true) c.remove.ensures.crash

pub returns-in_ok-remove-clause-gone : goal.returns-in_ok-remove-clause-gone
returns-in_ok-remove-clause-gone g c =
    let d = g.D.Disk in
    let name = c.args.name.now in
    λ honest read has.
    goes_here read (d.content c.remove.new.self) name
    (ap (λ m. get m name) (c.in_ok-remove.ensures.removed honest) ∙ placed_same (d.content c.args.disk.now) name None)

pub returns-in_ok-remove-clause-only : goal.returns-in_ok-remove-clause-only
returns-in_ok-remove-clause-only g c =
    let d = g.D.Disk in
    λ honest _ read has.
    cleans_one read (d.content c.args.disk.now) (d.content c.remove.new.self) c.args.name.now
    ((c.in_ok-is_leaving.ensures read has).0 c.if-branch.true) (inr (c.in_ok-remove.ensures.removed honest))

pub returns-else-branch-clause-crash : goal.returns-else-branch-clause-crash
returns-else-branch-clause-crash g c =
    let d = g.D.Disk in let m = g.met.D.Disk in leaves_none d m.told c.args.manifests.now c.args.disk.now

pub returns-else-branch-clause-gone : goal.returns-else-branch-clause-gone
returns-else-branch-clause-gone g c =
    let d = g.D.Disk in
    λ honest read has.
    goes_not read (d.content c.args.disk.now) c.args.name.now ((c.in_ok-is_leaving.ensures read has).1 c.if-branch.false)

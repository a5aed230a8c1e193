use Rattle.std.proofs.Common.{◌≡◌, Some, rules}
use Rattle.disk_trait.specs.Runs.{leaves_as}
use Rattle.snapshot_files.proofs.Placing.{none_is}
use Rattle.snapshot_files.proofs.Losing.{loses_its, loses_none}
use Rattle.snapshot_files.proofs.forgetting.remove_file.Goals as goal

pub returns-in_err-remove-clause-crash : goal.returns-in_err-remove-clause-crash
returns-in_err-remove-clause-crash g c =
    let f = g.F.Stored in
    let name = c.as_str.result.now in
    let its : f.at c.args.file.now ≡ Some name = search rules in
    leaves_as c.remove.ensures.crash (λ n x. (x.0, x.1, loses_its (f.at c.args.file.now) name x.0 n its x.2))

pub returns-in_ok-remove-clause-crash : goal.returns-in_ok-remove-clause-crash
returns-in_ok-remove-clause-crash g c =
    let f = g.F.Stored in
    let name = c.as_str.result.now in
    let its : f.at c.args.file.now ≡ Some name = search rules in
    leaves_as c.remove.ensures.crash (λ n x. (x.0, x.1, loses_its (f.at c.args.file.now) name x.0 n its x.2))

pub returns-in_default-clause-crash : goal.returns-in_default-clause-crash
returns-in_default-clause-crash g c =
    let d = g.D.Disk in let m = g.met.D.Disk in let f = g.F.Stored in
    leaves_as (none_is d.calls d.images d.honest m.told c.args.disk.now) (λ n x. (x.0, x.1, loses_none _ x.0 n x.2))

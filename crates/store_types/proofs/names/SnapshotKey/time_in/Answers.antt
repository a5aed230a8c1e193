use Rattle.std.proofs.Common.{sym}
use Rattle.store_types.specs.declared.names.SnapshotKey.{SnapshotKey}
use Rattle.store_types.proofs.KeyLaws.{key_one}
use Rattle.store_types.proofs.names.SnapshotKey.time_in.Goals as goal

pub returns-clause-bound : goal.returns-clause-bound
returns-clause-bound c =
    let key : SnapshotKey = record { kind = c.in_ok-time.field-0-0; id = c.in_ok-time.field-0-1.now; time = c.in_ok-time.time } in
    ((key_one c.args.text.now key (sym c.in_ok-time.ensures)).0).1

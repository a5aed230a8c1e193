use Rattle.std.proofs.Common.{◌≡◌, sym, Some}
use Rattle.store_types.specs.declared.names.SnapshotKey.{SnapshotKey}
use Rattle.store_types.specs.Names.{key_of}
use Rattle.store_types.proofs.KeyLaws.{key_one}
use Rattle.store_types.proofs.names.SnapshotKey.parse.Goals as goal

pub returns-clause-grammar : goal.returns-clause-grammar
returns-clause-grammar c =
    let key : SnapshotKey = record { kind = c.in-Some.kind; id = c.in_ok-id.id; time = c.in-Some.time } in
    let read : key_of c.args.text.now ≡ Some key = rw c.in_ok-id.ensures (sym c.in-Some.ensures) in
    (key_one c.args.text.now key read).0

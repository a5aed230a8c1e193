use Rattle.std.proofs.Common.{◌≡◌, sym, Some}
use Rattle.store_types.specs.declared.names.GroupKey.{GroupKey}
use Rattle.store_types.specs.Names.{group_of}
use Rattle.store_types.proofs.KeyLaws.{group_one}
use Rattle.store_types.proofs.names.GroupKey.parse.Goals as goal

pub returns-clause-grammar : goal.returns-clause-grammar
returns-clause-grammar c =
    let group : GroupKey = record { kind = c.in-Some.kind; id = c.in_ok-id.id } in
    let read : group_of c.args.text.now ≡ Some group = rw c.in_ok-id.ensures (sym c.in-Some.ensures) in
    (group_one c.args.text.now group read).0

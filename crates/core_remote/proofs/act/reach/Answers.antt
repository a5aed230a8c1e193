use Rattle.std.proofs.Common.{◌≡◌, Err, sym, subst, rules}
use Rattle.core_state.proofs.RemoteLemmas.{stays_same}
use Rattle.core_remote.specs.RemoteActs.{GivesRemote}
use Rattle.core_state.specs.Kept.{kept_at}
use Rattle.core_remote.proofs.RemoteLemmas.{has_name}
use Rattle.core_remote.proofs.Told.{gives_none}
use Rattle.core_remote.proofs.act.reach.Goals as goal

pub returns-in_err-may_read-clause-stays : goal.returns-in_err-may_read-clause-stays
returns-in_err-may_read-clause-stays g c = stays_same g.E.Disk c.args.remote.now

pub returns-in_err-may_read-clause-gives : goal.returns-in_err-may_read-clause-gives
returns-in_err-may_read-clause-gives g c =
    let is : c.from_residual.result ≡ Err c.in_err-may_read.field-0.0 = search rules in
    subst (λ r. GivesRemote g.E.Disk c.args.remote.now c.args.act r) (sym is) (gives_none g.E.Disk c.args.remote.now c.args.act c.in_err-may_read.field-0.0)

pub read-requires-clause-named : goal.read-requires-clause-named
read-requires-clause-named g c =
    has_name c.is_some-has_remote.result (kept_at c.args.parts.now c.args.lane) c.args.act c.requires.kind c.requires.formed c.in_ok-may_read.ensures

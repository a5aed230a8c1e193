use Rattle.std.proofs.Common.{◌≡◌, ◌∙◌, ap, Err, rules}
use Rattle.std.specs.Prelude.{option_map}
use Rattle.store_model.specs.Store.{Store, in_group}
use Rattle.store_model.specs.Heads.{idle_group}
use Rattle.plain_sessions.proofs.Stopping.{gives_stop}
use Rattle.plain_store.proofs.SyncLemmas.{pull_refused, pull_no_remote, pull_goes}
use Rattle.plain_store.proofs.plain.Plain.to_pull.Goals as goal

pub returns-in_err-group-clause-gives : goal.returns-in_err-group-clause-gives
returns-in_err-group-clause-gives c =
    let s = c.args.self.now in
    let is : c.from_residual.result ≡ Err c.in_err-group.field-0.0 = search rules in
    gives_stop (λ found. found.items) (λ group. group) c.from_residual.result c.in_err-group.field-0.0 _ (idle_group s c.args.lane c.args.group.now) is c.in_err-group.ensures.gives
    (pull_refused (option_map (λ p. p.now.snapshots) c.args.remote) s c.args.lane c.args.group.now)

pub returns-in_default-clause-gives : goal.returns-in_default-clause-gives
returns-in_default-clause-gives c =
    let s = c.args.self.now in
    pull_no_remote (option_map (λ p. p.now.snapshots) c.args.remote) s c.args.lane c.args.group.now c.in_ok-group.group c.in_ok-group.ensures.gives (ap (option_map (λ p. p.now.snapshots)) c.in_default.is)

pub returns-clause-gives : goal.returns-clause-gives
returns-clause-gives c =
    let s = c.args.self.now in
    let g = c.in_ok-group.group in
    let here = c.deref-3.ensures.value ∙ c.in_ok-here.ensures ∙ ap (in_group g) (c.deref.ensures.value ∙ ap (λ (x : Store). x.snapshots) c.self.view_is) in
    let there = c.deref-4.ensures.value ∙ c.in_ok-there.ensures ∙ ap (in_group g) (c.deref-2.ensures.value ∙ ap (λ (x : Store). x.snapshots) c.remote.view_is) in
    pull_goes (option_map (λ p. p.now.snapshots) c.args.remote) s c.args.lane c.args.group.now g c.in_ok-group.ensures.gives c.in-Some.remote.now.snapshots c.deref-3.result.now c.deref-4.result.now
    c.in_ok-found.found.items (option_map (λ key. key.now) c.newest_told.result) (ap (option_map (λ p. p.now.snapshots)) c.in-Some.is) here there c.newest_told.ensures c.in_ok-found.ensures

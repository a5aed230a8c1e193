use Rattle.std.proofs.Common.{◌≡◌, ◌∙◌, ap, Ok, Err, rules}
use Rattle.std.specs.Prelude.{Result, option_map}
use Rattle.store_types.specs.declared.refusal.Refusal.{Refusal}
use Rattle.store_types.specs.declared.refusal.Refusal.TheVariants.{CollectorBusy}
use Rattle.store_model.specs.Heads.{idle_in}
use Rattle.store_model.specs.Lanes.{Collecting, Run}
use Rattle.store_model.specs.Weave.{want_collector}
use Rattle.plain_store.proofs.RunLemmas.{collector_not_idle, collector_free, collector_busy}
use Rattle.plain_store.proofs.run.Run.want_collector.Goals as goal

abbrev Tested : Type 0
Tested = Result (Unit {0}) Refusal

pub returns-in_err-idle_in-clause-test : goal.returns-in_err-idle_in-clause-test
returns-in_err-idle_in-clause-test c =
    let k = c.args.lane in
    let inside = c.self.inside in
    let r : Run = record { store = inside.store; remote = option_map (λ p. p.now.snapshots) inside.remote; lanes = inside.lanes.items; collecting = inside.collecting; fault = inside.fault } in
    let refusal = c.in_err-idle_in.field-0.0 in
    let is : c.from_residual.result ≡ Err refusal = search rules in
    let busy : idle_in inside.store k ≡ Err refusal = search rules in
    is ∙ collector_not_idle r k refusal busy ∙ ap (λ (x : Run). want_collector x k) c.self.view_is

pub returns-in-None-clause-test : goal.returns-in-None-clause-test
returns-in-None-clause-test c =
    let k = c.args.lane in
    let inside = c.self.inside in
    let r : Run = record { store = inside.store; remote = option_map (λ p. p.now.snapshots) inside.remote; lanes = inside.lanes.items; collecting = inside.collecting; fault = inside.fault } in
    let idle : idle_in inside.store k ≡ Ok tt = search rules in
    collector_free r k idle c.in-None.is ∙ ap (λ (x : Run). want_collector x k) c.self.view_is

pub returns-in-Some-clause-test : goal.returns-in-Some-clause-test
returns-in-Some-clause-test c =
    let k = c.args.lane in
    let inside = c.self.inside in
    let r : Run = record { store = inside.store; remote = option_map (λ p. p.now.snapshots) inside.remote; lanes = inside.lanes.items; collecting = inside.collecting; fault = inside.fault } in
    let idle : idle_in inside.store k ≡ Ok tt = search rules in
    ap (λ (refusal : Refusal). (let refused : Tested = Err refusal in refused)) (c.collector_busy.ensures.refusal ∙ ap (λ (x : Collecting). CollectorBusy x.lane) c.open.view_is)
    ∙ collector_busy r k idle c.in-Some.open c.in-Some.is ∙ ap (λ (x : Run). want_collector x k) c.self.view_is

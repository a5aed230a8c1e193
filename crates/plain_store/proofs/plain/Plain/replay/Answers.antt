use Rattle.std.proofs.Common.{◌≡◌, ◌++◌, ◌∙◌, ap, sym, subst, ℕ, List, length, arith, Ok}
use Rattle.std.specs.Prelude.{IsTrue, option_map}
use Rattle.store_files.specs.Order.{keeps_rules}
use Rattle.store_model.specs.Lanes.{Run}
use Rattle.store_model.specs.Weave.{known, run_from}
use Rattle.plain_store.specs.declared.frees.Free.{Free}
use Rattle.plain_store.specs.Frees.{frees_from}
use Rattle.plain_store.proofs.WeaveLemmas.{woven_ok, woven_err, over, all_noted}
use Rattle.plain_store.proofs.plain.Plain.replay.Goals as goal

pub loop-place-init : goal.loop-place-init
loop-place-init c =
    let E = known c.args.endings.now in
    let order = c.args.order.now in
    record {
      goes = ap (λ (r : Run). run_from E r 0 order) c.in_ok-run.ensures.run;
      noted = ap (λ (l : List Free). l ++ frees_from E c.in_ok-run.run' 0 order) c.new-frees.ensures.items ∙ ap (λ (r : Run). frees_from E r 0 order) c.in_ok-run.ensures.run;
      lanes = c.in_ok-run.ensures.lanes;
    }

pub take_turn-requires-clause-rules : goal.take_turn-requires-clause-rules
take_turn-requires-clause-rules c =
    subst (λ (n : ℕ). IsTrue (keeps_rules n c.args.order.now)) (sym c.loop-place.invariant.lanes) c.requires.rules

pub returns-in-Some : goal.returns-in-Some
returns-in-Some c =
    let stopped = (rw c.in-Some.is at c.in_ok-misfit.ensures.turn) in
    woven_err c.args.endings.now c.args.self.now.snapshots (option_map (λ p. p.now.snapshots) c.args.remote) c.args.order.now c.args.inputs.now c.in-Some.misfit
    (sym c.loop-place.invariant.goes ∙ stopped)

pub loop-place-preserved : goal.loop-place-preserved
loop-place-preserved c =
    let taken = (rw c.in_default.is at c.in_ok-misfit.ensures.turn) in
    record {
      goes = sym taken.0 ∙ c.loop-place.invariant.goes;
      noted = taken.1 ∙ c.loop-place.invariant.noted;
      lanes = c.in_ok-misfit.ensures.lanes ∙ c.loop-place.invariant.lanes;
    }

pub returns : goal.returns
returns c =
    let E = known c.args.endings.now in
    let order = c.args.order.now in
    let place = c.loop-place.place in
    let all : place ≡ length order = omega arith in
    let ended = sym c.loop-place.invariant.goes ∙ over E c.loop-place.run order place all in (
      ap (λ w. Ok w) c.in_ok-woven.ensures
          ∙ woven_ok c.args.endings.now c.args.self.now.snapshots (option_map (λ p. p.now.snapshots) c.args.remote) order c.args.inputs.now c.loop-place.run ended,
      all_noted E c.loop-place.run order place c.loop-place.frees.items _ all c.loop-place.invariant.noted,
    )

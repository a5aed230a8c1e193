use Rattle.std.proofs.Common.{◌≡◌, ◌++◌, drop, length}
use Rattle.std.specs.Prelude.{option_map}
use Rattle.store_model.specs.Lanes.{new_run}
use Rattle.store_model.specs.Weave.{known, run_from}
use Rattle.plain_store.specs.Frees.{frees, frees_from}
use Rattle.plain_store.proofs.plain.Plain.replay.Given as goal

abbrev pub invariant-loop-place : goal.invariant-loop-place
invariant-loop-place l = record {
  goes : run_from (known l.endings) l.run l.place (drop l.place l.order)
      ≡ run_from (known l.endings) (new_run l.self.snapshots (option_map (λ p. p.now.snapshots) l.remote) l.inputs) 0 l.order;
  noted : l.frees.items ++ frees_from (known l.endings) l.run l.place (drop l.place l.order)
      ≡ frees (known l.endings) l.self.snapshots (option_map (λ p. p.now.snapshots) l.remote) l.order l.inputs;
  lanes : length l.run.lanes ≡ length l.inputs;
}

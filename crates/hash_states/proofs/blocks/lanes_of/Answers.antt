use Rattle.std.proofs.Common.{rules, ℕ, List, [], slice_index, ap, ◌∙◌, arith, below_more}
use Rattle.std.proofs.lemmas.List.{get_or-set_same, get_or-set_other}
use Rattle.hash_states.proofs.FourLanes.{lane_is}
use Rattle.hash_states.proofs.blocks.lanes_of.Goals as goal

pub lanes-preserved : goal.lanes-preserved
lanes-preserved c = (
  search rules,
  below_more _ _
      (λ k below. get_or-set_other c.lanes.lanes c.lanes.i k _ [] (omega arith) ∙ c.lanes.invariant.1 k below)
      (get_or-set_same c.lanes.lanes c.lanes.i _ [] (omega arith)),
)

pub returns-clause-a : goal.returns-clause-a
returns-clause-a c =
    lane_is c.lanes.lanes c.args.a.now 0 (omega (arith, c.told-a))
    (λ k below. ap (λ (w : List ℕ). slice_index w 0) (c.lanes.invariant.1 k (omega arith)))

pub returns-clause-b : goal.returns-clause-b
returns-clause-b c =
    lane_is c.lanes.lanes c.args.b.now 1 (omega (arith, c.told-b))
    (λ k below. ap (λ (w : List ℕ). slice_index w 1) (c.lanes.invariant.1 k (omega arith)))

pub returns-clause-c : goal.returns-clause-c
returns-clause-c c =
    lane_is c.lanes.lanes c.args.c.now 2 (omega (arith, c.told-c))
    (λ k below. ap (λ (w : List ℕ). slice_index w 2) (c.lanes.invariant.1 k (omega arith)))

pub returns-clause-d : goal.returns-clause-d
returns-clause-d c =
    lane_is c.lanes.lanes c.args.d.now 3 (omega (arith, c.told-d))
    (λ k below. ap (λ (w : List ℕ). slice_index w 3) (c.lanes.invariant.1 k (omega arith)))

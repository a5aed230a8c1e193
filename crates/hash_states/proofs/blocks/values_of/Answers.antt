use Rattle.std.proofs.Common.{rules, ◌≡◌, ℕ, ◌<◌, List, [], length, slice_index, slice_index_or, slice_set, refl, sym, ap, ◌∙◌, arith, below_more}
use Rattle.std.proofs.lemmas.List.{get_or-set_same, get_or-set_other, length-set}
use Rattle.hash_states.proofs.FourLanes.{each_lane, lane_is, set_each, set_each_at}
use Rattle.hash_states.proofs.blocks.values_of.Goals as goal

pub lanes-init : goal.lanes-init
lanes-init c = (
  refl,
  each_lane _ (refl, refl, refl, refl),
  λ j lane k below. absurd (omega arith),
)

pub lanes-preserved : goal.lanes-preserved
lanes-preserved c =
    let i = c.lanes.i in
    let values = c.lanes.values in
    let word = slice_index_or c.args.lanes.now i [] in
    let row : (j : ℕ) → j < 4
    → slice_index_or (set_each values i word) j [] ≡ slice_set (slice_index_or values j []) i (slice_index word j) =
    set_each_at values i word c.lanes.invariant.0 in (
      search rules,
      λ j lane. ap (λ (l : List ℕ). length l) (row j lane) ∙ length-set _ _ _ ∙ c.lanes.invariant.1 j lane,
      λ j lane.
          let old = slice_index_or values j [] in
          let long : length old ≡ 8 = c.lanes.invariant.1 j lane in
          below_more _ _
          (λ k below.
          ap (λ (l : List ℕ). slice_index l k) (row j lane)
          ∙ get_or-set_other old i k (slice_index word j) 0 (omega arith) ∙ c.lanes.invariant.2 j lane k below)
          (ap (λ (l : List ℕ). slice_index l i) (row j lane) ∙ get_or-set_same old i (slice_index word j) 0 (omega arith)),
    )

pub returns : goal.returns
returns c = λ j lane.
    sym (lane_is c.args.lanes.now (slice_index_or c.lanes.values j []) j
    (c.lanes.invariant.1 j lane ∙ sym c.told-lanes)
    (λ k below. sym (c.lanes.invariant.2 j lane k (omega arith))))

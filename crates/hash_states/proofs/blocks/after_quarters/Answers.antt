use Rattle.std.proofs.Common.{◌≡◌, ◌+◌, ◌*◌, ◌/◌, [], drop, slice_index, slice_index_or, ◌∙◌, arith}
use Rattle.std.proofs.lemmas.List.{drop-drop}
use Rattle.sha2.specs.Sha256.{hash_after}
use Rattle.hash_states.specs.Lanes.{lane_of}
use Rattle.hash_states.proofs.FourLanes.{each_lane}
use Rattle.hash_states.proofs.Words.{next_block}
use Rattle.hash_states.proofs.blocks.after_quarters.Goals as goal

pub blocks-2-init : goal.blocks-2-init
unfolding hash_after
blocks-2-init c = each_lane _ (
  c.lanes_of-lanes.ensures.a,
  c.lanes_of-lanes.ensures.b,
  c.lanes_of-lanes.ensures.c,
  c.lanes_of-lanes.ensures.d,
)

pub blocks-2-preserved : goal.blocks-2-preserved
blocks-2-preserved c = λ j lane.
    let part = drop (j * c.args.len) c.args.bytes.now in
    let i = c.blocks-2.i in
    let behind : drop (64 * i) part ≡ drop (j * c.args.len + 64 * i) c.args.bytes.now =
    drop-drop (64 * i) (j * c.args.len) c.args.bytes.now in
    next_block (slice_index_or c.args.values.now j []) part (lane_of slice_index j c.blocks-2.lanes)
    (lane_of slice_index j c.words_of_quarters.result) (lane_of slice_index j c.compress-next.result)
    i (64 * i) (c.blocks-2.invariant j lane) (rw behind (c.words_of_quarters.ensures j lane)) (omega arith)
    (c.compress-next.ensures j lane)

pub returns : goal.returns
returns c = λ j lane.
    let done : c.blocks-2.i ≡ c.args.len / 64 = omega arith in
    c.values_of.ensures j lane ∙ rw done at (c.blocks-2.invariant j lane)

use Rattle.std.proofs.Common.{ℕ, ◌+◌, ◌*◌, List, arith}
use Rattle.hash_states.specs.Lanes.{lane_of}
use Rattle.hash_states.proofs.LaneLemmas.{lane_of-at}
use Rattle.hash_states.proofs.Sixteen.{round_more}
use Rattle.hash_states.proofs.rounds.four_rounds.Goals as goal

pub returns : goal.returns
returns g c j lt block h window before =
    let n : ℕ = c.args.n in
    let i : ℕ = c.args.i in
    let t : ℕ = 16 * n + i in
    let words : List ℕ = lane_of g.W.Word.lane j c.args.words.now in
    let at = lane_of-at g.W.Word.lane j c.args.words.now in
    let one =
    round_more block h words _ _ n i t (t + 1) _
    (omega arith) (omega arith) (omega arith) window
    (at i c.index-words-i.result (omega arith)) before (c.round-v.ensures j lt) in
    let two =
    round_more block h words _ _ n (i + 1) (t + 1) (t + 2) _
    (omega arith) (omega arith) (omega arith) window
    (at (i + 1) c.index-words-i-2.result (omega arith)) one (c.round-v-2.ensures j lt) in
    let three =
    round_more block h words _ _ n (i + 2) (t + 2) (t + 3) _
    (omega arith) (omega arith) (omega arith) window
    (at (i + 2) c.index-words-i-3.result (omega arith)) two (c.round-v-3.ensures j lt) in
    round_more block h words _ _ n (i + 3) (t + 3) (16 * n + (i + 4)) _
    (omega arith) (omega arith) (omega arith) window
    (at (i + 3) c.index-words-i-4.result (omega arith)) three (c.round.ensures j lt)

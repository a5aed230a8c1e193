use Rattle.std.proofs.Common.{◌≡◌, ◌+◌, ◌*◌, arith}
use Rattle.hash_states.proofs.rounds.next_words.Goals as goal

pub returns : goal.returns
returns g c j lt block n low high before =
    let begin : 16 * n ≡ 16 * n + 0 = omega arith in
    let end : 16 * n + 16 ≡ 16 * (n + 1) = omega arith in
    let four = c.extend_by_four.ensures j lt block n low high (rw (← begin) before) in
    let eight = c.extend_by_four-2.ensures j lt block n low high four in
    let twelve = c.extend_by_four-3.ensures j lt block n low high eight in
    rw (← end) (c.extend_by_four-4.ensures j lt block n low high twelve)

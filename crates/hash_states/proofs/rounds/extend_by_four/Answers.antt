use Rattle.std.proofs.Common.{ℕ, ◌+◌, arith}
use Rattle.hash_states.proofs.Sixteen.{extended}
use Rattle.hash_states.proofs.rounds.extend_by_four.Goals as goal

pub returns : goal.returns
returns g c j lt block n low high before =
    let i : ℕ = c.args.i in
    let one =
    extended block _ _ n i (i + 1) low high (omega arith) (omega arith) (c.extend.ensures j lt) before in
    let two =
    extended block _ _ n (i + 1) (i + 2) low high (omega arith) (omega arith) (c.extend-2.ensures j lt) one in
    let three =
    extended block _ _ n (i + 2) (i + 3) low high (omega arith) (omega arith) (c.extend-3.ensures j lt) two in
    extended block _ _ n (i + 3) (i + 4) low high (omega arith) (omega arith) (c.extend-4.ensures j lt) three

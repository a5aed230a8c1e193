use Rattle.std.proofs.Common.{◌≡◌, suc, ◌+◌, ◌-◌, ◌/◌, ◌^◌, ◌++◌, vec_len, refl, sym, ap, ◌∙◌, arith}
use Rattle.generator.specs.Pieces.{bytes_after}
use Rattle.generator.proofs.PieceLemmas.{begins, goes_on, ended}
use Rattle.generator.proofs.pieces.piece.Goals as goal

pub loop-x-init : goal.loop-x-init
loop-x-init c =
    let x = c.after-x.result in
    let size = 1024 + x / 2 ^ 52 in
    let none = c.in_ok-bytes.ensures.len in
    let all : size - vec_len c.in_ok-bytes.bytes ≡ size = omega (arith, none) in
    record {
      few = omega (arith, none);
      rest =
          ap (λ t. t ++ bytes_after (size - vec_len c.in_ok-bytes.bytes) x) c.in_ok-bytes.ensures.items ∙ ap (λ n. bytes_after n x) all
          ∙ begins c.args.seed x size c.after-x.ensures refl;
    }

pub loop-x-preserved : goal.loop-x-preserved
loop-x-preserved c =
    let first = c.after-x.result in
    let size = 1024 + first / 2 ^ 52 in
    let y = c.after-x-in-loop-x.result in
    let more = c.in_ok-push.ensures.len in
    let left : size - vec_len c.loop-x.bytes ≡ suc (size - vec_len c.push.new.self) = omega (arith, more, c.len.ensures, c.loop-x-test.true) in
    record {
      few = omega (arith, more, c.len.ensures, c.loop-x-test.true);
      rest =
          ap (λ t. t ++ bytes_after (size - vec_len c.push.new.self) y) c.in_ok-push.ensures.items
          ∙ sym (goes_on c.loop-x.bytes.items (size - vec_len c.loop-x.bytes) (size - vec_len c.push.new.self) c.loop-x.x y left c.after-x-in-loop-x.ensures)
          ∙ c.loop-x.invariant.rest;
    }

pub returns : goal.returns
returns c =
    let size = 1024 + c.after-x.result / 2 ^ 52 in
    let none : size - vec_len c.loop-x.bytes ≡ 0 = omega (arith, c.len.ensures, c.loop-x-test.false) in
    sym (ended c.loop-x.bytes.items (size - vec_len c.loop-x.bytes) c.loop-x.x none) ∙ c.loop-x.invariant.rest

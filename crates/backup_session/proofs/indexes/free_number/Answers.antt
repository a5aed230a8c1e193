use Rattle.std.proofs.Common.{◌≡◌, ◌-◌, ◌+◌, suc, true, false, sym, ◌∙◌, arith}
use Rattle.std.specs.Prelude.{◌==◌}
use Rattle.std.specs.List.{list_any}
use Rattle.backup_session.specs.Kept.{opens_of}
use Rattle.backup_session.specs.Steps.{numbers}
use Rattle.backup_session.proofs.Numbers.{number_taken, free_more, free_here, free_end}
use Rattle.backup_session.proofs.indexes.free_number.Goals as goal

pub loop-number-preserved : goal.loop-number-preserved
loop-number-preserved c =
    let n = c.loop-number.number in
    let next : 16 - n ≡ suc (16 - (n + 1)) = omega arith in
    let taken : list_any (λ k. k == n) (numbers (opens_of c.args.begun.now)) ≡ true = number_taken n c.args.begun.now ∙ sym c.has_number.ensures ∙ c.if-not-has_number.false in
    sym (free_more (numbers (opens_of c.args.begun.now)) (16 - n) (16 - (n + 1)) n next taken) ∙ c.loop-number.invariant

pub returns-then-not-has_number : goal.returns-then-not-has_number
returns-then-not-has_number c =
    let n = c.loop-number.number in
    let next : 16 - n ≡ suc (16 - (n + 1)) = omega arith in
    let free : list_any (λ k. k == n) (numbers (opens_of c.args.begun.now)) ≡ false = number_taken n c.args.begun.now ∙ sym c.has_number.ensures ∙ c.if-not-has_number.true in
    sym (free_here (numbers (opens_of c.args.begun.now)) (16 - n) (16 - (n + 1)) n next free) ∙ c.loop-number.invariant

pub returns : goal.returns
returns c =
    let at : c.loop-number.number ≡ 16 = omega arith in
    let none : 16 - c.loop-number.number ≡ 0 = omega arith in
    sym at ∙ sym (free_end (numbers (opens_of c.args.begun.now)) (16 - c.loop-number.number) c.loop-number.number none) ∙ c.loop-number.invariant

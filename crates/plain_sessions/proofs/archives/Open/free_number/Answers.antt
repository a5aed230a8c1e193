use Rattle.std.proofs.Common.{◌≡◌, ◌-◌, ◌+◌, suc, true, false, map, sym, ◌∙◌, arith}
use Rattle.std.specs.Prelude.{◌==◌}
use Rattle.std.specs.List.{list_any}
use Rattle.plain_sessions.proofs.Opened.{number_taken, free_more, free_here, free_end}
use Rattle.plain_sessions.proofs.archives.Open.free_number.Goals as goal

pub loop-number-preserved : goal.loop-number-preserved
loop-number-preserved c =
    let n = c.loop-number.number in
    let numbers = map (λ b. b.number) c.args.self.now in
    let next : 16 - n ≡ suc (16 - (n + 1)) = omega arith in
    let taken : list_any (λ k. k == n) numbers ≡ true = number_taken n c.args.self.now ∙ sym c.has_number.ensures ∙ c.if-not-has_number.false in
    sym (free_more numbers (16 - n) (16 - (n + 1)) n next taken) ∙ c.loop-number.invariant

pub returns-then-not-has_number : goal.returns-then-not-has_number
returns-then-not-has_number c =
    let n = c.loop-number.number in
    let numbers = map (λ b. b.number) c.args.self.now in
    let next : 16 - n ≡ suc (16 - (n + 1)) = omega arith in
    let free : list_any (λ k. k == n) numbers ≡ false = number_taken n c.args.self.now ∙ sym c.has_number.ensures ∙ c.if-not-has_number.true in
    sym (free_here numbers (16 - n) (16 - (n + 1)) n next free) ∙ c.loop-number.invariant

pub returns : goal.returns
returns c =
    let numbers = map (λ b. b.number) c.args.self.now in
    let at : c.loop-number.number ≡ 16 = omega arith in
    let none : 16 - c.loop-number.number ≡ 0 = omega arith in
    sym at ∙ sym (free_end numbers (16 - c.loop-number.number) c.loop-number.number none) ∙ c.loop-number.invariant

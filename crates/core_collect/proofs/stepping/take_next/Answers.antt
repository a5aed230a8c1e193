use Rattle.std.proofs.Common.{◌≡◌, ◌∙◌, true, false, sym}
use Rattle.core_collect.proofs.stepping.take_next.Goals as goal

true_false : true ≡ false → ⊥
true_false e = cc

pub end_early-requires-clause-cut : goal.end_early-requires-clause-cut
end_early-requires-clause-cut g c = sym c.is_cut.ensures ∙ c.if-is_cut.true

pub returns-then-is_cut : goal.returns-then-is_cut
returns-then-is_cut g c = record {
  ends = λ _. (c.end_early.ensures.told, c.end_early.ensures.text);
  goes = λ uncut. absurd (true_false (sym (sym c.is_cut.ensures ∙ c.if-is_cut.true) ∙ uncut));
}

pub go_on-requires-clause-uncut : goal.go_on-requires-clause-uncut
go_on-requires-clause-uncut g c = sym c.is_cut.ensures ∙ c.if-is_cut.false

pub returns : goal.returns
returns g c = record {
  ends = λ cut. absurd (true_false (sym cut ∙ sym c.is_cut.ensures ∙ c.if-is_cut.false));
  goes = λ _. c.go_on.ensures;
}

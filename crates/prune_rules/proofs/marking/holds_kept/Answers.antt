use Rattle.std.proofs.Common.{◌≡◌, ◌<◌, eqb, get_or, length, inl, inr, sym, subst, false, arith}
use Rattle.std.proofs.lemmas.Bool.{cases_Bool, and_parts, eqb-true, both_ways}
use Rattle.prune_rules.specs.declared.Mark.TheVariants.{Removed}
use Rattle.prune_rules.specs.Slots.{keeps_at, number_at, is_kept}
use Rattle.prune_rules.proofs.Ranges.{any_at, any_none}
use Rattle.prune_rules.proofs.marking.holds_kept.Goals as goal

pub returns-then-keeps : goal.returns-then-keeps
returns-then-keeps c =
    let within : c.place_at.result < length c.args.items.now = c.place_at.ensures.within in
    sym (any_at (keeps_at c.args.period c.args.items.now c.args.into.now c.args.number) _ c.place_at.result within (sym c.if-keeps.ensures))

pub returns : goal.returns
returns c =
    let keeps = keeps_at c.args.period c.args.items.now c.args.into.now c.args.number in
    let number = number_at c.args.period c.args.items.now in
    sym (any_none keeps (length c.args.items.now) (λ i h. elim (cases_Bool (keeps i)) [
      | inl e ↦
          let same : number i ≡ c.args.number = eqb-true (number i) c.args.number (and_parts (is_kept (get_or c.args.into.now i Removed)) (eqb (number i) c.args.number) e).1 in
          let at = c.requires.all i h same in
          let early : at.0 < c.loop-k.k = omega (arith, at.2) in
          absurd (both_ways _ (subst (λ p. keeps p ≡ false) at.3 (c.loop-k.invariant at.0 at.1 early)) e)
      | inr e ↦ e
    ]))

use Rattle.std.proofs.Common.{◌≡◌, ℕ, suc, ◌-◌, ◌<◌, ◌&&◌, ◌||◌, false, length, get_or, set, eqb, Some, [], refl, sym, ap, subst, ◌∙◌, arith}
use Rattle.std.proofs.lemmas.List.{get_or-set_same, get_or-set_other}
use Rattle.prune_rules.specs.declared.Mark.TheVariants.{Kept, Removed}
use Rattle.prune_rules.specs.Slots.{choice, slot_in, item_at, number_at, time_at, is_kept, holds_kept}
use Rattle.prune_rules.proofs.Taking.{Reached, reached_begin, reached_none, reached_zero, reached_skip, reached_more, open_at}
use Rattle.prune_rules.proofs.First.{leads}
use Rattle.prune_rules.proofs.marking.take_any.Goals as goal

pub loop-left-init : goal.loop-left-init
loop-left-init c =
    reached_begin (choice c.args.period c.args.count) (length c.args.items.now) (slot_in c.args.items.now c.args.covered.now c.args.into.now)

pub returns-in_default : goal.returns-in_default
returns-in_default c =
    reached_none (choice c.args.period c.args.count) (length c.args.items.now) (slot_in c.args.items.now c.args.covered.now c.args.into.now)
    _ _ c.loop-left.bound c.loop-left.left c.loop-left.invariant (λ k. refl) (λ k h. c.in_default.ensures.first k (omega arith) h)

pub returns : goal.returns
returns c =
    reached_zero (choice c.args.period c.args.count) (length c.args.items.now) (slot_in c.args.items.now c.args.covered.now c.args.into.now)
    _ _ c.loop-left.bound c.loop-left.left c.loop-left.invariant (λ k. refl) (omega arith)

pub loop-left-preserved : goal.loop-left-preserved
loop-left-preserved c =
    let items = c.args.items.now in
    let ch = choice c.args.period c.args.count in
    let F = slot_in items c.args.covered.now c.args.into.now in
    let kept = λ (k : ℕ). is_kept (get_or c.loop-left.into k Removed) in
    let covered = λ (k : ℕ). get_or c.loop-left.covered k false in
    let i = c.in-Some.newest in
    let first = leads (open_at ch (length items) F covered c.loop-left.bound) (number_at c.args.period items) (time_at items) [] 0 (length items) (length items) i
    c.in-Some.ensures.within (λ j h e. (j, omega arith, h, refl)) c.in-Some.ensures.first in
    let number = c.number_at-number.ensures in
    subst (λ t. Reached ch (length items) F kept covered (Some t) c.loop-left.left) (sym number)
    (reached_skip ch (length items) F kept covered c.loop-left.bound c.loop-left.left c.loop-left.invariant i first
    (ap (holds_kept c.args.period items c.loop-left.into) (sym number) ∙ sym c.holds_kept.ensures ∙ c.if-not-holds_kept.false))

pub loop-left-preserved-then-not-holds_kept : goal.loop-left-preserved-then-not-holds_kept
loop-left-preserved-then-not-holds_kept c =
    let items = c.args.items.now in
    let ch = choice c.args.period c.args.count in
    let F = slot_in items c.args.covered.now c.args.into.now in
    let kept = λ (k : ℕ). is_kept (get_or c.loop-left.into k Removed) in
    let covered = λ (k : ℕ). get_or c.loop-left.covered k false in
    let i = c.in-Some.newest in
    let first = leads (open_at ch (length items) F covered c.loop-left.bound) (number_at c.args.period items) (time_at items) [] 0 (length items) (length items) i
    c.in-Some.ensures.within (λ j h e. (j, omega arith, h, refl)) c.in-Some.ensures.first in
    let number = c.number_at-number.ensures in
    let within : i < length c.loop-left.into = omega (arith, first.within, c.loop-left.auto.into) in
    let kept' = λ (k : ℕ). is_kept (get_or (set c.loop-left.into i Kept) k Removed) in
    let covered' = λ (k : ℕ). get_or c.cover.new.covered k false in
    let left : c.loop-left.left ≡ suc (c.loop-left.left - 1) = omega arith in
    subst (λ t. Reached ch (length items) F kept' covered' (Some t) (c.loop-left.left - 1)) (sym number)
    (reached_more ch (length items) F kept covered c.loop-left.bound c.loop-left.left c.loop-left.invariant i first
    (ap (holds_kept c.args.period items c.loop-left.into) (sym number) ∙ sym c.holds_kept.ensures ∙ c.if-not-holds_kept.true) (λ k. refl)
    (c.loop-left.left - 1) left kept' covered'
    (ap is_kept (get_or-set_same c.loop-left.into i Kept Removed within))
    (λ k other. ap is_kept (get_or-set_other c.loop-left.into i k Kept Removed other))
    (λ k h. c.cover.ensures k h ∙ ap (λ t. covered k || ((item_at items k).finished && eqb (number_at c.args.period items k) t)) number))

pub holds_kept-requires-clause-all : goal.holds_kept-requires-clause-all
holds_kept-requires-clause-all c = λ i h same. (i, omega arith, h, refl)

pub cover-requires-clause-all : goal.cover-requires-clause-all
cover-requires-clause-all c = λ i h same. (i, omega arith, h, refl)

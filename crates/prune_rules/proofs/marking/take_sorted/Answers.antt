use Rattle.std.proofs.Common.{◌≡◌, ℕ, suc, zero, ◌-◌, ◌<◌, ◌&&◌, ◌||◌, false, length, get_or, set, eqb, refl, sym, ap, subst, ◌∙◌, arith}
use Rattle.std.proofs.lemmas.List.{get_or-set_same, get_or-set_other}
use Rattle.prune_rules.specs.declared.Mark.TheVariants.{Kept, Removed}
use Rattle.prune_rules.specs.Slots.{choice, slot_in, item_at, number_at, is_kept, holds_kept, Spans}
use Rattle.prune_rules.proofs.Ordering.{places}
use Rattle.prune_rules.proofs.Taking.{reached_zero, reached_skip, reached_more}
use Rattle.prune_rules.proofs.Rising.{Before, before_begin, before_none, before_pass, before_next, own_period, spans, first_of_all}
use Rattle.prune_rules.proofs.marking.take_sorted.Goals as goal

pub loop-end-init : goal.loop-end-init
loop-end-init c =
    before_begin (choice c.args.period c.args.count) (length c.args.items.now) (slot_in c.args.items.now c.args.covered.now c.args.into.now) c.args.order.now

pub returns-then-left-eq0 : goal.returns-then-left-eq0
returns-then-left-eq0 c =
    reached_zero (choice c.args.period c.args.count) (length c.args.items.now) (slot_in c.args.items.now c.args.covered.now c.args.into.now)
    _ _ c.loop-end.invariant.bound c.loop-end.left c.loop-end.invariant.reached (λ k. refl) c.if-left-eq0.true

pub returns : goal.returns
returns c =
    let ch = choice c.args.period c.args.count in
    let items = c.args.items.now in
    let F = slot_in items c.args.covered.now c.args.into.now in
    let kept = λ (k : ℕ). is_kept (get_or c.loop-end.into k Removed) in
    let covered = λ (k : ℕ). get_or c.loop-end.covered k false in
    let end : c.loop-end.end ≡ zero = omega arith in
    before_none ch (length items) F c.args.order.now kept covered c.loop-end.left (places (length items) c.args.order.now c.requires.order) (λ k. refl)
    (subst (Before ch (length items) F c.args.order.now kept covered c.loop-end.left) end c.loop-end.invariant)

pub loop-end-preserved : goal.loop-end-preserved
loop-end-preserved c =
    before_pass (choice c.args.period c.args.count) (length c.args.items.now) (slot_in c.args.items.now c.args.covered.now c.args.into.now) c.args.order.now
    _ _ c.loop-end.left c.loop-end.end (places (length c.args.items.now) c.args.order.now c.requires.order) c.loop-end.invariant
    c.run_start-start.result c.run_start-start.ensures c.in_default.ensures.first

pub loop-end-preserved-else-not-holds_kept : goal.loop-end-preserved-else-not-holds_kept
loop-end-preserved-else-not-holds_kept c =
    let items = c.args.items.now in
    let ch = choice c.args.period c.args.count in
    let F = slot_in items c.args.covered.now c.args.into.now in
    let kept = λ (k : ℕ). is_kept (get_or c.loop-end.into k Removed) in
    let covered = λ (k : ℕ). get_or c.loop-end.covered k false in
    let i = c.in-Some.newest in
    let before = c.loop-end.invariant in
    let order = c.args.order.now in
    let reach = places (length items) order c.requires.order in
    let start = c.run_start-start.result in
    let run = c.run_start-start.ensures in
    let number = c.number_at-number.ensures in
    let first = first_of_all ch (length items) F order kept covered c.loop-end.left c.loop-end.end reach before start run i c.in-Some.ensures.first in
    before_next ch (length items) F order kept covered c.loop-end.left c.loop-end.end reach before start run i c.in-Some.ensures.first kept covered c.loop-end.left
    (reached_skip ch (length items) F kept covered before.bound c.loop-end.left before.reached i first
    (ap (holds_kept c.args.period items c.loop-end.into) (sym number) ∙ sym c.holds_kept.ensures ∙ c.if-not-holds_kept.false))

pub loop-end-preserved-then-not-holds_kept : goal.loop-end-preserved-then-not-holds_kept
loop-end-preserved-then-not-holds_kept c =
    let items = c.args.items.now in
    let ch = choice c.args.period c.args.count in
    let F = slot_in items c.args.covered.now c.args.into.now in
    let kept = λ (k : ℕ). is_kept (get_or c.loop-end.into k Removed) in
    let covered = λ (k : ℕ). get_or c.loop-end.covered k false in
    let kept' = λ (k : ℕ). is_kept (get_or (set c.loop-end.into c.in-Some.newest Kept) k Removed) in
    let covered' = λ (k : ℕ). get_or c.cover.new.covered k false in
    let i = c.in-Some.newest in
    let before = c.loop-end.invariant in
    let order = c.args.order.now in
    let reach = places (length items) order c.requires.order in
    let start = c.run_start-start.result in
    let run = c.run_start-start.ensures in
    let number = c.number_at-number.ensures in
    let first = first_of_all ch (length items) F order kept covered c.loop-end.left c.loop-end.end reach before start run i c.in-Some.ensures.first in
    let within : i < length c.loop-end.into = omega (arith, first.within, c.loop-end.auto.into) in
    let left : c.loop-end.left ≡ suc (c.loop-end.left - 1) = omega arith in
    before_next ch (length items) F order kept covered c.loop-end.left c.loop-end.end reach before start run i c.in-Some.ensures.first kept' covered' (c.loop-end.left - 1)
    (reached_more ch (length items) F kept covered before.bound c.loop-end.left before.reached i first
    (ap (holds_kept c.args.period items c.loop-end.into) (sym number) ∙ sym c.holds_kept.ensures ∙ c.if-not-holds_kept.true) (λ k. refl)
    (c.loop-end.left - 1) left kept' covered'
    (ap is_kept (get_or-set_same c.loop-end.into i Kept Removed within))
    (λ k other. ap is_kept (get_or-set_other c.loop-end.into i k Kept Removed other))
    (λ k h. c.cover.ensures k h ∙ ap (λ t. covered k || ((item_at items k).finished && eqb (number_at c.args.period items k) t)) number))

pub holds_kept-requires-clause-all : goal.holds_kept-requires-clause-all
holds_kept-requires-clause-all c =
    let ch = choice c.args.period c.args.count in
    let items = c.args.items.now in
    let F = slot_in items c.args.covered.now c.args.into.now in
    let kept = λ (k : ℕ). is_kept (get_or c.loop-end.into k Removed) in
    let covered = λ (k : ℕ). get_or c.loop-end.covered k false in
    let i = c.in-Some.newest in
    let order = c.args.order.now in
    let reach = places (length items) order c.requires.order in
    let start = c.run_start-start.result in
    let own = own_period ch (length items) F order kept covered c.loop-end.left c.loop-end.end reach c.loop-end.invariant start c.run_start-start.ensures i c.in-Some.ensures.first in
    subst (λ t. Spans (number_at c.args.period items) (length items) t order start c.loop-end.end) (sym c.number_at-number.ensures)
    (spans ch (length items) F order kept covered c.loop-end.left c.loop-end.end reach c.loop-end.invariant start c.run_start-start.ensures i own)

pub cover-requires-clause-all : goal.cover-requires-clause-all
cover-requires-clause-all c =
    let ch = choice c.args.period c.args.count in
    let items = c.args.items.now in
    let F = slot_in items c.args.covered.now c.args.into.now in
    let kept = λ (k : ℕ). is_kept (get_or c.loop-end.into k Removed) in
    let covered = λ (k : ℕ). get_or c.loop-end.covered k false in
    let i = c.in-Some.newest in
    let order = c.args.order.now in
    let reach = places (length items) order c.requires.order in
    let start = c.run_start-start.result in
    let own = own_period ch (length items) F order kept covered c.loop-end.left c.loop-end.end reach c.loop-end.invariant start c.run_start-start.ensures i c.in-Some.ensures.first in
    subst (λ t. Spans (number_at c.args.period items) (length items) t order start c.loop-end.end) (sym c.number_at-number.ensures)
    (spans ch (length items) F order kept covered c.loop-end.left c.loop-end.end reach c.loop-end.invariant start c.run_start-start.ensures i own)

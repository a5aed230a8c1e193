use Rattle.std.proofs.Common.{◌∙◌, ap, length, replicate, arith, false}
use Rattle.std.specs.List.{fold}
use Rattle.prune_rules.specs.declared.Mark.TheVariants.{Removed}
use Rattle.prune_rules.specs.Prune.{after_choice, choices}
use Rattle.prune_rules.proofs.Ordering.{orders_made}
use Rattle.prune_rules.proofs.SlotLemmas.{begins, ends}
use Rattle.prune_rules.proofs.mark_in_order.Goals as goal

pub returns : goal.returns
returns c =
    let items = c.args.items.now in
    let keep = c.args.keep.now in
    let plain = c.fill.ensures.after (λ y e. e) ∙ ap (λ n. replicate n false) c.requires.covered in
    let removed = c.fill-2.ensures.after (λ y e. e) ∙ ap (λ n. replicate n Removed) c.requires.into in
    ends items keep c.take_options.new.covered c.take_options.new.into c.keep_others.new.into c.has_no_option.result (omega arith) c.has_no_option.ensures
    c.keep_others.ensures
    (c.take_options.ensures ∙ ap (λ slots. fold after_choice slots (choices keep)) (begins items c.fill.new.self c.fill-2.new.self plain removed))

pub take_options-requires-clause-order : goal.take_options-requires-clause-order
take_options-requires-clause-order c =
    orders_made (length c.args.items.now) c.args.order.now c.number_places.new.order c.requires.order c.number_places.ensures

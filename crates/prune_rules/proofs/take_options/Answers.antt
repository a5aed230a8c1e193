use Rattle.std.proofs.Common.{◌∙◌, ap}
use Rattle.prune_rules.specs.Prune.{after_choice}
use Rattle.prune_rules.specs.Slots.{choice}
use Rattle.prune_rules.specs.declared.periods.Period.TheVariants.{Hour, Day, Week, Month, Year}
use Rattle.prune_rules.proofs.take_options.Goals as goal

pub returns : goal.returns
returns c =
    let keep = c.args.keep.now in
    let hours = c.take_periods-2.ensures.slots ∙ ap (λ s. after_choice s (choice Hour keep.hourly)) c.take_periods.ensures.slots in
    let days = c.take_periods-3.ensures.slots ∙ ap (λ s. after_choice s (choice Day keep.daily)) hours in
    let weeks = c.take_periods-4.ensures.slots ∙ ap (λ s. after_choice s (choice Week keep.weekly)) days in
    let months = c.take_periods-5.ensures.slots ∙ ap (λ s. after_choice s (choice Month keep.monthly)) weeks in
    c.take_periods-6.ensures.slots ∙ ap (λ s. after_choice s (choice Year keep.yearly)) months

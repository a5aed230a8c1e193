use Rattle.std.proofs.Common.{◌≡◌, ◌∙◌, Some, None, Result, Ok, Err, length, rules, refl, sym, ap, arith}
use Rattle.store_types.specs.declared.refusal.Refusal.{Refusal}
use Rattle.core_state.specs.Found.{first_unreadable}
use Rattle.core_state.specs.Heads.{idle_in}
use Rattle.core_state.specs.Kept.{kept_at}
use Rattle.core_state.proofs.HeadLemmas.{decided_first}
use Rattle.core_state.proofs.Texts.{unreadable_has_text}
use Rattle.core_collect.specs.Starting.{start_told}
use Rattle.core_collect.proofs.StartLemmas.{told_busy, told_damaged, told_free, told_session}
use Rattle.core_collect.proofs.starting.may_open.Goals as goal

pub returns-in_err-idle_in : goal.returns-in_err-idle_in
returns-in_err-idle_in g c =
    decided_first (λ idle. idle) idle_in (λ may. may) (start_told c.args.collector.now) c.args.parts.now c.args.lane (told_session c.args.collector.now (kept_at c.args.parts.now c.args.lane))
    c.in_err-idle_in.field-0.0 _ c.from_residual.ensures.1 c.in_err-idle_in.ensures.decides

pub returns-in-Some : goal.returns-in-Some
returns-in-Some g c =
    let ahead : c.args.collector.now ≡ Some c.in-Some.other = search rules in
    (told_busy c.args.collector.now (kept_at c.args.parts.now c.args.lane) c.in-Some.other c.in_ok-idle_in.ensures.decides ahead ∙ ap (λ r. let x : Result (Unit {0}) Refusal = Err r in x) (sym c.busy_on.ensures.value), c.busy_on.ensures.text)

pub returns-in-Some-first_damage : goal.returns-in-Some-first_damage
returns-in-Some-first_damage g c =
    let none : c.args.collector.now ≡ None = search rules in
    let damage : first_unreadable c.args.parts.now.catalogue.listed ≡ Some c.in_ok-name.name = search rules in
    let is : c.in_ok-name.name ≡ c.in-Some-first_damage.name.now = search rules in
    let short = ap length is in
    let few = c.in-Some-first_damage.ensures.short _ refl in
    (told_damaged c.args.collector.now (kept_at c.args.parts.now c.args.lane) c.in_ok-name.name c.in_ok-idle_in.ensures.decides none damage, unreadable_has_text c.in_ok-name.name (omega (arith, short, few)))

pub returns : goal.returns
returns g c =
    let none : c.args.collector.now ≡ None = search rules in
    let whole : first_unreadable c.args.parts.now.catalogue.listed ≡ None = search rules in
    told_free c.args.collector.now (kept_at c.args.parts.now c.args.lane) c.in_ok-idle_in.ensures.decides none whole

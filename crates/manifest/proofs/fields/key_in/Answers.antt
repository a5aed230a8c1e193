use Rattle.std.proofs.Common.{sym, ◌∙◌}
use Rattle.serde_json.specs.View.{view}
use Rattle.manifest.proofs.Groups.{key-no_group, key-no_time, key-late, key-some}
use Rattle.manifest.proofs.fields.key_in.Goals as goal

pub returns-in_default : goal.returns-in_default
returns-in_default c = sym (key-no_group (view c.args.json.now) (sym c.in_ok-group.ensures ∙ c.in_default.is))

pub returns-in_default-number_in : goal.returns-in_default-number_in
returns-in_default-number_in c =
    sym (key-no_time (view c.args.json.now) c.in-Some.group (sym c.in_ok-group.ensures ∙ c.in-Some.is) (sym c.number_in.ensures ∙ c.in_default-number_in.is))

pub returns-then-time-gt-LAST_MOMENT : goal.returns-then-time-gt-LAST_MOMENT
returns-then-time-gt-LAST_MOMENT c =
    sym (key-late (view c.args.json.now) c.in-Some.group (sym c.in_ok-group.ensures ∙ c.in-Some.is) c.in-Some-number_in.time (sym c.in-Some-number_in.ensures) c.if-time-gt-LAST_MOMENT.true)

pub returns : goal.returns
returns c =
    sym (key-some (view c.args.json.now) c.in-Some.group (sym c.in_ok-group.ensures ∙ c.in-Some.is) c.in-Some-number_in.time (sym c.in-Some-number_in.ensures) c.if-time-gt-LAST_MOMENT.false)

use Rattle.std.proofs.Common.{◌≡◌, ◌<◌, length, sym, ◌∙◌, arith}
use Rattle.std.specs.Prelude.{min}
use Rattle.std.proofs.lemmas.Bool.{eqb-true}
use Rattle.plain_lanes.proofs.AppendLemmas.{append_pushed, appends_done, some_left}
use Rattle.plain_lanes.proofs.uploads.push_appends.Goals as goal

pub loop-left-preserved : goal.loop-left-preserved
loop-left-preserved c =
    let left = c.loop-left.left.now in
    let n = c.min.result in
    let some : 0 < length left = some_left left (sym c.is_empty.ensures ∙ c.loop-left-test.true) in
    let few : n ≡ min (length left) 4096 = omega (arith, c.min.ensures) in
    let part = c.from_vec.ensures ∙ c.in_ok-from_slice.ensures.items ∙ c.split_at.ensures.front in
    append_pushed c.loop-left.commands.items c.push.new.self.items left c.from_vec.result c.split_at.result.1.now n some few part c.split_at.ensures.back c.in_ok-push.ensures.items
    ∙ c.loop-left.invariant

pub loop-left-smaller : goal.loop-left-smaller
loop-left-smaller c =
    let some : 0 < length c.loop-left.left.now = some_left c.loop-left.left.now (sym c.is_empty.ensures ∙ c.loop-left-test.true) in
    omega (arith, c.min.ensures, c.split_at.ensures.back_len)

pub returns : goal.returns
returns c =
    let none : length c.loop-left.left.now ≡ 0 = eqb-true (length c.loop-left.left.now) 0 (sym c.is_empty.ensures ∙ c.loop-left-test.false) in
    appends_done c.loop-left.commands.items _ c.loop-left.left.now none c.loop-left.invariant

use Rattle.std.proofs.Common.{List, drop, take, ap, ◌-◌, ◌∙◌, arith}
use Rattle.store_types.specs.declared.append.AppendEntry.{AppendEntry}
use Rattle.pull_steps.proofs.Placed.{appends_ask, batch_is}
use Rattle.pull_steps.proofs.stages.AtEntry.append.Goals as goal

pub returns : goal.returns
returns c =
    let a = c.args.self.now in
    let end = c.min-end.result in
    appends_ask a c.from_vec.result
    (c.from_vec.ensures ∙ c.in_ok-entries.ensures.items ∙ ap (λ (es : List AppendEntry). take (end - a.place) (drop a.place es)) c.deref.ensures.value ∙ batch_is a end (omega (arith, c.min-end.ensures, c.len.ensures, (a.sending).index.entries.ok.0)))

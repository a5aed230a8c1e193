use Rattle.std.proofs.Common.{◌≡◌, ap, Some, unwrap_or, ◌∙◌}
use Rattle.wire_commands.specs.declared.reply.Reply.TheVariants.{Refused}
use Rattle.store_model.specs.Lanes.{Run}
use Rattle.store_model.specs.Weave.{close_collector, fault_refusal}
use Rattle.plain_store.proofs.RunLemmas.{fault_kept}
use Rattle.plain_store.proofs.run.Run.fault_open.Goals as goal

pub returns-clause-told : goal.returns-clause-told
returns-clause-told c =
    let r = c.args.self.now in
    let k = c.args.lane in
    let place = c.args.place in
    let kept = c.unwrap_or.result in
    let first = ap (λ (x : Run). x.fault) c.self.view_is in
    let same : kept ≡ unwrap_or r.fault place = c.unwrap_or.ensures ∙ ap (λ f. unwrap_or f place) first in
    let refusal = c.fault_refusal.ensures.refusal ∙ ap fault_refusal first in
    let closed = c.self-2.view_is ∙ c.in_ok-close_collector.ensures.closed ∙ ap (λ q. close_collector r k (Refused q)) refusal in
    ap (λ (x : Run). (let y : Run = record x { fault = Some kept } in y)) closed ∙ fault_kept r k place kept same

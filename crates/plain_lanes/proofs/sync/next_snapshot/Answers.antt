use Rattle.std.proofs.Common.{◌≡◌, List, ℕ, length, sym, ap, subst, ◌∙◌, arith}
use Rattle.wire_commands.specs.declared.reply.Reply.TheVariants.{Keys}
use Rattle.wire_commands.specs.HasText.{ReplyHasText}
use Rattle.store_model.specs.Job.{over}
use Rattle.plain_lanes.proofs.SyncLemmas.{keys_spelled, no_snapshot, a_snapshot}
use Rattle.plain_lanes.proofs.sync.next_snapshot.Goals as goal

pub returns-in_default-clause-job : goal.returns-in_default-clause-job
returns-in_default-clause-job c =
    let empty : length c.args.snapshots.items ≡ 0 = omega (arith, (rw c.in_default.is at c.pop_front.ensures.cases)) in
    ap (λ ts. over (Keys ts)) c.from_vec.ensures ∙ no_snapshot c.args.pulled.items c.args.snapshots.items empty

pub returns-in_default-clause-spelled : goal.returns-in_default-clause-spelled
returns-in_default-clause-spelled c =
    subst (λ (ts : List (List ℕ)). ReplyHasText (Keys ts)) (sym c.from_vec.ensures) (keys_spelled c.args.pulled.items c.requires.few c.requires.spelled)

pub returns-clause-job : goal.returns-clause-job
returns-clause-job c = a_snapshot c.args.pulled.items c.args.snapshots.items c.pop_front.new.self.items c.in-Some.snapshot c.in-Some.ensures.items

use Rattle.std.proofs.Common.{◌≤◌, length, List, ℕ, sym, subst, arith}
use Rattle.wire_commands.specs.declared.reply.Reply.TheVariants.{Keys}
use Rattle.wire_commands.specs.HasText.{ReplyHasText}
use Rattle.pull_steps.proofs.Chosen.{first_short}
use Rattle.pull_steps.proofs.Texts.{keys_text}
use Rattle.pull_steps.proofs.starting.next_snapshot.Goals as goal

pub returns-in-Some-clause-text : goal.returns-in-Some-clause-text
returns-in-Some-clause-text c =
    let short = first_short c.args.later.items c.in-Some.snapshot c.pop_front.new.self.items c.in-Some.ensures.items c.requires.later in
    (short.0, short.1, c.requires.pulled)

pub returns-in-None-clause-text : goal.returns-in-None-clause-text
returns-in-None-clause-text c =
    let pulled = c.args.pulled in
    let few : length pulled.items ≤ 4096 = omega (arith, c.requires.few, pulled.ok.0) in
    subst (λ (xs : List (List ℕ)). ReplyHasText (Keys xs)) (sym c.from_vec.ensures) (keys_text pulled.items few c.requires.pulled)

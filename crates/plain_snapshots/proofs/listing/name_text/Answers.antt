use Rattle.std.proofs.Common.{◌≡◌, ◌∙◌, length, ap, arith}
use Rattle.std.proofs.lemmas.Result.{IfOk-weaker}
use Rattle.wire_commands.specs.HasText.{IsText}
use Rattle.plain_snapshots.proofs.KeyLength.{name_short}
use Rattle.plain_snapshots.proofs.listing.name_text.Goals as goal

pub returns-clause-fits : goal.returns-clause-fits
returns-clause-fits c =
    let short = name_short c.args.name.now c.as_slice.ensures.grammar in
    IfOk-weaker c.from_slice.result (λ b. b ≡ c.as_slice.result.now) IsText (λ b e. let same = ap length (e ∙ c.as_slice.ensures.value) in omega (arith, short, same)) c.from_slice.ensures

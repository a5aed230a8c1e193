use Rattle.std.proofs.Common.{◌≡◌, rules, arith, Some}
use Rattle.core_state.specs.Found.{kept_named}
use Rattle.core_state.specs.Kept.{kept_at}
use Rattle.core_state.proofs.Texts.{unreadable_has_text}
use Rattle.core_reader.proofs.OpenSteps.{open_damaged}
use Rattle.core_reader.proofs.opening.to_open.Goals as goal

pub returns-in-Some : goal.returns-in-Some
returns-in-Some g c =
    let kept = c.in_ok-kept.kept.now in
    let name = c.in_ok-name.name in
    let there : kept_named c.in_ok-key.key c.args.parts.now.catalogue.listed ≡ Some kept = search rules in
    let damage : kept.unreadable ≡ Some name = search rules in
    let lent : c.named.result ≡ Some c.in_ok-kept.kept = search rules in
    let short = c.named.ensures.short _ lent name damage in (
      open_damaged c.args.snapshot.now (kept_at c.args.parts.now c.args.lane) c.in_ok-key.key kept name c.in_ok-key.ensures.decides there damage,
      unreadable_has_text name (omega (arith, short)),
    )

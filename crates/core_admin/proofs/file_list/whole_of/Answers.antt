use Rattle.std.proofs.Common.{◌≡◌, ◌∙◌, Some, None, Ok, Err, Result, rules, refl, sym, ap, arith}
use Rattle.store_types.specs.Chain.Refusing.{◌>>=◌, if_none, or_else}
use Rattle.store_types.specs.declared.refusal.Refusal.{Refusal}
use Rattle.store_types.specs.declared.refusal.Refusal.TheVariants.{NoSnapshot, Unreadable}
use Rattle.core_state.specs.Found.{kept_named}
use Rattle.core_state.specs.declared.kept.Kept.{Kept}
use Rattle.core_state.proofs.Naming.{kept_key}
use Rattle.core_state.proofs.Texts.{no_snapshot_has_text, unreadable_has_text}
use Rattle.core_admin.specs.FilesTold.{whole}
use Rattle.core_admin.proofs.file_list.whole_of.Goals as goal

pub returns-in_default-clause-finds : goal.returns-in_default-clause-finds
returns-in_default-clause-finds c =
    let missing : None ≡ kept_named c.args.key.now c.args.catalogue.now.listed = search rules in
    (ap (λ o. or_else NoSnapshot o >>= whole) (sym missing), no_snapshot_has_text)

pub returns-in-Some-unreadable-clause-finds : goal.returns-in-Some-unreadable-clause-finds
returns-in-Some-unreadable-clause-finds c =
    let k = c.in-Some.kept.now in
    let name = c.in_ok-name.name in
    let damage : k.unreadable ≡ Some name = search rules in
    let short = c.in-Some.ensures.short _ refl name damage in
    (ap (λ o. or_else NoSnapshot o >>= whole) (sym c.in-Some.ensures.value) ∙ ap (λ o. if_none Unreadable o >>= λ _. let r : Result Kept Refusal = Ok k in r) damage, unreadable_has_text name (omega (arith, short)))

pub returns-clause-finds : goal.returns-clause-finds
returns-clause-finds c =
    let k = c.in-Some.kept.now in
    let undamaged : k.unreadable ≡ None = search rules in
    ap (λ o. or_else NoSnapshot o >>= whole) (sym c.in-Some.ensures.value) ∙ ap (λ o. if_none Unreadable o >>= λ _. let r : Result Kept Refusal = Ok k in r) undamaged

pub returns-clause-key : goal.returns-clause-key
returns-clause-key c = kept_key c.args.catalogue.now.listed c.args.key.now c.in-Some.kept.now (sym c.in-Some.ensures.value)

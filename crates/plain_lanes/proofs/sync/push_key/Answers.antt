use Rattle.std.proofs.Common.{◌++◌, ◌∷◌, [], List, ℕ, sym, ap, subst, ◌∙◌, arith}
use Rattle.std.specs.Prelude.{All}
use Rattle.std.proofs.lemmas.List.Elements.{All-push}
use Rattle.store_types.specs.Names.{key_text}
use Rattle.store_files.specs.Archive.{Snapshot}
use Rattle.wire_commands.specs.HasText.{IsText}
use Rattle.plain_lanes.proofs.sync.push_key.Goals as goal

pub returns-clause-keys : goal.returns-clause-keys
returns-clause-keys c =
    c.in_ok-push.ensures.items
    ∙ ap (λ (t : List ℕ). c.args.pulled.items ++ t ∷ []) (c.in_ok-text.ensures.text ∙ ap (λ (x : Snapshot). key_text x.key) c.snapshot.view_is)

pub returns-clause-few : goal.returns-clause-few
returns-clause-few c = omega (arith, c.in_ok-push.ensures.len)

pub returns-clause-spelled : goal.returns-clause-spelled
returns-clause-spelled c =
    subst (λ (ts : List (List ℕ)). All IsText ts) (sym c.in_ok-push.ensures.items)
    (All-push IsText c.args.pulled.items c.in_ok-text.field-0 c.requires.spelled c.in_ok-text.ensures.short)

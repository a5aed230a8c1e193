use Rattle.std.proofs.Common.{sym, subst}
use Rattle.std.specs.Prelude.{IfSome}
use Rattle.std.specs.List.{All}
use Rattle.std.proofs.lemmas.List.Elements.{All-push}
use Rattle.snapshot_files.specs.Grouped.{IsOfGroup}
use Rattle.snapshot_files.proofs.grouping.add_key.Goals as goal

pub returns-clause-named : goal.returns-clause-named
returns-clause-named c =
    let named = IsOfGroup c.args.group.now in
    let old = c.args.keys.now.items in
    let key = c.in-Some.key in
    λ h.
    subst (All named) (sym c.in_ok-push.ensures.items)
    (All-push named old key h (subst (λ o. IfSome o named) c.in-Some.is c.in_ok-key.ensures.named))

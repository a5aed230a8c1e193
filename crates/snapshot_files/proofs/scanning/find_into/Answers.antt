use Rattle.std.proofs.Common.{◌∙◌, ◌∷◌, [], sym, subst}
use Rattle.std.specs.List.{All}
use Rattle.std.proofs.lemmas.List.Elements.{All-nil, All-cons, All-append}
use Rattle.snapshot_files.specs.Scanned.{HasNames}
use Rattle.snapshot_files.proofs.Joined.{none_behind, one_behind}
use Rattle.snapshot_files.proofs.scanning.find_into.Goals as goal

pub returns-in_default-clause-found : goal.returns-in_default-clause-found
returns-in_default-clause-found g c = λ h. none_behind c.args.all.now.items _ (sym (c.in_ok-found.ensures.found h) ∙ c.in_default.is)

pub returns-clause-found : goal.returns-clause-found
returns-clause-found g c = λ h. one_behind c.args.all.now.items c.push.new.self.items _ c.in-Some.found (sym (c.in_ok-found.ensures.found h) ∙ c.in-Some.is) c.in_ok-push.ensures.items

pub returns-clause-names : goal.returns-clause-names
returns-clause-names g c = λ h.
    subst (All HasNames) (sym c.in_ok-push.ensures.items)
    (All-append HasNames c.args.all.now.items (c.in-Some.found ∷ []) h (All-cons HasNames c.in-Some.found [] (rw c.in-Some.is at c.in_ok-found.ensures.names) (All-nil HasNames)))

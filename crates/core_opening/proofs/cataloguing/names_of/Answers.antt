use Rattle.std.proofs.Common.{◌≡◌, ◌∷◌, [], map, option_map, sym, subst, ◌∙◌}
use Rattle.std.proofs.lemmas.List.{map-id}
use Rattle.std.proofs.lemmas.Iterator.Adapters.{YieldsList-from_vec}
use Rattle.std.proofs.lemmas.Iterator.Consumers.{YieldsList-end}
use Rattle.manifest.specs.declared.facts.FileFact.{FileFact}
use Rattle.manifest.specs.Views.{manifest_view}
use Rattle.store_types.specs.FileNames.{manifest_name}
use Rattle.core_opening.specs.Opening.{ListsNames}
use Rattle.core_opening.proofs.Naming.{HasMembers, members_none, members_more, members_listed, lists_all}
use Rattle.core_opening.proofs.cataloguing.names_of.Goals as goal

pub loop-file-init : goal.loop-file-init
loop-file-init c =
    subst (λ n. HasMembers c.insert.new.self (n ∷ [])) c.in_ok-manifest.ensures
    (members_more c.new-names.result c.insert.new.self [] c.in_ok-manifest.field-0 (members_none c.new-names.result c.new-names.ensures.empty) c.in_ok-insert.ensures.updates)

pub loop-file-preserved : goal.loop-file-preserved
loop-file-preserved c = members_listed c.loop-file.names c.insert-in-loop-file.new.self c.loop-file.yielded c.in-Some-file.file c.loop-file.invariant c.in_ok-insert-2.ensures.updates

pub returns : goal.returns
returns c =
    let files = c.in-Some.manifest.files in
    let all = YieldsList-end (YieldsList-from_vec files (cc) (cc)) c.loop-file.yielded _ c.loop-file.yielded_by _ c.next.new.self c.in-None.is c.next.ensures.steps in
    let yielded : c.loop-file.yielded ≡ files = sym (map-id c.loop-file.yielded) ∙ all.0 in
    subst (λ o. ListsNames (option_map manifest_view o) c.loop-file.names.keys) (sym c.in-Some.is)
    (lists_all c.loop-file.names c.in-Some.manifest (subst (λ fs. HasMembers c.loop-file.names (manifest_name ∷ map (λ (f : FileFact). f.name) fs)) yielded c.loop-file.invariant))

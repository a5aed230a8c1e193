use Rattle.std.proofs.Common.{◌≡◌, None, Some, sym, ap, ◌∙◌}
use Rattle.std.specs.Prelude.{option_map}
use Rattle.store_files.specs.Archive.{file_named}
use Rattle.plain_lanes.proofs.ListedLemmas.{not_found, found_one}
use Rattle.plain_lanes.proofs.uploads.push_named.Goals as goal

pub returns-in_default : goal.returns-in_default
returns-in_default c =
    let o = file_named c.args.name.now c.args.files.now in
    let none : o ≡ None = sym c.file_named.ensures ∙ ap (option_map (λ f. f.now)) c.in_default.is in
    not_found c.args.listed.now.items o none

pub returns : goal.returns
returns c =
    let file = c.in-Some.file.now in
    let o = file_named c.args.name.now c.args.files.now in
    let there : o ≡ Some file = sym c.file_named.ensures ∙ ap (option_map (λ f. f.now)) c.in-Some.is in
    found_one c.args.listed.now.items o c.push.new.self.items file c.in_ok-clone.field-0 there c.in_ok-clone.ensures.cases c.in_ok-push.ensures.items

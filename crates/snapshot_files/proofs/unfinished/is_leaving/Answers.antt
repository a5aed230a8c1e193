use Rattle.std.proofs.Common.{◌≡◌, ◌∙◌, not, ap, rules}
use Rattle.std.specs.BTreeSet.{contains_text}
use Rattle.store_files.specs.Folder.{manifest_path}
use Rattle.snapshot_files.proofs.Orphans.{tells_temporary, tells_foreign, tells_file}
use Rattle.snapshot_files.proofs.unfinished.is_leaving.Goals as goal

pub returns-then-ends_with : goal.returns-then-ends_with
returns-then-ends_with c = λ read has. tells_temporary read c.args.name.now (search rules)

pub returns-in_default : goal.returns-in_default
returns-in_default c = λ read has. tells_foreign read c.args.name.now (search rules) (search rules)

pub returns : goal.returns
returns c =
    let manifests = c.args.manifests.now in
    let key = c.in-Some.key in
    let told : c.contains.result ≡ contains_text manifests (manifest_path key) =
    c.contains.ensures ∙ ap (contains_text manifests) (c.as_str.ensures.text ∙ c.in_ok-manifest.ensures) in
    λ read has.
    tells_file manifests read c.args.name.now key (not c.contains.result) (search rules) (search rules) (ap not told) has

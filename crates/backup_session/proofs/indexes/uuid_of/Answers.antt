use Rattle.std.proofs.Common.{◌≡◌, ◌++◌, take, ap₂, ◌∙◌, rules}
use Rattle.std.specs.Prelude.{string_bytes}
use Rattle.sha1.specs.Sha1.{sha1}
use Rattle.uuid.specs.Parts.{with_variant, with_version}
use Rattle.uuid.specs.declared.Variant.TheVariants.{RFC4122}
use Rattle.uuid.specs.declared.Version.TheVariants.{Sha1}
use Rattle.store_model.specs.Archives.{uuid_of}
use Rattle.store_files.specs.Folder.{file_path}
use Rattle.backup_session.proofs.indexes.uuid_of.Goals as goal

pub returns : goal.returns
unfolding uuid_of
returns c =
    let path : string_bytes c.push_str-2.new.self ≡ file_path c.args.key.now c.args.name.now = search rules in
    c.into_bytes.ensures ∙ c.new_v5.ensures.value
    ∙ ap₂ (λ space name. with_version (with_variant (take 16 (sha1 (space ++ name))) RFC4122) Sha1) c.nil.ensures (c.as_bytes.ensures.value ∙ path)

use Rattle.std.proofs.Common.{◌++◌, take, ap, ap₂, ◌∙◌}
use Rattle.std.specs.Prelude.{codes}
use Rattle.sha1.specs.Sha1.{sha1}
use Rattle.uuid.specs.Parts.{with_variant, with_version}
use Rattle.uuid.specs.declared.Variant.TheVariants.{RFC4122}
use Rattle.uuid.specs.declared.Version.TheVariants.{Sha1}
use Rattle.store_model.specs.Archives.{uuid_of}
use Rattle.plain_sessions.proofs.archives.uuid_of.Goals as goal

pub returns : goal.returns
unfolding uuid_of
returns c =
    let name = c.args.name.now in
    let path =
    c.deref.ensures.value ∙ c.in_ok-extend_from_slice-2.ensures.items ∙ ap₂ (λ a b. a ++ b) c.in_ok-extend_from_slice.ensures.items c.as_slice.ensures.value
    ∙ ap (λ k. (k ++ codes "/") ++ name) (c.into_vec-path.ensures ∙ c.in_ok-text.ensures.text) in
    c.into_bytes.ensures ∙ c.new_v5.ensures.value ∙ ap₂ (λ space text. with_version (with_variant (take 16 (sha1 (space ++ text))) RFC4122) Sha1) c.nil.ensures path

use Rattle.std.proofs.Common.{sym, ap, ◌∙◌}
use Rattle.std.specs.Prelude.{option_map}
use Rattle.manifest.specs.Views.{fact_view}
use Rattle.manifest.proofs.Uploads.{named-uploaded, named-manifest, viewed-found}
use Rattle.manifest.proofs.checking.upload_named.Goals as goal

pub returns-then-is_manifest : goal.returns-then-is_manifest
returns-then-is_manifest c = sym (named-manifest c.args.uploads.now c.args.name.now (sym c.is_manifest.ensures ∙ c.if-is_manifest.true))

pub returns : goal.returns
returns c =
    viewed-found c.file_named.result ∙ ap (option_map fact_view) c.file_named.ensures
    ∙ sym (named-uploaded c.args.uploads.now c.args.name.now (sym c.is_manifest.ensures ∙ c.if-is_manifest.false))

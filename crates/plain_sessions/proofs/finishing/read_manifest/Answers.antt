use Rattle.std.proofs.Common.{◌≡◌, Err, rules}
use Rattle.store_files.specs.Manifest.{manifest_of}
use Rattle.store_model.proofs.ManifestTexts.{cause_fits}
use Rattle.plain_sessions.proofs.finishing.read_manifest.Goals as goal

pub returns-in-Err-clause-fits : goal.returns-in-Err-clause-fits
returns-in-Err-clause-fits c =
    let is : manifest_of c.args.contents.now ≡ Err c.in-Err.field-0.cause = search rules in
    cause_fits c.args.contents.now c.in-Err.field-0.cause is

use Rattle.std.proofs.Common.{◌≡◌, Ok, Err, rules, sym, subst}
use Rattle.std.specs.Prelude.{IfOk, MatchResult}
use Rattle.manifest.specs.Views.{manifest_view}
use Rattle.manifest.proofs.Snapshots.{read-key}
use Rattle.manifest.proofs.Texts.{manifest-of_json, manifest-no_json}
use Rattle.manifest.proofs.reading.read.Goals as goal

pub returns-in-Ok-clause-exact : goal.returns-in-Ok-clause-exact
returns-in-Ok-clause-exact c =
    let ok = c.in-Ok.ensures.ok in
    subst (λ r. IfOk c.manifest_in.result (λ read. MatchResult read (λ m. r ≡ Ok (manifest_view m)) (λ e. r ≡ Err e.cause)))
    (sym (manifest-of_json c.args.bytes.now _ ok.0 ok.1)) c.manifest_in.ensures

pub returns-in-Ok-clause-key : goal.returns-in-Ok-clause-key
returns-in-Ok-clause-key c = read-key _ c.manifest_in.result _ c.manifest_in.ensures

pub returns-in-Err-2-clause-exact : goal.returns-in-Err-2-clause-exact
returns-in-Err-2-clause-exact c = manifest-no_json c.args.bytes.now (c.in-Err-2.ensures.err (search rules))

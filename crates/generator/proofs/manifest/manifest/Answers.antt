use Rattle.std.proofs.Common.{◌≡◌, ◌≤◌, length, vec_items, false, ap, sym, subst, arith, ◌∙◌}
use Rattle.serde_json.specs.View.{view}
use Rattle.serde_json.specs.Written.{compact_text, has_float}
use Rattle.generator.specs.Json.{file_data, manifest_data}
use Rattle.generator.specs.Manifests.{manifest_text}
use Rattle.generator.proofs.CommandTexts.{short_manifest}
use Rattle.generator.proofs.JsonLemmas.{id_plain, each_byte, hex_text_plain, text_is}
use Rattle.generator.proofs.manifest.manifest.Goals as goal

pub returns : goal.returns
returns c =
    let csum = c.args.csum.now in
    let digest = c.in_ok-file.ensures.digest in
    let file : view c.in_ok-file.file ≡ file_data csum c.args.size = c.in_ok-file.ensures.value in
    let whole : view c.in_ok-value.value ≡ manifest_data c.args.k c.args.j (view c.in_ok-file.file) = c.in_ok-value.ensures in
    let all = whole ∙ ap (manifest_data c.args.k c.args.j) file in
    let plain : has_float (view c.in_ok-value.value) ≡ false = ap has_float all in
    let text : c.into_bytes.result.items ≡ manifest_text c.args.k c.args.j csum c.args.size =
    ap vec_items c.into_bytes.ensures.value ∙ c.in_ok-text.ensures.text plain ∙ ap compact_text all
    ∙ text_is c.args.k c.args.j csum c.args.size (id_plain c.args.k (omega arith)) (hex_text_plain csum.0 (each_byte csum.0 digest.1)) in
    let short = short_manifest c.args.k c.args.j csum c.args.size c.requires.lane c.requires.snapshot digest.0 (omega arith) in
    record { text = text; short = subst (λ t. length t ≤ 300) (sym text) short }

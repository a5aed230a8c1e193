use Rattle.std.proofs.Common.{length, drop, ◌-◌, ap, sym, ◌∙◌, arith, slice_range}
use Rattle.std.specs.Str.{bytes_eq}
use Rattle.std.proofs.lemmas.List.{length-drop, take_all}
use Rattle.sha2.specs.Sha256.{sha256}
use Rattle.dynamic_index.proofs.Cells.{entries_joined}
use Rattle.dynamic_index.proofs.view.has_csum.Goals as goal

pub returns : goal.returns
returns c =
    let bytes = c.args.bytes.now in
    let whole = take_all (length bytes - 4096) (drop 4096 bytes) (omega (arith, length-drop 4096 bytes)) in
    let joined = entries_joined bytes c.requires.whole (λ i. omega (arith, c.type_inv.bytes i)) in
    c.eq.ensures
    ∙ ap (bytes_eq (slice_range bytes 32 64)) (c.as_slice.ensures ∙ c.digest-csum.ensures ∙ ap sha256 (whole ∙ sym joined))

use Rattle.std.proofs.Common.{ap, sym, ◌∙◌}
use Rattle.std.specs.Str.{bytes_eq}
use Rattle.std.specs.Prelude.{slice_range}
use Rattle.sha2.specs.Sha256.{sha256}
use Rattle.fixed_index.proofs.Cells.{joined_cells}
use Rattle.fixed_index.proofs.view.has_csum.Goals as goal

pub returns : goal.returns
returns c =
    c.eq.ensures
    ∙ ap (bytes_eq (slice_range c.args.bytes.now 32 64))
    (c.as_slice.ensures ∙ c.digest-csum.ensures ∙ ap sha256 (sym (joined_cells c.args.bytes.now c.requires.whole)))

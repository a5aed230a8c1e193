use Rattle.std.proofs.Common.{◌≡◌, ◌++◌, map, ap, ap₂, subst, sym, ◌∙◌}
use Rattle.std.specs.List.{concat}
use Rattle.std.specs.Int.{w64, to_le_bytes, cast_unsigned}
use Rattle.store_files.specs.FixedIndex.{FixedIndex, FitsFixed, fixed_text, fixed_of, csum_of, magic}
use Rattle.fixed_index.specs.Writing.{end_of}
use Rattle.fixed_index.proofs.Spelling.{fits_fixed, fixed_of-fixed_text}
use Rattle.fixed_index.proofs.writer.FixedWriter.close.Goals as goal

pub returns-clause-text : goal.returns-clause-text
unfolding fixed_text
returns-clause-text c =
    let x = c.args.self.now in
    let head = magic ++ x.uuid ++ to_le_bytes w64 (cast_unsigned w64 x.ctime) ++ csum_of x ++ to_le_bytes w64 x.size ++ to_le_bytes w64 x.chunk_size ++ x.reserved in
    c.in_ok-push_all.ensures ∙ ap₂ (λ a b. a ++ concat (map (λ d. d.0) b)) c.in_ok-text.ensures c.deref.ensures.value
    ∙ ap (λ (y : FixedIndex). head ++ concat y.digests) c.self.view_is

pub returns-clause-read_again : goal.returns-clause-read_again
returns-clause-read_again c =
    let P : FixedIndex → Type 0 = λ x. end_of x ≡ x.size in
    let begun = c.self.inside in
    let fits = fits_fixed begun.uuid begun.ctime begun.size begun.chunk_size (map (λ d. d.0) begun.digests.items) c.self.invariant
    (subst P (sym c.self.view_is) c.requires) in
    ap fixed_of (returns-clause-text c)
    ∙ fixed_of-fixed_text c.args.self.now (subst FitsFixed c.self.view_is fits)

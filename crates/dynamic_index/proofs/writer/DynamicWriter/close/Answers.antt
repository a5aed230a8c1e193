use Rattle.std.proofs.Common.{◌++◌, ap, ap₂, subst, ◌∙◌}
use Rattle.std.specs.List.{flat_map}
use Rattle.std.specs.Int.{w64, to_le_bytes, cast_unsigned}
use Rattle.store_files.specs.DynamicIndex.{DynamicIndex, FitsDynamic, dynamic_text, dynamic_of, csum_of, entry_text, magic}
use Rattle.dynamic_index.specs.Entries.{ends_of, spelled}
use Rattle.dynamic_index.proofs.Spelling.{fits_dynamic, dynamic_of-dynamic_text}
use Rattle.dynamic_index.proofs.writer.DynamicWriter.close.Goals as goal

pub returns-clause-text : goal.returns-clause-text
unfolding dynamic_text
returns-clause-text c =
    let x = c.args.self.now in
    let head = magic ++ x.uuid ++ to_le_bytes w64 (cast_unsigned w64 x.ctime) ++ csum_of x ++ x.reserved in
    c.in_ok-push_all.ensures ∙ ap₂ (λ a b. a ++ spelled b) c.in_ok-text.ensures c.deref.ensures.value
    ∙ ap (λ (y : DynamicIndex). head ++ flat_map entry_text y.entries) c.self.view_is

pub returns-clause-read_again : goal.returns-clause-read_again
returns-clause-read_again c =
    let begun = c.self.inside in
    let fits = fits_dynamic begun.uuid begun.ctime (ends_of begun.entries.items) c.self.invariant in
    ap dynamic_of (returns-clause-text c)
    ∙ dynamic_of-dynamic_text c.args.self.now (subst FitsDynamic c.self.view_is fits)

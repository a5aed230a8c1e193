-- An index that was opened is kept as its file's text is.
use Rattle.std.proofs.Common.{◌≡◌, ℕ, Bool, true, false, cond, List, Some, Result, Ok, Err, sym, ap, ◌∙◌}
use Rattle.std.specs.FinMap.{get}
use Rattle.disk_trait.specs.Files.{Files}
use Rattle.store_types.specs.FileNames.{is_fixed_name}
use Rattle.store_files.specs.declared.causes.IndexFault.{IndexFault}
use Rattle.store_files.specs.FixedIndex.{fixed_of}
use Rattle.store_files.specs.DynamicIndex.{dynamic_of}
use Rattle.index_pages.specs.Opening.{opened_by, told_by}
use Rattle.paged_indexes.specs.declared.index.IndexPages.{IndexPages}
use Rattle.paged_indexes.specs.declared.index.IndexPages.TheVariants as pages
use Rattle.paged_indexes.specs.declared.kinds.IndexKind.TheVariants.{Fixed, Dynamic}
use Rattle.paged_indexes.specs.Dynamic.{dynamic_paged}
use Rattle.paged_indexes.specs.Dynamic as dynamics
use Rattle.paged_indexes.specs.Fixed.{fixed_paged}
use Rattle.paged_indexes.specs.Fixed as fixeds
use Rattle.paged_indexes.specs.Index.{opened, opened_as}
use Rattle.restore_reader.specs.Shown.{pages_of}

kept_by : {A X : Type 0} (as_index : A → IndexPages) (keep : A) (r : Result X IndexFault) (p : IndexPages) → opened_as as_index (told_by keep r) ≡ Ok p → p ≡ as_index keep
kept_by as_index keep (Ok x) p is = let same : as_index keep ≡ p = cc in sym same
kept_by as_index keep (Err cause) p is = cc

pub opened_is_kept : (m : Files) (name path text : List ℕ) (p : IndexPages) → get m path ≡ Some text → opened m path (cond (is_fixed_name name) Fixed Dynamic) ≡ Ok p → p ≡ pages_of name path text
unfolding opened fixeds.opened dynamics.opened
opened_is_kept m name path text p there is = by_kind (is_fixed_name name) is
  where
    by_kind : (b : Bool) → opened m path (cond b Fixed Dynamic) ≡ Ok p → p ≡ cond b (pages.Fixed (fixed_paged path text)) (pages.Dynamic (dynamic_paged path text))
    by_kind true o =
        kept_by pages.Fixed (fixed_paged path text) (fixed_of text) p
        (sym (ap (λ t. opened_as pages.Fixed (opened_by fixed_of (fixed_paged path) t)) there) ∙ o)
    by_kind false o =
        kept_by pages.Dynamic (dynamic_paged path text) (dynamic_of text) p
        (sym (ap (λ t. opened_as pages.Dynamic (opened_by dynamic_of (dynamic_paged path) t)) there) ∙ o)

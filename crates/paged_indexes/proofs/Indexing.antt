-- An index of either kind is opened exactly where its text is one.
use Rattle.std.proofs.Common.{◌≡◌, List, Some, None, Result, Ok, Err, ℕ, refl, sym, ap, subst, ◌∙◌}
use Rattle.std.specs.FinMap.{get}
use Rattle.disk_trait.specs.Files.{Files}
use Rattle.store_files.specs.declared.causes.IndexFault.{IndexFault}
use Rattle.store_files.specs.FixedIndex.{FixedIndex, fixed_of}
use Rattle.store_files.specs.DynamicIndex.{DynamicIndex, Ended, dynamic_of}
use Rattle.fixed_index.proofs.Reading.{fixed_of-ok}
use Rattle.dynamic_index.proofs.Reading.{dynamic_of-ok}
use Rattle.index_pages.specs.declared.fault.PageFault.{PageFault}
use Rattle.index_pages.specs.declared.fault.PageFault.TheVariants.{Missing, BadIndex, Changed, Failed, NoMemory}
use Rattle.index_pages.specs.Gives.{Gives}
use Rattle.index_pages.specs.Opening.{opened_by, told_by}
use Rattle.paged_indexes.specs.declared.index.IndexPages.{IndexPages}
use Rattle.paged_indexes.specs.declared.index.IndexPages.TheVariants as pages
use Rattle.paged_indexes.specs.declared.kinds.IndexKind.{IndexKind}
use Rattle.paged_indexes.specs.declared.kinds.IndexKind.TheVariants.{Fixed, Dynamic}
use Rattle.paged_indexes.specs.Dynamic.{dynamic_entries, dynamic_paged}
use Rattle.paged_indexes.specs.Dynamic as dynamics
use Rattle.paged_indexes.specs.Fixed.{fixed_ends, fixed_entries, fixed_paged}
use Rattle.paged_indexes.specs.Fixed as fixeds
use Rattle.paged_indexes.specs.Index.{entries_in, opened, opened_as}
use Rattle.paged_indexes.proofs.Handed.{same_some}

-- the entries that are handed on
abbrev pub handed : IndexKind → List ℕ → List Ended
handed Fixed text = fixed_entries text
handed Dynamic text = dynamic_entries text

pub handed_are : (kind : IndexKind) (text : List ℕ) (es : List Ended) → entries_in kind text ≡ Some es → handed kind text ≡ es
unfolding entries_in
handed_are Fixed text es is = by_index (fixed_of text) refl is
  where
    by_index : (r : Result FixedIndex IndexFault) → fixed_of text ≡ r → (elim r [ Ok x ↦ Some (fixed_ends x) | Err cause ↦ None ]) ≡ Some es → fixed_entries text ≡ es
    by_index (Ok x) found same = ap fixed_ends (sym (fixed_of-ok text x found).0) ∙ same_some (fixed_ends x) es same
    by_index (Err cause) found same = cc
handed_are Dynamic text es is = by_index (dynamic_of text) refl is
  where
    by_index : (r : Result DynamicIndex IndexFault) → dynamic_of text ≡ r → (elim r [ Ok x ↦ Some x.entries | Err cause ↦ None ]) ≡ Some es → dynamic_entries text ≡ es
    by_index (Ok x) found same = ap (λ (y : DynamicIndex). y.entries) (sym (dynamic_of-ok text x found).0) ∙ same_some x.entries es same
    by_index (Err cause) found same = cc

-- ---- a fault

pub gives_as : {A : Type 0} (as_index : A → IndexPages) (fault : PageFault) (r : Result A PageFault) → Gives {A = A} (λ x. x) (Err fault) r
    → Gives {A = IndexPages} (λ x. x) (Err fault) (opened_as as_index r)
gives_as as_index Missing r is = ap (opened_as as_index) is
gives_as as_index (BadIndex cause) r is = ap (opened_as as_index) is
gives_as as_index (Changed page) r is = ap (opened_as as_index) is
gives_as as_index Failed r is = tt
gives_as as_index NoMemory r is = tt

-- ---- a text

abbrev OpensTo : IndexKind → List ℕ → Result IndexPages PageFault → Type 0
OpensTo kind text (Ok p) = (es : List Ended) × (entries_in kind text ≡ Some es)
OpensTo kind text (Err fault) = entries_in kind text ≡ None

fixed_opens : (name text : List ℕ) (r : Result FixedIndex IndexFault) → fixed_of text ≡ r → OpensTo Fixed text (opened_as pages.Fixed (told_by (fixed_paged name text) r))
unfolding entries_in
fixed_opens name text (Ok x) is = (fixed_ends x, ap (λ r. elim r [ Ok y ↦ Some (fixed_ends y) | Err cause ↦ None ]) is)
fixed_opens name text (Err cause) is = ap (λ r. elim r [ Ok y ↦ Some (fixed_ends y) | Err cause ↦ None ]) is

dynamic_opens : (name text : List ℕ) (r : Result DynamicIndex IndexFault) → dynamic_of text ≡ r → OpensTo Dynamic text (opened_as pages.Dynamic (told_by (dynamic_paged name text) r))
unfolding entries_in
dynamic_opens name text (Ok x) is = (x.entries, ap (λ r. elim r [ Ok y ↦ Some y.entries | Err cause ↦ None ]) is)
dynamic_opens name text (Err cause) is = ap (λ r. elim r [ Ok y ↦ Some y.entries | Err cause ↦ None ]) is

opens_to : (m : Files) (name : List ℕ) (kind : IndexKind) (text : List ℕ) (r : Result IndexPages PageFault) → get m name ≡ Some text → opened m name kind ≡ r → OpensTo kind text r
unfolding opened fixeds.opened dynamics.opened
opens_to m name Fixed text r there is =
    subst (OpensTo Fixed text) (sym (ap (λ o. opened_as pages.Fixed (opened_by fixed_of (fixed_paged name) o)) there) ∙ is) (fixed_opens name text (fixed_of text) refl)
opens_to m name Dynamic text r there is =
    subst (OpensTo Dynamic text) (sym (ap (λ o. opened_as pages.Dynamic (opened_by dynamic_of (dynamic_paged name) o)) there) ∙ is) (dynamic_opens name text (dynamic_of text) refl)

pub opened_entries : (m : Files) (name : List ℕ) (kind : IndexKind) (text : List ℕ) (p : IndexPages) → get m name ≡ Some text → opened m name kind ≡ Ok p
    → (es : List Ended) × (entries_in kind text ≡ Some es)
opened_entries m name kind text p there is = opens_to m name kind text (Ok p) there is

pub unopened_entries : (m : Files) (name : List ℕ) (kind : IndexKind) (text : List ℕ) (fault : PageFault) → get m name ≡ Some text → opened m name kind ≡ Err fault
    → entries_in kind text ≡ None
unopened_entries m name kind text fault there is = opens_to m name kind text (Err fault) there is

-- ---- nothing

err_ok : (fault : PageFault) (p : IndexPages) → ◌≡◌ {A = Result IndexPages PageFault} (Err fault) (Ok p) → ⊥
err_ok fault p e = cc

pub opened_nothing : (m : Files) (name : List ℕ) (kind : IndexKind) (p : IndexPages) → get m name ≡ None → opened m name kind ≡ Ok p → ⊥
unfolding opened fixeds.opened dynamics.opened
opened_nothing m name Fixed p none is = err_ok Missing p (sym (ap (λ o. opened_as pages.Fixed (opened_by fixed_of (fixed_paged name) o)) none) ∙ is)
opened_nothing m name Dynamic p none is = err_ok Missing p (sym (ap (λ o. opened_as pages.Dynamic (opened_by dynamic_of (dynamic_paged name) o)) none) ∙ is)

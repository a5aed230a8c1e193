-- What a reader's calls answer.
use Rattle.std.specs.Prelude.{◌≡◌, ◌<◌, ◌^◌, ℕ, List, take, drop, Result, Ok, Err, MatchResult}
use Rattle.std.specs.Borrow.{Bor}
use Rattle.std.specs.List.{concat}
use Rattle.store_types.specs.declared.refusal.Refusal.{Refusal}
use Rattle.store_types.specs.declared.refusal.Refusal.TheVariants.{NotAllowed, TooMany, BadRange}
use Rattle.store_files.specs.Archive.{File}
use Rattle.store_files.specs.Folder.{file_path}
use Rattle.store_model.specs.Store.{Reader}
use Rattle.store_model.specs.ReaderSteps.{pieces_at, range_of}
use Rattle.paged_indexes.specs.declared.index.IndexPages.{IndexPages}
use Rattle.restore_reader.specs.Session.{Reading}
use Rattle.restore_reader.specs.Shown.{Shows, pages_of, text_at}

-- the step's value is lent, or its refusal told
abbrev pub Lends : {A : Type 0} → Result A Refusal → Result (Bor A) Refusal → Type 0
Lends step told = MatchResult told (λ x. step ≡ Ok x.now) (λ refusal. step ≡ Err refusal)

-- ---- the plan of a range

-- the step's bytes are the range of what the archive's pieces make, and the pages are those of its index's file
pub record PlansBytes (files : List File) (r : Reader) (name : List ℕ) (offset len : ℕ) (kept : IndexPages) : Type 0 where
  pub stepped : range_of files r name offset len ≡ Ok (take len (drop offset (concat (pieces_at files name))))
  pub pages : kept ≡ pages_of name (file_path r.key name) (text_at files name)

abbrev pub TellsPlainly : List File → Reader → List ℕ → ℕ → ℕ → Result (Bor IndexPages) Refusal → Type 0
TellsPlainly files r name offset len told =
    MatchResult told (λ kept. PlansBytes files r name offset len kept.now) (λ refusal. range_of files r name offset len ≡ Err refusal)

-- of each plain reader that the reading stands for, the bytes that it answers are the range, or its refusal is told
abbrev pub PlanPlainly : Reading → List ℕ → ℕ → ℕ → Result (Bor IndexPages) Refusal → Type 0
PlanPlainly s name offset len told = (files : List File) → (r : Reader) → Shows s files r → TellsPlainly files r name offset len told

-- the refusals of a range, with their numbers within their fields
abbrev pub RefusesRange : Refusal → Type 0
RefusesRange NotAllowed = Unit {0}
RefusesRange (TooMany limit) = limit < 2 ^ 32
RefusesRange (BadRange size) = size < 2 ^ 64
RefusesRange refusal = ⊥

-- Digests in rising order, and what is found among them; digests as they are noted.
use Rattle.std.proofs.Common.{◌≡◌, ℕ, ⊎_elim, Bool, false, ◌&&◌, List, [], ◌∷◌, ◌++◌, length, get_or, All, is_ok, refl, sym, ap, ap₂, ◌∙◌, arith}
use Rattle.std.specs.FinSet as set
use Rattle.std.specs.Prelude.{Result, Ok, Err, ◌||◌}
use Rattle.std.specs.Str.{bytes_eq}
use Rattle.std.specs.List.{list_any}
use Rattle.std.specs.List.Sorted.{IsPermutation, IsSorted, IsBinarySearchResult, IsSearchInRange}
use Rattle.std.specs.Cmp.Lexicographic.{texts_ties, nat_list_cmp_total}
use Rattle.std.specs.Ordering.{is_eq, eq_by_cmp}
use Rattle.std.specs.Cmp.{nat_eq_equiv}
use Rattle.std.proofs.lemmas.List.{map-append}
use Rattle.std.specs.declared.cmp.Ordering.{Ordering}
use Rattle.std.proofs.lemmas.Bool.{cases_lt}
use Rattle.std.proofs.lemmas.List.Folds.{list_any_at, list_any_none}
use Rattle.std.proofs.lemmas.List.Sorted.{searchable_from_sorted, list_any-IsPermutation}
use Rattle.store_types.specs.declared.names.Digest32.{Digest32}
use Rattle.store_types.specs.Names.{text_cmp}
use Rattle.store_files.specs.DynamicIndex.{Ended}
use Rattle.dynamic_index.specs.Pieces.{last_end}
use Rattle.paged_indexes.specs.declared.kinds.IndexEntry.{IndexEntry}
use Rattle.paged_indexes.specs.Handing.{ended_of}
use Rattle.restore_reader.specs.declared.index.Table.{Table}
use Rattle.restore_reader.specs.Digests.{bytes_of, digest_cmp, distinct}
use Rattle.restore_reader.specs.Kept.{IsTable}

abbrev pub is_digest : Digest32 → Digest32 → Bool
is_digest q d = bytes_eq d.0 q.0

same_bytes : (d q : Digest32) (o : Ordering) → digest_cmp d q ≡ o → is_digest q d ≡ is_eq o
same_bytes d q o is = texts_ties d.0 q.0 ∙ ap is_eq is

-- a search finds a digest exactly where it is among them
pub searched : (digests : List Digest32) (q : Digest32) (r : Result ℕ ℕ) → IsSorted digest_cmp digests → IsSearchInRange r (length digests)
    → IsBinarySearchResult (λ d. digest_cmp d q) digests r → is_ok r ≡ list_any (is_digest q) digests
searched digests q (Ok i) up within found = sym (list_any_at (is_digest q) digests i q within (same_bytes (get_or digests i q) q _ (found q)))
searched digests q (Err i) up within found = sym (list_any_none (is_digest q) digests others)
  where
    others : All (λ d. is_digest q d ≡ false) digests
    others k d below =
        let parts = found (searchable_from_sorted nat_list_cmp_total (λ (x : Digest32). x.0) digests q.0 up) in
        ⊎_elim (λ before. same_bytes (get_or digests k d) q _ (parts.0 k d (omega arith) before)) (λ behind. same_bytes (get_or digests k d) q _ (parts.1 k d behind below)) (cases_lt k i)

-- ---- each digest once

bytes_sym : (xs ys : List ℕ) → bytes_eq xs ys ≡ bytes_eq ys xs
bytes_sym [] [] = refl
bytes_sym [] (y ∷ ys) = refl
bytes_sym (x ∷ xs) [] = refl
bytes_sym (x ∷ xs) (y ∷ ys) = ap₂ (λ a b. a && b) (nat_eq_equiv.symm x y) (bytes_sym xs ys)

tied : (d q : List ℕ) → eq_by_cmp text_cmp q d ≡ bytes_eq d q
tied d q = sym (texts_ties q d) ∙ bytes_sym q d

any_same : {A : Type 0} (p q : A → Bool) → ((x : A) → p x ≡ q x) → (xs : List A) → list_any p xs ≡ list_any q xs
any_same p q same [] = refl
any_same p q same (x ∷ xs) = ap₂ (λ a b. a || b) (same x) (any_same p q same xs)

-- the same digests are found
pub in_distinct : (q : List ℕ) (ds : List (List ℕ)) → list_any (λ d. bytes_eq d q) (distinct ds) ≡ list_any (λ d. bytes_eq d q) ds
in_distinct q ds =
    any_same _ _ (λ d. sym (tied d q)) (distinct ds)
    ∙ sym (set.contains-items (set.from_list ds) q) ∙ set.contains-from_list nat_list_cmp_total ds q ∙ any_same _ _ (λ d. tied d q) ds

pub any_bytes : (p : List ℕ → Bool) (ds : List Digest32) → list_any p (bytes_of ds) ≡ list_any (λ d. p d.0) ds
any_bytes p [] = refl
any_bytes p (d ∷ ds) = ap (λ b. p d.0 || b) (any_bytes p ds)

-- in whatever order they were noted
pub distinct_sorted : (ds es : List Digest32) → IsPermutation ds es → distinct (bytes_of es) ≡ distinct (bytes_of ds)
distinct_sorted ds es moved =
    ap set.items (set.same_set nat_list_cmp_total (set.slice_cmp-IsAntisymmetric set.nat_cmp-IsAntisymmetric) _ _ same)
  where
    same : (q : List ℕ) → set.contains (set.from_list {R = text_cmp} (bytes_of es)) q ≡ set.contains (set.from_list {R = text_cmp} (bytes_of ds)) q
    same q =
        set.contains-from_list nat_list_cmp_total (bytes_of es) q ∙ any_bytes (eq_by_cmp text_cmp q) es
        ∙ sym (list_any-IsPermutation (λ d. eq_by_cmp text_cmp q d.0) ds es moved)
        ∙ sym (any_bytes (eq_by_cmp text_cmp q) ds) ∙ sym (set.contains-from_list nat_list_cmp_total (bytes_of ds) q)

-- ---- an entry more

last_more : (base : ℕ) (es : List Ended) (e : Ended) → last_end base (es ++ e ∷ []) ≡ e.end
last_more base [] e = refl
last_more base (x ∷ es) e = last_more x.end es e

pub tabled : (old new : Table) (entry : IndexEntry) (base : ℕ) (before : List Ended) → new.digests.items ≡ old.digests.items ++ entry.digest ∷ [] → new.size ≡ entry.end
    → IsTable old base before → IsTable new base (before ++ ended_of entry ∷ [])
tabled old new entry base before pushed end is = record {
  digests =
      ap bytes_of pushed ∙ map-append (λ d. d.0) old.digests.items (entry.digest ∷ [])
      ∙ ap (λ (l : List (List ℕ)). l ++ (entry.digest).0 ∷ []) is.digests
      ∙ sym (map-append (λ e. e.digest) before (ended_of entry ∷ []));
  size = end ∙ sym (last_more base before (ended_of entry));
}

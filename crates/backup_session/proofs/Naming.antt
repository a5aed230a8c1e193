-- The pieces that entries name, one by one.
use Rattle.std.proofs.Common.{◌≡◌, ℕ, suc, ◌+◌, ◌<◌, List, [], ◌∷◌, ◌++◌, length, get_or, drop, Ok, Err, Some, None, refl, sym, ap, subst, ◌∙◌, append_assoc, drop-cons, add-one}
use Rattle.std.specs.Prelude.{Bool, true, false, ◌==◌, Option, Result}
use Rattle.std.specs.List.{AllByRecursion}
use Rattle.store_types.specs.declared.names.Digest32.{Digest32}
use Rattle.store_types.specs.declared.refusal.Refusal.{Refusal}
use Rattle.store_types.specs.declared.refusal.Refusal.TheVariants.{UnknownChunk, BadOffset, WrongSize}
use Rattle.store_types.specs.Chain.Refusing.{◌>>=◌, unless, or_else}
use Rattle.store_files.specs.Archive.{Layout}
use Rattle.store_model.specs.Archives.{fits_layout, piece_named, pieces_named}

-- from an end on, each has a length that the layout takes where it begins
abbrev pub FitsAt : {A : Type 0} → (A → ℕ) → Layout → ℕ → List A → Type 0
FitsAt len layout end [] = Unit {0}
FitsAt len layout end (a ∷ rest) = (fits_layout layout end (len a) ≡ true) × FitsAt len layout (end + len a) rest

module _ {A : Type 0} (find : Digest32 → Option A) (len : A → ℕ) (layout : Layout) where
  -- the first is named, and the others behind it
  pub named_more : (place end i : ℕ) (entries : List (Digest32 × ℕ)) (entry : Digest32 × ℕ) (a : A) → i < length entries → get_or entries i entry ≡ entry
      → piece_named find len layout place end entry ≡ Ok a
      → pieces_named find len layout place end (drop i entries) ≡ (pieces_named find len layout (place + 1) (end + len a) (drop (i + 1) entries) >>= λ others. Ok (a ∷ others))
  unfolding pieces_named
  named_more place end i entries entry a below at is =
      ap (pieces_named find len layout place end) (drop-cons entries i entry below ∙ ap (λ e. e ∷ drop (suc i) entries) at)
      ∙ ap (λ r. r >>= λ x. pieces_named find len layout (place + 1) (end + len x) (drop (suc i) entries) >>= λ others. Ok (x ∷ others)) is
      ∙ ap (λ k. pieces_named find len layout (place + 1) (end + len a) (drop k entries) >>= λ others. Ok (a ∷ others)) (sym (add-one i))

  -- or the first is refused
  pub named_refused : (place end i : ℕ) (entries : List (Digest32 × ℕ)) (entry : Digest32 × ℕ) (refusal : Refusal) → i < length entries → get_or entries i entry ≡ entry
      → piece_named find len layout place end entry ≡ Err refusal → pieces_named find len layout place end (drop i entries) ≡ Err refusal
  unfolding pieces_named
  named_refused place end i entries entry refusal below at is =
      ap (pieces_named find len layout place end) (drop-cons entries i entry below ∙ ap (λ e. e ∷ drop (suc i) entries) at)
      ∙ ap (λ r. r >>= λ x. pieces_named find len layout (place + 1) (end + len x) (drop (suc i) entries) >>= λ others. Ok (x ∷ others)) is

  pub named_none : (place end : ℕ) → pieces_named find len layout place end [] ≡ Ok []
  unfolding pieces_named
  named_none place end = refl

  found_in : (place end : ℕ) (entry : Digest32 × ℕ) (a : A) → piece_named find len layout place end entry ≡ Ok a → find entry.0 ≡ Some a
  unfolding piece_named
  found_in place end entry a is = by_option (find entry.0) refl is
    where
      by_tests : (x : A) (b f : Bool) → (unless (BadOffset place end) b >>= λ _. unless (WrongSize place (len x)) f >>= λ _. Ok x) ≡ Ok a → x ≡ a
      by_tests x true true e = cc
      by_tests x true false e = cc
      by_tests x false f e = cc

      by_option : (o : Option A) → find entry.0 ≡ o
          → (or_else (UnknownChunk place) o >>= λ x. unless (BadOffset place end) (entry.1 == end) >>= λ _. unless (WrongSize place (len x)) (fits_layout layout end (len x)) >>= λ _. Ok x) ≡ Ok a
          → find entry.0 ≡ Some a
      by_option None e was = cc
      by_option (Some x) e was = e ∙ ap (λ y. Some y) (by_tests x (entry.1 == end) (fits_layout layout end (len x)) was)

  -- what is named was found, and there is one for each entry
  pub named_found : (P : A → Type 0) → ((d : Digest32) (a : A) → find d ≡ Some a → P a) → (place end : ℕ) (entries : List (Digest32 × ℕ)) (known : List A)
      → pieces_named find len layout place end entries ≡ Ok known → (length known ≡ length entries) × AllByRecursion P known
  unfolding pieces_named
  named_found P holds place end [] known is = let same : known ≡ [] = cc in subst (λ ks. (length ks ≡ 0) × AllByRecursion P ks) (sym same) (refl, tt)
  named_found P holds place end (entry ∷ entries) known is =
      by_piece (piece_named find len layout place end entry) refl is (λ n others was. named_found P holds (place + 1) n entries others was)
    where
      by_rest : (a : A) → P a → (r : Result (List A) Refusal) → ((others : List A) → r ≡ Ok others → (length others ≡ length entries) × AllByRecursion P others)
          → (r >>= λ others. Ok (a ∷ others)) ≡ Ok known → (length known ≡ length (entry ∷ entries)) × AllByRecursion P known
      by_rest a p (Err e) ih was = cc
      by_rest a p (Ok others) ih was =
          let same : (a ∷ others) ≡ known = cc in
          let rest = ih others refl in
          subst (λ ks. (length ks ≡ length (entry ∷ entries)) × AllByRecursion P ks) same (ap suc rest.0, (p, rest.1))

      by_piece : (r : Result A Refusal) → piece_named find len layout place end entry ≡ r
          → (r >>= λ a. pieces_named find len layout (place + 1) (end + len a) entries >>= λ others. Ok (a ∷ others)) ≡ Ok known
          → ((n : ℕ) (others : List A) → pieces_named find len layout (place + 1) n entries ≡ Ok others → (length others ≡ length entries) × AllByRecursion P others)
          → (length known ≡ length (entry ∷ entries)) × AllByRecursion P known
      by_piece (Err e) at was ih = cc
      by_piece (Ok a) at was ih =
          by_rest a (holds entry.0 a (found_in place end entry a at)) (pieces_named find len layout (place + 1) (end + len a) entries) (ih (end + len a)) was

  fits_in : (place end : ℕ) (entry : Digest32 × ℕ) (a : A) → piece_named find len layout place end entry ≡ Ok a → fits_layout layout end (len a) ≡ true
  unfolding piece_named
  fits_in place end entry a is = by_option (find entry.0) is
    where
      by_tests : (x : A) (b f : Bool) → fits_layout layout end (len x) ≡ f → (unless (BadOffset place end) b >>= λ _. unless (WrongSize place (len x)) f >>= λ _. Ok x) ≡ Ok a → fits_layout layout end (len a) ≡ true
      by_tests x true true g e = let same : x ≡ a = cc in subst (λ y. fits_layout layout end (len y) ≡ true) same g
      by_tests x true false g e = cc
      by_tests x false f g e = cc

      by_option : (o : Option A)
          → (or_else (UnknownChunk place) o >>= λ x. unless (BadOffset place end) (entry.1 == end) >>= λ _. unless (WrongSize place (len x)) (fits_layout layout end (len x)) >>= λ _. Ok x) ≡ Ok a
          → fits_layout layout end (len a) ≡ true
      by_option None was = cc
      by_option (Some x) was = by_tests x (entry.1 == end) (fits_layout layout end (len x)) refl was

  -- what is named fits
  pub named_fits : (place end : ℕ) (entries : List (Digest32 × ℕ)) (known : List A) → pieces_named find len layout place end entries ≡ Ok known → FitsAt len layout end known
  unfolding pieces_named
  named_fits place end [] known is = let same : known ≡ [] = cc in subst (FitsAt len layout end) (sym same) tt
  named_fits place end (entry ∷ entries) known is =
      by_piece (piece_named find len layout place end entry) refl is (λ n others was. named_fits (place + 1) n entries others was)
    where
      by_rest : (a : A) → fits_layout layout end (len a) ≡ true → (r : Result (List A) Refusal) → ((others : List A) → r ≡ Ok others → FitsAt len layout (end + len a) others)
          → (r >>= λ others. Ok (a ∷ others)) ≡ Ok known → FitsAt len layout end known
      by_rest a fits (Err e) ih was = cc
      by_rest a fits (Ok others) ih was = let same : (a ∷ others) ≡ known = cc in subst (FitsAt len layout end) same (fits, ih others refl)

      by_piece : (r : Result A Refusal) → piece_named find len layout place end entry ≡ r
          → (r >>= λ a. pieces_named find len layout (place + 1) (end + len a) entries >>= λ others. Ok (a ∷ others)) ≡ Ok known
          → ((n : ℕ) (others : List A) → pieces_named find len layout (place + 1) n entries ≡ Ok others → FitsAt len layout n others)
          → FitsAt len layout end known
      by_piece (Err e) at was ih = cc
      by_piece (Ok a) at was ih =
          by_rest a (fits_in place end entry a at) (pieces_named find len layout (place + 1) (end + len a) entries) (ih (end + len a)) was

-- those before, and one more
pub behind_more : {A : Type 0} (before : List A) (a : A) (r : Result (List A) Refusal)
    → ((r >>= λ others. Ok (a ∷ others)) >>= λ rest. Ok (before ++ rest)) ≡ (r >>= λ rest. Ok ((before ++ a ∷ []) ++ rest))
behind_more before a (Ok others) = ap (λ ks. Ok ks) (sym (append_assoc before (a ∷ []) others))
behind_more before a (Err e) = refl

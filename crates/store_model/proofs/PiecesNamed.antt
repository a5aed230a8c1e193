-- What stands for pieces may be another, as long as it is found alike and has the same length.
use Rattle.std.proofs.Common.{◌≡◌, ℕ, ◌+◌, Bool, true, false, List, [], ◌∷◌, map, Some, None, Ok, Err, refl, ap, ◌∙◌, ◌==◌}
use Rattle.std.specs.Prelude.{Option, Result}
use Rattle.std.specs.Option.{option_map}
use Rattle.store_types.specs.declared.names.Digest32.{Digest32}
use Rattle.store_types.specs.declared.refusal.Refusal.{Refusal}
use Rattle.store_types.specs.declared.refusal.Refusal.TheVariants.{UnknownChunk, BadOffset, WrongSize}
use Rattle.store_types.specs.Chain.Refusing.{◌>>=◌, unless, or_else}
use Rattle.store_files.specs.Archive.{Layout}
use Rattle.store_model.specs.Archives.{fits_layout, piece_named, pieces_named}

-- the tests of a piece that was found
abbrev tested : {A : Type 0} → (A → ℕ) → Layout → ℕ → ℕ → ℕ → A → Result A Refusal
tested len layout place end offset piece = do
  _ ← unless (BadOffset place end) (offset == end)
  _ ← unless (WrongSize place (len piece)) (fits_layout layout end (len piece))
  Ok piece

module _ {A B : Type 0} (f : A → B) (find : Digest32 → Option A) (len : A → ℕ) (found : Digest32 → Option B) (size : B → ℕ)
    (same : (a : A) → size (f a) ≡ len a) (alike : (d : Digest32) → found d ≡ option_map f (find d)) where
  kept_tests : (layout : Layout) (place end offset : ℕ) (a : A) → tested size layout place end offset (f a) ≡ (tested len layout place end offset a >>= λ x. Ok (f x))
  kept_tests layout place end offset a = by_offset (offset == end)
    where
      by_fit : (b : Bool) → (unless (WrongSize place (len a)) b >>= λ _. Ok (f a)) ≡ ((unless (WrongSize place (len a)) b >>= λ _. Ok a) >>= λ x. Ok (f x))
      by_fit true = refl
      by_fit false = refl

      by_offset : (b : Bool) → (unless (BadOffset place end) b >>= λ _. unless (WrongSize place (size (f a))) (fits_layout layout end (size (f a))) >>= λ _. Ok (f a))
          ≡ ((unless (BadOffset place end) b >>= λ _. unless (WrongSize place (len a)) (fits_layout layout end (len a)) >>= λ _. Ok a) >>= λ x. Ok (f x))
      by_offset true =
          ap (λ n. unless (WrongSize place n) (fits_layout layout end n) >>= λ _. Ok (f a)) (same a) ∙ by_fit (fits_layout layout end (len a))
      by_offset false = refl

  pub piece_named-alike : (layout : Layout) (place end : ℕ) (entry : Digest32 × ℕ)
      → piece_named found size layout place end entry ≡ (piece_named find len layout place end entry >>= λ a. Ok (f a))
  unfolding piece_named
  piece_named-alike layout place end entry =
      ap (λ o. or_else (UnknownChunk place) o >>= tested size layout place end entry.1) (alike entry.0) ∙ by_option (find entry.0)
    where
      by_option : (o : Option A) → (or_else (UnknownChunk place) (option_map f o) >>= tested size layout place end entry.1)
          ≡ ((or_else (UnknownChunk place) o >>= tested len layout place end entry.1) >>= λ a. Ok (f a))
      by_option None = refl
      by_option (Some a) = kept_tests layout place end entry.1 a

  pub pieces_named-alike : (layout : Layout) (place end : ℕ) (entries : List (Digest32 × ℕ))
      → pieces_named found size layout place end entries ≡ (pieces_named find len layout place end entries >>= λ ps. Ok (map f ps))
  unfolding pieces_named
  pieces_named-alike layout place end [] = refl
  pieces_named-alike layout place end (entry ∷ entries) =
      ap (λ r. r >>= λ b. pieces_named found size layout (place + 1) (end + size b) entries >>= λ others. Ok (b ∷ others)) (piece_named-alike layout place end entry)
      ∙ by_piece (piece_named find len layout place end entry) (λ n. pieces_named-alike layout (place + 1) n entries)
    where
      by_rest : (a : A) (r : Result (List A) Refusal) → ((r >>= λ ps. Ok (map f ps)) >>= λ others. Ok (f a ∷ others)) ≡ ((r >>= λ others. Ok (a ∷ others)) >>= λ ps. Ok (map f ps))
      by_rest a (Ok ps) = refl
      by_rest a (Err e) = refl

      by_piece : (r : Result A Refusal)
          → ((n : ℕ) → pieces_named found size layout (place + 1) n entries ≡ (pieces_named find len layout (place + 1) n entries >>= λ ps. Ok (map f ps)))
          → ((r >>= λ a. Ok (f a)) >>= λ b. pieces_named found size layout (place + 1) (end + size b) entries >>= λ others. Ok (b ∷ others))
          ≡ ((r >>= λ a. pieces_named find len layout (place + 1) (end + len a) entries >>= λ others. Ok (a ∷ others)) >>= λ ps. Ok (map f ps))
      by_piece (Err e) rest = refl
      by_piece (Ok a) rest =
          ap (λ n. pieces_named found size layout (place + 1) (end + n) entries >>= λ others. Ok (f a ∷ others)) (same a)
          ∙ ap (λ r. r >>= λ others. Ok (f a ∷ others)) (rest (end + len a))
          ∙ by_rest a (pieces_named find len layout (place + 1) (end + len a) entries)

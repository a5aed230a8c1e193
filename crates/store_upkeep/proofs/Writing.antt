-- What a writer's commands do to the writer, as far as chunks matter.
use Rattle.std.proofs.Common.{◌≡◌, ◌⊎◌, inl, inr, ℕ, ◌+◌, Bool, true, false, List, [], ◌∷◌, ◌++◌, length, map, Option, Some, None, Result, Ok, Err, refl, sym, subst, ap, ◌∙◌, ◌==◌}
use Rattle.std.specs.Str.{bytes_eq}
use Rattle.std.proofs.lemmas.Slice.Eq.{bytes_eq-Decides}
use Rattle.sha2.specs.Sha256.{sha256}
use Rattle.store_types.specs.declared.names.Digest32.{Digest32}
use Rattle.store_types.specs.declared.refusal.Refusal.{Refusal}
use Rattle.store_types.specs.declared.refusal.Refusal.TheVariants.{UnknownChunk, BadOffset, WrongSize}
use Rattle.store_types.specs.Chain.Refusing.{◌>>=◌, unless, or_else}
use Rattle.store_files.specs.Archive.{Layout, Archive, File, archive, blob, piece_with}
use Rattle.store_model.specs.Store.{Begun, Writer, Store}
use Rattle.store_model.specs.Archives.{fits_layout, free_number, piece_named, pieces_named, change_first, without_first}
use Rattle.store_model.specs.WriterSteps.{with_pool, with_file}
use Rattle.store_model.specs.WriterCalls.{numbers, begin, has_number, with_pieces}
use Rattle.store_model.proofs.Finding.{found_passes}
use Rattle.store_model.proofs.Done.{ok_same, err_ok}
use Rattle.store_history.specs.Sweeping.{digests_of}
use Rattle.store_upkeep.specs.Safety.{In, HasAppended, MayAppend, IsOfBase}
use Rattle.store_upkeep.proofs.Members.{in_append, in_map, map_append_in, in_map_left, find_in, insert_file_in, change_first_in, without_first_in}
use Rattle.store_upkeep.proofs.Moving.{GoesOn}

-- ---- pieces that are named

-- each piece is named by an entry and of the pool, and each entry names one of the pool
pub record AreNamed (pool : List (List ℕ)) (entries : List (Digest32 × ℕ)) (pieces : List (List ℕ)) : Type 0 where
  pub each : (d : List ℕ) → In d (map sha256 pieces) → In d (map (λ e. (e.0).0) entries) × In d (map sha256 pool)
  pub all : (d : List ℕ) → In d (map (λ e. (e.0).0) entries) → In d (map sha256 pool)

Names : List (List ℕ) → List (Digest32 × ℕ) → Result (List (List ℕ)) Refusal → Type 0
Names pool entries (Ok pieces) = AreNamed pool entries pieces
Names pool entries (Err refusal) = Unit {0}

abbrev tested : (List ℕ → ℕ) → Layout → ℕ → ℕ → ℕ → List ℕ → Result (List ℕ) Refusal
tested len layout place end offset piece = do
  _ ← unless (BadOffset place end) (offset == end)
  _ ← unless (WrongSize place (len piece)) (fits_layout layout end (len piece))
  Ok piece

module _ (find_piece : Digest32 → Option (List ℕ)) (len : List ℕ → ℕ) (layout : Layout) (place end : ℕ) (entry : Digest32 × ℕ) (piece : List ℕ) where
  both : (x : List ℕ) (b c : Bool) → (unless (BadOffset place end) b >>= λ _. unless (WrongSize place (len x)) c >>= λ _. Ok x) ≡ Ok piece → x ≡ piece
  both x true true e = ok_same x piece e
  both x true false e = absurd (err_ok (WrongSize place (len x)) piece e)
  both x false c e = absurd (err_ok (BadOffset place end) piece e)

  by_found : (o : Option (List ℕ)) → (or_else (UnknownChunk place) o >>= tested len layout place end entry.1) ≡ Ok piece → o ≡ Some piece
  by_found None e = absurd (err_ok (UnknownChunk place) piece e)
  by_found (Some x) e = ap Some (both x (entry.1 == end) (fits_layout layout end (len x)) e)

  piece_found : piece_named find_piece len layout place end entry ≡ Ok piece → find_piece entry.0 ≡ Some piece
  unfolding piece_named
  piece_found e = by_found (find_piece entry.0) e

module _ (pool : List (List ℕ)) (layout : Layout) where
  abbrev find_piece : Digest32 → Option (List ℕ)
  find_piece digest = piece_with digest pool

  one_more : (entry : Digest32 × ℕ) (entries : List (Digest32 × ℕ)) (piece : List ℕ) (pieces : List (List ℕ)) → find_piece entry.0 ≡ Some piece
      → AreNamed pool entries pieces → AreNamed pool (entry ∷ entries) (piece ∷ pieces)
  one_more entry entries piece pieces is rest = record { each = by_piece; all = by_entry }
    where
      same : sha256 piece ≡ (entry.0).0
      same = (bytes_eq-Decides (sha256 piece) (entry.0).0).0 (found_passes (λ p. bytes_eq (sha256 p) (entry.0).0) pool piece is)

      pooled : In (sha256 piece) (map sha256 pool)
      pooled = in_map sha256 pool piece (find_in (λ p. bytes_eq (sha256 p) (entry.0).0) pool piece is)

      by_piece : (d : List ℕ) → In d (map sha256 (piece ∷ pieces)) → In d (map (λ e. (e.0).0) (entry ∷ entries)) × In d (map sha256 pool)
      by_piece d (inl e) = (inl (e ∙ same), subst (λ x. In x (map sha256 pool)) (sym e) pooled)
      by_piece d (inr h) = let later = rest.each d h in (inr later.0, later.1)

      by_entry : (d : List ℕ) → In d (map (λ e. (e.0).0) (entry ∷ entries)) → In d (map sha256 pool)
      by_entry d (inl e) = subst (λ x. In x (map sha256 pool)) (same ∙ sym e) pooled
      by_entry d (inr h) = rest.all d h

  with_others : (entry : Digest32 × ℕ) (entries : List (Digest32 × ℕ)) (piece : List ℕ) (r : Result (List (List ℕ)) Refusal) → find_piece entry.0 ≡ Some piece
      → Names pool entries r → Names pool (entry ∷ entries) (r >>= λ others. Ok (piece ∷ others))
  unfolding Names
  with_others entry entries piece (Ok pieces) is rest = one_more entry entries piece pieces is rest
  with_others entry entries piece (Err refusal) is rest = tt

  names_all : (place end : ℕ) (entries : List (Digest32 × ℕ)) → Names pool entries (pieces_named find_piece (λ p. length p) layout place end entries)
  unfolding Names pieces_named
  names_all place end [] = record { each = λ d h. absurd h; all = λ d h. absurd h }
  names_all place end (entry ∷ entries) =
      by_piece (piece_named find_piece (λ p. length p) layout place end entry) (λ piece is. piece_found find_piece (λ p. length p) layout place end entry piece is)
      (λ n. names_all (place + 1) n entries)
    where
      by_piece : (r : Result (List ℕ) Refusal) → ((piece : List ℕ) → r ≡ Ok piece → find_piece entry.0 ≡ Some piece)
          → ((n : ℕ) → Names pool entries (pieces_named find_piece (λ p. length p) layout (place + 1) n entries))
          → Names pool (entry ∷ entries) (r >>= λ piece. pieces_named find_piece (λ p. length p) layout (place + 1) (end + length piece) entries >>= λ others. Ok (piece ∷ others))
      by_piece (Ok piece) is rest =
          with_others entry entries piece (pieces_named find_piece (λ p. length p) layout (place + 1) (end + length piece) entries) (is piece refl) (rest (end + length piece))
      by_piece (Err refusal) is rest = tt

pub named_by : (pool : List (List ℕ)) (layout : Layout) (end : ℕ) (entries : List (Digest32 × ℕ)) (pieces : List (List ℕ))
    → pieces_named (λ digest. piece_with digest pool) (λ p. length p) layout 0 end entries ≡ Ok pieces → AreNamed pool entries pieces
unfolding Names
named_by pool layout end entries pieces e = subst (Names pool entries) e (names_all pool layout 0 end entries)

-- ---- a writer that goes on

module _ (s : Store) (Sent Touched : List ℕ → Type 0) (v : Writer) where
  -- pieces that were sent, or are the base's, join the pool
  pub pools : (pieces : List (List ℕ)) → ((d : List ℕ) → In d (map sha256 pieces) → Sent d ⊎ IsOfBase s v d) → GoesOn s Sent Touched v (with_pool pieces v)
  pools pieces from = record {
    start = refl;
    base = refl;
    keeps = λ d h. in_map_left sha256 v.pool pieces d h;
    pool = λ d h. elim (map_append_in sha256 v.pool pieces d h) [ inl old ↦ inl old | inr new ↦ inr (from d new) ];
    appended = λ d h. inl h;
  }

  -- a file of a blob has no pieces
  pub puts_blob : (name contents : List ℕ) → GoesOn s Sent Touched v (with_file name (blob contents) v)
  puts_blob name contents = record { start = refl; base = refl; keeps = λ d h. h; pool = λ d h. inl h; appended = by_part }
    where
      by_file : (d : List ℕ) (f new : File) → In d (digests_of f.content) → new.content ≡ blob contents → (f ≡ new) ⊎ In f v.files → HasAppended v d ⊎ (MayAppend v d × Touched d)
      by_file d f new has holds (inl e) = absurd (subst (λ c. In d (digests_of c)) holds (subst (λ (g : File). In d (digests_of g.content)) e has))
      by_file d f new has holds (inr old) = inl (inr (f, old, has))

      by_part : (d : List ℕ) → HasAppended (with_file name (blob contents) v) d → HasAppended v d ⊎ (MayAppend v d × Touched d)
      by_part d (inl h) = inl (inl h)
      by_part d (inr h) = by_file d h.0 (record { name = name; content = blob contents }) h.2 refl (insert_file_in (record { name = name; content = blob contents }) v.files h.0 h.1)

  -- ---- NEW_FIXED and NEW_DYNAMIC

  abbrev new_begun : List ℕ → Archive → Begun
  new_begun name a = record { number = free_number (numbers v); name = name; archive = a }

  pub begins_archive : (name : List ℕ) (a : Archive) → a.pieces ≡ [] → GoesOn s Sent Touched v (begin v name a)
  begins_archive name a none = record { start = refl; base = refl; keeps = λ d h. h; pool = λ d h. inl h; appended = by_part }
    where
      by_begun : (d : List ℕ) (b new : Begun) → (new.archive).pieces ≡ [] → In d (map sha256 (b.archive).pieces) → In b v.begun ⊎ ((b ≡ new) ⊎ ⊥)
          → HasAppended v d ⊎ (MayAppend v d × Touched d)
      by_begun d b new none has (inl old) = inl (inl (b, old, has))
      by_begun d b new none has (inr (inl e)) = absurd (subst (λ ps. In d (map sha256 ps)) none (subst (λ (c : Begun). In d (map sha256 (c.archive).pieces)) e has))
      by_begun d b new none has (inr (inr h)) = absurd h

      by_part : (d : List ℕ) → HasAppended (begin v name a) d → HasAppended v d ⊎ (MayAppend v d × Touched d)
      by_part d (inl h) = by_begun d h.0 (new_begun name a) none h.2 (in_append v.begun (new_begun name a ∷ []) h.0 h.1)
      by_part d (inr h) = inl (inr h)

  -- ---- APPEND

  pub appends : (number : ℕ) (entries : List (Digest32 × ℕ)) (pieces : List (List ℕ)) → AreNamed v.pool entries pieces → ((d : List ℕ) → In d (map (λ e. (e.0).0) entries) → Touched d)
      → GoesOn s Sent Touched v (record v { begun = change_first (has_number number) (with_pieces pieces) v.begun })
  appends number entries pieces named touched = record { start = refl; base = refl; keeps = λ d h. h; pool = λ d h. inl h; appended = by_part }
    where
      Goal : List ℕ → Type 0
      Goal d = HasAppended v d ⊎ (MayAppend v d × Touched d)

      grown : (d : List ℕ) (y : Begun) → In y v.begun → In d (map sha256 ((y.archive).pieces ++ pieces)) → Goal d
      grown d y at has = elim (map_append_in sha256 (y.archive).pieces pieces d has) [
        | inl old ↦ inl (inl (y, at, old))
        | inr new ↦ inr ((named.each d new).1, touched d (named.each d new).0)
      ]

      by_begun : (d : List ℕ) (b : Begun) → In d (map sha256 (b.archive).pieces) → In b v.begun ⊎ ((y : Begun) × In y v.begun × (b ≡ with_pieces pieces y)) → Goal d
      by_begun d b has (inl old) = inl (inl (b, old, has))
      by_begun d b has (inr at) = grown d at.0 at.1 (subst (λ (c : Begun). In d (map sha256 (c.archive).pieces)) at.2 has)

      by_part : (d : List ℕ) → HasAppended (record v { begun = change_first (has_number number) (with_pieces pieces) v.begun }) d → Goal d
      by_part d (inl h) = by_begun d h.0 h.2 (change_first_in (has_number number) (with_pieces pieces) v.begun h.0 h.1)
      by_part d (inr h) = inl (inr h)

  -- ---- CLOSE_INDEX

  pub closes : (number : ℕ) (b : Begun) → In b v.begun
      → GoesOn s Sent Touched v (with_file b.name (archive b.archive) (record v { begun = without_first (has_number number) v.begun }))
  closes number b at = record { start = refl; base = refl; keeps = λ d h. h; pool = λ d h. inl h; appended = by_part }
    where
      by_file : (d : List ℕ) (f new : File) → In d (digests_of f.content) → new.content ≡ archive b.archive → (f ≡ new) ⊎ In f v.files → HasAppended v d ⊎ (MayAppend v d × Touched d)
      by_file d f new has holds (inl e) = inl (inl (b, at, subst (λ c. In d (digests_of c)) holds (subst (λ (g : File). In d (digests_of g.content)) e has)))
      by_file d f new has holds (inr old) = inl (inr (f, old, has))

      by_part : (d : List ℕ) → HasAppended (with_file b.name (archive b.archive) (record v { begun = without_first (has_number number) v.begun })) d
          → HasAppended v d ⊎ (MayAppend v d × Touched d)
      by_part d (inl h) = inl (inl (h.0, without_first_in (has_number number) v.begun h.0 h.1, h.2))
      by_part d (inr h) = by_file d h.0 (record { name = b.name; content = archive b.archive }) h.2 refl (insert_file_in (record { name = b.name; content = archive b.archive }) v.files h.0 h.1)

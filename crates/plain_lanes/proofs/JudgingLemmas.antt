-- What an index says, piece by piece.
use Rattle.std.proofs.Common.{◌≡◌, ◌<◌, ◌≤◌, ◌+◌, ◌-◌, ◌*◌, ℕ, List, [], ◌∷◌, ◌++◌, length, take, refl, sym, ap, ◌∙◌, arith}
use Rattle.std.specs.Prelude.{Ok, slice_index_or}
use Rattle.std.proofs.Math.Nat.{mul-le-mul_right}
use Rattle.std.proofs.lemmas.List.{length-take-le, take_more}
use Rattle.store_files.specs.FixedIndex.{FixedIndex, fixed_of, piece_len}
use Rattle.store_files.specs.DynamicIndex.{DynamicIndex, Ended}
use Rattle.fixed_index.specs.Viewing.{start_of, stop_of}
use Rattle.fixed_index.proofs.Reading.{fixed_of-fits}
use Rattle.dynamic_index.specs.Pieces as pieces
use Rattle.store_types.specs.declared.piece.Piece.{Piece}
use Rattle.store_model.specs.VerifyJob.{dynamic_pieces, fixed_pieces, last_end}
use Rattle.store_model.proofs.VerifyLemmas.{dynamic_pieces_more, end_behind, fixed_pieces_more, piece}
use Rattle.plain_lanes.specs.Visits.{HasPieces}

-- where the entries of a dynamic index end
pub last_same : (es : List Ended) → pieces.last_end 0 es ≡ last_end es
last_same [] = refl
last_same (e ∷ []) = refl
last_same (e ∷ f ∷ es) = last_same (f ∷ es)

-- ---- one piece more

piece_is : (p : Piece) (d : List ℕ) (len : ℕ) → (p.digest).0 ≡ d → p.length ≡ len → p ≡ piece d len
piece_is p d len named long = ap (λ b. piece b p.length) named ∙ ap (piece d) long

pushed_is : (ps before : List Piece) (p : Piece) (d : List ℕ) (len : ℕ) → ps ≡ before → p ≡ piece d len → ps ++ p ∷ [] ≡ before ++ piece d len ∷ []
pushed_is ps before p d len same is = ap (λ l. l ++ p ∷ []) same ∙ ap (λ (q : Piece). before ++ q ∷ []) is

module _ (x : FixedIndex) where
  pub has_pieces : (bytes : List ℕ) → fixed_of bytes ≡ Ok x → HasPieces x
  has_pieces bytes is =
      let fits = fixed_of-fits bytes x is in
      record { longest = fits.most; reach = fits.reach }

  module _ (i : ℕ) (lt : i < length x.digests) where
    within : HasPieces x → start_of x i < x.size
    within has =
        let more : (i + 1) * x.chunk_size ≤ length x.digests * x.chunk_size = mul-le-mul_right x.chunk_size (omega arith) in
        omega (arith, has.reach, more)

    pub piece_in : HasPieces x → (start_of x i ≤ stop_of x i) × (stop_of x i ≤ start_of x i + 16_777_216)
    piece_in has = (omega (arith, within has), omega (arith, has.longest))

    long_is : (n : ℕ) → n ≡ i → stop_of x i - start_of x i ≡ piece_len x.size x.chunk_size (0 + n * x.chunk_size)
    long_is n is =
        let at_place : stop_of x i - start_of x i ≡ piece_len x.size x.chunk_size (0 + i * x.chunk_size) = omega arith in
        at_place ∙ ap (λ k. piece_len x.size x.chunk_size (0 + k * x.chunk_size)) (sym is)

    pub fixed_more : (ps new : List Piece) (p : Piece) → new ≡ ps ++ p ∷ [] → (p.digest).0 ≡ slice_index_or x.digests i [] → p.length ≡ stop_of x i - start_of x i
        → ps ≡ fixed_pieces x.size x.chunk_size 0 (take i x.digests) → new ≡ fixed_pieces x.size x.chunk_size 0 (take (i + 1) x.digests)
    fixed_more ps new p pushed named long before =
        let ds = take i x.digests in
        let d = slice_index_or x.digests i [] in
        pushed
        ∙ pushed_is ps _ p d _ before (piece_is p d _ named (long ∙ long_is (length ds) (length-take-le i x.digests (omega (arith, lt)))))
        ∙ sym (fixed_pieces_more x.size x.chunk_size 0 ds d) ∙ sym (ap (fixed_pieces x.size x.chunk_size 0) (take_more x.digests i [] lt))

behind_is : (start : ℕ) (es : List Ended) → end_behind start es ≡ pieces.last_end start es
behind_is start [] = refl
behind_is start (e ∷ es) = behind_is e.end es

pub dynamic_more : (x : DynamicIndex) (i : ℕ) → i < length x.entries → (ps new : List Piece) (p : Piece) → new ≡ ps ++ p ∷ [] → (p.digest).0 ≡ (pieces.entry_at x i).digest
    → p.length ≡ pieces.stop_of x i - pieces.start_of x i → ps ≡ dynamic_pieces 0 (take i x.entries) → new ≡ dynamic_pieces 0 (take (i + 1) x.entries)
dynamic_more x i lt ps new p pushed named long before =
    let es = take i x.entries in
    let e = pieces.entry_at x i in
    let none : Ended = record { end = 0; digest = [] } in
    pushed ∙ pushed_is ps _ p e.digest _ before (piece_is p e.digest _ named (long ∙ ap (λ n. e.end - n) (sym (behind_is 0 es))))
    ∙ sym (dynamic_pieces_more 0 es e) ∙ sym (ap (dynamic_pieces 0) (take_more x.entries i none lt))

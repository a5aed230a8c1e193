-- What whole files say.
use Rattle.std.proofs.Common.{◌≡◌, ℕ, ◌*◌, ◌/◌, ◌-◌, ◌≤◌, suc, IsTrue, List, [], ◌∷◌, ◌++◌, length, take, Ok, refl, sym, ap, subst, ◌∙◌, arith}
use Rattle.std.specs.Prelude.{◌+◌, ◌<◌, ◌^◌, ◌&&◌, ◌==◌, nat_le, nat_lt, slice_index_or}
use Rattle.std.proofs.Math.Nat.{mul-le-mul, mul-le-mul_right}
use Rattle.std.proofs.lemmas.Bool.{and_parts, eqb-true, leb-true}
use Rattle.std.proofs.lemmas.List.{length-take-le, take_more}
use Rattle.store_files.specs.FixedIndex.{FixedIndex, fixed_of}
use Rattle.store_files.specs.FixedIndex as fixed_index
use Rattle.store_files.specs.DynamicIndex.{Ended, DynamicIndex, dynamic_of}
use Rattle.store_files.specs.DynamicIndex as dynamic_index
use Rattle.fixed_index.specs.Viewing.{start_of, stop_of}
use Rattle.fixed_index.proofs.Reading.{fixed_of-fits, fixed_of-ok}
use Rattle.dynamic_index.specs.Pieces as pieces
use Rattle.dynamic_index.proofs.Reading.{dynamic_of-fits}
use Rattle.store_types.specs.declared.piece.Piece.{Piece}
use Rattle.store_model.specs.VerifyJob.{last_end, fixed_pieces, dynamic_pieces}
use Rattle.store_model.proofs.VerifyLemmas.{piece, fixed_pieces_more, end_behind, dynamic_pieces_more}
use Rattle.job_steps.specs.Visits.{HasPieces}

-- where the entries of a dynamic index end
pub last_same : (es : List Ended) → pieces.last_end 0 es ≡ last_end es
last_same [] = refl
last_same (e ∷ []) = refl
last_same (e ∷ f ∷ es) = last_same (f ∷ es)

-- ---- the entries of an index, one by one

as_piece : (e : Piece) (d : List ℕ) (len : ℕ) → (e.digest).0 ≡ d → e.length ≡ len → e ≡ piece d len
as_piece e d len named sized = λ k. record { digest = record { 0 = named k }; length = sized k }

fixed_len : (x : FixedIndex) (i n : ℕ) → n ≡ i → stop_of x i - start_of x i ≡ fixed_index.piece_len x.size x.chunk_size (0 + n * x.chunk_size)
fixed_len x i n is =
    let same : fixed_index.piece_len x.size x.chunk_size (0 + n * x.chunk_size) ≡ fixed_index.piece_len x.size x.chunk_size (i * x.chunk_size) =
    ap (fixed_index.piece_len x.size x.chunk_size) (let at : n * x.chunk_size ≡ i * x.chunk_size = ap (λ k. k * x.chunk_size) is in omega (arith, at)) in
    omega arith ∙ sym same

pub fixed_more : (es new : List Piece) (e : Piece) (x : FixedIndex) (i : ℕ) → i < length x.digests → new ≡ es ++ e ∷ []
    → (e.digest).0 ≡ slice_index_or x.digests i [] → e.length ≡ stop_of x i - start_of x i
    → es ≡ fixed_pieces x.size x.chunk_size 0 (take i x.digests) → new ≡ fixed_pieces x.size x.chunk_size 0 (take (i + 1) x.digests)
fixed_more es new e x i lt pushed named sized before =
    let front = take i x.digests in
    let d = slice_index_or x.digests i [] in
    let many : length front ≡ i = length-take-le i x.digests (omega (arith, lt)) in
    let is = as_piece e d (fixed_index.piece_len x.size x.chunk_size (0 + length front * x.chunk_size)) named (sized ∙ fixed_len x i (length front) many) in
    pushed ∙ ap (λ l. l ++ e ∷ []) before ∙ ap (λ p. fixed_pieces x.size x.chunk_size 0 front ++ p ∷ []) is
    ∙ sym (fixed_pieces_more x.size x.chunk_size 0 front d) ∙ ap (fixed_pieces x.size x.chunk_size 0) (sym (take_more x.digests i [] lt))

ends_same : (start : ℕ) (es : List Ended) → pieces.last_end start es ≡ end_behind start es
ends_same start [] = refl
ends_same start (e ∷ es) = ends_same e.end es

pub dynamic_more : (es new : List Piece) (e : Piece) (x : DynamicIndex) (i : ℕ) → i < length x.entries → new ≡ es ++ e ∷ []
    → (e.digest).0 ≡ (pieces.entry_at x i).digest → e.length ≡ pieces.stop_of x i - pieces.start_of x i
    → es ≡ dynamic_pieces 0 (take i x.entries) → new ≡ dynamic_pieces 0 (take (i + 1) x.entries)
dynamic_more es new e x i lt pushed named sized before =
    let none : Ended = record { end = 0; digest = [] } in
    let front = take i x.entries in
    let last = pieces.entry_at x i in
    let is = as_piece e last.digest (last.end - end_behind 0 front) named (sized ∙ ap (λ n. last.end - n) (ends_same 0 front)) in
    pushed ∙ ap (λ l. l ++ e ∷ []) before ∙ ap (λ p. dynamic_pieces 0 front ++ p ∷ []) is
    ∙ sym (dynamic_pieces_more 0 front last) ∙ ap (dynamic_pieces 0) (sym (take_more x.entries i none lt))

-- as many as the index has
pub length-fixed_pieces : (size chunk_size offset : ℕ) (ds : List (List ℕ)) → length (fixed_pieces size chunk_size offset ds) ≡ length ds
length-fixed_pieces size chunk_size offset [] = refl
length-fixed_pieces size chunk_size offset (d ∷ ds) = ap suc (length-fixed_pieces size chunk_size (offset + chunk_size) ds)

pub length-dynamic_pieces : (start : ℕ) (es : List Ended) → length (dynamic_pieces start es) ≡ length es
length-dynamic_pieces start [] = refl
length-dynamic_pieces start (e ∷ es) = ap suc (length-dynamic_pieces e.end es)

-- ---- the pieces of an index are in range

reaches : (size cut : ℕ) → 1 ≤ cut → size ≤ (size + cut - 1) / cut * cut
reaches size cut positive = omega arith

pub has_pieces : (bytes : List ℕ) (x : FixedIndex) → fixed_of bytes ≡ Ok x → HasPieces x
has_pieces bytes x is =
    let fits = fixed_of-fits bytes x is in
    let found = fixed_of-ok bytes x is in
    let sizes : IsTrue (fixed_index.has_sizes x) = subst (λ (y : FixedIndex). IsTrue (fixed_index.has_sizes y)) (sym found.0) found.1.sizes in
    let both = and_parts (fixed_index.is_chunk_size x.chunk_size) (length x.digests == fixed_index.piece_count x.size x.chunk_size) sizes in
    let count : length x.digests ≡ fixed_index.piece_count x.size x.chunk_size = eqb-true (length x.digests) (fixed_index.piece_count x.size x.chunk_size) both.1 in
    record {
      limit = omega (arith, fits.limit);
      longest = fits.most;
      size = subst (λ n. x.size ≤ n * x.chunk_size) (sym count) (reaches x.size x.chunk_size (omega (arith, fits.least)));
      reach = fits.reach;
    }

pub piece_in : (x : FixedIndex) (i : ℕ) → HasPieces x → i < length x.digests → (start_of x i ≤ stop_of x i) × (stop_of x i ≤ start_of x i + 16_777_216)
piece_in x i fits lt =
    let within : i + 1 ≤ length x.digests = omega arith in
    let more = mul-le-mul_right x.chunk_size within in
    (omega (arith, fits.reach, more), omega (arith, fits.longest))

pub fixed_small : (x : FixedIndex) → HasPieces x → x.size ≤ 2 ^ 44
fixed_small x fits = omega (arith, fits.size, mul-le-mul fits.limit fits.longest)

step_bound : (start : ℕ) (e : Ended) (es : List Ended) → IsTrue (dynamic_index.steps_fit start (e ∷ es)) → (e.end ≤ start + 16_777_216) × IsTrue (dynamic_index.steps_fit e.end es)
step_bound start e es fit =
    let parts = and_parts (nat_lt start e.end && nat_le e.end (start + 16_777_216)) (dynamic_index.steps_fit e.end es) fit in
    let both = and_parts (nat_lt start e.end) (nat_le e.end (start + 16_777_216)) parts.0 in
    (leb-true e.end (start + 16_777_216) both.1, parts.1)

last_end_small : (start : ℕ) (es : List Ended) → IsTrue (dynamic_index.steps_fit start es) → pieces.last_end start es ≤ start + length es * 16_777_216
last_end_small start [] fit = omega arith
last_end_small start (e ∷ es) fit =
    let first = step_bound start e es fit in
    omega (arith, first.0, last_end_small e.end es first.1)

pub dynamic_small : (bytes : List ℕ) (x : DynamicIndex) → dynamic_of bytes ≡ Ok x → (length x.entries ≤ 1_048_576) × (pieces.size_of x ≤ 2 ^ 44)
dynamic_small bytes x is =
    let fits = dynamic_of-fits bytes x is in
    (omega (arith, fits.0), omega (arith, fits.0, last_end_small 0 x.entries fits.1))

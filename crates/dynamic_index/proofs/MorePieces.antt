-- Several pieces behind the others.
use Rattle.std.proofs.Common.{◌≡◌, ℕ, ◌+◌, List, [], ◌∷◌, ◌++◌, length, All, refl, sym, ap, subst, append_assoc, arith}
use Rattle.std.specs.Prelude.{ℤ}
use Rattle.std.proofs.lemmas.List.Elements.{All-head, All-tail}
use Rattle.store_types.specs.declared.piece.Piece.{Piece}
use Rattle.store_files.specs.DynamicIndex.{Ended}
use Rattle.dynamic_index.specs.Pieces.{last_end}
use Rattle.dynamic_index.specs.Writing.{reserved, IsBegun, FitsPiece, ends_behind, FitsPieces}
use Rattle.dynamic_index.proofs.Spelling.{begun_more}

last_end-push : (start : ℕ) (es : List Ended) (e : Ended) → last_end start (es ++ e ∷ []) ≡ e.end
last_end-push start [] e = refl
last_end-push start (x ∷ es) e = last_end-push x.end es e

-- what a writer keeps, with several more pieces
pub begun_all : (uuid : List ℕ) (ctime : ℤ) (entries : List Ended) (start : ℕ) (pieces : List Piece) → IsBegun uuid ctime entries → start ≡ last_end 0 entries →
    FitsPieces (record { uuid = uuid; ctime = ctime; reserved = reserved; entries = entries }) pieces → All (λ e. length e.digest ≡ 32) (ends_behind start pieces) →
    IsBegun uuid ctime (entries ++ ends_behind start pieces)
begun_all uuid ctime entries start [] is begins fits long = subst (IsBegun uuid ctime) (sym (append_nil_is entries)) is
  where
    append_nil_is : (es : List Ended) → es ++ [] ≡ es
    append_nil_is [] = refl
    append_nil_is (e ∷ es) = ap (λ (l : List Ended). e ∷ l) (append_nil_is es)
begun_all uuid ctime entries start (p ∷ ps) is begins fits long =
    let e : Ended = record { end = start + p.length; digest = (p.digest).0 } in
    let one : FitsPiece (record { uuid = uuid; ctime = ctime; reserved = reserved; entries = entries }) p.length =
    record { room = omega (arith, fits.room); not_empty = (fits.lengths.0).0; limit = (fits.lengths.0).1 } in
    let IsLong : Ended → Type 0 = λ x. length x.digest ≡ 32 in
    let more : IsBegun uuid ctime (entries ++ e ∷ []) =
    begun_more uuid ctime entries start p.length (p.digest).0 is begins one (All-head IsLong e (ends_behind (start + p.length) ps) long) in
    let count = length_more entries e in
    subst (IsBegun uuid ctime) (append_assoc entries (e ∷ []) (ends_behind (start + p.length) ps))
    (begun_all uuid ctime (entries ++ e ∷ []) (start + p.length) ps more (sym (last_end-push 0 entries e))
    (record { room = omega (arith, fits.room, count); lengths = fits.lengths.1 }) (All-tail IsLong e (ends_behind (start + p.length) ps) long))
  where
    length_more : (es : List Ended) (x : Ended) → length (es ++ x ∷ []) ≡ length es + 1
    length_more [] x = omega arith
    length_more (y ∷ es) x = omega (arith, length_more es x)

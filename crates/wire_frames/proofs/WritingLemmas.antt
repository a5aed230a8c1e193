-- A frame is written as its length, the head of its body and the rest.
use Rattle.std.proofs.Common.{◌≡◌, ℕ, ◌+◌, List, ◌++◌, length, Option, Bool, true, false, Result, IsErr, is_ok, sym, ap, ◌∙◌, length-append}
use Rattle.std.specs.Int.{w32, to_le_bytes}
use Rattle.port_traits.specs.Bytes.{WritesCounted}
use Rattle.port_traits.proofs.BytesLemmas.{WritesCounted-then, WritesCounted-failed}
use Rattle.wire_frames.specs.Frames.{frame}

-- the length in front of the two parts
frame-parts : (header head rest : List ℕ) → header ≡ to_le_bytes w32 (length head + length rest) → frame (head ++ rest) ≡ header ++ (head ++ rest)
frame-parts header head rest e = ap (λ (n : ℕ). to_le_bytes w32 n ++ (head ++ rest)) (length-append head rest) ∙ ap (λ (h : List ℕ). h ++ (head ++ rest)) (sym e)

pub put-no_header : {T E : Type 0} (a b : Option (List ℕ)) (m n : ℕ) (header head rest : List ℕ) (r : Result T E) → header ≡ to_le_bytes w32 (length head + length rest) → IsErr r → WritesCounted a b m n header false → WritesCounted a b m n (frame (head ++ rest)) (is_ok r)
put-no_header a b m n header head rest r e failed first = rw (frame-parts header head rest e) (WritesCounted-failed a b m n header (head ++ rest) r failed first)

pub put-no_head : {T E : Type 0} (a b c : Option (List ℕ)) (m n k : ℕ) (header head rest : List ℕ) (r : Result T E) → header ≡ to_le_bytes w32 (length head + length rest) → IsErr r → WritesCounted a b m n header true → WritesCounted b c n k head false → WritesCounted a c m k (frame (head ++ rest)) (is_ok r)
put-no_head a b c m n k header head rest r e failed first second =
    rw (frame-parts header head rest e) (WritesCounted-then a b c m n k header (head ++ rest) (is_ok r) first (WritesCounted-failed b c n k head rest r failed second))

pub put-all : (a b c d : Option (List ℕ)) (m n k j : ℕ) (header head rest : List ℕ) (all : Bool) → header ≡ to_le_bytes w32 (length head + length rest) → WritesCounted a b m n header true → WritesCounted b c n k head true → WritesCounted c d k j rest all → WritesCounted a d m j (frame (head ++ rest)) all
put-all a b c d m n k j header head rest all e first second third =
    rw (frame-parts header head rest e) (WritesCounted-then a b d m n j header (head ++ rest) all first (WritesCounted-then b c d n k j head rest all second third))

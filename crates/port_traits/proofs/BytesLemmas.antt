-- Writes that follow one another.
use Rattle.std.proofs.Common.{◌≡◌, ℕ, ◌+◌, ◌-◌, List, ◌++◌, length, take, drop, arith, append_assoc, Option, None, Some, Bool, true, false, Result, Ok, Err, IsErr, is_ok, length-drop, length-append}
use Rattle.std.proofs.Math.Seq.{take-add, take-length, take-append-add}
use Rattle.std.proofs.lemmas.List.{take-append-le}
use Rattle.port_traits.specs.Bytes.{AddsTo, WritesCounted, IsCountOf}

-- what two writes took is one after the other
pub AddsTo-append : (a b c : Option (List ℕ)) (xs ys : List ℕ) → AddsTo a b xs → AddsTo b c ys → AddsTo a c (xs ++ ys)
AddsTo-append None b c xs ys first second = rw first at second
AddsTo-append (Some told) b c xs ys first second = rw (first, append_assoc) at second

-- the bytes behind a place, as a slice has them
pub take-rest : (n : ℕ) (bytes : List ℕ) → take (length bytes - n) (drop n bytes) ≡ drop n bytes
take-rest n bytes = rw (← length-drop n bytes, take-length)

-- a write of some of the rest
pub AddsTo-more : (a b c : Option (List ℕ)) (bytes : List ℕ) (n m : ℕ) → AddsTo a b (take n bytes) → AddsTo b c (take m (take (length bytes - n) (drop n bytes))) → AddsTo a c (take (n + m) bytes)
AddsTo-more a b c bytes n m first second = rw take-add (AddsTo-append a b c (take n bytes) (take m (drop n bytes)) first (rw (take-rest n bytes) at second))

-- a count of what stands behind all of the first bytes
pub IsCountOf-append : (all : Bool) (xs ys : List ℕ) (n : ℕ) → IsCountOf all ys n → IsCountOf all (xs ++ ys) (length xs + n)
IsCountOf-append true xs ys n here = rw (length-append, here)
IsCountOf-append false xs ys n here = omega (arith, length-append xs ys)

-- all of the first bytes, and what a second write took of the others
pub AddsTo-then : (a b c : Option (List ℕ)) (xs ys : List ℕ) (m n : ℕ) → m ≡ length xs → AddsTo a b (take m xs) → AddsTo b c (take n ys) → AddsTo a c (take (length xs + n) (xs ++ ys))
AddsTo-then a b c xs ys m n all first second =
    rw take-append-add (AddsTo-append a b c xs (take n ys) (rw (all, take-length) at first) second)

pub WritesCounted-then : (a b c : Option (List ℕ)) (m n k : ℕ) (xs ys : List ℕ) (all : Bool) → WritesCounted a b m n xs true → WritesCounted b c n k ys all → WritesCounted a c m k (xs ++ ys) all
WritesCounted-then a b c m n k xs ys all first second = record {
  count = length xs + second.count;
  how_many = IsCountOf-append all xs ys second.count second.how_many;
  added = AddsTo-then a b c xs ys first.count second.count first.how_many first.added second.added;
  counted = omega (arith, first.how_many, first.counted, second.counted);
}

pub WritesCounted-stopped : (a b : Option (List ℕ)) (m n : ℕ) (xs ys : List ℕ) → WritesCounted a b m n xs false → WritesCounted a b m n (xs ++ ys) false
WritesCounted-stopped a b m n xs ys first = record {
  count = first.count;
  how_many = omega (arith, first.how_many, length-append xs ys);
  added = rw (take-append-le first.count xs ys (omega (arith, first.how_many))) first.added;
  counted = first.counted;
}

-- the same at the exit of a `?`
pub WritesCounted-failed : {T E : Type 0} (a b : Option (List ℕ)) (m n : ℕ) (xs ys : List ℕ) (r : Result T E) → IsErr r → WritesCounted a b m n xs false → WritesCounted a b m n (xs ++ ys) (is_ok r)
WritesCounted-failed a b m n xs ys (Ok t) failed first = absurd (cc failed)
WritesCounted-failed a b m n xs ys (Err e) failed first = WritesCounted-stopped a b m n xs ys first

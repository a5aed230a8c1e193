-- Rising chunks: each stands once.
use Rattle.std.proofs.Common.{◌≡◌, ℕ, ◌≤◌, Bool, true, false, ◌&&◌, cond, List, [], ◌∷◌, length, get_or, refl, sym, ap, subst, ◌∙◌, All, Option, Some, None, Result, Ok, Err, Vec, Global}
use Rattle.std.specs.Prelude.{IfSome, IfOk, OnOk}
use Rattle.std.specs.Ordering.{is_lt}
use Rattle.std.specs.List.{AllByRecursion}
use Rattle.std.specs.Str.{bytes_eq}
use Rattle.std.specs.List.Sorted.{IsStrictlySortedBy}
use Rattle.std.specs.declared.alloc.AllocError.{AllocError}
use Rattle.std.proofs.lemmas.List.Elements.{All-from_recursion, All-map, All-head, All-tail}
use Rattle.std.proofs.lemmas.Slice.Eq.{bytes_eq-Decides}
use Rattle.store_types.specs.Times.{last_moment}
use Rattle.store_files.specs.Book.{Touch, Book, FitsBook, book_text, book_of, digests_rise}
use Rattle.atime_book.specs.declared.parts.Touched.{Touched}
use Rattle.atime_book.specs.Parts.{as_touch, touches_of, IsRising}
use Rattle.atime_book.specs.Touches.{last_in, IsInOrder, NoneAfter}
use Rattle.atime_book.proofs.Orders.{greater, unlike}
use Rattle.atime_book.proofs.Rising.{After}
use Rattle.atime_book.proofs.Texts.{book_of-book_text, text-from_book_of}

rising : (ts : List Touched) → IsRising ts → digests_rise (touches_of ts) ≡ true
unfolding IsStrictlySortedBy
rising [] sorted = refl
rising (t ∷ []) sorted = refl
rising (t ∷ u ∷ ts) sorted = ap (λ r. is_lt r && digests_rise (touches_of (u ∷ ts))) (sorted.0).0 ∙ rising (u ∷ ts) sorted.1

abbrev pub IsFound : List Touched → Touched → Type 0
IsFound all t = last_in (touches_of all) t.digest.0 ≡ Some t.moment

-- behind one that is below them
behind : (t : Touched) (all ts : List Touched) → After t.digest ts → AllByRecursion (IsFound all) ts → AllByRecursion (IsFound (t ∷ all)) ts
behind t all [] below are = tt
behind t all (u ∷ ts) below are =
    let other = unlike u.digest.0 t.digest.0 (greater t.digest.0 u.digest.0 below.0) in
    (ap (λ b. cond b (Some t.moment) (last_in (touches_of all) u.digest.0)) other ∙ are.0, behind t all ts below.1 are.1)

pub each_found : (ts : List Touched) → IsRising ts → AllByRecursion (IsFound ts) ts
unfolding IsStrictlySortedBy
each_found [] sorted = tt
each_found (t ∷ ts) sorted =
    let itself = (bytes_eq-Decides t.digest.0 t.digest.0).1 refl in
    (ap (λ b. cond b (Some t.moment) (last_in (touches_of ts) t.digest.0)) itself, behind t ts ts sorted.0 (each_found ts sorted.1))

pub in_order : (moment : ℕ) (ts : List Touched) → IsRising ts → All (λ t. length t.digest ≡ 32) (touches_of ts) →
    IsInOrder (record { moment = moment; touches = touches_of ts })
in_order moment ts sorted wide = record {
  digests = wide;
  rise = rising ts sorted;
  found = All-map (λ (t : Touch). last_in (touches_of ts) t.digest ≡ Some t.moment) as_touch ts (All-from_recursion (IsFound ts) ts (each_found ts sorted));
}

-- so it has a text at a moment that no touch is after
pub fits_at : (b : Book) (moment : ℕ) → moment ≤ last_moment → NoneAfter b moment → IsInOrder b → FitsBook (record b { moment = moment })
fits_at b moment early none_after is = record {
  moment = early;
  touches = λ k d below.
      let t = get_or b.touches k d in
      (is.digests k d below, subst (λ (o : Option ℕ). IfSome o (λ when. when ≤ moment)) (is.found k d below) (none_after t.digest));
  rise = is.rise;
}

pub is_read_again : (r : Result (Vec ℕ Global) AllocError) (b : Book) → IfOk r (λ text. text.items ≡ book_text b) → OnOk r (FitsBook b) →
    IfOk r (λ text. book_of text.items ≡ Some b)
is_read_again (Ok text) b is fits = ap book_of is ∙ book_of-book_text b fits
is_read_again (Err e) b is fits = tt

pub on_ok : {A B : Type 0} (r : Result (Vec ℕ Global) AllocError) → (A → B) → OnOk r A → OnOk r B
on_ok (Ok text) f a = f a
on_ok (Err e) f a = tt

-- and of a book in range no touch is after its moment
pub none_after_fits : (b : Book) → FitsBook b → NoneAfter b b.moment
none_after_fits b fits digest = of_touches b.touches fits.touches
  where
    of_touches : (ts : List Touch) → All (λ t. (length t.digest ≡ 32) × (t.moment ≤ b.moment)) ts → IfSome (last_in ts digest) (λ when. when ≤ b.moment)
    of_touches [] are = tt
    of_touches (t ∷ ts) are = by_test (bytes_eq digest t.digest) (All-head (λ (u : Touch). (length u.digest ≡ 32) × (u.moment ≤ b.moment)) t ts are).1
        (of_touches ts (All-tail (λ (u : Touch). (length u.digest ≡ 32) × (u.moment ≤ b.moment)) t ts are))
      where
        by_test : (same : Bool) → t.moment ≤ b.moment → IfSome (last_in ts digest) (λ when. when ≤ b.moment) →
            IfSome (cond same (Some t.moment) (last_in ts digest)) (λ when. when ≤ b.moment)
        by_test true early rest = early
        by_test false early rest = rest

-- what was read is in range
pub fits_read : (bytes : List ℕ) (o : Option Book) → o ≡ book_of bytes → IfSome o FitsBook
fits_read bytes None e = tt
fits_read bytes (Some b) e = (text-from_book_of bytes b (sym e)).1

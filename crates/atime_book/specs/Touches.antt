-- What the book knows of chunks, and what changes it.
use Rattle.std.specs.Prelude.{◌≡◌, ℕ, ◌-◌, Bool, false, ◌&&◌, List, [], ◌∷◌, ◌++◌, nat_lt, if◌then◌else◌, Option, Some, None, IfSome, IsSome, IsTrue, Vec, length, min, max, ◌≤◌, codes}
use Rattle.std.specs.declared.alloc.Global.{Global}
use Rattle.std.specs.Int.{w64, to_le_bytes}
use Rattle.std.specs.List.{All, flat_map}
use Rattle.std.specs.Str.{bytes_eq}
use Rattle.std.specs.declared.cmp.Ordering.TheVariants.{Less, Greater}
use Rattle.store_types.specs.Times.{last_moment}
use Rattle.store_types.specs.Names.{text_cmp}
use Rattle.store_files.specs.Book.{Touch, Book, digests_rise, touch_text, book_of}
use Rattle.atime_book.specs.declared.parts.Touched.{Touched}
use Rattle.atime_book.specs.Parts.{touches_of}

-- each digest has 32 bytes
abbrev pub HaveDigests : List Touch → Type 0
HaveDigests touches = All (λ t. length t.digest ≡ 32) touches

-- the file's bytes before the chunks, and those of the chunks
abbrev pub head_text : ℕ → ℕ → List ℕ
head_text moment count = codes "PBSBOOK1" ++ to_le_bytes w64 moment ++ to_le_bytes w64 count

abbrev pub touches_text : List Touched → List ℕ
touches_text touched = flat_map touch_text (touches_of touched)

-- they are put behind what is there
abbrev pub AddsTouches : List Touched → List ℕ → List ℕ → Type 0
AddsTouches touched old new = new ≡ old ++ touches_text touched

-- the last touch of a chunk
abbrev pub last_in : List Touch → List ℕ → Option ℕ
last_in [] digest = None
last_in (t ∷ ts) digest = if bytes_eq digest t.digest then Some t.moment else last_in ts digest

abbrev pub last_of : Book → List ℕ → Option ℕ
last_of book digest = last_in book.touches digest

abbrev pub empty : Book
empty = record { moment = 0; touches = [] }

-- the greatest moment of a touch, with one more
abbrev pub greatest : Option ℕ → ℕ → ℕ
greatest None when = when
greatest (Some last) when = max last when

-- The chunk was touched at this moment, and nothing else has changed.
pub record TouchedAt (old new : Book) (digest : List ℕ) (when : ℕ) : Type 0 where
  pub read : new.moment ≡ old.moment
  pub last : (d : List ℕ) → last_of new d ≡ (if bytes_eq digest d then Some (greatest (last_of old d) when) else last_of old d)

-- A chunk was noted between those below it and those above it, and nothing else has changed.
pub record NotesNew (old new : Book) (t : Touch) : Type 0 where
  pub read : new.moment ≡ old.moment
  pub lower : List Touch
  pub higher : List Touch
  pub before : old.touches ≡ lower ++ higher
  pub after : new.touches ≡ lower ++ t ∷ higher
  pub below : All (λ u. text_cmp u.digest t.digest ≡ Less) lower
  pub above : All (λ u. text_cmp u.digest t.digest ≡ Greater) higher

-- whether the chunk was touched, and never at the cutoff or later
abbrev pub is_stale : Option ℕ → ℕ → Bool
is_stale None cutoff = false
is_stale (Some when) cutoff = nat_lt when cutoff

-- so was a chunk that was known, and of another nothing was noted
pub record TouchesKnown (old new : Book) (digest : List ℕ) (when : ℕ) : Type 0 where
  pub known : IsSome (last_of old digest) → TouchedAt old new digest when
  pub unknown : last_of old digest ≡ None → new ≡ old

-- Where the chunk was taken out, the book has no touch of it, and nothing else has changed.
pub record SweptAt (old new : Book) (digest : List ℕ) (taken : Bool) : Type 0 where
  pub read : new.moment ≡ old.moment
  pub last : (d : List ℕ) → last_of new d ≡ (if taken && bytes_eq digest d then None else last_of old d)

-- at another moment
abbrev pub as_of : ℕ → Book → Book
as_of moment book = record book { moment = moment }

-- the book at that moment is read from the text
abbrev pub ReadsAt : Book → ℕ → Vec ℕ Global → Type 0
ReadsAt book moment text = book_of text.items ≡ Some (as_of moment book)

-- no chunk was touched after the moment
abbrev pub NoneAfter : Book → ℕ → Type 0
NoneAfter book moment = (digest : List ℕ) → IfSome (last_of book digest) (λ when. when ≤ moment)

-- at this moment a book has a text: none was, and the moment is within the years that have one
pub record IsAt (book : Book) (moment : ℕ) : Type 0 where
  pub touches : NoneAfter book moment
  pub in_time : moment ≤ last_moment

-- nor after the book's own
abbrev pub IsEarly : Book → Type 0
IsEarly book = NoneAfter book book.moment

-- Each chunk stands once: its digest, of 32 bytes, is above the one before it, and what is found at it is its touch.
pub record IsInOrder (book : Book) : Type 0 where
  pub digests : HaveDigests book.touches
  pub rise : IsTrue (digests_rise book.touches)
  pub found : All (λ t. last_of book t.digest ≡ Some t.moment) book.touches

-- the earlier of a day and five minutes before the start and five minutes before the oldest writer that ran then
abbrev pub cutoff_of : ℕ → Option ℕ → ℕ
cutoff_of start None = start - 86_700
cutoff_of start (Some oldest) = min (start - 86_700) (oldest - 300)

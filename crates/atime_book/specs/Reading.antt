-- The tests of a book's chunks, one after another.
use Rattle.std.specs.Prelude.{◌≡◌, ℕ, Bool, true, ◌&&◌, List, [], ◌∷◌, nat_le, map, if◌then◌else◌, Option, Some, None, option_map}
use Rattle.store_types.specs.Names.{name_lt}
use Rattle.store_files.specs.Cells.{cells}
use Rattle.store_files.specs.Book.{Touch, Book, touch_of}

-- whether a digest is above the one before it
abbrev pub above : Option (List ℕ) → List ℕ → Bool
above None digest = true
above (Some before) digest = name_lt before digest

-- no touch is after the moment, and the digests rise
abbrev pub pass_from : ℕ → Option (List ℕ) → List Touch → Bool
pass_from moment before [] = true
pass_from moment before (t ∷ ts) = nat_le t.moment moment && above before t.digest && pass_from moment (Some t.digest) ts

abbrev pub touches_at : List ℕ → List Touch
touches_at bytes = map touch_of (cells 40 bytes)

-- the touches, where they pass
abbrev pub passed : ℕ → List Touch → Option (List Touch)
passed moment ts = if pass_from moment None ts then Some ts else None

-- an answer is the book of the touches that the bytes are, where they pass
abbrev pub TellsTouches : ℕ → List ℕ → Option Book → Type 0
TellsTouches moment bytes found =
    found ≡ option_map (λ ts. record { moment = moment; touches = ts }) (passed moment (touches_at bytes))

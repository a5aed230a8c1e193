-- What the core keeps of the chunks that are there.
use Rattle.std.specs.Prelude.{◌≡◌, ℕ, List, max, if◌then◌else◌, Option, option_map}
use Rattle.store_types.specs.declared.names.Digest32.{Digest32}
use Rattle.store_files.specs.Book.{Book}
use Rattle.atime_book.specs.Touches.{last_of}
use Rattle.atime_book.specs.Present.{is_among}
use Rattle.store_history.specs.LastTouches.{LastTouches}
use Rattle.core_state.specs.declared.upkeep.Upkeep.{Upkeep}

-- the chunks of the book with their last touches, and which of them are undated
abbrev pub touches_kept : Upkeep → LastTouches
touches_kept u = record { last = λ d. last_of u.book d; undated = λ d. is_among d u.undated.items }

-- a chunk's last touch, once those of these chunks that the book has are touched at this moment
abbrev pub touched_in : Book → List Digest32 → ℕ → List ℕ → Option ℕ
touched_in book digests when d = if is_among d digests then option_map (λ last. max last when) (last_of book d) else last_of book d

-- they were touched, and no other chunk
abbrev pub TouchesEach : Book → Book → List Digest32 → ℕ → Type 0
TouchesEach old new digests when = (d : List ℕ) → last_of new d ≡ touched_in old digests when d

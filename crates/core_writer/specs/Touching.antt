-- What the acts of writers do to the last touches of chunks.
use Rattle.std.specs.Prelude.{◌≡◌, ℕ, Bool, true, false, List, map, max, if◌then◌else◌, Some, None, option_map, IsSome, Result}
use Rattle.store_types.specs.declared.append.AppendEntry.{AppendEntry}
use Rattle.store_files.specs.Book.{Book}
use Rattle.atime_book.specs.Touches.{SweptAt, TouchedAt, TouchesKnown, last_of}
use Rattle.wire_commands.specs.declared.command.Command.{Command}
use Rattle.wire_commands.specs.declared.reply.Reply.{Reply}
use Rattle.store_history.specs.declared.act.Act.{Act}
use Rattle.store_history.specs.declared.act.Act.TheVariants.{Plain}
use Rattle.store_history.specs.LastTouches.{SameTouches, is_one_of, touched_by}
use Rattle.core_state.specs.declared.entering.Place.{Place}
use Rattle.store_stops.specs.declared.stop.Stop.{Stop}
use Rattle.core_state.specs.declared.upkeep.Upkeep.{Upkeep}
use Rattle.core_state.specs.Settles.{reply_by}
use Rattle.core_state.specs.Stops.{told}
use Rattle.core_state.specs.Upkeeps.{touches_kept}

-- the last touches are as the act's reply makes them of those before
abbrev pub ActTouches : Upkeep → Upkeep → Place → Act → Result Reply Stop → Type 0
ActTouches old new at act result = SameTouches (touches_kept new) (touched_by act (Some (reply_by (told result))) at.moment (touches_kept old))

-- by its command
abbrev pub PlainTouches : Upkeep → Upkeep → Place → Command → Result Reply Stop → Type 0
PlainTouches old new at command result = ActTouches old new at (Plain command) result

-- ---- a chunk that is sent

-- the book has the chunk then: where it had not, its entry was made
abbrev pub MakesEntry : Book → Book → List ℕ → ℕ → Bool → Type 0
MakesEntry old new digest when true = (last_of old digest ≡ None) × TouchedAt old new digest when
MakesEntry old new digest when false = IsSome (last_of old digest) × (new ≡ old)

-- by whether the command was done, and whether an entry was made for it
abbrev pub EndsEntry : Book → Book → List ℕ → ℕ → Bool → Bool → Type 0
EndsEntry old new digest when true made = TouchesKnown old new digest when
EndsEntry old new digest when false true = SweptAt old new digest true
EndsEntry old new digest when false false = new ≡ old

-- ---- the entries of an APPEND

abbrev pub digests_of : List AppendEntry → List (List ℕ)
digests_of entries = map (λ e. (e.digest).0) entries

-- those of the entries' chunks that the book has were touched
pub record TouchesNamed (old new : Book) (entries : List AppendEntry) (when : ℕ) : Type 0 where
  pub last : (d : List ℕ) → last_of new d ≡ (if is_one_of d (digests_of entries) then option_map (λ last. max last when) (last_of old d) else last_of old d)

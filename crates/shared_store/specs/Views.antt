-- What views of the listing show, and what seats know of it.
use Rattle.std.specs.Prelude.{◌≡◌, ◌≤◌, ◌<◌, ◌&&◌, ℕ, Bool, true, false, List, [], ◌∷◌, length, map, max, is_some, option_map, slice_get, Option, Some, None}
use Rattle.std.specs.List.{AllByRecursion}
use Rattle.std.specs.Arc.{arc_value}
use Rattle.std.specs.declared.sync.Arc.{Arc}
use Rattle.std.specs.declared.alloc.Global.{Global}
use Rattle.std.specs.declared.vec.Vec.{Vec}
use Rattle.left_right.specs.Sides.{view}
use Rattle.turn_lock.specs.State.{SeatState}
use Rattle.store_types.specs.Names.{key_text}
use Rattle.wire_commands.specs.declared.rows.ListRow.{ListRow}
use Rattle.wire_commands.specs.declared.reply.Reply.{Reply}
use Rattle.wire_commands.specs.declared.reply.Reply.TheVariants.{Done}
use Rattle.store_history.specs.declared.act.Act.{Act}
use Rattle.store_history.specs.declared.act.Answer.{Answer}
use Rattle.store_history.specs.declared.act.Event.{Event}
use Rattle.store_history.specs.Profile.{is_other_list, profile}
use Rattle.core_state.specs.declared.kept.Kept.{Kept}
use Rattle.core_state.specs.declared.kept.Listed.{Listed}
use Rattle.core_state.specs.declared.state.Core.{Core}
use Rattle.core_state.specs.Catalogue.{listed_by}
use Rattle.core_state.specs.Kept.{kept_at}
use Rattle.core_state.specs.ListedRows.{files_counted}
use Rattle.listing_views.specs.declared.chunk.Chunk.{Chunk}
use Rattle.listing_views.specs.declared.listed.Listed as shown
use Rattle.listing_views.specs.declared.poster.Poster.{Poster}
use Rattle.listing_views.specs.Listings.{rows}
use Rattle.listing_views.specs.Rows.{all_rows}

-- a snapshot as LIST tells it
abbrev pub row_of : Kept → shown.Listed
row_of k = record { key = k.key; damaged = is_some k.unreadable; files = files_counted k }

abbrev pub rows_of : List Listed → List shown.Listed
rows_of listed = map (λ x. row_of x.kept) listed

-- a row that a view tells, as LIST's
abbrev pub list_row : shown.Listed → ListRow
list_row x = record { snapshot = key_text x.key; damaged = x.damaged; files = x.files }

-- what a poster has seen, and the rows that it shows
abbrev pub posted : {L : Type 0} → Option (Poster L) → Option (List Event × List shown.Listed)
posted poster = option_map (λ p. (view p.writer.desk.place, rows p.writer.desk.shown.value)) poster

-- ---- acts that change the listing

abbrev pub is_listing : Act → Bool
is_listing act = is_other_list (profile act).list

abbrev pub is_done : Option Reply → Bool
is_done (Some Done) = true
is_done reply = false

-- one that was done
abbrev pub changes : Event → Bool
changes e = is_listing e.act && is_done (e.answer).reply

-- none of these events changed the listing
abbrev pub AreQuiet : List Event → Type 0
AreQuiet [] = Unit {0}
AreQuiet (e ∷ es) = (changes e ≡ false) × AreQuiet es

-- none did from one place on and before another
abbrev pub IsQuietFrom : ℕ → ℕ → List Event → Type 0
IsQuietFrom from to events = (k : ℕ) (e : Event) → from ≤ k → k < to → slice_get events k ≡ Some e → changes e ≡ false

-- The rows after the act, where it is done; none where it leaves the listing, whatever is answered.
abbrev pub IsNextAfter : {D E C : Type 0} → Core D E C → ℕ → Act → Option (Arc (Vec (Arc Chunk Global) Global) Global) → Type 0
IsNextAfter core lane act None = is_listing act ≡ false
IsNextAfter core lane act (Some next) =
    (place : ℕ) → all_rows (arc_value next).items ≡ rows_of (listed_by act (Some Done) place (kept_at core.parts lane))

-- ---- notes

-- Each act of the seat's own stands before some place of what it has seen, and from this count of events on to there none changed the
-- listing. So what a view shows that knows of so many events has in it what the seat did to the listing, and what it found.
pub record TellsOf (count : ℕ) (seat : SeatState Event) : Type 0 where
  pub acted : ℕ
  pub own : AllByRecursion (λ place. place < acted) seat.mine
  pub seen : acted ≤ length seat.seen
  pub quiet : IsQuietFrom count acted seat.seen

-- what a seat has for its note
pub record IsNoted (note : ℕ) (seat : SeatState Event) : Type 0 where
  pub tells : TellsOf note seat
  pub most : note ≤ length seat.seen

-- what a view knows of, once it has learnt from a seat
pub record Learns (old new : ℕ) (seat : SeatState Event) : Type 0 where
  pub grows : old ≤ new
  pub tells : TellsOf new seat
  pub most : new ≤ max old (length seat.seen)

-- so many events are told of a history: behind them none changed the listing
pub record IsNoteOf (note : ℕ) (events : List Event) : Type 0 where
  pub most : note ≤ length events
  pub quiet : IsQuietFrom note (length events) events

-- an act that was done has left the rows that were made for it; where none are shown, the listing is as before
abbrev pub IsActedOn : {D E C : Type 0} → Core D E C → Core D E C → Act → Answer → Option (Arc (Vec (Arc Chunk Global) Global) Global) → Type 0
IsActedOn old new act answer (Some next) = all_rows (arc_value next).items ≡ rows_of (new.parts).catalogue.listed
IsActedOn old new act answer None = ((is_listing act && is_done answer.reply) ≡ false) × ((new.parts).catalogue.listed ≡ (old.parts).catalogue.listed)

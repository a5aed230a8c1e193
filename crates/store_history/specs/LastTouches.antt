-- When each chunk that is there was last touched, in the course of a history. The plain store knows nothing of it.
use Rattle.std.specs.Prelude.{◌≡◌, ℕ, Bool, true, false, ◌&&◌, List, [], ◌∷◌, map, max, if◌then◌else◌, Option, Some, None, option_map, is_none, unwrap_or}
use Rattle.std.specs.List.{list_any}
use Rattle.std.specs.Str.{bytes_eq}
use Rattle.sha2.specs.Sha256.{sha256}
use Rattle.wire_commands.specs.declared.command.Command.TheVariants.{Append}
use Rattle.wire_commands.specs.declared.reply.Reply.{Reply}
use Rattle.wire_commands.specs.declared.reply.Reply.TheVariants.{Done}
use Rattle.store_history.specs.declared.act.Act.{Act}
use Rattle.store_history.specs.declared.act.Act.TheVariants.{Plain, Chunk}
use Rattle.store_history.specs.declared.act.Event.{Event}
use Rattle.store_history.specs.History.{Opening, moment, reply}
use Rattle.atime_book.specs.Touches.{greatest, last_in}

-- the last touch of each chunk that is there, and which of them were there at opening without an entry in the saved book
pub record LastTouches : Type 0 where
  pub last : List ℕ → Option ℕ
  pub undated : List ℕ → Bool

abbrev pub is_one_of : List ℕ → List (List ℕ) → Bool
is_one_of digest digests = list_any (λ d. bytes_eq d digest) digests

pub record SameTouches (a b : LastTouches) : Type 0 where
  pub last : (d : List ℕ) → a.last d ≡ b.last d
  pub undated : (d : List ℕ) → a.undated d ≡ b.undated d

-- As a store is opened: of the chunks that are there each is as the saved book has it. One that it does not have stands as of its last moment.
abbrev pub touches_at_opening : Opening → LastTouches
touches_at_opening o = record {
  last = λ d. if is_one_of d (map sha256 o.chunks) then Some (unwrap_or (last_in o.touches d) o.moment) else None;
  undated = λ d. is_one_of d (map sha256 o.chunks) && is_none (last_in o.touches d);
}

-- ---- touches

-- a chunk was sent: it is there, and touched at this moment
abbrev pub sent_at : List ℕ → ℕ → LastTouches → LastTouches
sent_at digest when t = record t { last = λ d. if bytes_eq digest d then Some (greatest (t.last d) when) else t.last d }

-- those of these chunks that are there are touched at this moment
abbrev pub touched : (List ℕ → Bool) → ℕ → LastTouches → LastTouches
touched which when t = record t { last = λ d. if which d then option_map (λ last. max last when) (t.last d) else t.last d }

-- the undated chunks are touched at this moment, that of the first entry
abbrev pub dated : ℕ → LastTouches → LastTouches
dated when t = record (touched t.undated when t) { undated = λ d. false }

-- a CHUNK that was done touches its chunk, an APPEND the chunk of each of its entries, and no other act any
abbrev pub touched_by : Act → Option Reply → ℕ → LastTouches → LastTouches
touched_by (Chunk digest checked) (Some Done) when t = sent_at digest.0 when t
touched_by (Plain (Append number entries)) (Some Done) when t = touched (λ d. is_one_of d (map (λ e. (e.digest).0) entries)) when t
touched_by act reply when t = t

-- after an act with this reply, whose entry has this moment
abbrev pub touches_by_entry : Act → Option Reply → ℕ → LastTouches → LastTouches
touches_by_entry act reply when t = dated when (touched_by act reply when t)

-- ---- a history

abbrev pub touches_after : LastTouches → Event → LastTouches
touches_after t e = touches_by_entry e.act (reply e) (moment e) t

unfoldable pub touches_after_all : LastTouches → List Event → LastTouches
touches_after_all t [] = t
touches_after_all t (e ∷ es) = touches_after_all (touches_after t e) es

-- ---- which acts touch chunks

abbrev pub may_touch : Act → Bool
may_touch (Chunk digest checked) = true
may_touch (Plain (Append number entries)) = true
may_touch act = false

-- How a finished snapshot comes into the catalogue and goes out of it, and what each act leaves there.
use Rattle.std.specs.Prelude.{◌≡◌, ℕ, not, List, [], ◌∷◌, filter, if◌then◌else◌, Option, Some, None}
use Rattle.store_types.specs.declared.names.SnapshotKey.{SnapshotKey}
use Rattle.store_types.specs.Names.{key_lt, key_of, same_key}
use Rattle.wire_commands.specs.declared.reply.Reply.{Reply}
use Rattle.wire_commands.specs.declared.reply.Reply.TheVariants.{Done}
use Rattle.store_history.specs.declared.act.Act.{Act}
use Rattle.store_history.specs.declared.act.Answer.{Answer}
use Rattle.store_history.specs.Profile.{OnList, same_list, lists, takes_out, profile}
use Rattle.core_state.specs.Kept.{KeptAt, kept_at}
use Rattle.core_state.specs.declared.state.Core.{Core}
use Rattle.core_state.specs.declared.kept.Listed.{Listed}
use Rattle.core_state.specs.declared.kept.Writing.{Writing}
use Rattle.core_state.specs.declared.kept.Session.{Session}
use Rattle.core_state.specs.declared.kept.Session.TheVariants.{Idle, Writer, Reader}

-- at its place in the order
abbrev pub insert_listed : Listed → List Listed → List Listed
insert_listed new [] = new ∷ []
insert_listed new (x ∷ xs) = if key_lt (new.kept).key (x.kept).key then new ∷ x ∷ xs else x ∷ insert_listed new xs

-- the writer's snapshot, with the number of the order's entry by which it was finished
abbrev pub listed_of : ℕ → Writing → Listed
listed_of number w = record { number = number; kept = record { key = ((w.session).writer).key; files = w.files; unreadable = None } }

-- the catalogue as the session's writer is finished
abbrev pub closed : ℕ → Session → List Listed → List Listed
closed number Idle catalogue = catalogue
closed number (Writer w) catalogue = insert_listed (listed_of number w) catalogue
closed number (Reader r) catalogue = catalogue

-- the catalogue after a FINISH with this reply
abbrev pub closed_by : Option Reply → ℕ → Session → List Listed → List Listed
closed_by (Some Done) number session catalogue = closed number session catalogue
closed_by reply number session catalogue = catalogue

-- without the snapshot
abbrev pub without_listed : SnapshotKey → List Listed → List Listed
without_listed key catalogue = filter (λ x. not (same_key (x.kept).key key)) catalogue

-- without the one that the text names, if it names one
abbrev pub without_named : Option SnapshotKey → List Listed → List Listed
without_named None catalogue = catalogue
without_named (Some key) catalogue = without_listed key catalogue

-- the catalogue after a FORGET with this reply
abbrev pub forgotten_by : List ℕ → Option Reply → List Listed → List Listed
forgotten_by snapshot (Some Done) catalogue = without_named (key_of snapshot) catalogue
forgotten_by snapshot reply catalogue = catalogue

-- and after any act with this reply, by what it does to the list
abbrev pub listed_on : OnList → Option Reply → ℕ → KeptAt → List Listed
listed_on same_list reply number k = k.catalogue
listed_on lists reply number k = closed_by reply number k.session k.catalogue
listed_on (takes_out snapshot) reply number k = forgotten_by snapshot reply k.catalogue

abbrev pub listed_by : Act → Option Reply → ℕ → KeptAt → List Listed
listed_by act reply number k = listed_on (profile act).list reply number k

-- A FINISH that was done has listed the snapshot of the lane's writer, with the number of the order's entry of this act. A FORGET that
-- was done has taken out the one that it names. No other act has changed the catalogue.
abbrev pub Lists : {D E C : Type 0} → Core D E C → Core D E C → ℕ → Act → Answer → Type 0
Lists old new lane act answer =
    (new.parts).catalogue.listed ≡ listed_by act answer.reply answer.place (kept_at old.parts lane)

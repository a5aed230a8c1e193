-- What holds of touches in every legal history.
use Rattle.std.specs.Prelude.{◌≡◌, ◌≤◌, ℕ, true, List, [], ◌∷◌, ◌++◌, map, Option, Some, IfSome, IsSome, Result}
use Rattle.atime_book.specs.Touches.{last_in}
use Rattle.store_files.specs.Archive.{Snapshot}
use Rattle.store_types.specs.declared.append.AppendEntry.{AppendEntry}
use Rattle.store_types.specs.declared.names.Digest32.{Digest32}
use Rattle.store_types.specs.declared.refusal.Refusal.{Refusal}
use Rattle.wire_commands.specs.declared.command.Command.TheVariants.{Append}
use Rattle.wire_commands.specs.declared.reply.Reply.TheVariants.{Done}
use Rattle.store_history.specs.declared.act.Act.TheVariants.{Plain, Chunk}
use Rattle.store_history.specs.declared.act.Event.{Event}
use Rattle.store_history.specs.History.{Opening, opened, after_all, moment, reply}
use Rattle.store_history.specs.Legal.{IsLegal}
use Rattle.store_history.specs.LastTouches.{is_one_of, touches_at_opening, touches_after, touches_after_all}

-- no entry of the saved book is of a moment after its last one
abbrev pub IsEarly : Opening → Type 0
IsEarly o = (d : List ℕ) → IfSome (last_in o.touches d) (λ when. when ≤ o.moment)

-- no chunk's last touch is after the last moment
abbrev pub NoneLater : Type 0
NoneLater = (remote : Option (List Snapshot)) (o : Opening) (events : List Event) (d : List ℕ)
    → IsLegal remote (opened o) events → IsEarly o
    → IfSome ((touches_after_all (touches_at_opening o) events).last d) (λ when. when ≤ (after_all remote (opened o) events).moment)

-- a chunk that was sent was last touched at the act's moment
abbrev pub SentIsTouched : Type 0
SentIsTouched = (remote : Option (List Snapshot)) (o : Opening) (events : List Event) (e : Event) (digest : Digest32) (checked : Result (List ℕ) Refusal)
    → IsLegal remote (opened o) (events ++ e ∷ []) → IsEarly o → e.act ≡ Chunk digest checked → reply e ≡ Some Done
    → (touches_after (touches_after_all (touches_at_opening o) events) e).last digest.0 ≡ Some (moment e)

-- a chunk that is there and that an APPEND named was last touched at the act's moment
abbrev pub NamedIsTouched : Type 0
NamedIsTouched = (remote : Option (List Snapshot)) (o : Opening) (events : List Event) (e : Event) (number : ℕ) (entries : List AppendEntry) (d : List ℕ)
    → IsLegal remote (opened o) (events ++ e ∷ []) → IsEarly o → e.act ≡ Plain (Append number entries) → reply e ≡ Some Done
    → is_one_of d (map (λ x. (x.digest).0) entries) ≡ true → IsSome ((touches_after_all (touches_at_opening o) events).last d)
    → (touches_after (touches_after_all (touches_at_opening o) events) e).last d ≡ Some (moment e)

-- a chunk that the saved book lacks was last touched at the moment of the first entry, once that is made
abbrev pub FirstEntryDates : Type 0
FirstEntryDates = (remote : Option (List Snapshot)) (o : Opening) (e : Event) (d : List ℕ) → IsLegal remote (opened o) (e ∷ [])
    → (touches_at_opening o).undated d ≡ true → (touches_after (touches_at_opening o) e).last d ≡ Some (moment e)

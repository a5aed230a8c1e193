-- What a reader notes of an index behind a DOWNLOAD of it.
use Rattle.disk_trait.specs.declared.disk.Disk.{Ghosts}
use Rattle.std.proofs.Common.{◌≡◌, ℕ, List, Option, None, Some, Result, Ok, Err, IsErrAnd, sym, ap, subst, ◌∙◌}
use Rattle.store_types.specs.declared.refusal.Refusal.{Refusal}
use Rattle.paged_indexes.specs.declared.kinds.IndexKind.{IndexKind}
use Rattle.wire_commands.specs.declared.reply.Reply.{Reply}
use Rattle.store_stops.specs.declared.stop.Stop.{Stop}
use Rattle.core_state.specs.Kept.{kept_at}
use Rattle.core_state.specs.declared.entering.Place.{Place}
use Rattle.core_state.specs.declared.parts.Parts.{Parts}
use Rattle.core_state.specs.Unreadables.{Asked, from_offset}
use Rattle.core_state.specs.Wanted.{session_at}
use Rattle.core_reader.specs.Asked.{file_asked}
use Rattle.core_reader.specs.NotesIndex.{NotesGiven, NotesIndex, NotesSome, part_of}

asked_same : (a b : Asked) → ◌≡◌ {A = Result Asked Refusal} (Ok a) (Ok b) → a ≡ b
asked_same a b e = cc

ways_same : (v w : Option IndexKind) (offset : ℕ) → from_offset v offset ≡ from_offset w offset → v ≡ w
ways_same v w offset e = cc

none_some : (kind : IndexKind) → None ≡ Some kind → ⊥
none_some kind e = cc

some_same : (a b : IndexKind) → Some a ≡ Some b → a ≡ b
some_same a b e = cc

whole_same : (p q : List ℕ) (v w : Option IndexKind) (offset : ℕ) → part_of p v offset ≡ part_of q w offset → v ≡ w
whole_same p q v w offset e = ways_same v w offset (ap (λ (a : Asked). a.way) e)

module _ {D : Type 0} (d : Ghosts D) (old new : Parts D) (at : Place) (file : List ℕ) (offset : ℕ) where
  abbrev asked : Result Asked Refusal
  asked = file_asked file offset (kept_at old at.lane)

  pub notes_none : (stop : Stop) (result : Result Reply Stop) → IsErrAnd result (λ x. x ≡ stop) → NotesIndex d old new at.lane file offset result
  notes_none stop (Ok reply) is = absurd is
  notes_none stop (Err x) is = record { part = tt; index = tt; some = tt }

  -- a part of it was read
  pub notes_part : (path : List ℕ) (reply : Reply) → asked ≡ Ok (part_of path None offset) → session_at new at.lane ≡ session_at old at.lane → NotesIndex d old new at.lane file offset (Ok reply)
  notes_part path reply is same = record {
    part = λ q other. same;
    index = λ q kind other honest. absurd (apart q kind other);
    some = λ q kind other. absurd (apart q kind other);
  }
    where
      apart : (q : List ℕ) (kind : IndexKind) → asked ≡ Ok (part_of q (Some kind) offset) → ⊥
      apart q kind other = none_some kind (whole_same path q None (Some kind) offset (asked_same (part_of path None offset) (part_of q (Some kind) offset) (sym is ∙ other)))

  -- it was read whole
  pub notes_whole : (path : List ℕ) (of_kind : IndexKind) (reply : Reply) → asked ≡ Ok (part_of path (Some of_kind) offset)
      → (d.honest old.disk → NotesGiven (d.content old.disk) path of_kind offset file (session_at old at.lane) (session_at new at.lane)) → NotesSome file (session_at old at.lane) (session_at new at.lane)
      → NotesIndex d old new at.lane file offset (Ok reply)
  notes_whole path of_kind reply is given some = record {
    part = λ q other.
        absurd (none_some of_kind (whole_same q path None (Some of_kind) offset (asked_same (part_of q None offset) (part_of path (Some of_kind) offset) (sym other ∙ is))));
    index = λ q kind other honest.
        let same = asked_same (part_of path (Some of_kind) offset) (part_of q (Some kind) offset) (sym is ∙ other) in
        subst (λ k. NotesGiven (d.content old.disk) q k offset file (session_at old at.lane) (session_at new at.lane)) (some_same of_kind kind (whole_same path q (Some of_kind) (Some kind) offset same))
        (subst (λ p. NotesGiven (d.content old.disk) p of_kind offset file (session_at old at.lane) (session_at new at.lane)) (ap (λ (a : Asked). a.path) same) (given honest));
    some = λ q kind other. some;
  }

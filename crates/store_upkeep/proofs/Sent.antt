-- A chunk that was sent keeps its touch, and its writer keeps the chunk.
use Rattle.std.proofs.Common.{◌≡◌, ◌≤◌, ◌⊎◌, inl, inr, ℕ, zero, suc, false, List, [], ◌∷◌, ◌++◌, get_or, set, Option, Some, None, IsSome, Result, Ok, Err, refl, sym, subst, ◌∙◌, arith, ltb-false}
use Rattle.std.specs.Prelude.{IfSome, IsSomeAnd}
use Rattle.sha2.specs.Sha256.{sha256}
use Rattle.store_types.specs.declared.names.Digest32.{Digest32}
use Rattle.store_types.specs.declared.refusal.Refusal.{Refusal}
use Rattle.store_types.specs.declared.refusal.Refusal.TheVariants.{NoMemory}
use Rattle.store_files.specs.Archive.{Snapshot}
use Rattle.wire_commands.specs.declared.reply.Reply.{Reply}
use Rattle.wire_commands.specs.declared.reply.Reply.TheVariants.{Done}
use Rattle.store_model.specs.Store.{Session, none, Writer, writer, reader, Store, Outcome, session}
use Rattle.store_model.specs.Weave.{fault_refusal}
use Rattle.store_model.specs.WriterCalls as calls
use Rattle.store_model.specs.ArchiveSteps.{checked_chunk}
use Rattle.store_model.specs.Steps.{answered}
use Rattle.store_model.proofs.Done.{chunk_done}
use Rattle.atime_book.specs.Touches.{is_stale}
use Rattle.store_history.specs.declared.act.Act.{Act}
use Rattle.store_history.specs.declared.act.Act.TheVariants.{Chunk}
use Rattle.store_history.specs.declared.act.Event.{Event}
use Rattle.store_history.specs.Acts.{IsCheckedChunk, IsWellFormed, class_of, stepping}
use Rattle.store_history.specs.History.{World, EntryKind, step_kind, short_kind, fault_kind, kind_of, data_in, act_outcome, moved, opened, after, after_all, lane, moment, kind, reply}
use Rattle.store_history.specs.Legal.{Right, IsRight, IsLegal}
use Rattle.store_history.specs.Sweeping.{Swept, swept_at, passing, swept_after, swept_all, swept}
use Rattle.store_upkeep.specs.Safety.{In, MayAppend, IsFresh}
use Rattle.store_upkeep.specs.Laws.{sent_in, IsWriting, RunsOn, SentStays, SentIsThere}
use Rattle.store_upkeep.proofs.Members.{in_map_right}
use Rattle.store_upkeep.proofs.Freshness.{Sends, Touches, is_fresh_now, stays_fresh}
use Rattle.store_upkeep.proofs.Moving.{GoesOn, Begins}
use Rattle.store_upkeep.proofs.Acting.{digest_is, event_moves, refused_done}
use Rattle.store_upkeep.proofs.Stocking.{needed_there}

-- ---- the last touch

only_one : (d x : List ℕ) → In d (x ∷ []) → d ≡ x
only_one d x (inl same) = same
only_one d x (inr h) = absurd h

sent_touched : (a : Act) (r : Option Reply) (d : List ℕ) → In d (sent_in a r) → Touches a r d
sent_touched (Chunk digest checked) (Some Done) d sent = only_one d digest.0 sent
sent_touched a r d h = absurd h

-- what was touched at a moment, is not before it later
since_fresh : (R : Option (List Snapshot)) (w : World) (s : Swept) (es : List Event) (c : ℕ) (d : List ℕ) → IsLegal R w es → c ≤ w.moment → IsFresh s.touches c d
    → IsFresh (swept_all R w s es).touches c d
unfolding after swept_after swept_all
since_fresh R w s [] c d legal le fresh = fresh
since_fresh R w s (e ∷ es) c d legal le fresh =
    let risen = (legal.0).risen in
    let later : c ≤ moment e = omega (arith, le, risen) in
    since_fresh R (after R w e) (swept_after R w s e) es c d legal.1 later (stays_fresh s e (passing s e) c d later fresh)

sent_fresh : (R : Option (List Snapshot)) (w : World) (s : Swept) (es : List Event) (e : Event) (since : List Event) (d : List ℕ) → IsLegal R w (es ++ e ∷ since)
    → Touches e.act (reply e) d → IsFresh (swept_all R w s (es ++ e ∷ since)).touches (moment e) d
unfolding after swept_after swept_all
sent_fresh R w s [] e since d legal touches =
    since_fresh R (after R w e) (swept_after R w s e) since (moment e) d legal.1 (omega arith) (is_fresh_now s e (passing s e) (moment e) d (omega arith) touches)
sent_fresh R w s (v ∷ vs) e since d legal touches = sent_fresh R (after R w v) (swept_after R w s v) vs e since d legal.1 touches

fresh_since : (last : Option ℕ) (c : ℕ) → is_stale last c ≡ false → IfSome last (λ when. c ≤ when)
fresh_since None c fresh = tt
fresh_since (Some when) c fresh = ltb-false when c fresh

there_since : (last : Option ℕ) (c : ℕ) → IfSome last (λ when. c ≤ when) → IsSome last → IsSomeAnd last (λ when. c ≤ when)
there_since None c since there = cc
there_since (Some when) c since there = since

pub sent_stays : SentStays
sent_stays R o es e since d legal sent =
    fresh_since ((swept R o (es ++ e ∷ since)).touches.last d) (moment e)
    (sent_fresh R (opened o) (swept_at o) es e since d legal (sent_touched e.act (reply e) d sent))

-- ---- the writer that sent it

-- the lane's writer may append it
abbrev Holds : World → ℕ → List ℕ → Type 0
Holds w k d = (x : Writer) × (session w.store k ≡ writer x) × MayAppend x d

set_here : (xs : List Session) (k : ℕ) (v : Writer) (y : Session) → get_or xs k none ≡ writer v → get_or (set xs k y) k none ≡ y
set_here [] k v y is = cc
set_here (x ∷ xs) zero v y is = refl
set_here (x ∷ xs) (suc k) v y is = set_here xs k v y is

module _ (R : Option (List Snapshot)) (w : World) (k m : ℕ) (d : List ℕ) where
  -- by a CHUNK that was done
  module _ (digest : Digest32) (checked : Result (List ℕ) Refusal) (formed : IsCheckedChunk digest checked) (same : d ≡ digest.0) where
    abbrev HoldsIn : Store → Type 0
    HoldsIn t = (x : Writer) × (session t k ≡ writer x) × MayAppend x d

    by_outcome : (o : Outcome) → checked_chunk w.store k (data_in checked) ≡ o → Some Done ≡ Some (answered w.store o).1 → HoldsIn (answered w.store o).0
    by_outcome (Ok after) e done = let t = chunk_done w.store k (data_in checked) after e in subst (λ (x : Store × Reply). HoldsIn x.0) (sym t.4) (
      calls.chunk t.0 t.1,
      set_here (w.store).sessions k t.0 (writer (calls.chunk t.0 t.1)) t.2,
      in_map_right sha256 (t.0).pool (t.1 ∷ []) d (inl (same ∙ sym (digest_is digest checked t.1 formed t.3))),
    )
    by_outcome (Err refusal) e done = absurd (refused_done refusal (Some Done) done refl)

    by_kind : (n : EntryKind) → Right R w k m (Chunk digest checked) (Some Done) stepping n → Holds (moved R w k m (Chunk digest checked) n) k d
    unfolding moved act_outcome
    by_kind step_kind right = by_outcome (checked_chunk w.store k (data_in checked)) refl right.1
    by_kind short_kind right = absurd (refused_done NoMemory (Some Done) right.0 refl)
    by_kind fault_kind right = absurd (refused_done (fault_refusal w.fault) (Some Done) right refl)
    by_kind n right = absurd right

  by_act : (a : Act) (r : Option Reply) (n : EntryKind) → IsWellFormed a → Right R w k m a r (class_of a) n → Touches a r d → In d (sent_in a r) → Holds (moved R w k m a n) k d
  by_act (Chunk digest checked) (Some Done) n formed right same sent = by_kind digest checked formed same n right
  by_act a r n formed right touches sent = absurd sent

sent_held : (R : Option (List Snapshot)) (w : World) (e : Event) (d : List ℕ) → IsRight R w e → In d (sent_in e.act (reply e)) → Holds (after R w e) (lane e) d
unfolding after
sent_held R w e d right sent =
    by_act R w (lane e) (moment e) d e.act (reply e) (kind_of (kind e)) right.formed right.says (sent_touched e.act (reply e) d sent) sent

same_writer : (v x : Writer) → writer v ≡ writer x → v ≡ x
same_writer v x e = cc

writer_none : (v : Writer) → writer v ≡ none → ⊥
writer_none v e = cc

-- it runs on, and has it still
held_after : (R : Option (List Snapshot)) (w : World) (e : Event) (k : ℕ) (d : List ℕ) → IsRight R w e → Holds w k d → IsWriting (session (after R w e).store k) → Holds (after R w e) k d
held_after R w e k d right held runs = by_session (session (after R w e).store k) refl runs
  where
    by_session : (y : Session) → session (after R w e).store k ≡ y → IsWriting y → Holds (after R w e) k d
    by_session none is runs = absurd runs
    by_session (reader r) is runs = absurd runs
    by_session (writer x) is runs = (x, is, by_writer ((event_moves R w e right).writers k x is))
      where
        by_writer : ((v : Writer) × (session w.store k ≡ writer v) × GoesOn w.store (Sends e.act (reply e)) (Touches e.act (reply e)) v x)
            ⊎ ((session w.store k ≡ none) × Begins (after R w e).store (moment e) x) → MayAppend x d
        by_writer (inl v) = (v.2).keeps d (subst (λ (u : Writer). MayAppend u d) (same_writer held.0 v.0 (sym held.1 ∙ v.1)) held.2)
        by_writer (inr new) = absurd (writer_none held.0 (sym held.1 ∙ new.0))

runs_now : (R : Option (List Snapshot)) (w : World) (k : ℕ) (es : List Event) → RunsOn R w k es → IsWriting (session w.store k)
runs_now R w k [] runs = runs
runs_now R w k (e ∷ es) runs = runs.0

held_all : (R : Option (List Snapshot)) (w : World) (es : List Event) (k : ℕ) (d : List ℕ) → IsLegal R w es → Holds w k d → RunsOn R w k es → Holds (after_all R w es) k d
unfolding after_all
held_all R w [] k d legal held runs = held
held_all R w (e ∷ es) k d legal held runs =
    held_all R (after R w e) es k d legal.1 (held_after R w e k d legal.0 held (runs_now R (after R w e) k es runs.1)) runs.1

held_since : (R : Option (List Snapshot)) (w : World) (es : List Event) (e : Event) (since : List Event) (d : List ℕ) → IsLegal R w (es ++ e ∷ since)
    → In d (sent_in e.act (reply e)) → RunsOn R (after R (after_all R w es) e) (lane e) since → Holds (after_all R w (es ++ e ∷ since)) (lane e) d
unfolding after_all
held_since R w [] e since d legal sent runs = held_all R (after R w e) since (lane e) d legal.1 (sent_held R w e d legal.0 sent) runs
held_since R w (v ∷ vs) e since d legal sent runs = held_since R (after R w v) vs e since d legal.1 sent runs

pub sent_there : SentIsThere
sent_there R o es e since d legal opens sent runs =
    let held = held_since R (opened o) es e since d legal sent runs in (
      there_since ((swept R o (es ++ e ∷ since)).touches.last d) (moment e) (sent_stays R o es e since d legal sent)
          (needed_there R o (es ++ e ∷ since) legal opens d (inr (lane e, held.0, held.1, held.2))),
      held.0,
      held.1,
      held.2,
    )

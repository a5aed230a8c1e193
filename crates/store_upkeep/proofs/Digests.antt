-- Each chunk that is there has a digest: of a piece that was there at opening, or of one that was sent.
use Rattle.std.proofs.Common.{◌≡◌, ◌⊎◌, inl, inr, ℕ, List, [], ◌∷◌, map, get_or, Option, Some, Result, Ok, Err, refl, sym, subst}
use Rattle.std.specs.List.{All}
use Rattle.sha2.specs.Sha256.{sha256}
use Rattle.store_types.specs.declared.names.Digest32.{Digest32}
use Rattle.store_types.specs.declared.refusal.Refusal.{Refusal}
use Rattle.store_types.specs.declared.refusal.Refusal.TheVariants.{NoMemory}
use Rattle.store_files.specs.Archive.{Snapshot}
use Rattle.store_files.specs.Folder.{IsDigest}
use Rattle.wire_commands.specs.declared.reply.Reply.{Reply}
use Rattle.wire_commands.specs.declared.reply.Reply.TheVariants.{Done, Refused}
use Rattle.store_model.specs.Store.{Store, Outcome}
use Rattle.store_model.specs.ArchiveSteps.{checked_chunk}
use Rattle.store_model.specs.Steps.{answered}
use Rattle.store_model.specs.Weave.{fault_refusal}
use Rattle.store_model.proofs.Done.{chunk_done}
use Rattle.store_history.specs.declared.act.Act.{Act}
use Rattle.store_history.specs.declared.act.Act.TheVariants as acts
use Rattle.store_history.specs.declared.act.Event.{Event}
use Rattle.store_history.specs.Acts.{IsCheckedChunk, IsWellFormed, stepping, class_of}
use Rattle.store_history.specs.History.{World, Opening, opened, after, act_outcome, data_in, EntryKind, step_kind, short_kind, fault_kind, kind_of, lane, moment, kind, reply}
use Rattle.store_history.specs.Legal.{Right, IsRight, IsLegal}
use Rattle.store_history.specs.Sweeping.{Swept, in_order, swept_at, is_there, chunks, known_after, swept_after, swept_all, swept}
use Rattle.store_history.proofs.Digests.{is_digest}
use Rattle.store_upkeep.specs.Safety.{In}
use Rattle.store_upkeep.specs.Laws.{sent_in}
use Rattle.store_upkeep.proofs.Members.{some_same, map_in, filter_in}
use Rattle.store_upkeep.proofs.Acting.{digest_is}
use Rattle.store_upkeep.proofs.Listing.{insert_in, in_at}

abbrev AreDigests : List (List ℕ) → Type 0
AreDigests ds = (d : List ℕ) → In d ds → IsDigest d

-- ---- a chunk that is sent

refused_apart : (refusal : Refusal) → Done ≡ Refused refusal → ⊥
refused_apart refusal e = cc

-- done, its check gave a piece
piece_of : (s : Store) (k : ℕ) (checked : Result (List ℕ) Refusal) → Done ≡ (answered s (checked_chunk s k checked)).1 → (piece : List ℕ) × (checked ≡ Ok piece)
piece_of s k checked = by_outcome (checked_chunk s k checked) refl
  where
    by_outcome : (o : Outcome) → checked_chunk s k checked ≡ o → Done ≡ (answered s o).1 → (piece : List ℕ) × (checked ≡ Ok piece)
    by_outcome (Ok after) e told = let d = chunk_done s k checked after e in (d.1, d.3)
    by_outcome (Err refusal) e told = absurd (refused_apart refusal told)

chunk_digest : (R : Option (List Snapshot)) (w : World) (k m : ℕ) (digest : Digest32) (checked : Result (List ℕ) Refusal) → IsCheckedChunk digest checked
    → (n : EntryKind) → Right R w k m (acts.Chunk digest checked) (Some Done) stepping n → IsDigest digest.0
unfolding act_outcome
chunk_digest R w k m digest checked formed step_kind right =
    let piece = piece_of w.store k (data_in checked) (some_same Done (answered w.store (act_outcome R w k m (acts.Chunk digest checked))).1 right.1) in
    subst IsDigest (digest_is digest checked piece.0 formed piece.1) (is_digest piece.0)
chunk_digest R w k m digest checked formed short_kind right = absurd (refused_apart NoMemory (some_same Done _ right.0))
chunk_digest R w k m digest checked formed fault_kind right = absurd (refused_apart (fault_refusal w.fault) (some_same Done _ right))
chunk_digest R w k m digest checked formed _ right = absurd right

sent_digests : (R : Option (List Snapshot)) (w : World) (k m : ℕ) (a : Act) (r : Option Reply) → IsWellFormed a → (n : EntryKind) → Right R w k m a r (class_of a) n
    → AreDigests (sent_in a r)
sent_digests R w k m (acts.Chunk digest checked) (Some Done) formed n right d (inl e) = subst IsDigest (sym e) (chunk_digest R w k m digest checked formed n right)
sent_digests R w k m (acts.Chunk digest checked) (Some Done) formed n right d (inr h) = absurd h
sent_digests R w k m a r formed n right d h = absurd h

-- ---- in the course of a history

known_from : (a : Act) (r : Option Reply) (known : List (List ℕ)) (d : List ℕ) → In d (known_after a r known) → In d known ⊎ In d (sent_in a r)
known_from (acts.Chunk digest checked) (Some Done) known d h = by_place (insert_in digest.0 known d h)
  where
    by_place : (d ≡ digest.0) ⊎ In d known → In d known ⊎ In d (digest.0 ∷ [])
    by_place (inl e) = inr (inl e)
    by_place (inr old) = inl old
known_from a r known d h = inl h

digests_next : (R : Option (List Snapshot)) (w : World) (s : Swept) (e : Event) → IsRight R w e → AreDigests s.known → AreDigests (swept_after R w s e).known
unfolding swept_after
digests_next R w s e right h d at = by_part (known_from e.act (reply e) s.known d at)
  where
    by_part : In d s.known ⊎ In d (sent_in e.act (reply e)) → IsDigest d
    by_part (inl old) = h d old
    by_part (inr sent) = sent_digests R w (lane e) (moment e) e.act (reply e) right.formed (kind_of (kind e)) right.says d sent

digests_all : (R : Option (List Snapshot)) (w : World) (s : Swept) (es : List Event) → IsLegal R w es → AreDigests s.known → AreDigests (swept_all R w s es).known
unfolding swept_all
digests_all R w s [] legal h = h
digests_all R w s (e ∷ es) legal h = digests_all R (after R w e) (swept_after R w s e) es legal.1 (digests_next R w s e legal.0 h)

from_in_order : (ds : List (List ℕ)) (x : List ℕ) → In x (in_order ds) → In x ds
from_in_order [] x h = h
from_in_order (d ∷ ds) x h = by_place (insert_in d (in_order ds) x h) (from_in_order ds x)
  where
    by_place : (x ≡ d) ⊎ In x (in_order ds) → (In x (in_order ds) → In x ds) → (x ≡ d) ⊎ In x ds
    by_place (inl e) go = inl e
    by_place (inr later) go = inr (go later)

opened_digests : (o : Opening) → AreDigests (swept_at o).known
opened_digests o d h = let at = map_in sha256 o.chunks d (from_in_order (map sha256 o.chunks) d h) in subst IsDigest (sym at.2) (is_digest at.0)

-- ---- the chunks that are there

pub chunks_digests : (R : Option (List Snapshot)) (o : Opening) (es : List Event) → IsLegal R (opened o) es → All IsDigest (chunks (swept R o es))
chunks_digests R o es legal =
    let s = swept R o es in
    λ i d lt. digests_all R (opened o) (swept_at o) es legal (opened_digests o) (get_or (chunks s) i d)
    (filter_in (is_there s.touches) s.known (get_or (chunks s) i d) (in_at (chunks s) i d lt)).0

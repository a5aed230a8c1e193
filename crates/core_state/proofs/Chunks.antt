-- Chunk files and the pieces of a history.
use Rattle.disk_trait.specs.declared.disk.Disk.{Ghosts}
use Rattle.std.proofs.Common.{◌≡◌, inl, ⊎_elim, ℕ, zero, suc, ◌<◌, ◌≤◌, true, if◌then◌else◌, List, [], ◌∷◌, ◌++◌, length, drop, get_or, append_assoc, Some, None, Result, Ok, Err, refl, sym, ap, subst, ◌∙◌, arith}
use Rattle.std.specs.Int.{w32, to_be_bytes}
use Rattle.std.specs.List.{All}
use Rattle.std.specs.Str.{bytes_eq}
use Rattle.std.specs.FinMap.{get, entries}
use Rattle.std.proofs.lemmas.Bool.{and_from, le-leb}
use Rattle.std.proofs.lemmas.List.Elements.{All-append, Contains-append_left, Contains-append_right, Contains-push}
use Rattle.std.proofs.lemmas.Slice.Eq.{bytes_eq-Decides}
use Rattle.sha2.specs.Sha256.{sha256, digest_bytes}
use Rattle.sha2.proofs.Facts256.{length-sha256}
use Rattle.store_types.specs.declared.names.Digest32.{Digest32}
use Rattle.store_types.specs.declared.refusal.Refusal.{Refusal}
use Rattle.blob_codec.specs.Blob.{blob, data_limit}
use Rattle.disk_trait.specs.Files.{Files}
use Rattle.disk_trait.specs.declared.disk.DiskError.{DiskError}
use Rattle.disk_trait.specs.declared.disk.DiskError.TheVariants.{NoMemory, Failed}
use Rattle.wire_commands.specs.declared.reply.Reply.{Reply}
use Rattle.store_files.specs.Folder.{chunk_name, IsDigest, HasWholeChunks}
use Rattle.store_model.specs.Clash.{NoClash, is_chunk, chunk_piece, chunk_pieces}
use Rattle.snapshot_files.proofs.Mapped.{contains_given, entry_there}
use Rattle.store_history.specs.declared.act.Act.{Act}
use Rattle.store_history.specs.declared.act.Act.TheVariants as acts
use Rattle.store_history.specs.declared.act.Event.{Event}
use Rattle.store_history.specs.Acts.{IsWellFormed}
use Rattle.store_history.specs.History.{data_in, sent_by, sent}
use Rattle.store_history.proofs.Checking.{checked_digest}
use Rattle.store_history.proofs.Longer.{sent_more}
use Rattle.core_state.specs.declared.parts.Parts.{Parts}
use Rattle.core_state.specs.Chunks.{MayStand, IsSafe, AddsChunks, Adds}
use Rattle.store_history.specs.ChunkFiles.{HasChunk, HoldsOnly}
use Rattle.core_state.specs.History.{History, then_event, pieces_of, IsClear}

-- ---- digests

-- each byte of a word is one
word_at : (n i d : ℕ) → i < 4 → get_or (to_be_bytes w32 n) i d < 256
word_at n zero d lt = omega arith
word_at n (suc zero) d lt = omega arith
word_at n (suc (suc zero)) d lt = omega arith
word_at n (suc (suc (suc zero))) d lt = omega arith
word_at n (suc (suc (suc (suc i)))) d lt = absurd (omega (arith, lt))

digest_bytes_small : (h : List ℕ) (n : ℕ) → All (λ b. b < 256) (digest_bytes h n)
unfolding digest_bytes
digest_bytes_small h zero = λ i d lt. absurd (omega (arith, lt))
digest_bytes_small h (suc n) =
    All-append (λ b. b < 256) (digest_bytes h n) _ (digest_bytes_small h n) (λ i d lt. word_at _ i d lt)

pub is_digest : (p : List ℕ) → IsDigest (sha256 p)
unfolding sha256
is_digest p = (length-sha256 p, digest_bytes_small _ 8)

-- ---- the pieces at opening

-- what stands behind a blob's first bytes
behind : (p : List ℕ) → drop 12 (blob p) ≡ p
unfolding blob
behind p = refl

eq_refl : (a : List ℕ) → bytes_eq a a ≡ true
eq_refl a = (bytes_eq-Decides a a).1 refl

chunk_is : (p : List ℕ) → length p ≤ data_limit → chunk_piece (chunk_name (sha256 p), blob p) ≡ Some p
chunk_is p fits =
    ap (λ q. if is_chunk q (chunk_name (sha256 p), blob p) then Some q else None) (behind p)
    ∙ ap (λ b. if b then Some p else None) passes
  where
    passes : is_chunk p (chunk_name (sha256 p), blob p) ≡ true
    passes = and_from _ _ (and_from _ _ (le-leb (length p) data_limit fits) (eq_refl (blob p))) (eq_refl (chunk_name (sha256 p)))

pub opened_only : (m : Files) → HasWholeChunks m → HoldsOnly m (chunk_pieces m)
opened_only m whole p there =
    let (q, piece, is, digest) = whole (sha256 p) (blob p) (is_digest p) there in
    let same : p ≡ q = sym (behind p) ∙ ap (drop 12) is ∙ behind q in
    contains_given chunk_piece (entries m) (chunk_name (sha256 p), blob p) p (chunk_is p (subst (λ x. length x ≤ data_limit) (sym same) piece.1))
    (entry_there m (chunk_name (sha256 p)) (blob p) there)

-- ---- one event more

pub pieces_more : (h : History) (e : Event) → pieces_of (then_event h e) ≡ pieces_of h ++ sent_by e.act
pieces_more h e = ap (λ ps. (h.opening).chunks ++ ps) (sent_more h.events e) ∙ sym (append_assoc (h.opening).chunks (sent h.events) (sent_by e.act))

clear_front : (ps qs : List (List ℕ)) → NoClash (ps ++ qs) → NoClash ps
clear_front ps qs clear = λ p q a b e. clear p q (Contains-append_left ps qs p a) (Contains-append_left ps qs q b) e

-- it was so before
pub clear_before : (h : History) (e : Event) → IsClear (then_event h e) → IsClear h
clear_before h e clear = clear_front (pieces_of h) (sent_by e.act) (subst NoClash (pieces_more h e) clear)

pub only_same : (m : Files) (ps qs : List (List ℕ)) → HoldsOnly m ps → HoldsOnly m (ps ++ qs)
only_same m ps qs only = λ p there. Contains-append_left ps qs p (only p there)

pub only_added : (m n : Files) (ps : List (List ℕ)) (act : Act) → HoldsOnly m ps → AddsChunks m n act → HoldsOnly n (ps ++ sent_by act)
only_added m n ps act only adds = λ p there.
    ⊎_elim (λ before. Contains-append_left ps (sent_by act) p (only p before)) (λ now. Contains-append_right ps (sent_by act) p now) (adds p there)

-- ---- a chunk may be put

abbrev sent_of : Result (List ℕ) Refusal → List (List ℕ)
sent_of r = elim r [ Ok piece ↦ piece ∷ [] | Err refusal ↦ [] ]

may_stand : (m : Files) (ps : List (List ℕ)) (digest : Digest32) (r : Result (List ℕ) Refusal) → HasWholeChunks m → HoldsOnly m ps
    → ((p : List ℕ) → r ≡ Ok p → sha256 p ≡ digest.0) → NoClash (ps ++ sent_of r) → MayStand m digest r
may_stand m ps digest (Err refusal) whole only named clear = tt
may_stand m ps digest (Ok p) whole only named clear = λ found at.
    let name : sha256 p ≡ digest.0 = named p refl in
    let (q, piece, is, of) = whole (sha256 p) found (is_digest p) (ap (λ d. get m (chunk_name d)) name ∙ at) in
    let there : HasChunk m q = ap (λ d. get m (chunk_name d)) (of ∙ name) ∙ at ∙ ap (λ b. Some b) is in
    let same : q ≡ p = clear q p (Contains-append_left ps (p ∷ []) q (only q there)) (Contains-push ps p) of in
    is ∙ ap blob same

pub safe : (m : Files) (ps : List (List ℕ)) (act : Act) → HasWholeChunks m → HoldsOnly m ps → IsWellFormed act → NoClash (ps ++ sent_by act) → IsSafe m act
safe m ps (acts.Plain c) whole only formed clear = tt
safe m ps (acts.JobGroup command) whole only formed clear = tt
safe m ps (acts.Blob name checked) whole only formed clear = tt
safe m ps (acts.ReadFile name offset) whole only formed clear = tt
safe m ps (acts.ReadChunk name entry) whole only formed clear = tt
safe m ps (acts.RemoteList command) whole only formed clear = tt
safe m ps (acts.RemoteFile snapshot name offset) whole only formed clear = tt
safe m ps (acts.RemoteChunk digest) whole only formed clear = tt
safe m ps acts.Start whole only formed clear = tt
safe m ps acts.Step whole only formed clear = tt
safe m ps acts.Short whole only formed clear = tt
safe m ps acts.End whole only formed clear = tt
safe m ps (acts.Chunk digest (Err refusal)) whole only formed clear = tt
safe m ps (acts.Chunk digest (Ok bytes)) whole only formed clear =
    may_stand m ps digest (data_in (Ok bytes)) whole only (λ p is. checked_digest digest bytes p formed is) clear

-- where the longer history has no two pieces of one digest
pub clear_safe : (m : Files) (h : History) (e : Event) → IsWellFormed e.act → IsClear (then_event h e) → HasWholeChunks m → HoldsOnly m (pieces_of h) → IsSafe m e.act
clear_safe m h e formed clear whole only = safe m (pieces_of h) e.act whole only formed (subst NoClash (pieces_more h e) clear)

-- ---- an act that puts no chunk

-- an honest disk reads as before
pub adds_same : {D : Type 0} (d : Ghosts D) (old new : Parts D) (act : Act) (result : Result Reply DiskError)
    → (d.honest old.disk → d.content new.disk ≡ d.content old.disk) → Adds d old new act result
adds_same d old new act (Ok reply) same = λ s h p there. inl (subst (λ m. HasChunk m p) (same h.honest) there)
adds_same d old new act (Err NoMemory) same = λ s h p there. inl (subst (λ m. HasChunk m p) (same h.honest) there)
adds_same d old new act (Err Failed) same = λ s h. tt

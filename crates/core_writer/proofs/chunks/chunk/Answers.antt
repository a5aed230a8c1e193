use Rattle.std.proofs.Common.{◌≡◌, ◌<◌, ◌∙◌, ap, refl, sym, subst, ℕ, List, length, get_or, set, Ok, Err, Fits, w8, rules, arith}
use Rattle.std.proofs.lemmas.List.{get_or-set_same, get_or-set_other}
use Rattle.wire_commands.specs.declared.reply.Reply.TheVariants.{Done}
use Rattle.store_history.specs.declared.act.Act.TheVariants.{Chunk}
use Rattle.store_history.specs.Acts.{IsCheckedChunk}
use Rattle.store_history.specs.History.{data_in}
use Rattle.store_types.specs.declared.names.Digest32.{Digest32}
use Rattle.store_files.specs.Folder.{chunk_name}
use Rattle.chunk_store.specs.Pieces.{IsChunk}
use Rattle.core_state.specs.Kept.{kept_at}
use Rattle.core_state.specs.Changes.{IsFirm, LeavesChange, after, stores}
use Rattle.core_state.specs.declared.kept.Session.TheVariants.{Idle}
use Rattle.core_state.specs.Closing.{is_writer}
use Rattle.core_state.specs.Named.{is_named}
use Rattle.core_state.proofs.Commanding.{failed_does, failed_leaves, is_writing, refused_does, refused_leaves, same_kept, unwritten_does, unwritten_leaves, writer_shown, writes_does, writes_leaves}
use Rattle.core_state.proofs.NamedLemmas.{list_all-set, list_all-at}
use Rattle.core_state.proofs.Texts.{done_has_text}
use Rattle.core_writer.specs.NotedChunks.{with_blob_noted}
use Rattle.core_writer.proofs.ChunkLemmas.{not_writing, unchecked}
use Rattle.core_writer.proofs.ChunkStep.{adds_taken, chunk_change, chunk_passes, is_sent, knows, may_note, named_taken, puts_blob, sent_bytes, takes}
use Rattle.core_writer.proofs.KeepLemmas.{found_stays, found_writer}
use Rattle.core_writer.proofs.SteppedLemmas.{false_true}
use Rattle.core_writer.proofs.chunks.chunk.Goals as goal

-- ---- the lane has no writer

pub returns-in_err-w-clause-does : goal.returns-in_err-w-clause-does
returns-in_err-w-clause-does g c =
    unwritten_does g.D.Disk c.args.parts.now c.args.at (Chunk c.args.digest.now c.args.checked) _ _ c.from_residual.ensures.1 c.requires.lane
    c.in_err-w.ensures.value c.in_err-w.ensures.text (λ state. refl) (λ s none. not_writing s c.args.at.lane (data_in c.args.checked) _ none)

pub returns-in_err-w-clause-leaves : goal.returns-in_err-w-clause-leaves
returns-in_err-w-clause-leaves g c =
    unwritten_leaves g.D.Disk c.args.parts.now c.args.at (Chunk c.args.digest.now c.args.checked) _ _ c.from_residual.ensures.1 c.in_err-w.ensures.value (λ closing. absurd (false_true closing))

-- ---- the check refused it

pub returns-in-Err-clause-does : goal.returns-in-Err-clause-does
returns-in-Err-clause-does g c =
    refused_does g.D.Disk c.args.parts.now _ c.args.at (Chunk c.args.digest.now c.args.checked) c.refused.result _ refl refl (same_kept c.args.parts.now) c.refused.ensures.text c.refused.ensures.kind
    (λ s shows.
    let (v, at, is) = writer_shown c.args.parts.now s c.args.at.lane _ shows c.requires.lane c.in_ok-w.ensures.value in
    unchecked s c.args.at.lane (data_in c.args.checked) v c.refused.result at (ap data_in c.in-Err.is ∙ ap (λ r. Err r) (sym c.refused.ensures.value)))

pub returns-in-Err-clause-leaves : goal.returns-in-Err-clause-leaves
returns-in-Err-clause-leaves g c =
    refused_leaves g.D.Disk c.args.parts.now _ c.args.at (Chunk c.args.digest.now c.args.checked) c.refused.result _ refl refl (same_kept c.args.parts.now) (λ closing. false_true closing)

-- ---- the session knows it

abbrev seen_chunk : (digest : Digest32) (bytes text : List ℕ) → bytes ≡ text → ((i : ℕ) → Fits w8 (get_or bytes i 0)) → IsCheckedChunk digest (Ok text) → IsChunk digest.0 bytes
seen_chunk digest bytes text same fits h = is_sent digest bytes fits (subst (λ b. IsCheckedChunk digest (Ok b)) (sym same) h)

pub insert_blob-requires : goal.insert_blob-requires
insert_blob-requires g c =
    seen_chunk c.args.digest.now c.as_slice-blob.result.now c.in-Ok.bytes c.as_slice-blob.ensures (search rules) (subst (IsCheckedChunk c.args.digest.now) c.in-Ok.is c.requires.checked)

pub invariant_of-parts-clause-named : goal.invariant_of-parts-clause-named
invariant_of-parts-clause-named g c = (c.args.parts.now).named

pub returns-in_err-insert_blob-clause-does : goal.returns-in_err-insert_blob-clause-does
returns-in_err-insert_blob-clause-does g c = let d = g.D.Disk in
    let old = c.args.parts.now in
    let puts = puts_blob d old.disk c.insert_blob.new.disk c.args.digest.now.0 c.as_slice-blob.result.now c.insert_blob.result c.insert_blob.ensures.serves c.insert_blob.ensures.crash c.insert_blob.ensures.stored c.insert_blob.ensures.unchanged in
    failed_does d old _ c.args.at (Chunk c.args.digest.now c.args.checked) c.insert_blob.result _ _ c.from_residual-in_err-insert_blob.ensures.1 c.in_err-insert_blob.was puts.serves puts.same
    (record { catalogue = refl; sessions = refl; locks = refl; indexes = refl })

pub returns-in_err-insert_blob-clause-leaves : goal.returns-in_err-insert_blob-clause-leaves
returns-in_err-insert_blob-clause-leaves g c = let d = g.D.Disk in
    let old = c.args.parts.now in
    let puts = puts_blob d old.disk c.insert_blob.new.disk c.args.digest.now.0 c.as_slice-blob.result.now c.insert_blob.result c.insert_blob.ensures.serves c.insert_blob.ensures.crash c.insert_blob.ensures.stored c.insert_blob.ensures.unchanged in
    let bytes : c.as_slice-blob.result.now ≡ c.in-Ok.bytes = c.as_slice-blob.ensures in
    let change = chunk_change (kept_at old c.args.at.lane) _ c.args.digest.now c.args.checked c.in-Ok.bytes (is_writing _ _ c.in_ok-w.ensures.value) c.in-Ok.is ∙ ap (stores (chunk_name c.args.digest.now.0)) (sym bytes) in
    failed_leaves d old _ c.args.at (Chunk c.args.digest.now c.args.checked) c.insert_blob.result _ _ c.from_residual-in_err-insert_blob.ensures.1 c.in_err-insert_blob.was puts.same puts.unmoved
    (subst (LeavesChange d old.disk c.insert_blob.new.disk) (sym change) puts.crash)
    (record { catalogue = refl; sessions = refl; locks = refl; indexes = refl }) refl (λ short closing. false_true closing)
    (λ s h. chunk_passes c.args.digest.now c.args.checked c.as_slice-blob.result.now (sent_bytes c.as_slice-blob.result.now (search rules)) (c.in-Ok.is ∙ ap (λ b. Ok b) (sym bytes)) c.requires.checked s c.args.at.lane)

pub returns-then-knows-clause-does : goal.returns-then-knows-clause-does
returns-then-knows-clause-does g c = let d = g.D.Disk in
    let old = c.args.parts.now in
    let was = c.in-Ok.is ∙ ap (λ b. Ok b) (sym c.as_slice-blob.ensures) in
    writes_does d old _ c.args.at (Chunk c.args.digest.now c.args.checked) Done _ c.insert_blob.ensures.serves done_has_text refl tt
    (λ safe s h.
    let (v, at, is) = writer_shown old s c.args.at.lane _ h.shows c.requires.lane c.in_ok-w.ensures.value in
    knows d old _ s c.args.at.lane v _ c.args.digest.now c.args.checked c.as_slice-blob.result.now c.knows.result c.requires.lane at is c.in_ok-w.ensures.value was c.requires.checked c.knows.ensures.value c.if-knows.true
    (c.in_ok-insert_blob.ensures.stored h.honest) refl refl refl refl safe h)

pub returns-then-knows-clause-leaves : goal.returns-then-knows-clause-leaves
returns-then-knows-clause-leaves g c = let d = g.D.Disk in
    let old = c.args.parts.now in
    let puts = puts_blob d old.disk c.insert_blob.new.disk c.args.digest.now.0 c.as_slice-blob.result.now c.insert_blob.result c.insert_blob.ensures.serves c.insert_blob.ensures.crash c.insert_blob.ensures.stored c.insert_blob.ensures.unchanged in
    let bytes : c.as_slice-blob.result.now ≡ c.in-Ok.bytes = c.as_slice-blob.ensures in
    let was = c.in-Ok.is ∙ ap (λ b. Ok b) (sym bytes) in
    let change = chunk_change (kept_at old c.args.at.lane) _ c.args.digest.now c.args.checked c.in-Ok.bytes (is_writing _ _ c.in_ok-w.ensures.value) c.in-Ok.is ∙ ap (stores (chunk_name c.args.digest.now.0)) (sym bytes) in
    writes_leaves d old _ c.args.at (Chunk c.args.digest.now c.args.checked) Done tt refl
    (λ h. c.in_ok-insert_blob.ensures.stored h ∙ ap (λ k. after k (d.content old.disk)) (sym change))
    (subst (LeavesChange d old.disk c.insert_blob.new.disk) (sym change) puts.crash)
    (subst (IsFirm d old.disk c.insert_blob.new.disk) (sym change) tt)
    refl (λ admin. absurd (false_true admin))
    (adds_taken d old c.insert_blob.new.disk c.args.digest.now c.args.checked c.as_slice-blob.result.now (sent_bytes c.as_slice-blob.result.now (search rules)) was c.requires.checked c.in_ok-insert_blob.ensures.stored)
    (λ ends. absurd (false_true ends)) (λ _. ap is_writer (is_writing _ _ c.in_ok-w.ensures.value)) (λ i keeps. refl) (λ i other. refl)

-- ---- it is put

pub take_chunk-requires-clause-unknown : goal.take_chunk-requires-clause-unknown
take_chunk-requires-clause-unknown g c =
    let old = c.args.parts.now in
    let within : c.args.at.lane < length old.sessions.items = omega (arith, old.lanes, old.sessions.ok.0, c.requires.lane) in
    may_note c.args.digest.now.0 old.sessions.items c.args.at.lane c.index_mut-session.result.now _ c.knows.result old.named within c.index_mut-session.ensures.value c.in_ok-w.ensures.value
    c.knows.ensures.value c.if-knows.false c.knows.ensures.pool

pub take_chunk-requires-clause-checked : goal.take_chunk-requires-clause-checked
take_chunk-requires-clause-checked g c =
    subst (λ bytes. IsCheckedChunk c.args.digest.now (Ok bytes)) (sym c.as_slice-blob.ensures) (subst (IsCheckedChunk c.args.digest.now) c.in-Ok.is c.requires.checked)

pub invariant_of-parts-2-clause-named : goal.invariant_of-parts-2-clause-named
invariant_of-parts-2-clause-named g c =
    let old = c.args.parts.now in
    let within : c.args.at.lane < length old.sessions.items = omega (arith, old.lanes, old.sessions.ok.0, c.requires.lane) in
    list_all-set is_named old.sessions.items c.args.at.lane c.take_chunk.new.session old.named
    (named_taken c.take_chunk.result c.args.digest.now.0 _ c.index_mut-session.result.now c.take_chunk.new.session c.take_chunk.ensures.ok c.take_chunk.ensures.err
    (list_all-at is_named old.sessions.items c.args.at.lane c.index_mut-session.result.now old.named within c.index_mut-session.ensures.value))

pub returns-in_err-take_chunk-clause-does : goal.returns-in_err-take_chunk-clause-does
returns-in_err-take_chunk-clause-does g c = let d = g.D.Disk in
    let old = c.args.parts.now in
    let puts = c.take_chunk.ensures.puts in
    let sessions = ap (set old.sessions.items c.args.at.lane) c.in_err-take_chunk.ensures.err ∙ found_stays old.sessions.items c.args.at.lane c.index_mut-session.result.now c.index_mut-session.ensures.value in
    failed_does d old _ c.args.at (Chunk c.args.digest.now c.args.checked) c.take_chunk.result _ _ c.from_residual-in_err-take_chunk.ensures.1 c.in_err-take_chunk.was puts.serves puts.same
    (record { catalogue = refl; sessions = sessions; locks = refl; indexes = refl })

pub returns-in_err-take_chunk-clause-leaves : goal.returns-in_err-take_chunk-clause-leaves
returns-in_err-take_chunk-clause-leaves g c = let d = g.D.Disk in
    let old = c.args.parts.now in
    let puts = c.take_chunk.ensures.puts in
    let bytes : c.as_slice-blob.result.now ≡ c.in-Ok.bytes = c.as_slice-blob.ensures in
    let change = chunk_change (kept_at old c.args.at.lane) _ c.args.digest.now c.args.checked c.in-Ok.bytes (is_writing _ _ c.in_ok-w.ensures.value) c.in-Ok.is
    ∙ ap (stores (chunk_name c.args.digest.now.0)) (sym bytes) in
    let sessions = ap (set old.sessions.items c.args.at.lane) c.in_err-take_chunk.ensures.err ∙ found_stays old.sessions.items c.args.at.lane c.index_mut-session.result.now c.index_mut-session.ensures.value in
    failed_leaves d old _ c.args.at (Chunk c.args.digest.now c.args.checked) c.take_chunk.result _ _ c.from_residual-in_err-take_chunk.ensures.1 c.in_err-take_chunk.was puts.same puts.unmoved
    (subst (LeavesChange d old.disk c.take_chunk.new.disk) (sym change) puts.crash)
    (record { catalogue = refl; sessions = sessions; locks = refl; indexes = refl }) refl (λ short closing. false_true closing)
    (λ s h. chunk_passes c.args.digest.now c.args.checked c.as_slice-blob.result.now c.take_chunk.ensures.bytes (c.in-Ok.is ∙ ap (λ b. Ok b) (sym bytes)) c.requires.checked s c.args.at.lane)

pub returns-clause-does : goal.returns-clause-does
returns-clause-does g c = let d = g.D.Disk in
    let old = c.args.parts.now in
    let within : c.args.at.lane < length old.sessions.items = omega (arith, old.lanes, old.sessions.ok.0, c.requires.lane) in
    let is = found_writer old.sessions.items c.args.at.lane c.index_mut-session.result.now _ within c.index_mut-session.ensures.value c.in_ok-w.ensures.value in
    let puts = c.take_chunk.ensures.puts in
    let was = c.in-Ok.is ∙ ap (λ b. Ok b) (sym c.as_slice-blob.ensures) in
    writes_does d old _ c.args.at (Chunk c.args.digest.now c.args.checked) Done _ puts.serves done_has_text refl tt
    (λ safe s h.
    let (v, at, shows) = writer_shown old s c.args.at.lane _ h.shows c.requires.lane c.in_ok-w.ensures.value in
    takes d old _ s c.args.at.lane v _ c.index_mut-session.result.now c.take_chunk.new.session c.args.digest.now c.args.checked c.as_slice-blob.result.now
    c.requires.lane at shows is c.in_ok-take_chunk.ensures.ok c.take_chunk.ensures.bytes was c.requires.checked puts.serves.kept c.in_ok-take_chunk.ensures.puts.put refl refl refl refl safe h)

pub returns-clause-leaves : goal.returns-clause-leaves
returns-clause-leaves g c = let d = g.D.Disk in
    let old = c.args.parts.now in
    let within : c.args.at.lane < length old.sessions.items = omega (arith, old.lanes, old.sessions.ok.0, c.requires.lane) in
    let is = found_writer old.sessions.items c.args.at.lane c.index_mut-session.result.now _ within c.index_mut-session.ensures.value c.in_ok-w.ensures.value in
    let puts = c.take_chunk.ensures.puts in
    let bytes : c.as_slice-blob.result.now ≡ c.in-Ok.bytes = c.as_slice-blob.ensures in
    let was = c.in-Ok.is ∙ ap (λ b. Ok b) (sym c.as_slice-blob.ensures) in
    let change = chunk_change (kept_at old c.args.at.lane) _ c.args.digest.now c.args.checked c.in-Ok.bytes (is_writing _ _ c.in_ok-w.ensures.value) c.in-Ok.is
    ∙ ap (stores (chunk_name c.args.digest.now.0)) (sym bytes) in
    writes_leaves d old _ c.args.at (Chunk c.args.digest.now c.args.checked) Done tt refl
    (λ h. c.in_ok-take_chunk.ensures.puts.put h ∙ ap (λ k. after k (d.content old.disk)) (sym change))
    (subst (LeavesChange d old.disk c.take_chunk.new.disk) (sym change) puts.crash)
    (subst (IsFirm d old.disk c.take_chunk.new.disk) (sym change) tt)
    refl (λ admin. absurd (false_true admin))
    (adds_taken d old c.take_chunk.new.disk c.args.digest.now c.args.checked c.as_slice-blob.result.now c.take_chunk.ensures.bytes was c.requires.checked c.in_ok-take_chunk.ensures.puts.put)
    (λ ends. absurd (false_true ends))
    (λ _.
    ap is_writer
    (get_or-set_same old.sessions.items c.args.at.lane c.take_chunk.new.session Idle within ∙ c.in_ok-take_chunk.ensures.ok
    ∙ ap (with_blob_noted c.args.digest.now c.as_slice-blob.result.now) is))
    (λ i keeps. refl) (λ i other. get_or-set_other old.sessions.items c.args.at.lane i c.take_chunk.new.session Idle other)

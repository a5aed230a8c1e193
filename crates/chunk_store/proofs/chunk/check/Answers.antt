use Rattle.std.proofs.Common.{◌≡◌, ℕ, List, Result, Ok, Err, MatchResult, subst, rules}
use Rattle.blob_codec.specs.Laws.{AreBytes}
use Rattle.store_types.specs.declared.refusal.ChunkFault.{ChunkFault}
use Rattle.chunk_store.specs.Pieces.{IsChunk, piece_in}
use Rattle.chunk_store.proofs.Blobs.{blob_told, chunk_piece, chunk_spelled, chunk_told}
use Rattle.chunk_store.proofs.chunk.check.Goals as goal

-- bytes that are those of a chunk
abbrev seen : (digest bytes text : List ℕ) → bytes ≡ text → IsChunk digest bytes → IsChunk digest text
seen digest bytes text same chunk = subst (λ b. IsChunk digest b) same chunk

pub invariant_of-result : goal.invariant_of-result
invariant_of-result c =
    let chunk = seen c.args.digest.now.0 c.deref.result.now c.args.text.items c.deref.ensures.value c.in_ok-test.ensures.chunk in
    chunk_spelled c.args.digest.now.0 c.args.text.items chunk

pub returns-clause-value : goal.returns-clause-value
returns-clause-value c =
    let chunk = seen c.args.digest.now.0 c.deref.result.now c.args.text.items c.deref.ensures.value c.in_ok-test.ensures.chunk in
    chunk_told c.args.digest.now.0 c.args.text.items chunk

pub returns-clause-piece : goal.returns-clause-piece
returns-clause-piece c =
    let chunk = seen c.args.digest.now.0 c.deref.result.now c.args.text.items c.deref.ensures.value c.in_ok-test.ensures.chunk in
    chunk_piece c.args.digest.now.0 c.args.text.items chunk

abbrev Told : List ℕ → List ℕ → Result (List ℕ) ChunkFault → Type 0
Told digest bytes told = MatchResult told (λ q. piece_in digest bytes ≡ Ok q) (λ fault. piece_in digest bytes ≡ Err fault)

pub returns-in_err-test-clause-blob : goal.returns-in_err-test-clause-blob
returns-in_err-test-clause-blob c = λ p text is named.
    let are : AreBytes c.args.text.items = search rules in
    let value : Told c.args.digest.now.0 c.args.text.items c.from_residual.result = search rules in
    blob_told c.args.digest.now.0 c.args.text.items p c.from_residual.result text are is named value

pub returns-clause-blob : goal.returns-clause-blob
returns-clause-blob c = λ p text is named.
    let are : AreBytes c.args.text.items = search rules in
    let chunk = seen c.args.digest.now.0 c.deref.result.now c.args.text.items c.deref.ensures.value c.in_ok-test.ensures.chunk in
    blob_told c.args.digest.now.0 c.args.text.items p (Ok _) text are is named (chunk_told c.args.digest.now.0 c.args.text.items chunk)

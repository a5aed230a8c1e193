-- The commands of a writer on its archives, with their refusals in order.
use Rattle.std.specs.Prelude.{ℕ, List, length, map, nat_lt, Result, Ok}
use Rattle.std.specs.Str.{bytes_eq}
use Rattle.store_types.specs.declared.append.AppendEntry.{AppendEntry}
use Rattle.store_types.specs.declared.names.Digest32.{Digest32}
use Rattle.store_types.specs.declared.refusal.Refusal.{Refusal}
use Rattle.store_types.specs.declared.refusal.Refusal.TheVariants.{WrongSize, WrongDigest}
use Rattle.store_types.specs.Chain.Refusing.{◌>>=◌, unless}
use Rattle.store_files.specs.Archive.{digest_of}
use Rattle.wire_commands.specs.declared.reply.Reply.TheVariants.{Done, Number}
use Rattle.store_model.specs.Store.{Store, Outcome, session, want_writer}
use Rattle.store_model.specs.WriterSteps.{goes_on, want_data}
use Rattle.store_model.specs.WriterCalls as calls

-- ---- NEW_FIXED and NEW_DYNAMIC

unfoldable pub new_fixed : Store → ℕ → ℕ → List ℕ → ℕ → ℕ → Outcome
new_fixed s lane moment name size chunk_size = do
  w ← want_writer (session s lane)
  begun ← calls.new_fixed w name size chunk_size moment
  goes_on s lane begun.0 (Number begun.1)

unfoldable pub new_dynamic : Store → ℕ → ℕ → List ℕ → Outcome
new_dynamic s lane moment name = do
  w ← want_writer (session s lane)
  begun ← calls.new_dynamic w name moment
  goes_on s lane begun.0 (Number begun.1)

-- ---- CHUNK

-- the piece of an upload, or the refusal of its check
unfoldable pub check_chunk : Digest32 → List ℕ → Result (List ℕ) Refusal
check_chunk digest bytes = do
  piece ← want_data bytes
  _ ← unless (WrongSize 0 (length piece)) (nat_lt 0 (length piece))
  _ ← unless (WrongDigest (digest_of piece)) (bytes_eq (digest_of piece).0 digest.0)
  Ok piece

-- CHUNK of an upload that was checked
unfoldable pub checked_chunk : Store → ℕ → Result (List ℕ) Refusal → Outcome
checked_chunk s lane checked = do
  w ← want_writer (session s lane)
  piece ← checked
  goes_on s lane (calls.chunk w piece) Done

unfoldable pub put_chunk : Store → ℕ → Digest32 → List ℕ → Outcome
put_chunk s lane digest bytes = checked_chunk s lane (check_chunk digest bytes)

-- ---- APPEND and CLOSE_INDEX

-- an entry's digest and offset
abbrev pub named : AppendEntry → Digest32 × ℕ
named e = (e.digest, e.offset)

unfoldable pub append : Store → ℕ → ℕ → List AppendEntry → Outcome
append s lane number entries = do
  w ← want_writer (session s lane)
  grown ← calls.append w number (map named entries)
  goes_on s lane grown.0 Done

unfoldable pub close_index : Store → ℕ → ℕ → ℕ → ℕ → Digest32 → Outcome
close_index s lane number count size csum = do
  w ← want_writer (session s lane)
  closed ← calls.close_index w number count size csum
  goes_on s lane closed.0 Done

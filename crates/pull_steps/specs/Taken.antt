-- What a SYNC takes of the replies.
use Rattle.std.specs.Prelude.{◌≡◌, ℕ, Bool, true, false, length}
use Rattle.store_types.specs.declared.names.Digest32.{Digest32}
use Rattle.store_types.specs.declared.refusal.ChunkFault.TheVariants.{Other}
use Rattle.store_types.specs.declared.refusal.Refusal.TheVariants.{Damaged, RemoteFault, NoMemory}
use Rattle.wire_commands.specs.declared.reply.Reply.{Reply}
use Rattle.wire_commands.specs.declared.reply.Reply.TheVariants.{Part, Data, Refused}
use Rattle.wire_commands.specs.HasText.{ReplyHasText}
use Rattle.store_model.specs.JobReplies.{IsWithinGroup}
use Rattle.store_history.specs.Pulling as model
use Rattle.store_history.specs.Pulling.{SyncJob, reports, asks}
use Rattle.pull_steps.specs.Asked.{IsAsking}

-- ---- the reads, whose replies are taken only where there is memory

abbrev pub IsPart : Reply → Type 0
IsPart (Part total more) = Unit {0}
IsPart reply = ⊥

-- the blob has this size
abbrev pub IsData : ℕ → Reply → Type 0
IsData size (Data blob) = length blob ≡ size
IsData size reply = ⊥

-- a part of a file was read, or a chunk that is as long as its entry says
abbrev pub IsReadOf : SyncJob → Reply → Type 0
IsReadOf (asks (model.reading_manifest c bytes)) reply = IsPart reply
IsReadOf (asks (model.reading_file c s name bytes)) reply = IsPart reply
IsReadOf (asks (model.reading_chunk c s x e later)) reply = IsData (model.blob_size x e later) reply
IsReadOf job reply = ⊥

-- ---- the replies

-- one that a step of it may have; a group has no more snapshots than a reply may list
abbrev pub IsReplyTo : SyncJob → Reply → Type 0
IsReplyTo (asks (model.seeking group)) reply = IsWithinGroup reply × ReplyHasText reply
IsReplyTo job reply = IsAsking job × ReplyHasText reply

-- ---- the ends

-- a reply that ends the job: a refusal, or one that is none of the step's
abbrev pub ended_by : Reply → SyncJob
ended_by (Refused refusal) = model.stops refusal
ended_by reply = reports reply

-- the chunk with this digest has another length than its entry
abbrev pub mismatched_of : Digest32 → SyncJob
mismatched_of digest = model.stops (Damaged digest (Other digest))

-- memory was wanting
abbrev pub is_out_of_memory : Reply → Bool
is_out_of_memory (Refused NoMemory) = true
is_out_of_memory reply = false

-- the step has done nothing
abbrev pub is_unread : Reply → Bool
is_unread (Refused NoMemory) = true
is_unread (Refused RemoteFault) = true
is_unread reply = false

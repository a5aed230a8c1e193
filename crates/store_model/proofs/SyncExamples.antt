-- SYNC, woven: a snapshot is pulled from the remote, its reads stand in the order or fail, and a remote's manifest that lists itself.
use Rattle.std.specs.Prelude.{◌≡◌, ℕ, List, [], ◌∷◌, ◌++◌, codes, refl, replicate, length, None, Option, Some, Result, Ok, Err}
use Rattle.store_types.specs.declared.names.Kind.TheVariants.{Host}
use Rattle.store_types.specs.declared.order.Entry.{Entry}
use Rattle.store_types.specs.declared.refusal.Refusal.TheVariants as refusals
use Rattle.store_files.specs.Archive.{blob, Snapshot}
use Rattle.wire_commands.specs.declared.command.Command.TheVariants as commands
use Rattle.wire_commands.specs.declared.reply.Reply.TheVariants.{Refused}
use Rattle.wire_commands.proofs.Hexadecimal.{hex}
use Rattle.store_model.specs.declared.ending.Ending.TheVariants as endings
use Rattle.store_model.specs.Job.{aborting, sending, over, asking}
use Rattle.store_model.specs.Jobs.{take as taken}
use Rattle.store_model.specs.SyncJob.{commands_of}
use Rattle.store_model.specs.Weave.{Misfit, weave}
use Rattle.store_model.proofs.OnLiterals.{store_model_on_literals, digests_on_literals, uuids_on_literals, manifests_on_literals}
use Rattle.store_model.proofs.ExampleBytes.{k, manifest, entry}
use Rattle.store_model.proofs.VerifyExamples.{snapshot}

abbrev sync : List ℕ
sync = hex (codes "08000000 23 06") ++ codes "host/a"

abbrev group : List ℕ
group = hex (codes "08000000 28 06") ++ codes "host/a"

-- the replies of one lane, or the first misfit
abbrev given : Option (List Snapshot) → List Entry → List ℕ → Result (List (List ℕ)) Misfit
given remote order input = elim (weave [] remote order (input ∷ []) (endings.Clean ∷ [])) [ Ok w ↦ Ok w.replies | Err e ↦ Err e ]

abbrev one_pulled : List ℕ
one_pulled = hex (codes "1f000000 00 0100 1b") ++ k

-- GROUP, OPEN_WRITER, NEW_DYNAMIC, two CHUNKs, APPEND, CLOSE_INDEX, BLOB and FINISH; and once more, when none is later
pulled : given (Some (snapshot ∷ [])) (replicate 11 (entry 0 0) ++ entry 0 6 ∷ []) (sync ++ sync ++ group)
    ≡ Ok ((one_pulled ++ hex (codes "03000000 00 0000") ++ one_pulled) ∷ [])
unfolding store_model_on_literals digests_on_literals uuids_on_literals manifests_on_literals
pulled = refl

-- reads of the remote stand before any of its steps
reads : given (Some []) (entry 0 1 ∷ entry 0 1 ∷ entry 0 0 ∷ entry 0 6 ∷ []) sync ≡ Ok (hex (codes "03000000 00 0000") ∷ [])
unfolding store_model_on_literals
reads = refl

abbrev manifest_alone : Snapshot
manifest_alone = record {
  key = record { kind = Host; id = codes "a"; time = 1579069803 };
  files = record { name = codes "index.json.blob"; content = blob manifest } ∷ [];
}

-- a read fails before the first step
list_failed : given (Some (manifest_alone ∷ [])) (entry 0 7 ∷ entry 0 6 ∷ []) sync ≡ Ok (hex (codes "01000000 1e") ∷ [])
unfolding store_model_on_literals
list_failed = refl

-- or for a command of the snapshot, whose writer is then ended
read_failed : given (Some (manifest_alone ∷ [])) (entry 0 1 ∷ entry 0 0 ∷ entry 0 0 ∷ entry 0 1 ∷ entry 0 7 ∷ entry 0 0 ∷ entry 0 0 ∷ entry 0 6 ∷ []) (sync ++ group)
    ≡ Ok (hex (codes "01000000 1e 03000000 00 0000") ∷ [])
unfolding store_model_on_literals manifests_on_literals
read_failed = refl

no_remote : given None (entry 0 0 ∷ entry 0 6 ∷ []) sync ≡ Ok (hex (codes "01000000 1d") ∷ [])
unfolding store_model_on_literals
no_remote = refl

-- a name that is none comes before
bad_name : given None (entry 0 0 ∷ entry 0 6 ∷ []) (hex (codes "04000000 23 02") ++ codes "vm") ≡ Ok (hex (codes "01000000 04") ∷ [])
unfolding store_model_on_literals
bad_name = refl

-- reads of the remote are none of another command's
no_read : given (Some []) (entry 0 1 ∷ entry 0 0 ∷ entry 0 6 ∷ []) group ≡ Err (record { entry = 0; lane = 0; replayed = 0 })
unfolding store_model_on_literals
no_read = refl

-- ---- a manifest that lists itself is sent twice, and the second time there is such a file

abbrev own_listing : List ℕ
own_listing =
    codes "{\"backup-id\":\"a\",\"backup-time\":1579069803,\"backup-type\":\"host\",\"files\":[{\"csum\":\""
    ++ replicate 64 48 ++ codes "\",\"filename\":\"index.json.blob\",\"size\":86}]}"

abbrev lists_itself : Snapshot
lists_itself = record {
  key = record { kind = Host; id = codes "a"; time = 1579069803 };
  files = record { name = codes "index.json.blob"; content = blob own_listing } ∷ [];
}

sent_twice : length (commands_of lists_itself) ≡ 3
unfolding store_model_on_literals manifests_on_literals
sent_twice = refl

refused : given (Some (lists_itself ∷ [])) (replicate 5 (entry 0 0) ++ entry 0 6 ∷ []) sync ≡ Ok (hex (codes "01000000 0a") ∷ [])
unfolding store_model_on_literals manifests_on_literals
refused = refl

-- ---- how it ends

-- what was refused first is the answer
first_refusal : taken (aborting (Refused refusals.RemoteFault)) (Refused refusals.DiskFault) ≡ over (Refused refusals.RemoteFault)
unfolding store_model_on_literals
first_refusal = refl

-- and stays it where the step that was to end the writer did nothing
aborted_again : taken (aborting (Refused refusals.RemoteFault)) (Refused refusals.NoMemory) ≡ asking (aborting (Refused refusals.RemoteFault))
unfolding store_model_on_literals
aborted_again = refl

failed_again : taken (aborting (Refused refusals.NoMemory)) (Refused refusals.RemoteFault) ≡ asking (aborting (Refused refusals.NoMemory))
unfolding store_model_on_literals
failed_again = refl

no_step_behind : taken (sending (record { snapshot = manifest_alone; later = []; pulled = [] }) commands.Finish []) (Refused (refusals.Halted 3)) ≡ over (Refused (refusals.Halted 3))
unfolding store_model_on_literals
no_step_behind = refl

-- What a crash leaves of a disk that has done some steps, by one of three choices.
use Rattle.std.specs.Prelude.{◌≡◌, ◌<◌, ◌≤◌, ◌/◌, ℕ, zero, suc, List, [], ◌∷◌, Bool, true, false, Some, take, length, get_or, string_bytes}
use Rattle.std.specs.List.{before_last, after_last}
use Rattle.std.specs.FinMap.{empty}
use Rattle.disk_trait.specs.Files.{Files, placed, renamed}
use Rattle.disk_trait.specs.Replay.{played}
use Rattle.disk_trait.specs.declared.step_log.Step.{Step}
use Rattle.disk_trait.specs.declared.step_log.Step.TheVariants.{Put, Rename, Remove, Sync}
use Rattle.disk_trait.specs.declared.step_log.LoggedStep.{LoggedStep}

abbrev pub syncs : Step → Bool
syncs Sync = true
syncs _ = false

abbrev pub is_sync : LoggedStep → Bool
is_sync e = syncs e.step

-- no step from this place on is a sync
abbrev pub NoSyncFrom : ℕ → List LoggedStep → Type 0
NoSyncFrom first log = (k : ℕ) (d : LoggedStep) → first ≤ k → k < length log → is_sync (get_or log k d) ≡ false

-- as after the last sync, or empty where there was none
abbrev pub synced : List LoggedStep → Files
synced log = played empty (before_last is_sync log)

-- a put is cut to half, and no removal is done
abbrev pub torn_by : Files → Step → Files
torn_by files (Put name bytes) = placed files (string_bytes name) (Some (take (length bytes.items / 2) bytes.items))
torn_by files (Rename from to) = renamed files (string_bytes from) (string_bytes to)
torn_by files (Remove name) = files
torn_by files Sync = files

abbrev pub torn : Files → List LoggedStep → Files
torn files [] = files
torn files (e ∷ es) = torn (torn_by files e.step) es

-- What a crash leaves after steps since the last sync: as they had not been, torn, or as they were.
abbrev pub left_since : ℕ → Files → List LoggedStep → Files
left_since zero files since = files
left_since (suc (suc zero)) files since = torn files since
left_since _ files since = played files since

-- 0: as after the last sync. 2: as it reads, but each name put since then is cut to half and no removal is done. Else: as it reads.
abbrev pub crash_image : ℕ → List LoggedStep → Files
crash_image choice log = left_since choice (synced log) (after_last is_sync log)

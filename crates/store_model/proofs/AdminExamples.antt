-- Snapshots listed, forgotten and pruned, from the bytes of the sessions.
use Rattle.std.specs.Prelude.{◌≡◌, ℕ, List, [], ◌∷◌, ◌++◌, codes, refl, replicate, None, Result, Ok, Err}
use Rattle.sha2.specs.Sha256.{sha256}
use Rattle.store_types.specs.declared.names.Kind.TheVariants.{Host}
use Rattle.store_types.specs.declared.order.Entry.{Entry}
use Rattle.blob_codec.specs.Blob.{blob}
use Rattle.store_files.specs.Archive.{Snapshot}
use Rattle.store_model.specs.declared.ending.Ending.{Ending}
use Rattle.store_model.specs.declared.ending.Ending.TheVariants as endings
use Rattle.store_model.specs.Weave.{Misfit, told_by_input, weave, woven}
use Rattle.wire_commands.proofs.Hexadecimal.{hex}
use Rattle.store_model.proofs.OnLiterals.{store_model_on_literals, digests_on_literals, manifests_on_literals}
use Rattle.store_model.proofs.ExampleBytes.{k, later_k, manifest, entry, replies_in, alone, open_writer, put, put_replies}

-- ---- LIST and FILES

listed : alone (put ++ hex (codes "02000000 1e 00")) 4 ≡ (put_replies ++ hex (codes "21000000 00 0100 1b") ++ k ++ hex (codes "00 01")) ∷ []
unfolding store_model_on_literals manifests_on_literals
listed = refl

-- after the snapshot itself there is none
listed_after : alone (put ++ hex (codes "1d000000 1e 1b") ++ k) 4 ≡ (put_replies ++ hex (codes "03000000 00 0000")) ∷ []
unfolding store_model_on_literals manifests_on_literals
listed_after = refl

files_told : alone (put ++ hex (codes "1d000000 1f 1b") ++ k) 4
    ≡ (put_replies ++ hex (codes "3a000000 00 01 0f") ++ codes "index.json.blob" ++ hex (codes "5600000000000000") ++ sha256 (blob manifest)) ∷ []
unfolding store_model_on_literals digests_on_literals manifests_on_literals
files_told = refl

-- ---- FORGET

abbrev forget : List ℕ
forget = hex (codes "1d000000 20 1b") ++ k

-- A snapshot is the base of a writer of the next one. It is forgotten after that writer's ABORT, and then it is gone.
forgotten : replies_in (entry 0 0 ∷ entry 0 0 ∷ entry 0 0 ∷ entry 0 0 ∷ entry 1 0 ∷ entry 0 0 ∷ entry 1 0 ∷ entry 1 0 ∷ entry 0 6 ∷ entry 1 6 ∷ [])
    ((put ++ hex (codes "1d000000 0a 1b") ++ later_k ++ hex (codes "01000000 13")) ∷ (forget ++ forget ++ forget) ∷ [])
    ≡ (put_replies ++ hex (codes "1d000000 00 1b") ++ k ++ hex (codes "01000000 00")) ∷ hex (codes "05000000 06 00000000 01000000 00 01000000 08") ∷ []
unfolding store_model_on_literals manifests_on_literals
forgotten = refl

-- a writer forgets nothing
not_idle : alone (open_writer ++ forget) 2 ≡ hex (codes "02000000 0000 02000000 03 01") ∷ []
unfolding store_model_on_literals
not_idle = refl

-- ---- GROUP and PRUNE of snapshots that are there from the first on

abbrev bare : ℕ → Snapshot
bare t = record { key = record { kind = Host; id = codes "a"; time = t }; files = [] }

-- the midnights of 2020-12-31, 2021-01-03 and 2021-01-04
abbrev new_year : List Snapshot
new_year = bare 1609372800 ∷ bare 1609632000 ∷ bare 1609718400 ∷ []

-- 2020-01-14 at midnight, and two moments of the day after it
abbrev two_days : List Snapshot
two_days = bare 1578960000 ∷ bare 1579069803 ∷ bare 1579089600 ∷ []

abbrev replies_of : List Snapshot → List Entry → List (List ℕ) → List (List ℕ)
replies_of snapshots order inputs = elim (woven told_by_input snapshots None order inputs) [ Ok w ↦ w.replies | Err e ↦ [] ]

-- what is left of the snapshots
abbrev left_of : List Snapshot → List Entry → List (List ℕ) → List Snapshot
left_of snapshots order inputs = elim (woven told_by_input snapshots None order inputs) [ Ok w ↦ (w.store).snapshots | Err e ↦ [] ]

abbrev steps : ℕ → List Entry
steps n = replicate n (entry 0 0) ++ entry 0 6 ∷ []

abbrev prune : List ℕ → List ℕ
prune counts = hex (codes "15000000 21 06") ++ codes "host/a" ++ hex counts

abbrev group : List ℕ
group = hex (codes "08000000 28 06") ++ codes "host/a"

no_group : alone group 1 ≡ hex (codes "03000000 00 0000") ∷ []
unfolding store_model_on_literals
no_group = refl

grouped : replies_of new_year (steps 1) (group ∷ [])
    ≡ (hex (codes "57000000 00 0300 1b") ++ codes "host/a/2020-12-31T00:00:00Z" ++ hex (codes "1b") ++ codes "host/a/2021-01-03T00:00:00Z"
    ++ hex (codes "1b") ++ codes "host/a/2021-01-04T00:00:00Z") ∷ []
unfolding store_model_on_literals
grouped = refl

-- keep-weekly 2: the last week of 2020 ends in the next year
weekly : replies_of new_year (steps 2) (prune (codes "0000 0000 0000 0200 0000 0000 00") ∷ [])
    ≡ (hex (codes "5a000000 00 0300 1b") ++ codes "host/a/2021-01-04T00:00:00Z" ++ hex (codes "01 1b") ++ codes "host/a/2021-01-03T00:00:00Z"
    ++ hex (codes "01 1b") ++ codes "host/a/2020-12-31T00:00:00Z" ++ hex (codes "00")) ∷ []
unfolding store_model_on_literals
weekly = refl

-- a count of 1,001
too_many : replies_of new_year (steps 1) (prune (codes "0000 0000 0000 e903 0000 0000 00") ∷ []) ≡ hex (codes "05000000 15 e8030000") ∷ []
unfolding store_model_on_literals
too_many = refl

abbrev two_days_reply : List ℕ → List ℕ
two_days_reply mark =
    hex (codes "5a000000 00 0300 1b") ++ codes "host/a/2020-01-15T12:00:00Z" ++ hex (codes "01 1b") ++ codes "host/a/2020-01-15T06:30:03Z"
    ++ hex mark ++ hex (codes "1b") ++ codes "host/a/2020-01-14T00:00:00Z" ++ hex (codes "01")

-- keep-last 1 and keep-daily 1
daily : replies_of two_days (steps 2) (prune (codes "0100 0000 0100 0000 0000 0000 00") ∷ []) ≡ two_days_reply (codes "00") ∷ []
unfolding store_model_on_literals
daily = refl

daily_left : left_of two_days (steps 2) (prune (codes "0100 0000 0100 0000 0000 0000 00") ∷ []) ≡ bare 1578960000 ∷ bare 1579089600 ∷ []
unfolding store_model_on_literals
daily_left = refl

-- a dry run asks for no removal
dry : replies_of two_days (steps 1) (prune (codes "0100 0000 0100 0000 0000 0000 01") ∷ []) ≡ two_days_reply (codes "00") ∷ []
unfolding store_model_on_literals
dry = refl

dry_left : left_of two_days (steps 1) (prune (codes "0100 0000 0100 0000 0000 0000 01") ∷ []) ≡ two_days
unfolding store_model_on_literals
dry_left = refl

abbrev read_k : List ℕ
read_k = hex (codes "1d000000 14 1b") ++ k

-- a reader holds the one that is to go
held : replies_of two_days (entry 1 0 ∷ entry 0 0 ∷ entry 0 0 ∷ entry 0 6 ∷ entry 1 6 ∷ []) (prune (codes "0100 0000 0100 0000 0000 0000 00") ∷ read_k ∷ [])
    ≡ two_days_reply (codes "02") ∷ hex (codes "01000000 00") ∷ []
unfolding store_model_on_literals
held = refl

-- another lane forgets it between the job's steps
gone : replies_of two_days (entry 0 0 ∷ entry 1 0 ∷ entry 0 0 ∷ entry 0 6 ∷ entry 1 6 ∷ []) (prune (codes "0100 0000 0100 0000 0000 0000 00") ∷ forget ∷ [])
    ≡ two_days_reply (codes "03") ∷ hex (codes "01000000 00") ∷ []
unfolding store_model_on_literals
gone = refl

-- ---- a job that is cut short

abbrev given : List Entry → List Ending → Result (List (List ℕ)) Misfit
given order es = elim (weave two_days None order (prune (codes "0100 0000 0100 0000 0000 0000 00") ∷ []) es) [ Ok w ↦ Ok w.replies | Err e ↦ Err e ]

-- memory was wanting for a step
short : given (entry 0 0 ∷ entry 0 2 ∷ entry 0 6 ∷ []) (endings.Clean ∷ []) ≡ Ok (hex (codes "01000000 1c") ∷ [])
unfolding store_model_on_literals
short = refl

-- a step met a fault of the disk
faulted : given (entry 0 0 ∷ entry 0 5 ∷ entry 0 6 ∷ []) (endings.Clean ∷ []) ≡ Ok (hex (codes "01000000 1a") ∷ [])
unfolding store_model_on_literals
faulted = refl

-- the lane's end comes too early
cut : given (entry 0 0 ∷ entry 0 6 ∷ []) (endings.Clean ∷ []) ≡ Err (record { entry = 1; lane = 0; replayed = 0 })
unfolding store_model_on_literals
cut = refl

-- Cutoffs, sweeps of few chunks, and what is to be marked.
use Rattle.std.specs.Prelude.{◌≡◌, ℕ, List, [], ◌∷◌, ◌++◌, replicate, codes, Option, Some, None, option_map, refl, false, ⊤}
use Rattle.store_types.specs.declared.names.SnapshotKey.{SnapshotKey}
use Rattle.store_types.specs.declared.names.Kind.TheVariants.{Host}
use Rattle.store_types.proofs.OnLiterals.{store_types_on_literals}
use Rattle.wire_commands.specs.declared.command.Command.{Command}
use Rattle.wire_commands.specs.declared.command.Command.TheVariants.{OpenWriter, Finish, Forget}
use Rattle.wire_commands.specs.declared.reply.Reply.{Reply}
use Rattle.wire_commands.specs.declared.reply.Reply.TheVariants.{Base, Done, Collected}
use Rattle.store_model.specs.Store.{Session, none, writer, store_of}
use Rattle.store_model.specs.WriterSteps.{new_writer}
use Rattle.atime_book.specs.Touches.{cutoff_of, last_in}
use Rattle.store_files.specs.Book.{Touch}
use Rattle.store_history.specs.declared.act.Act.TheVariants as acts
use Rattle.store_history.specs.declared.act.Event.{Event}
use Rattle.store_history.specs.History.{World, act_outcome, moved, after, after_all}
use Rattle.store_history.specs.LastTouches.{LastTouches}
use Rattle.store_history.specs.Sweeping.{Unmarked, Sweep, Swept, in_order, unmarked_of, oldest_in, first_taken, passed, chunks, swept_after, swept_all, used_among, report_of}

-- ---- cutoffs

abbrev key : SnapshotKey
key = record { kind = Host; id = 97 ∷ []; time = 0 }

abbrev begun_at : ℕ → Session
begun_at start = writer (new_writer key start None)

-- a day and five minutes before the start
no_writer : cutoff_of 1_000_000 (oldest_in (none ∷ none ∷ [])) ≡ 913_300
no_writer = refl

-- or five minutes before the oldest writer's
two_writers : cutoff_of 1_000_000 (oldest_in (begun_at 950_000 ∷ none ∷ begun_at 900_000 ∷ [])) ≡ 899_700
two_writers = refl

early : cutoff_of 100 (oldest_in []) ≡ 0
early = refl

abbrev touched_at : ℕ → LastTouches
touched_at when = record { last = last_in (record { digest = 1 ∷ []; moment = when } ∷ []); undated = λ d. false }

-- at the cutoff it stays
at_cutoff : first_taken (touched_at 913_300) 913_300 ((1 ∷ []) ∷ []) ≡ None
at_cutoff = refl

before_cutoff : first_taken (touched_at 913_299) 913_300 ((1 ∷ []) ∷ []) ≡ Some (1 ∷ [])
before_cutoff = refl

-- ---- byte order

ordered : in_order ((2 ∷ []) ∷ (1 ∷ 5 ∷ []) ∷ (2 ∷ []) ∷ (1 ∷ []) ∷ []) ≡ (1 ∷ []) ∷ (1 ∷ 5 ∷ []) ∷ (2 ∷ []) ∷ []
ordered = refl

-- ---- a sweep: the first chunk is marked, the second is stale, and the third is not

abbrev w : World
w = record { store = store_of []; collecting = Some (record { lane = 0; is_out_of_memory = false }); fault = None; events = 9; moment = 20; calls = 3 }

abbrev touches : List Touch
touches = record { digest = 1 ∷ []; moment = 4 } ∷ record { digest = 2 ∷ []; moment = 5 } ∷ record { digest = 3 ∷ []; moment = 7 } ∷ []

abbrev sweep : List Unmarked → Option (List (List ℕ)) → ℕ → Sweep
sweep unmarked to_visit removed = record { start = 20; cutoff = 7; unmarked = unmarked; to_visit = to_visit; removed = removed }

abbrev index : Unmarked
index = record { key = key; name = 97 ∷ []; digests = (1 ∷ []) ∷ [] }

abbrev s : Swept
s = record {
  touches = record { last = last_in touches; undated = λ d. false };
  known = (1 ∷ []) ∷ (2 ∷ []) ∷ (3 ∷ []) ∷ (4 ∷ []) ∷ [];
  sweep = Some (sweep (index ∷ []) None 0);
}

-- a mark or a visit
abbrev pass : ℕ → Event
pass place = record { act = acts.Step; answer = record { reply = None; entry = record { lane = 0; moment = 30; kind = 1 }; place = place; last = false }; calls = 3 }

unfoldable on_sweeps : ⊤
unfolding act_outcome moved after after_all swept_after swept_all
on_sweeps = tt

is_marked : (swept_after None w s (pass 9)).sweep ≡ Some (sweep [] None 0)
unfolding on_sweeps
is_marked = refl

marked_now : (swept_after None w s (pass 9)).touches.last (1 ∷ []) ≡ Some 30
unfolding on_sweeps
marked_now = refl

-- the next one lists the chunks, and visits the first
first_stays : (swept_all None w s (pass 9 ∷ pass 10 ∷ [])).sweep ≡ Some (sweep [] (Some ((2 ∷ []) ∷ (3 ∷ []) ∷ [])) 0)
unfolding on_sweeps
first_stays = refl

second_goes : (swept_all None w s (pass 9 ∷ pass 10 ∷ pass 11 ∷ [])).sweep ≡ Some (sweep [] (Some ((3 ∷ []) ∷ [])) 1)
unfolding on_sweeps
second_goes = refl

two_left : chunks (swept_all None w s (pass 9 ∷ pass 10 ∷ pass 11 ∷ pass 12 ∷ [])) ≡ (1 ∷ []) ∷ (3 ∷ []) ∷ []
unfolding on_sweeps
two_left = refl

all_visited : (swept_all None w s (pass 9 ∷ pass 10 ∷ pass 11 ∷ pass 12 ∷ [])).sweep ≡ Some (sweep [] (Some []) 1)
unfolding on_sweeps
all_visited = refl

-- of the two that are left the marked one is used, and the other pending
counts : used_among (swept_all None w s (pass 9 ∷ pass 10 ∷ pass 11 ∷ pass 12 ∷ [])).touches 20 ((1 ∷ []) ∷ (3 ∷ []) ∷ []) ≡ 1
unfolding on_sweeps
counts = refl

-- ---- two chunks of one snapshot, which is forgotten later

abbrev pass_at : ℕ → ℕ → Event
pass_at when place = record { act = acts.Step; answer = record { reply = None; entry = record { lane = 0; moment = when; kind = 1 }; place = place; last = false }; calls = 3 }

abbrev two : List (List ℕ)
two = (1 ∷ []) ∷ (2 ∷ []) ∷ []

-- a collector started; both chunks were last touched at this moment
abbrev started : ℕ → ℕ → List Unmarked → ℕ → Swept
started start cutoff unmarked touched = record {
  touches = record { last = last_in (record { digest = 1 ∷ []; moment = touched } ∷ record { digest = 2 ∷ []; moment = touched } ∷ []); undated = λ d. false };
  known = two;
  sweep = Some (record { start = start; cutoff = cutoff; unmarked = unmarked; to_visit = None; removed = 0 });
}

abbrev report : Swept → Option Reply
report s = option_map (report_of s) s.sweep

abbrev of_both : Unmarked
of_both = record { key = key; name = 97 ∷ []; digests = two }

both_used : report (swept_all None w (started 1_000_000 913_300 (of_both ∷ []) 900_000) (pass_at 1_000_000 9 ∷ pass_at 1_000_000 10 ∷ pass_at 1_000_000 11 ∷ []))
    ≡ Some (Collected 1_000_000 913_300 2 0 0)
unfolding on_sweeps
both_used = refl

both_go : report (swept_all None w (started 1_100_000 1_013_300 [] 1_000_000) (pass_at 1_100_000 9 ∷ pass_at 1_100_000 10 ∷ [])) ≡ Some (Collected 1_100_000 1_013_300 0 0 2)
unfolding on_sweeps
both_go = refl

-- ---- what is to be marked

-- of 1,001 entries the last is left for a second mark
abbrev many : Unmarked
many = record { key = key; name = 97 ∷ []; digests = replicate 1_000 (1 ∷ []) ++ (2 ∷ []) ∷ [] }

second_mark : (passed s (sweep (many ∷ []) None 0) (many ∷ [])).unmarked ≡ record { key = key; name = 97 ∷ []; digests = (2 ∷ []) ∷ [] } ∷ []
second_mark = refl

-- an index without entries is none
no_entry : unmarked_of key (97 ∷ []) [] ≡ []
no_entry = refl

-- a command of another lane, done
abbrev done : Command → Reply → ℕ → Event
done c r place = record { act = acts.Plain c; answer = record { reply = Some r; entry = record { lane = 1; moment = 30; kind = 0 }; place = place; last = false }; calls = 3 }

abbrev snapshot : List ℕ
snapshot = codes "host/a/1970-01-01T00:00:00Z"

-- one that is forgotten is passed over, also where its snapshot is made again
passed_over : (swept_after None w s (done (Forget snapshot) Done 9)).sweep ≡ Some (sweep [] None 0)
unfolding on_sweeps store_types_on_literals
passed_over = refl

made_again : (swept_all None w s (done (Forget snapshot) Done 9 ∷ done Finish Done 10 ∷ [])).sweep ≡ Some (sweep [] None 0)
unfolding on_sweeps store_types_on_literals
made_again = refl

-- a writer that begins later leaves the cutoff
later_writer : (swept_after None w s (done (OpenWriter snapshot) (Base []) 9)).sweep ≡ s.sweep
unfolding on_sweeps
later_writer = refl

-- where no chunk is there the listing ends the sweep
no_chunk : (swept_after None w (record s { known = []; sweep = Some (sweep [] None 0) }) (pass 9)).sweep ≡ Some (sweep [] (Some []) 0)
unfolding on_sweeps
no_chunk = refl

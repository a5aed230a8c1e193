-- A run that answered Ok is replayed equal.
use Rattle.disk_trait.specs.declared.disk.Disk.{Ghosts}
use Rattle.disk_trait.specs.declared.disk.DiskError.{DiskError}
use Rattle.std.proofs.Common.{get_or, ◌≡◌, ◌≤◌, ◌<◌, ◌+◌, ◌^◌, ◌||◌, inl, ℕ, zero, suc, Bool, true, false, List, [], ◌∷◌, ◌++◌, map, length, take, Option, Some, None, IsTrue, refl, sym, ap, subst, ◌∙◌, arith, slice_index_or}
use Rattle.std.specs.Prelude.{replicate, if◌then◌else◌}
use Rattle.std.specs.List.{All, range_with_len}
use Rattle.std.proofs.lemmas.List.{length-map, take_all}
use Rattle.std.proofs.lemmas.List.Elements.{All-nil, All-cons, All-head, All-tail}
use Rattle.port_traits.specs.declared.sink.Sink as sinks
use Rattle.port_traits.specs.declared.source.Source as sources
use Rattle.port_traits.specs.Bytes.{TakesFrom, WritesCounted}
use Rattle.port_traits.specs.Readings.{Readings}
use Rattle.store_types.specs.declared.order.Entry.{Entry}
use Rattle.store_files.specs.Archive.{Snapshot}
use Rattle.store_files.specs.Order.{keeps_rules, order_text}
use Rattle.wire_commands.specs.declared.reply.Reply.{Reply}
use Rattle.store_model.specs.declared.ending.Ending.{Ending}
use Rattle.store_model.specs.declared.ending.Ending.TheVariants as endings
use Rattle.store_model.specs.declared.ending.Ending.TheVariants.{Clean}
use Rattle.store_model.specs.Clash.{NoClash, chunk_pieces}
use Rattle.store_model.specs.Load.{load}
use Rattle.store_model.specs.Stands.{StandsFor}
use Rattle.store_model.specs.Store.{lane_count}
use Rattle.store_model.specs.Weave.{told_by_input, woven}
use Rattle.store_history.specs.declared.act.Event.{Event}
use Rattle.store_history.specs.History.{entries, own, sent}
use Rattle.store_history.specs.LaneRun.{LaneRan, text}
use Rattle.store_history.specs.Woven.{AreLanes, IsServed}
use Rattle.order_file.proofs.Whole.{read_again}
use Rattle.snapshot_files.proofs.Loading as loading
use Rattle.store_history.specs.RemoteDisk.{ShowsRemote}
use Rattle.store_history.specs.Opened.{opening_of}
use Rattle.plain_store.specs.Frees.{frees}
use Rattle.generator.specs.Sessions.{generated}
use Rattle.generator.specs.Summaries.{summary_text}
use Rattle.store_history.specs.declared.port.LaneReport.{LaneReport}
use Rattle.store_history.specs.declared.port.Port.{Port}
use Rattle.lane.specs.AtOnce.{gave_all}
use Rattle.lane.specs.Entries.{has_kind}
use Rattle.lane.specs.Ran.{EndsRead, Took}
use Rattle.lane.specs.Served.{EachRan, RanAs, Run}
use Rattle.replay.specs.Compare.{compare}
use Rattle.replay.specs.Orders.{faultless_order, has_faults, unless_faults}
use Rattle.replay_laws.proofs.Equal.{runs_replay_equal}
use Rattle.run_check.specs.Checks.{loaded}
use Rattle.pbs_server.specs.declared.served.Served.{Served}
use Rattle.pbs_server.specs.declared.status.Status.{Status}
use Rattle.pbs_server.specs.declared.status.Status.TheVariants as statuses
use Rattle.pbs_server.specs.Completeness.{ReplaysEqual}
use Rattle.pbs_server.specs.Generating.{MadePort, TellsSummary, all_as_memory, as_memory, cut_off, in_memory, memory_status, no_memory, not_ok, port_of, ports_of, replies_of, sink_told, source_told, still, written}
use Rattle.pbs_server.specs.Headline.{HasServed, told_by}
use Rattle.pbs_server.specs.RunChecks.{MadeRunsCheckEqual, RunsCheckEqual, WereHeld}
use Rattle.pbs_server.specs.Statuses.{endings_of, first_of, has_disk_fault, is_failed, is_short, is_wanting, run_facts, some_tells}
use Rattle.pbs_server.proofs.Endings.{all_clean}
use Rattle.pbs_server.proofs.Fine.{took_front}
use Rattle.pbs_server.proofs.Generated.{few_ports}
use Rattle.pbs_server.proofs.Lanes.{own_kind}
use Rattle.pbs_server.proofs.Remotes.{beside_list, list_keys}
use Rattle.pbs_server.proofs.Statuses.{IsLast, ended_ok, last_chosen}
use Rattle.pbs_server.proofs.Tests.{neither}
use Rattle.pbs_server.proofs.Undamaged.{undamaged}
use Rattle.pbs_server.proofs.Well.{by_endings}
use Rattle.pbs_server.proofs.WholeInputs.{ran_whole}

always : (lanes k : ℕ) → get_or (replicate lanes Clean) k Clean ≡ Clean
always zero k = refl
always (suc lanes) zero = refl
always (suc lanes) (suc k) = always lanes k

clash : true ≡ false → ⊥
clash h = cc

-- ---- one lane

whole_at : (xs : List ℕ) (left : Option (List ℕ)) (input : List ℕ) (events : List Event) (told : List Reply) → has_kind 5 (entries events) ≡ false
    → LaneRan input Clean events told → TakesFrom (Some xs) left input → EndsRead Clean input events left → LaneRan xs Clean events told
whole_at xs left input events told sound ran took read =
    let front = took_front xs left input took in
    subst (λ ys. LaneRan ys Clean events told) (sym front.2)
    (ran_whole input front.0 events told sound ran (subst (λ o. EndsRead Clean input events o) front.1 read))

-- what a sink took that had nothing is what was told
kept_is : (kept bytes : List ℕ) (given : ℕ) → WritesCounted (Some []) (Some kept) 0 given bytes true → kept ≡ bytes
kept_is kept bytes given w = same w.added ∙ ap (λ n. take n bytes) w.how_many ∙ take_all (length bytes) bytes (omega arith)
  where
    same : Some kept ≡ Some (take w.count bytes) → kept ≡ take w.count bytes
    same e = cc

own_sound : (k : ℕ) (es : List Event) → has_kind 5 (entries es) ≡ false → has_kind 5 (entries (own k es)) ≡ false
own_sound k es sound = by_test (has_kind 5 (entries (own k es))) refl
  where
    by_test : (b : Bool) → has_kind 5 (entries (own k es)) ≡ b → has_kind 5 (entries (own k es)) ≡ false
    by_test true is = absurd (clash (sym (own_kind k 5 es is) ∙ sound))
    by_test false is = is

-- ---- all lanes

module _ {S K : Type 0} (source : sources.Ghosts S) (sink : sinks.Ghosts K) where
  abbrev IsClean : LaneReport → Type 0
  IsClean r = r.ending ≡ Clean

  abbrev TookNone : Port S K → Type 0
  TookNone p = sink.taken p.sink ≡ Some []

  abbrev lefts : List (Port S K) → List (Option (List ℕ))
  lefts ports = map (λ p. source.left p.source) ports

  abbrev takens : List (Port S K) → List (Option (List ℕ))
  takens ports = map (λ p. sink.taken p.sink) ports

  -- each ended so on all that its source had left
  each_whole : (j k : ℕ) (os ns : List (Port S K)) (rs : List LaneReport) (xs : List Run) (es : List Event) (inputs : List (List ℕ)) → EachRan (RanAs source sink) j os ns rs xs es → All IsClean rs
      → has_kind 5 (entries es) ≡ false → lefts os ≡ map Some inputs → k < length inputs
      → LaneRan (slice_index_or inputs k []) Clean (own (j + k) es) (slice_index_or (told_by xs) k [])
  each_whole j k [] [] [] [] es [] each clean sound held below = absurd (omega (arith, below))
  each_whole j k [] [] [] [] es (i ∷ is) each clean sound held below = cc
  each_whole j k (o ∷ os) (n ∷ ns) (r ∷ rs) (x ∷ xs) es [] each clean sound held below = absurd (omega (arith, below))
  each_whole j zero (o ∷ os) (n ∷ ns) (r ∷ rs) (x ∷ xs) es (i ∷ is) each clean sound held below =
      let none : j ≡ j + 0 = omega arith in
      let ran = each.0 in
      let ends : r.ending ≡ Clean = All-head IsClean r rs clean in
      subst (λ m. LaneRan i Clean (own m es) x.told) none
      (whole_at i (source.left n.source) x.input (own j es) x.told (own_sound j es sound)
      (subst (λ e. LaneRan x.input e (own j es) x.told) ends ran.ran)
      (subst (λ o. TakesFrom o (source.left n.source) x.input) (head_is (source.left o.source) (Some i) (lefts os) (map Some is) held)
      (subst (λ e. Took e (source.left o.source) (source.left n.source) x.input) ends ran.took))
      (subst (λ e. EndsRead e x.input (own j es) (source.left n.source)) ends ran.read_out))
    where
      head_is : (a b : Option (List ℕ)) (later others : List (Option (List ℕ))) → a ∷ later ≡ b ∷ others → a ≡ b
      head_is a b later others e = cc
  each_whole j (suc k) (o ∷ os) (n ∷ ns) (r ∷ rs) (x ∷ xs) es (i ∷ is) each clean sound held below =
      let on : j + 1 + k ≡ j + suc k = omega arith in
      subst (λ m. LaneRan (slice_index_or is k []) Clean (own m es) (slice_index_or (told_by xs) k [])) on
      (each_whole (j + 1) k os ns rs xs es is each.1 (All-tail IsClean r rs clean) sound (tail_is (source.left o.source) (Some i) (lefts os) (map Some is) held) (omega (arith, below)))
    where
      tail_is : (a b : Option (List ℕ)) (later others : List (Option (List ℕ))) → a ∷ later ≡ b ∷ others → later ≡ others
      tail_is a b later others e = cc
  each_whole j k _ _ _ _ es inputs each clean sound held below = absurd each

  -- and each sink took what was told
  each_kept : (j : ℕ) (os ns : List (Port S K)) (rs : List LaneReport) (xs : List Run) (es : List Event) (kept : List (List ℕ)) → EachRan (RanAs source sink) j os ns rs xs es → All IsClean rs
      → All TookNone os → takens ns ≡ map Some kept → kept ≡ map text (told_by xs)
  each_kept j [] [] [] [] es [] each clean none held = refl
  each_kept j [] [] [] [] es (k ∷ ks) each clean none held = cc
  each_kept j (o ∷ os) (n ∷ ns) (r ∷ rs) (x ∷ xs) es [] each clean none held = cc
  each_kept j (o ∷ os) (n ∷ ns) (r ∷ rs) (x ∷ xs) es (k ∷ ks) each clean none held =
      ap (λ ys. k ∷ ys) (each_kept (j + 1) os ns rs xs es ks each.1 (All-tail IsClean r rs clean) (All-tail TookNone o os none) (tail_is (sink.taken n.sink) (Some k) (takens ns) (map Some ks) held))
      ∙ ap (λ y. y ∷ map text (told_by xs))
      (kept_is k (text x.told) r.given
      (subst (λ a. WritesCounted a (Some k) 0 r.given (text x.told) true) (All-head TookNone o os none)
      (subst (λ b. WritesCounted (sink.taken o.sink) b 0 r.given (text x.told) true) (head_is (sink.taken n.sink) (Some k) (takens ns) (map Some ks) held)
      (subst (λ e. WritesCounted (sink.taken o.sink) (sink.taken n.sink) 0 r.given (text x.told) (gave_all e)) (All-head IsClean r rs clean) each.0.gave))))
    where
      head_is : (a b : Option (List ℕ)) (later others : List (Option (List ℕ))) → a ∷ later ≡ b ∷ others → a ≡ b
      head_is a b later others e = cc

      tail_is : (a b : Option (List ℕ)) (later others : List (Option (List ℕ))) → a ∷ later ≡ b ∷ others → later ≡ others
      tail_is a b later others e = cc
  each_kept j _ _ _ _ es kept each clean none held = absurd each

  held_count : (os : List (Port S K)) (inputs : List (List ℕ)) → lefts os ≡ map Some inputs → length inputs ≡ length os
  held_count os inputs held = sym (length-map inputs Some) ∙ ap length (sym held) ∙ length-map os (λ (p : Port S K). source.left p.source)

  told_count : (j : ℕ) (os ns : List (Port S K)) (rs : List LaneReport) (xs : List Run) (es : List Event) → EachRan (RanAs source sink) j os ns rs xs es → length (told_by xs) ≡ length os
  told_count j [] [] [] [] es each = refl
  told_count j (o ∷ os) (n ∷ ns) (r ∷ rs) (x ∷ xs) es each = ap suc (told_count (j + 1) os ns rs xs es each.1)
  told_count j _ _ _ _ es each = absurd each

-- ---- the remote

loaded_is : {E : Type 0} (e : Ghosts E) (remote : Option E) (R : Option (List Snapshot)) → ShowsRemote e remote R → loaded e remote ≡ R
loaded_is e None None shows = refl
loaded_is e (Some r) (Some xs) shows = ap Some (loading.loaded (e.content r) xs shows.1)
loaded_is e None (Some xs) shows = absurd shows
loaded_is e (Some r) None shows = absurd shows

-- ---- the order

read_faultless : (lanes : ℕ) (order : List Entry) → lanes ≤ lane_count → IsTrue (keeps_rules lanes order) → has_faults order ≡ false → faultless_order lanes (order_text order) ≡ Some order
read_faultless lanes order few rules sound =
    ap unless_faults (read_again lanes order (many lanes few) rules) ∙ ap (λ b. if b then None else Some order) sound
  where
    many : (n : ℕ) → n ≤ 64 → n ≤ 2 ^ 32
    many n le = omega (arith, le)

-- ---- the whole

module _ {D E S K : Type 0} (d : Ghosts D) (e : Ghosts E) (source : sources.Ghosts S) (sink : sinks.Ghosts K) (readings : Option Readings) (disk : D) (remote : Option E) (old new : List (Port S K))
    (reports : List LaneReport) (result : Served D E) (inputs kept : List (List ℕ)) (L : List Snapshot) (R : Option (List Snapshot)) (served : HasServed d e source sink readings disk remote old new reports result)
    (clean : All (λ r. r.ending ≡ Clean) reports) (sound : has_kind 5 (result.order).items ≡ false) (few : length old ≤ lane_count) (honest : d.honest disk) (stands : StandsFor (d.content disk) L) (shows : ShowsRemote e remote R)
    (clear : NoClash (chunk_pieces (d.content disk) ++ sent (served.told).events)) (held : WereHeld source sink old new inputs kept) where
  abbrev events : List Event
  events = (served.told).events

  abbrev told : List (List Reply)
  told = told_by (served.told).runs

  abbrev order : List Entry
  order = (result.order).items

  order_is : order ≡ entries events
  order_is = (served.told).order_is

  sound_events : has_kind 5 (entries events) ≡ false
  sound_events = subst (λ es. has_kind 5 es ≡ false) order_is sound

  count : length inputs ≡ length old
  count = held_count source sink old inputs held.inputs_are

  is_served : IsServed (opening_of d disk served.opened L) R events inputs (replicate (length inputs) Clean) told
  is_served =
      let plain = served.plain L R (inl shows) honest stands clear in
      record {
        legal = plain.legal;
        remote_is = beside_list e remote R events (inl shows);
        keys = list_keys (d.content disk) L stands;
        lanes = subst (λ n. AreLanes n events) (sym count) (served.told).lanes;
        each = told_count source sink 0 old new reports (served.told).runs events (served.told).each ∙ sym count;
        runs = λ k lt.
            let here : 0 + k ≡ k = omega arith in
            subst (λ x. LaneRan (slice_index_or inputs k []) x (own k events) (slice_index_or told k [])) (sym (always (length inputs) k))
            (subst (λ m. LaneRan (slice_index_or inputs k []) Clean (own m events) (slice_index_or told k [])) here
            (each_whole source sink 0 k old new reports (served.told).runs events inputs (served.told).each clean sound_events held.inputs_are lt));
      }

  replays_equal : ReplaysEqual (d.content disk) (loaded e remote) order inputs kept
  replays_equal =
      let loads : load (d.content disk) ≡ L = loading.loaded (d.content disk) L stands in
      let beside : loaded e remote ≡ R = loaded_is e remote R shows in
      let kept_are : kept ≡ map text told = each_kept source sink 0 old new reports (served.told).runs events kept (served.told).each clean held.empty held.kept_are in
      let equal = runs_replay_equal (opening_of d disk served.opened L) R events inputs told sound_events is_served in
      record {
        order_is = read_faultless (length inputs) order (subst (λ n. n ≤ lane_count) (sym count) few) (subst (λ n. IsTrue (keeps_rules n order)) (sym count) (served.told).rules) sound;
        sound = undamaged (d.content disk) L stands;
        equal =
            ap (λ xs. compare (woven told_by_input xs (loaded e remote) order inputs) (frees told_by_input xs (loaded e remote) order inputs) kept) loads
            ∙ ap (λ y. compare (woven told_by_input L y order inputs) (frees told_by_input L y order inputs) kept) beside
            ∙ ap (λ es. compare (woven told_by_input L R es inputs) (frees told_by_input L R es inputs) kept) order_is
            ∙ ap (λ ks. compare (woven told_by_input L R (entries events) inputs) (frees told_by_input L R (entries events) inputs) ks) kept_are
            ∙ equal;
      }

-- sessions that were handed in
pub run_checks : {D E S K : Type 0} (d : Ghosts D) (e : Ghosts E) (source : sources.Ghosts S) (sink : sinks.Ghosts K) → RunsCheckEqual d e source sink
run_checks d e source sink readings disk remote old new reports result inputs kept L R served ok few honest stands shows clear held =
    let well = (served.why).ok.0 ok in
    replays_equal d e source sink readings disk remote old new reports result inputs kept L R served well.0 (well.1).disk few honest stands shows clear held

-- ---- made sessions

-- where all is well, every session ended cleanly and the disk did not fail
ok_clean : (order : List Entry) (rs : List LaneReport) (not_saved : Option DiskError) → first_of (run_facts order (endings_of rs) not_saved false) ≡ statuses.Ok
    → All (λ r. r.ending ≡ Clean) rs × (has_kind 5 order ≡ false)
ok_clean order rs not_saved is =
    let last : IsLast (is_short order (endings_of rs) not_saved) (has_disk_fault order not_saved) (has_kind 7 order) (by_endings rs) statuses.Ok =
    last_chosen (is_short order (endings_of rs) not_saved) (has_disk_fault order not_saved) (has_kind 7 order) (by_endings rs) statuses.Ok (λ x. cc) (λ x. cc) (λ x. cc) is in
    let place =
    ended_ok (some_tells statuses.SourceFault (endings_of rs)) (some_tells statuses.SinkFault (endings_of rs)) (some_tells statuses.SourceTooLong (endings_of rs)) (some_tells statuses.BadFrame (endings_of rs)) last.status in
    let short = neither (has_kind 2 order || some_tells statuses.NoMemory (endings_of rs)) (is_wanting not_saved) last.short_is in (
      all_clean rs
          (record {
            memory = (neither (has_kind 2 order) (some_tells statuses.NoMemory (endings_of rs)) short.0).1;
            source = (place.0).source_is;
            sink = (place.0).sink_is;
            long = (place.0).long_is;
          })
          place.1,
      (neither (has_kind 5 order) (is_failed not_saved) last.disk_is).0,
    )

-- an ending that is told as clean is
was_clean : (e : Ending) → in_memory e ≡ Clean → e ≡ Clean
was_clean endings.Clean is = refl
was_clean endings.SinkFault is = cc
was_clean endings.NoMemory is = cc
was_clean endings.SourceFault is = cc
was_clean endings.SourceTooLong is = cc
was_clean (endings.Broken place) is = cc

were_clean : (rs : List LaneReport) → All (λ r. r.ending ≡ Clean) (all_as_memory rs) → All (λ r. r.ending ≡ Clean) rs
were_clean [] are = All-nil (λ r. r.ending ≡ Clean)
were_clean (r ∷ rs) are =
    All-cons (λ r. r.ending ≡ Clean) r rs (was_clean r.ending (All-head (λ r. r.ending ≡ Clean) (as_memory r) (all_as_memory rs) are))
    (were_clean rs (All-tail (λ r. r.ending ≡ Clean) (as_memory r) (all_as_memory rs) are))

made_inputs : (ks : List ℕ) → map (λ p. source_told.left p.source) (map port_of ks) ≡ map Some (map generated ks)
made_inputs [] = refl
made_inputs (k ∷ ks) = ap (λ xs. Some (generated k) ∷ xs) (made_inputs ks)

made_empty : (ks : List ℕ) → All (λ p. sink_told.taken p.sink ≡ Some []) (map port_of ks)
made_empty [] = All-nil (λ p. sink_told.taken p.sink ≡ Some [])
made_empty (k ∷ ks) = All-cons (λ p. sink_told.taken p.sink ≡ Some []) (port_of k) (map port_of ks) refl (made_empty ks)

made_kept : (ports : List MadePort) → map (λ p. sink_told.taken p.sink) ports ≡ map Some (replies_of ports)
made_kept [] = refl
made_kept (p ∷ ps) = ap (λ xs. Some (p.sink).taken ∷ xs) (made_kept ps)

ran_ok : {J : Type 0} (sink : sinks.Ghosts J) (ran : Status) (text : List ℕ) (before after : J) (s : Status) (failed : Bool) → TellsSummary sink ran text before after s failed → s ≡ statuses.Ok → ran ≡ statuses.Ok
ran_ok sink ran text before after s failed (not_ok other same) is = absurd (other is)
ran_ok sink ran text before after s failed (no_memory ok same) is = ok
ran_ok sink ran text before after s failed (written ok took) is = ok
ran_ok sink ran text before after s failed (cut_off ok took) is = ok

pub made_checks : {D E J : Type 0} (d : Ghosts D) (e : Ghosts E) (journal : sinks.Ghosts J) → MadeRunsCheckEqual d e journal
made_checks d e journal n disk remote before after result L R g ok count honest stands shows clear =
    let ran = g.ran in
    let lanes = ((ran.report).lanes).items in
    let well = ok_clean (ran.order).items (all_as_memory lanes) (ran.report).not_saved
    (ran_ok journal (memory_status ran) (summary_text (replies_of g.after) g.rows) before after result.status (result.report).journal_failed g.journal ok) in
    subst (λ o. ReplaysEqual (d.content disk) (loaded e remote) o (map generated (range_with_len 0 (n + 1))) (replies_of g.after)) (sym (ap (λ v. v.items) (g.rest).order))
    (replays_equal d e source_told sink_told (Some still) disk remote (ports_of n) g.after lanes ran (map generated (range_with_len 0 (n + 1))) (replies_of g.after) L R g.served
    (were_clean lanes well.0) well.1 (few_ports n (ports_of n) refl count) honest stands shows clear
    (record { inputs_are = made_inputs (range_with_len 0 (n + 1)); empty = made_empty (range_with_len 0 (n + 1)); kept_are = made_kept g.after }))

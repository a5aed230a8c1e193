use Rattle.std.proofs.Common.{◌≡◌, ◌≤◌, ◌++◌, [], None, false, length, refl, ap, sym, subst, ◌∙◌, arith}
use Rattle.core_state.specs.History.{began}
use Rattle.core_state.specs.Upkeeps.{touches_kept}
use Rattle.store_history.specs.RemoteDisk.{RemoteStays, faults_of}
use Rattle.lane.specs.Entries.{has_kind}
use Rattle.lane.specs.Served.{RanAs}
use Rattle.lane.proofs.Halves.{each_counts}
use Rattle.pbs_server.specs.Ended.{NoneServed, served_of}
use Rattle.pbs_server.specs.Statuses.{endings_of, first_of, run_facts}
use Rattle.pbs_server.proofs.Causes.{caused, save_told}
use Rattle.pbs_server.proofs.Generated.{ended_of, unheld}
use Rattle.pbs_server.proofs.Leaving.{memory_asks, opening_asks, unopened, unturned}
use Rattle.pbs_server.proofs.Remotes.{rose_by}
use Rattle.pbs_server.proofs.Running.{count, kept, memory, opened_fresh, order_is, reached, rests, saves}
use Rattle.pbs_server.proofs.Woven.{has_both, opening_at}
use Rattle.pbs_server.proofs.run.run_ports.Goals as goal

pub serve_all-requires-clause-fresh : goal.serve_all-requires-clause-fresh
serve_all-requires-clause-fresh g c κs lives = opened_fresh g.C.Clock c.args.clock c.in-Ok-open_on.core c.in-Ok-open_on.ensures.records

-- there is a report of each session, and room for it
pub push_all-requires : goal.push_all-requires
push_all-requires g c =
    let on = c.in-Ok-serve_all.ensures.ok in
    let each = (each_counts (RanAs g.S.Source g.K.Sink) 0 c.args.ports.now c.serve_all.new.ports c.in-Ok-serve_all.reports.items on.runs on.events on.each).0 in
    let none = c.in-Ok.ensures.len in
    let room = c.in-Ok.ensures.capacity in
    let is = ap length c.as_slice.ensures.value in
    omega (arith, each, none, room, is)

pub save-not_saved-requires : goal.save-not_saved-requires
save-not_saved-requires g c =
    let d = g.D.Disk in
    let first = c.in-Ok-open_on.core in
    let o = opening_at d c.args.disk first [] in
    let h = began o None (g.C.Clock.readings c.args.clock) in
    let now = reached d g.E.Disk g.C.Clock g.S.Source g.K.Sink first c.in-Ok-serve_all.core c.args.ports.now c.serve_all.new.ports c.in-Ok-serve_all.reports.items c.in-Ok-serve_all.ensures.ok h
    (c.in-Ok-open_on.ensures.records o None refl) refl in
    record { early = (now.records).early }

pub returns-in-Ok-serve_all-clause-ended : goal.returns-in-Ok-serve_all-clause-ended
returns-in-Ok-serve_all-clause-ended g c =
    let d = g.D.Disk in
    let e = g.E.Disk in
    let s = g.S.Source in
    let k = g.K.Sink in
    let disk = c.args.disk in
    let on = c.in-Ok-serve_all.ensures.ok in
    let old = c.args.ports.now in
    let new = c.serve_all.new.ports in
    let reports = c.in-Ok-serve_all.reports.items in
    let core = c.in-Ok-serve_all.core in
    let saved = c.save-not_saved.new.core in
    let lanes = c.push_all.new.lanes in
    let not_saved = c.save-not_saved.result in
    let left = served_of (record { core = saved; lanes = lanes; not_saved = not_saved }) in
    let readings = g.C.Clock.readings in
    let opened = c.in-Ok-open_on.ensures in
    let first = c.in-Ok-open_on.core in
    let o = opening_at d disk first [] in
    let h = began o None (readings c.args.clock) in
    let begun = opened.records o None refl in
    let now = reached d e g.C.Clock s k first core old new reports on h begun refl in
    let ends = c.save-not_saved.ensures in
    let honest = kept d e g.C.Clock s k first core old new reports on h begun refl in
    let entries_are : (saved.journal).entries.items ≡ (core.journal).entries.items = ap (λ x. (x.journal).entries.items) ends.rest in
    let calls_are : (saved.journal).calls.items ≡ (core.journal).calls.items = ap (λ x. (x.journal).calls.items) ends.rest in
    let counted = count d e g.C.Clock s k first core old new reports on h begun refl in
    let given : lanes.items ≡ reports = c.push_all.ensures ∙ ap (λ xs. xs ++ c.as_slice.result.now) c.in-Ok.ensures.items ∙ c.as_slice.ensures.value in
    let status : left.status ≡ first_of (run_facts (left.order).items (endings_of reports) not_saved false) =
    ap (λ xs. first_of (run_facts (left.order).items (endings_of xs) not_saved false)) given in
    let rested = rests d e g.C.Clock s k first core old new reports on h begun refl (left.order).items ((left.report).calls).items entries_are calls_are (opened.begun).fault
    (λ x. opened.book ((opened.serves).kept.1 x)) in
    let saving = saves d e g.C.Clock s k first core old new reports on h begun refl saved (left.order).items not_saved entries_are ends in
    let both = has_both d e s k readings c.args.clock disk c.args.remote first core saved old new (left.order).items ((left.report).calls).items not_saved reports on.runs on.events left.disk
    (touches_kept core.upkeep) rested saving
    (g.met.D.Disk g.world.𝓛 g.world.𝓜 g.world.𝓡 ((λ s x. x), (λ x. x), (λ x. x), λ x. x)).told (opened.handed).0 opened.opened opened.touches opened.recovers (opened.begun).last opened.book opened.cleaned
    now on.lanes on.each ends refl refl refl in
    let order = order_is d e g.C.Clock s k first core old new reports on h begun refl (saved.parts).disk (left.order).items ((left.report).calls).items disk left.disk c.args.remote left.remote (opened.handed).0
    (ap (λ x. x.remote) ends.rest)
    entries_are calls_are (opened.serves).count (ends.serves).count refl in
    let count_before : d.faults disk ≤ d.faults (core.parts).disk = let a = (opened.serves).count in omega (arith, a, counted) in
    let save = save_told (left.order).items not_saved (d.faults disk) (d.faults (core.parts).disk) (d.faults (saved.parts).disk) (d.faults left.disk)
    (λ five. (saving.halted five).1) count_before (ends.serves).cause refl in
    let wants = memory d e g.C.Clock s k first core old new reports on h begun refl in
    let some = (each_counts (RanAs s k) 0 old new reports on.runs on.events on.each).0 in
    ended_of d e s k (readings c.args.clock) disk c.args.remote old new (record { core = saved; lanes = lanes; not_saved = not_saved }) reports given
    (let at_least = c.requires.some in omega (arith, some, at_least))
    (record {
      told = both.told;
      opened = (first.parts).disk;
      was_opened = record { serves = opened.serves; opens = (opened.recovers).opens; cleaned = opened.cleaned };
      at_rest = (core.parts).disk;
      touches = touches_kept core.upkeep;
      rests = both.rests;
      saves = both.saves;
      since_is = both.since_is;
      plain = both.plain;
      stops = both.stops;
      status = status;
      why = caused s k left.status (left.order).items not_saved false old new reports (both.told).runs (both.told).events status (both.told).each _ _ _ _ order.faults save.faults
          (rose_by (left.order).items (faults_of e c.args.remote) (faults_of e left.remote) order.reads)
          (λ is. ap (has_kind 2) (entries_are ∙ (now.records).entries) ∙ wants is);
      stays = subst (λ r. RemoteStays e c.args.remote r) (sym (ap (λ x. x.remote) ends.rest)) (subst (λ r. RemoteStays e r core.remote) (opened.handed).0 (now.remote).stays);
      unread = λ none. ap (λ x. x.remote) ends.rest ∙ both.unread none;
      order = order;
      save = save;
      faults = let a = (opened.serves).count in let n = (ends.serves).count in omega (arith, a, n, counted);
      kept = (λ x. (ends.serves).kept.0 (honest.0 ((opened.serves).kept.0 x)), λ x. (opened.serves).kept.1 (honest.1 ((ends.serves).kept.1 x)));
      not_opened = refl;
    })
    (λ L R beside honest stands clear. both.rows L R beside honest stands clear (both.plain L R beside honest stands clear))

-- there was no memory for a turn
pub returns-in-Err-serve_all-clause-none : goal.returns-in-Err-serve_all-clause-none
returns-in-Err-serve_all-clause-none g c =
    let d = g.D.Disk in
    let opened = c.in-Ok-open_on.ensures in
    let first = c.in-Ok-open_on.core in
    let given = c.not_turned.ensures in
    let left = c.not_turned.result in
    let same = (c.in-Err-serve_all.ensures.err).0 in
    subst (λ ports. NoneServed d c.args.disk c.args.remote c.args.ports.now ports left) (sym (c.in-Err-serve_all.ensures.err).1)
    (record {
      leaves = unturned d (g.C.Clock.readings) c.args.disk c.args.remote c.args.clock c.args.ports.now first left given.status given.not_opened given.not_saved given.order given.calls
          (given.disk ∙ ap (λ x. (x.parts).disk) same) (given.remote ∙ ap (λ x. x.remote) same) opened.handed opened.serves opened.recovers opened.cleaned;
      status = memory_asks left.status given.status;
      lanes = given.lanes;
      journal = given.journal;
      unequal = given.unequal;
    })

pub returns-in-Err-clause-none : goal.returns-in-Err-clause-none
returns-in-Err-clause-none g c =
    let given = c.not_served-in-Err.ensures in
    let left = c.not_served-in-Err.result in
    let e = c.in-Err.ensures in
    let status = given.status ∙ c.by_opening.ensures in
    record {
      leaves = unopened g.D.Disk c.args.disk c.args.remote c.args.clock c.args.ports.now c.in-Err.not_opened left
          status given.not_opened given.not_saved given.order given.calls given.disk given.remote e.serves e.crash e.not_opened;
      status = opening_asks left.status c.in-Err.not_opened.cause status;
      lanes = given.lanes;
      journal = given.journal;
      unequal = given.unequal;
    }

-- there was no memory for the reports
pub returns-in_default-clause-none : goal.returns-in_default-clause-none
returns-in_default-clause-none g c =
    let given = c.not_served.ensures in
    unheld g.D.Disk c.args.disk c.args.remote c.not_served.result c.args.ports.now given.status given.not_opened given.not_saved given.order given.lanes given.calls given.journal given.unequal given.disk given.remote

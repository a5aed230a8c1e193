-- An act is entered: the core stands for a history that is longer by one event.
use Rattle.disk_trait.specs.declared.disk.Disk.{Ghosts}
use Rattle.std.proofs.Common.{◌≡◌, ◌<◌, ◌≤◌, ℕ, Bool, true, false, ◌&&◌, ◌==◌, [], ◌∷◌, ◌++◌, length, Option, Some, None, IfSome, is_some, sym, ap, subst, ◌∙◌, arith}
use Rattle.std.proofs.lemmas.List.{map-append, length-map}
use Rattle.port_traits.specs.Readings.{Readings}
use Rattle.store_types.specs.declared.order.Entry.{Entry}
use Rattle.wire_commands.specs.declared.reply.Reply.{Reply}
use Rattle.store_history.specs.declared.act.Act.{Act}
use Rattle.store_history.specs.declared.act.Answer.{Answer}
use Rattle.store_history.specs.declared.act.Event.{Event}
use Rattle.store_history.specs.Acts.{IsWellFormed, class_of}
use Rattle.store_history.specs.History.{World, opened, after, moved, entry, moment, kind_of, sent_by}
use Rattle.store_history.specs.Legal.{IsRight, Right, moment_at, later, readings_left, moment_after}
use Rattle.store_history.proofs.Longer.{after_all_more, legal_more, timed_more, readings_more, moment_is, events_after, entries_more}
use Rattle.core_state.specs.declared.state.Core.{Core}
use Rattle.core_state.specs.Collectors.{collector_by, open_in, shown_collecting}
use Rattle.core_state.specs.Holds.{Shows, IsOnDisk}
use Rattle.core_state.specs.History.{History, world, then_event, pieces_of, event_of, KeepsTime, StandsFor}
use Rattle.core_state.specs.Settles.{IsEntered}
use Rattle.core_state.specs.Begins.{ReadsClock}
use Rattle.store_history.specs.ChunkFiles.{HoldsOnly}
use Rattle.core_state.proofs.Chunks.{pieces_more}

-- the world after one more event
pub world_more : (h : History) (e : Event) → world (then_event h e) ≡ after h.remote (world h) e
world_more h e = after_all_more h.remote (opened h.opening) h.events e

pub events_are : (h : History) → (world h).events ≡ length h.events
events_are h = let e = events_after h.remote (opened h.opening) h.events in omega (arith, e)

-- ---- one more event, whatever it is

pub record Grows {D E C : Type 0} (d : Ghosts D) (readings : C → Option Readings) (old new : Core D E C) (h : History) (e : Event) : Type 0 where
  pub right : IsRight h.remote (world h) e
  pub entries : (new.journal).entries.items ≡ (old.journal).entries.items ++ entry e ∷ []
  pub calls : (new.journal).calls.items ≡ (old.journal).calls.items ++ e.calls ∷ []
  pub clock : ReadsClock readings old.clock new.clock old.last (moment e)
  pub last : new.last ≡ moment e
  pub fault : new.fault ≡ (after h.remote (world h) e).fault
  pub reached : e.calls ≤ d.calls (new.parts).disk
  pub honest : d.honest (new.parts).disk
  pub remote : is_some new.remote ≡ is_some old.remote
  pub shows : Shows new.parts (after h.remote (world h) e).store
  pub collecting : open_in new.collector ≡ shown_collecting (after h.remote (world h) e).collecting
  pub files : (after h.remote (world h) e).fault ≡ None → IsOnDisk (d.content (new.parts).disk) (after h.remote (world h) e).store
  pub chunks : (after h.remote (world h) e).fault ≡ None → HoldsOnly (d.content (new.parts).disk) (pieces_of h ++ sent_by e.act)

pub time_more : {C : Type 0} (readings : C → Option Readings) (old new : C) (last : ℕ) (h : History) (e : Event)
    → last ≡ moment_after (h.opening).moment h.events → KeepsTime readings old h → ReadsClock readings old new last (moment e) → KeepsTime readings new (then_event h e)
time_more readings old new last h e is keeps reads = by_clock h.clock keeps
  where
    by_clock : (o : Option Readings)
        → IfSome o (λ c. Rattle.store_history.specs.Legal.IsTimed c (h.opening).moment h.events × (readings old ≡ Some (readings_left c h.events)))
        → IfSome o (λ c. Rattle.store_history.specs.Legal.IsTimed c (h.opening).moment (h.events ++ e ∷ []) × (readings new ≡ Some (readings_left c (h.events ++ e ∷ []))))
    by_clock None k = tt
    by_clock (Some c) k =
        let rule = reads.rule (readings_left c h.events) k.1 in (
          timed_more c (h.opening).moment h.events e k.0 (rule.0 ∙ ap (moment_at (readings_left c h.events)) is),
          rule.1 ∙ ap (λ r. Some r) (sym (readings_more c h.events e)),
        )

pub grown : {D E C : Type 0} (d : Ghosts D) (readings : C → Option Readings) (old new : Core D E C) (h : History) (e : Event)
    → StandsFor d readings old h → Grows d readings old new h e
    → StandsFor d readings new (then_event h e)
unfolding after
grown d readings old new h e s g = let more = sym (world_more h e) in record {
  legal = legal_more h.remote (opened h.opening) h.events e s.legal g.right;
  entries = g.entries ∙ ap (λ xs. xs ++ entry e ∷ []) s.entries ∙ sym (entries_more h.events e);
  calls = g.calls ∙ ap (λ xs. xs ++ e.calls ∷ []) s.calls ∙ sym (map-append (λ v. v.calls) h.events (e ∷ []));
  fault = g.fault ∙ ap (λ w. w.fault) more;
  last = g.last ∙ ap (λ w. w.moment) more;
  time = time_more readings old.clock new.clock old.last h e (s.last ∙ moment_is h.remote (opened h.opening) h.events) s.time g.clock;
  reached = let at = ap (λ w. w.calls) (world_more h e) in let r = g.reached in omega (arith, at, r);
  honest = g.honest;
  remote = g.remote ∙ s.remote;
  shows = subst (λ w. Shows new.parts w.store) more g.shows;
  collecting = g.collecting ∙ ap (λ w. shown_collecting w.collecting) more;
  files = subst (λ w. w.fault ≡ None → IsOnDisk (d.content (new.parts).disk) w.store) more g.files;
  chunks = λ none. subst (λ ps. HoldsOnly (d.content (new.parts).disk) ps) (sym (pieces_more h e)) (g.chunks (ap (λ w. w.fault) more ∙ none));
}

-- ---- by an entry

and_true : (a b : Bool) → a && b ≡ true → b ≡ true
and_true true b h = h
and_true false b h = absurd (false_true h)
  where
    false_true : false ≡ true → ⊥
    false_true e = cc

-- where the world goes by an act of this kind
abbrev pub moves : History → ℕ → ℕ → Act → ℕ → World
moves h k m act n = moved h.remote (world h) k m act (kind_of n)

-- Between the act and its entry the core has the parts, and the fault, of the world after.
pub record IsActed {D E C : Type 0} (d : Ghosts D) (readings : C → Option Readings) (old mid : Core D E C) (h : History) (k m : ℕ) (act : Act) (n : ℕ) : Type 0 where
  pub clock : ReadsClock readings old.clock mid.clock old.last m
  pub entries : (mid.journal).entries.items ≡ (old.journal).entries.items
  pub calls : (mid.journal).calls.items ≡ (old.journal).calls.items
  pub later : d.calls (old.parts).disk ≤ d.calls (mid.parts).disk
  pub honest : d.honest (mid.parts).disk
  pub remote : is_some mid.remote ≡ is_some old.remote
  pub fault : mid.fault ≡ (moves h k m act n).fault
  pub shows : Shows mid.parts (moves h k m act n).store
  -- its collector is that once it is entered
  pub collecting : open_in (collector_by n k mid.collector) ≡ shown_collecting (moves h k m act n).collecting
  pub files : (moves h k m act n).fault ≡ None → IsOnDisk (d.content (mid.parts).disk) (moves h k m act n).store
  pub chunks : (moves h k m act n).fault ≡ None → HoldsOnly (d.content (mid.parts).disk) (pieces_of h ++ sent_by act)

pub entered_stands : {D E C : Type 0} (d : Ghosts D) (readings : C → Option Readings) (old mid new : Core D E C) (h : History)
    (k m : ℕ) (act : Act) (n : ℕ) (reply : Option Reply) (answer : Answer)
    → StandsFor d readings old h
    → k < 64 → IsWellFormed act → Right h.remote (world h) k m act reply (class_of act) (kind_of n)
    → IsActed d readings old mid h k m act n → IsEntered d mid new k m n reply answer
    → StandsFor d readings new (then_event h (event_of act answer (d.calls (new.parts).disk)))
unfolding after
entered_stands d readings old mid new h k m act n reply answer s inside formed says a e =
    let R = h.remote in let w = world h in
    let here : d.calls (new.parts).disk ≡ d.calls (mid.parts).disk = ap (λ p. d.calls p.disk) e.parts in
    let at : (λ (x : Entry). x) answer.entry ≡ record { lane = k; moment = m; kind = n } = e.entry in
    let moment_is : (answer.entry).moment ≡ m = ap (λ x. x.moment) e.entry in
    let lane_is : (answer.entry).lane ≡ k = ap (λ x. x.lane) e.entry in
    let kind_is : (answer.entry).kind ≡ n = ap (λ x. x.kind) e.entry in
    let moved_is : moves h k m act n ≡ moved R w (answer.entry).lane (answer.entry).moment act (kind_of (answer.entry).kind) =
    sym (ap (λ (x : Entry). moved R w x.lane x.moment act (kind_of x.kind)) e.entry) in
    let last_is = (s.last) in
    grown d readings old new h (event_of act answer (d.calls (new.parts).disk)) s (record {
      right = record {
        says = subst (λ (x : Entry). Right R w x.lane x.moment act answer.reply (class_of act) (kind_of x.kind)) (sym e.entry)
            (subst (λ r. Right R w k m act r (class_of act) (kind_of n)) (sym e.reply_is) says);
        formed = formed;
        inside = subst (λ x. x < 64) (sym lane_is) inside;
        place = e.place ∙ ap length a.entries ∙ ap length s.entries ∙ length-map h.events entry ∙ sym (events_are h);
        last = λ t. kind_is ∙ two n (and_true e.is_held (n == 2) (sym e.last_held ∙ t));
        risen = let r = (a.clock).risen in omega (arith, r, last_is, moment_is);
        in_time = let r = (a.clock).in_time in omega (arith, r, moment_is);
        counted = let r = s.reached in let l = a.later in omega (arith, r, l, here);
      };
      entries = e.entries ∙ ap (λ xs. xs ++ answer.entry ∷ []) a.entries;
      calls = e.calls ∙ ap (λ xs. xs ++ d.calls (mid.parts).disk ∷ []) a.calls ∙ ap (λ c. (old.journal).calls.items ++ c ∷ []) (sym here);
      clock = subst (λ x. ReadsClock readings old.clock new.clock old.last x) (sym moment_is) (subst (λ c. ReadsClock readings old.clock c old.last m) (sym e.clock) a.clock);
      last = e.last ∙ sym moment_is;
      fault = e.fault ∙ a.fault ∙ ap (λ x. x.fault) moved_is;
      reached = omega arith;
      honest = subst (λ p. d.honest p.disk) (sym e.parts) a.honest;
      remote = ap is_some e.remote ∙ a.remote;
      shows = subst (λ x. Shows new.parts x.store) moved_is (subst (λ p. Shows p (moves h k m act n).store) (sym e.parts) a.shows);
      collecting = ap open_in e.collector ∙ a.collecting ∙ ap (λ x. shown_collecting x.collecting) moved_is;
      files = subst (λ x. x.fault ≡ None → IsOnDisk (d.content (new.parts).disk) x.store) moved_is
          (subst (λ p. (moves h k m act n).fault ≡ None → IsOnDisk (d.content p.disk) (moves h k m act n).store) (sym e.parts) a.files);
      chunks = subst (λ x. x.fault ≡ None → HoldsOnly (d.content (new.parts).disk) (pieces_of h ++ sent_by act)) moved_is
          (subst (λ p. (moves h k m act n).fault ≡ None → HoldsOnly (d.content p.disk) (pieces_of h ++ sent_by act)) (sym e.parts) a.chunks);
    })
  where
    two : (x : ℕ) → (x == 2) ≡ true → x ≡ 2
    two x t = Rattle.std.proofs.lemmas.Bool.eqb-true x 2 t

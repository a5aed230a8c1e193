-- A start is entered: its collector opened, or it was refused as it was done.
use Rattle.disk_trait.specs.declared.disk.Disk.{Ghosts}
use Rattle.std.proofs.Common.{◌≡◌, ◌<◌, ℕ, List, [], ◌++◌, is_some, Option, Some, None, Ok, Err, refl, sym, ap, subst, ◌∙◌, arith}
use Rattle.port_traits.specs.Readings.{Readings}
use Rattle.store_types.specs.declared.refusal.Refusal.{Refusal}
use Rattle.store_types.specs.declared.refusal.Refusal.TheVariants.{NoMemory}
use Rattle.wire_commands.specs.declared.reply.Reply.TheVariants.{Refused}
use Rattle.disk_trait.specs.declared.disk.DiskError.TheVariants.{NoMemory as DiskMemory}
use Rattle.store_history.specs.declared.act.Act.{Act}
use Rattle.store_history.specs.declared.act.Act.TheVariants.{Start}
use Rattle.store_history.specs.declared.act.Answer.{Answer}
use Rattle.store_history.specs.Acts.{Class, starting, class_of}
use Rattle.store_history.specs.History.{act_outcome, moved, sent_by, short_kind, step_kind}
use Rattle.store_history.specs.Legal.{may_open, Refuses, Right}
use Rattle.core_state.specs.declared.collector.Collector.{Collector}
use Rattle.core_state.specs.declared.state.Core.{Core}
use Rattle.core_state.specs.Begins.{IsBegun, IsReady}
use Rattle.store_history.specs.ChunkFiles.{HoldsOnly}
use Rattle.core_state.specs.Collectors.{collector_by, open_in, shown_collecting}
use Rattle.core_state.specs.History.{History, StandsFor, event_of, pieces_of, then_event, world}
use Rattle.core_state.specs.Holds.{IsOnDisk, Shows}
use Rattle.core_state.specs.Settles.{IsEntered, Settles}
use Rattle.core_state.proofs.Answered.{IsDone, acted_by}
use Rattle.core_state.proofs.Beginning.{IsStart, start_class, start_formed, start_no_sweep}
use Rattle.core_state.proofs.Chunks.{only_same}
use Rattle.core_state.proofs.Collecting.{opens, short_shown, step_shown}
use Rattle.core_state.proofs.Entered.{IsActed, entered_stands, moves}

module _ {D E C : Type 0} (d : Ghosts D) (readings : C → Option Readings) (old mid : Core D E C) (h : History) (k m : ℕ) (s : StandsFor d readings old h) (ready : IsReady readings old mid k m) where
  abbrev b : IsBegun readings old mid k m
  b = ready.begun

  fault : (world h).fault ≡ None
  fault = sym s.fault ∙ ready.no_fault

  begun : open_in mid.collector ≡ shown_collecting (world h).collecting
  begun = ap open_in b.collector ∙ s.collecting

  honest : d.honest (mid.parts).disk
  honest = subst (λ p. d.honest p.disk) (sym b.parts) s.honest

  shows : Shows mid.parts (world h).store
  shows = subst (λ p. Shows p (world h).store) (sym b.parts) s.shows

  files : IsOnDisk (d.content (mid.parts).disk) (world h).store
  files = subst (λ p. IsOnDisk (d.content p.disk) (world h).store) (sym b.parts) (s.files fault)

  only : (sent : List (List ℕ)) → HoldsOnly (d.content (mid.parts).disk) (pieces_of h ++ sent)
  only sent = subst (λ p. HoldsOnly (d.content p.disk) (pieces_of h ++ sent)) (sym b.parts) (only_same (d.content (old.parts).disk) (pieces_of h) sent (s.chunks fault))

  same : IsDone d readings old mid mid k m
  same = record { ready = ready; journal = refl; clock = refl; fault = refl; remote = refl; collector = refl; later = omega arith }

  -- it opens on the lane
  opened_shown : (c : Collector) → c.lane ≡ k → c.ended ≡ None → open_in (collector_by 3 k (Some c)) ≡ shown_collecting (moves h k m Start 3).collecting
  unfolding moved
  opened_shown c lane goes = ap (λ n. opens n c.ended) lane ∙ ap (opens k) goes

  opened_acted : (c : Collector) → c.lane ≡ k → c.ended ≡ None → IsActed d readings old (record mid { collector = Some c }) h k m Start 3
  unfolding moved
  opened_acted c lane goes = record {
    clock = b.clock;
    entries = (b.entries).entries;
    calls = (b.entries).calls;
    later = let e = ap (λ p. d.calls p.disk) b.parts in omega (arith, e);
    honest = honest;
    remote = ap is_some b.remote;
    fault = b.fault ∙ s.fault;
    shows = shows;
    collecting = opened_shown c lane goes;
    files = λ _. files;
    chunks = λ _. only [];
  }

  pub opened_stands : (new : Core D E C) (c : Collector) (answer : Answer) → k < 64 → may_open (world h) k ≡ Ok tt → c.lane ≡ k → c.ended ≡ None
      → IsEntered d (record mid { collector = Some c }) new k m 3 None answer → StandsFor d readings new (then_event h (event_of Start answer (d.calls (new.parts).disk)))
  opened_stands new c answer inside may lane goes entered =
      entered_stands d readings old (record mid { collector = Some c }) new h k m Start 3 None answer s inside tt (fault, may, refl) (opened_acted c lane goes) entered

  -- ---- any start

  -- it does nothing to the store
  start_store : (act : Act) → IsStart act → (moves h k m act 0).store ≡ (world h).store
  unfolding moved act_outcome
  start_store Start is = refl
  start_store act is = absurd is

  right_refused : (act : Act) (r : Refusal) (c : Class) → c ≡ starting → may_open (world h) k ≡ Err r → Right h.remote (world h) k m act (Some (Refused r)) c step_kind
  right_refused act r c is may =
      subst (λ c. Right h.remote (world h) k m act (Some (Refused r)) c step_kind) (sym is) (fault, subst (λ o. Refuses o (Some (Refused r))) (sym may) refl)

  right_short : (act : Act) (c : Class) → c ≡ starting → Right h.remote (world h) k m act (Some (Refused NoMemory)) c short_kind
  right_short act c is = subst (λ c. Right h.remote (world h) k m act (Some (Refused NoMemory)) c short_kind) (sym is) refl

  -- refused by its tests
  pub start_told_stands : (new : Core D E C) (act : Act) (r : Refusal) (answer : Answer) → IsStart act → k < 64 → may_open (world h) k ≡ Err r
      → Settles d mid new k m (Ok (Refused r)) answer → StandsFor d readings new (then_event h (event_of act answer (d.calls (new.parts).disk)))
  unfolding moved
  start_told_stands new act r answer starts inside may settles =
      entered_stands d readings old (record mid { fault = mid.fault }) new h k m act 0 (Some (Refused r)) answer s inside (start_formed act starts)
      (right_refused act r (class_of act) (start_class act starts) may)
      (acted_by d readings old mid mid h k m act 0 mid.fault same (step_shown h.remote (world h) k m act (start_no_sweep act starts) mid.collector begun) (b.fault ∙ s.fault) honest
      (subst (Shows mid.parts) (sym (start_store act starts)) shows) (λ _. subst (IsOnDisk (d.content (mid.parts).disk)) (sym (start_store act starts)) files) (λ _. only (sent_by act))) settles

  -- memory was wanting as it was done
  pub start_short_stands : (new : Core D E C) (act : Act) (answer : Answer) → IsStart act → k < 64
      → Settles d mid new k m (Err DiskMemory) answer → StandsFor d readings new (then_event h (event_of act answer (d.calls (new.parts).disk)))
  unfolding moved
  start_short_stands new act answer starts inside settles =
      entered_stands d readings old (record mid { fault = mid.fault }) new h k m act 2 (Some (Refused NoMemory)) answer s inside (start_formed act starts)
      (right_short act (class_of act) (start_class act starts))
      (acted_by d readings old mid mid h k m act 2 mid.fault same (short_shown h.remote (world h) k m act (start_no_sweep act starts) mid.collector begun) (b.fault ∙ s.fault) honest shows
      (λ _. files) (λ _. only (sent_by act))) settles

-- A snapshot that was acknowledged is in what a crash leaves.
use Rattle.std.proofs.Common.{◌≡◌, ◌≤◌, ◌+◌, ◌⊎◌, inl, inr, ℕ, zero, suc, Bool, true, false, not, ◌&&◌, ◌==◌, if◌then◌else◌, List, [], ◌∷◌, ◌++◌, All, take, Option, Some, IsTrue, Ok, Err, is_none, refl, sym, ap, subst, ◌∙◌, arith, nat_le}
use Rattle.std.proofs.lemmas.List.Elements.{All-head, All-tail}
use Rattle.store_types.specs.declared.refusal.Refusal.{Refusal}
use Rattle.store_types.specs.declared.refusal.Refusal.TheVariants.{NoMemory}
use Rattle.store_types.specs.declared.order.TheConstants.{FAULT_KIND}
use Rattle.store_files.specs.Archive.{Snapshot}
use Rattle.wire_commands.specs.declared.command.Command.TheVariants as commands
use Rattle.wire_commands.specs.declared.reply.Reply.{Reply}
use Rattle.wire_commands.specs.declared.reply.Reply.TheVariants.{Done, Refused}
use Rattle.store_model.specs.Stands.{keys_rise}
use Rattle.store_model.specs.Steps.{outcome, answered}
use Rattle.store_model.specs.Store.{Writer, writer, Store, Outcome, session, insert_snapshot}
use Rattle.store_model.specs.Weave.{fault_refusal}
use Rattle.store_model.proofs.Done.{done}
use Rattle.store_model.specs.WriterSteps.{snapshot_of}
use Rattle.store_history.specs.declared.act.Act.{Act}
use Rattle.store_history.specs.declared.act.Act.TheVariants as acts
use Rattle.store_history.specs.declared.act.Event.{Event}
use Rattle.store_history.specs.Acts.{IsWellFormed, stepping, class_of}
use Rattle.store_history.specs.CrashPoints.{answered_by, one_more, is_past, Either, Reopens}
use Rattle.store_history.specs.History.{Opening, World, EntryKind, kind_of, act_outcome, opened, lane, moment, kind, reply, moved, after, after_all}
use Rattle.store_history.specs.Legal.{Right, IsRight, IsLegal}
use Rattle.store_history.proofs.Longer.{after_all_more}
use Rattle.store_history.proofs.Prefixes.{reopens_to}
use Rattle.pbs_server.specs.Acknowledged.{IsForgetOf, Spares, Stands, AcknowledgedStay, FoundAfter, FoundStay}
use Rattle.pbs_server.proofs.Changes.{moved_changes}
use Rattle.pbs_server.proofs.Orderly.{Orderly, orderly_after, orderly_opened, Among, among_after, among_named, among_new, named_among}

-- ---- the snapshot stays in the course of a history, up to the moment

-- no two snapshots have one key, and it is one of them
pub record Has (x : Snapshot) (s : Store) : Type 0 where
  orderly : Orderly s
  among : Among x s.snapshots

named_in : (x : Snapshot) (s : Store) → Has x s → Stands x s.snapshots
named_in x s h = named_among s.snapshots x (h.orderly).order h.among

module _ (R : Option (List Snapshot)) where
  orderly_kept : (w : World) (e : Event) → IsRight R w e → Orderly w.store → Orderly (after R w e).store
  unfolding after
  orderly_kept w e right h =
      let n = kind_of (kind e) in
      orderly_after (λ key. IsForgetOf key e.act) w.store (moved R w (lane e) (moment e) e.act n).store (lane e)
      (moved_changes R w (lane e) (moment e) e.act right.formed n) h

  orderly_all : (w : World) (es : List Event) → IsLegal R w es → Orderly w.store → Orderly (after_all R w es).store
  unfolding after_all
  orderly_all w [] legal h = h
  orderly_all w (e ∷ es) legal h = orderly_all (after R w e) es legal.1 (orderly_kept w e legal.0 h)

  module _ (x : Snapshot) where
    abbrev Spared : Event → Type 0
    Spared e = IsForgetOf x.key e.act → ⊥

    moved_keeps : (w : World) (e : Event) (n : EntryKind) → IsWellFormed e.act → Spared e → Has x w.store → Has x (moved R w (lane e) (moment e) e.act n).store
    moved_keeps w e n formed spared h =
        let t = (moved R w (lane e) (moment e) e.act n).store in
        let changes = moved_changes R w (lane e) (moment e) e.act formed n in
        record {
          orderly = orderly_after (λ key. IsForgetOf key e.act) w.store t (lane e) changes h.orderly;
          among = among_after (λ key. IsForgetOf key e.act) w.store t (lane e) changes h.orderly x spared h.among;
        }

    after_keeps : (w : World) (e : Event) → IsWellFormed e.act → Spared e → Has x w.store → Has x (after R w e).store
    unfolding after
    after_keeps w e formed spared h = moved_keeps w e (kind_of (kind e)) formed spared h

    -- what it gives where it meets no fault is what it gives as an entry of kind 0
    undisturbed_keeps : (w : World) (e : Event) → IsWellFormed e.act → Spared e → Has x w.store → Has x (one_more R w e)
    unfolding after moved
    undisturbed_keeps w e formed spared h = by_test (kind e == FAULT_KIND)
      where
        by_test : (b : Bool) → Has x (if b then (moved R w (lane e) (moment e) e.act (kind_of 0)).store else (after R w e).store)
        by_test true = moved_keeps w e (kind_of 0) formed spared h
        by_test false = after_keeps w e formed spared h

    up : (n : ℕ) (e : Event) (es : List Event) → take (n + 1) (e ∷ es) ≡ e ∷ take n es
    up n e es = ap (λ k. take k (e ∷ es)) (let one : n + 1 ≡ suc n = omega arith in one)

    first_spared : (t : ℕ) (e : Event) (es : List Event) → Spares x.key t (e ∷ es) → Spared e
    first_spared t e es spares = All-head Spared e (take (answered_by t (e ∷ es)) es) (subst (All Spared) (up (answered_by t (e ∷ es)) e es) spares)

    rest_spared : (t : ℕ) (e : Event) (es : List Event) → nat_le e.calls t ≡ true → Spares x.key t (e ∷ es) → Spares x.key t es
    rest_spared t e es by_then spares =
        let n : answered_by t (e ∷ es) ≡ answered_by t es + 1 = ap (λ b. if b then answered_by t es + 1 else 0) by_then in
        All-tail Spared e (take (answered_by t es + 1) es) (subst (All Spared) (ap (λ k. take (k + 1) (e ∷ es)) n ∙ up (answered_by t es + 1) e es) spares)

    past_by_then : (a b c : Bool) → a && b && c ≡ true → a ≡ true
    past_by_then true b c is = refl
    past_by_then false b c is = is

    reopens_keeps : (w : World) (es : List Event) (t : ℕ) (found : List Snapshot) → IsLegal R w es → Spares x.key t es → Has x w.store
        → Reopens R w es t found → Stands x found
    reopens_keeps w [] t found legal spares h reopens = subst (Stands x) (sym reopens) (named_in x w.store h)
    reopens_keeps w (e ∷ es) t found legal spares h reopens = by_test (reopens_keeps (after R w e) es t found legal.1) (is_past t w e) refl reopens
      where
        spared : Spared e
        spared = first_spared t e es spares

        by_test : (Spares x.key t es → Has x (after R w e).store → Reopens R (after R w e) es t found → Stands x found)
            → (b : Bool) → is_past t w e ≡ b
            → Either b (Reopens R (after R w e) es t found) ((found ≡ (w.store).snapshots) ⊎ (found ≡ (one_more R w e).snapshots)) → Stands x found
        by_test ih true past further =
            ih (rest_spared t e es (past_by_then (nat_le e.calls t) (not (kind e == FAULT_KIND)) (is_none w.fault) past) spares) (after_keeps w e (legal.0).formed spared h) further
        by_test ih false past (inl as_was) = subst (Stands x) (sym as_was) (named_in x w.store h)
        by_test ih false past (inr more) = subst (Stands x) (sym more) (named_in x (one_more R w e) (undisturbed_keeps w e (legal.0).formed spared h))

-- ---- a FINISH that was answered 0

not_done : (r : Option Reply) (refusal : Refusal) → r ≡ Some Done → r ≡ Some (Refused refusal) → ⊥
not_done r refusal done is = let clash : Some Done ≡ Some (Refused refusal) = sym done ∙ is in cc

-- it meets no fault, and there was none before
calm_by : (R : Option (List Snapshot)) (w : World) (k m n : ℕ) (r : Option Reply) (a : Act) → a ≡ acts.Plain commands.Finish → Right R w k m a r (class_of a) (kind_of n) → r ≡ Some Done
    → is_none (moved R w k m a (kind_of n)).fault ≡ true
unfolding moved
calm_by R w k m n r a asks right done =
    subst (λ x. is_none (moved R w k m x (kind_of n)).fault ≡ true) (sym asks)
    (by_kind n (subst (λ x. Right R w k m x r (class_of x) (kind_of n)) asks right))
  where
    fin : Act
    fin = acts.Plain commands.Finish

    by_kind : (n : ℕ) → Right R w k m fin r stepping (kind_of n) → is_none (moved R w k m fin (kind_of n)).fault ≡ true
    by_kind zero right = ap is_none right.0
    by_kind (suc zero) right = absurd right
    by_kind (suc (suc zero)) right = absurd (not_done r NoMemory done right.0)
    by_kind (suc (suc (suc zero))) right = absurd right
    by_kind (suc (suc (suc (suc zero)))) right = absurd right
    by_kind (suc (suc (suc (suc (suc zero))))) right = absurd (not_done r (fault_refusal w.fault) done right)
    by_kind (suc (suc (suc (suc (suc (suc zero)))))) right = absurd right
    by_kind (suc (suc (suc (suc (suc (suc (suc zero))))))) right = absurd right
    by_kind (suc (suc (suc (suc (suc (suc (suc (suc n)))))))) right = absurd right

same_writer : (v u : Writer) → writer v ≡ writer u → v ≡ u
same_writer v u e = cc

-- done, the snapshot of the lane's writer is there
finished_puts : (s : Store) (k m : ℕ) (v : Writer) → session s k ≡ writer v → (o : Outcome) → outcome s k m commands.Finish ≡ o → (answered s o).1 ≡ Done
    → Among (snapshot_of v) ((answered s o).0).snapshots
finished_puts s k m v is (Err refusal) e told = cc
finished_puts s k m v is (Ok after) e told =
    let d = done s k m commands.Finish after e in
    subst (λ (x : Store × Reply). Among (snapshot_of v) (x.0).snapshots) (sym d.4)
    (subst (λ u. Among (snapshot_of u) (insert_snapshot (snapshot_of d.0) s.snapshots)) (same_writer d.0 v (sym d.2 ∙ is)) (among_new (snapshot_of d.0) s.snapshots))

puts_by : (R : Option (List Snapshot)) (w : World) (k m n : ℕ) (r : Option Reply) (v : Writer) → Right R w k m (acts.Plain commands.Finish) r stepping (kind_of n) → r ≡ Some Done
    → session w.store k ≡ writer v → Among (snapshot_of v) ((moved R w k m (acts.Plain commands.Finish) (kind_of n)).store).snapshots
unfolding moved act_outcome
puts_by R w k m zero r v right done is =
    let o = outcome w.store k m commands.Finish in
    finished_puts w.store k m v is o refl (let says : Some Done ≡ Some (answered w.store o).1 = sym done ∙ right.1 in let h : (answered w.store o).1 ≡ Done = cc in h)
puts_by R w k m (suc zero) r v right done is = absurd right
puts_by R w k m (suc (suc zero)) r v right done is = absurd (not_done r NoMemory done right.0)
puts_by R w k m (suc (suc (suc zero))) r v right done is = absurd right
puts_by R w k m (suc (suc (suc (suc zero)))) r v right done is = absurd right
puts_by R w k m (suc (suc (suc (suc (suc zero))))) r v right done is = absurd (not_done r (fault_refusal w.fault) done right)
puts_by R w k m (suc (suc (suc (suc (suc (suc zero)))))) r v right done is = absurd right
puts_by R w k m (suc (suc (suc (suc (suc (suc (suc zero))))))) r v right done is = absurd right
puts_by R w k m (suc (suc (suc (suc (suc (suc (suc (suc n)))))))) r v right done is = absurd right

finish_puts : (R : Option (List Snapshot)) (w : World) (e : Event) (v : Writer) → IsRight R w e → e.act ≡ acts.Plain commands.Finish → reply e ≡ Some Done
    → session w.store (lane e) ≡ writer v → Among (snapshot_of v) ((after R w e).store).snapshots
unfolding after
finish_puts R w e v right asks done is =
    subst (λ a. Among (snapshot_of v) ((moved R w (lane e) (moment e) a (kind_of (kind e))).store).snapshots) (sym asks)
    (puts_by R w (lane e) (moment e) (kind e) (reply e) v
    (subst (λ a. Right R w (lane e) (moment e) a (reply e) (class_of a) (kind_of (kind e))) asks right.says) done is)

calm_after : (R : Option (List Snapshot)) (w : World) (e : Event) → IsRight R w e → e.act ≡ acts.Plain commands.Finish → reply e ≡ Some Done → is_none (after R w e).fault ≡ true
unfolding after
calm_after R w e right asks done = calm_by R w (lane e) (moment e) (kind e) (reply e) e.act asks right.says done

-- the two parts of a legal history
legal_first : (R : Option (List Snapshot)) (w : World) (h : List Event) (e : Event) (g : List Event) → IsLegal R w (h ++ e ∷ g) → IsLegal R w (h ++ e ∷ [])
legal_first R w [] e g legal = (legal.0, tt)
legal_first R w (v ∷ vs) e g legal = (legal.0, legal_first R (after R w v) vs e g legal.1)

legal_before : (R : Option (List Snapshot)) (w : World) (h : List Event) (e : Event) (g : List Event) → IsLegal R w (h ++ e ∷ g) → IsLegal R w h
legal_before R w [] e g legal = tt
legal_before R w (v ∷ vs) e g legal = (legal.0, legal_before R (after R w v) vs e g legal.1)

legal_here : (R : Option (List Snapshot)) (w : World) (h : List Event) (e : Event) (g : List Event) → IsLegal R w (h ++ e ∷ g) → IsRight R (after_all R w h) e
unfolding after_all
legal_here R w [] e g legal = legal.0
legal_here R w (v ∷ vs) e g legal = legal_here R (after R w v) vs e g legal.1

legal_rest : (R : Option (List Snapshot)) (w : World) (h : List Event) (e : Event) (g : List Event) → IsLegal R w (h ++ e ∷ g) → IsLegal R (after R (after_all R w h) e) g
unfolding after_all
legal_rest R w [] e g legal = legal.1
legal_rest R w (v ∷ vs) e g legal = legal_rest R (after R w v) vs e g legal.1

append_more : (h : List Event) (e : Event) (g : List Event) → h ++ e ∷ g ≡ (h ++ e ∷ []) ++ g
append_more [] e g = refl
append_more (v ∷ vs) e g = ap (λ xs. v ∷ xs) (append_more vs e g)

calls_after : (R : Option (List Snapshot)) (w : World) (e : Event) → (after R w e).calls ≡ e.calls
unfolding after
calls_after R w e = refl

pub found_stay : FoundStay
found_stay R o events t x found order legal there spares reopens =
    reopens_keeps R x (opened o) events t found legal spares (record { orderly = orderly_opened o.snapshots order; among = among_named x.key o.snapshots x there }) reopens

pub acknowledged_stay : AcknowledgedStay
acknowledged_stay R o events t x found order legal acknowledged reopens = reopens_keeps R x (after R w finish) since t found (legal_rest R (opened o) before finish since all_legal) spared has further
  where
    open acknowledged use {before, finish, since, split, asks, done, by_then, its, session_is, is, spared}

    w : World
    w = after_all R (opened o) before

    all_legal : IsLegal R (opened o) (before ++ finish ∷ since)
    all_legal = subst (IsLegal R (opened o)) split legal

    then_is : after_all R (opened o) (before ++ finish ∷ []) ≡ after R w finish
    then_is = after_all_more R (opened o) before finish

    right : IsRight R w finish
    right = legal_here R (opened o) before finish since all_legal

    has : Has x (after R w finish).store
    has = record {
      orderly = orderly_kept R w finish right (orderly_all R (opened o) before (legal_before R (opened o) before finish since all_legal) (orderly_opened o.snapshots order));
      among = subst (λ y. Among y ((after R w finish).store).snapshots) (sym is) (finish_puts R w finish its right asks done session_is);
    }

    further : Reopens R (after R w finish) since t found
    further = subst (λ y. Reopens R y since t found) then_is
        (reopens_to R t found (opened o) (before ++ finish ∷ []) since (legal_first R (opened o) before finish since all_legal)
        (subst (λ y. y.calls ≤ t) (sym then_is) (subst (λ n. n ≤ t) (sym (calls_after R w finish)) by_then))
        (subst (λ y. is_none y.fault ≡ true) (sym then_is) (calm_after R w finish right asks done))
        (subst (λ es. Reopens R (opened o) es t found) (split ∙ append_more before finish since) reopens))

-- by both laws
pub found_after : (R : Option (List Snapshot)) (o : Opening) (events : List Event) (t : ℕ) (found : List Snapshot) → IsTrue (keys_rise o.snapshots) → IsLegal R (opened o) events
    → Reopens R (opened o) events t found → FoundAfter R o events t found
found_after R o events t found order legal reopens = record {
  reopens = reopens;
  acknowledged = λ x is. acknowledged_stay R o events t x found order legal is reopens;
  spared = λ x there spares. found_stay R o events t x found order legal there spares reopens;
}

-- In a legal history a VERIFY whose steps are done reports what the snapshot is, whatever other lanes do between them.
use Rattle.std.proofs.Common.{◌≡◌, ◌⊎◌, inl, inr, ℕ, zero, suc, ◌<◌, ◌==◌, Bool, true, false, cond, List, [], ◌∷◌, ◌++◌, length, Option, Some, Result, Ok, Err, refl, sym, ap, subst, ◌∙◌, eq-eqb, slice_get}
use Rattle.std.proofs.lemmas.Bool.{eqb-true}
use Rattle.std.proofs.lemmas.List.{get_or-set_same, length-replicate}
use Rattle.store_types.specs.declared.names.Keep.{Keep}
use Rattle.store_types.specs.declared.refusal.Refusal.{Refusal}
use Rattle.store_types.specs.declared.refusal.Refusal.TheVariants.{NoFile, NoSnapshot, BadRange}
use Rattle.store_types.specs.Chain.Refusing.{◌>>=◌, unless, or_else}
use Rattle.store_types.specs.FileNames.{is_index_name}
use Rattle.store_types.specs.declared.order.TheConstants.{COMMAND_KIND}
use Rattle.store_files.specs.Archive.{Snapshot, file_named, pieces_of}
use Rattle.wire_commands.specs.declared.command.Command.{Command}
use Rattle.wire_commands.specs.declared.command.Command.TheVariants as commands
use Rattle.wire_commands.specs.declared.reply.Reply.{Reply}
use Rattle.wire_commands.specs.declared.reply.Reply.TheVariants.{Done, Refused}
use Rattle.store_model.specs.declared.step.Step.{Step}
use Rattle.store_model.specs.declared.step.Step.TheVariants.{ReadChunk}
use Rattle.store_model.specs.Heads.{key_in, idle_in, idle_key, idle_group}
use Rattle.store_model.specs.AdminSteps.{files, forget, prune_group}
use Rattle.store_model.specs.Job.{grouping, forgetting, opening, listing, reading, checking, closing, Asking, Job, over, asking, closed, step_of}
use Rattle.store_model.specs.Jobs.{take}
use Rattle.store_model.specs.JobSteps.{step_outcome}
use Rattle.store_model.specs.ReaderSteps.{open_reader, reader_files, download, read_file, read_chunk, close_reader}
use Rattle.store_model.specs.Steps.{answered, outcome}
use Rattle.store_model.specs.Store.{Reader, Session, none, reader, Store, lane_count, Outcome, session, with_session, ended, snapshot_named, want_idle, want_reader}
use Rattle.store_history.specs.declared.act.Event.{Event}
use Rattle.store_history.specs.Acts.{act_of_step, class_of}
use Rattle.store_history.specs.Begun.{IsBegun}
use Rattle.store_history.specs.History.{World, Opening, opened, step_kind, kind_of, act_outcome, moved, after, after_all, lane, moment, kind, own, reply}
use Rattle.store_history.specs.Legal.{Right, IsRight, IsLegal}
use Rattle.store_history.proofs.Apart.{moved_apart}
use Rattle.store_history.proofs.Events.{step_class}
use Rattle.store_history.proofs.Jobs.{take_begun}
use Rattle.store_history.proofs.Longer.{after_all_append}
use Rattle.job_laws.specs.Others.{StepsTo, MayBegin, VerifiesBesideOthers}
use Rattle.job_laws.specs.Verifies.{undamaged, MayReply, EndsIn, Meanwhile, chunk_reads, report_of}
use Rattle.job_laws.proofs.Changes.{Changes, moved_changes}
use Rattle.job_laws.proofs.Judged.{true_false}
use Rattle.job_laws.proofs.Leaving.{Reads, ordered_on, reads_on, meanwhile_on}
use Rattle.job_laws.proofs.Ordered.{Ordered, rise_ordered}
use Rattle.job_laws.proofs.Sound.{sound_snapshots_verify}

-- where no chunk is damaged, each step is answered by the plain store
as_told : (a : Step) (r : Reply) → MayReply undamaged a r r
as_told (ReadChunk name place) r = refl
as_told a r = refl

-- ---- a job's steps on a lane with a reader

Quiet : Store → Outcome → Type 0
Quiet s (Ok after) = after.0 ≡ s
Quiet s (Err refusal) = Unit {0}

bound : {A : Type 0} (s : Store) (x : Result A Refusal) (f : A → Outcome) → ((a : A) → Quiet s (f a)) → Quiet s (x >>= f)
unfolding Quiet
bound s (Ok a) f h = h a
bound s (Err refusal) f h = tt

-- what wants a lane without a session is refused
refused : {A : Type 0} (s : Store) (y : Session) (r : Reader) (g : Unit {0} → Result A Refusal) (f : A → Outcome) → y ≡ reader r → Quiet s ((want_idle y >>= g) >>= f)
unfolding Quiet
refused s y r g f is = subst (λ z. Quiet s ((want_idle z >>= g) >>= f)) (sym is) tt

answered_quiet : (s : Store) (o : Outcome) → Quiet s o → (answered s o).0 ≡ s
unfolding Quiet
answered_quiet s (Ok after) h = h
answered_quiet s (Err refusal) h = refl

closed_over : (report : Reply) → (q : Reply) × (closed closing report Done ≡ over q)
closed_over (Refused first) = (Refused first, refl)
closed_over report = (report, refl)

module _ (s : Store) (k m : ℕ) (r : Reader) (reads : session s k ≡ reader r) where
  -- the store is as before
  quiet_step : (c : Command) → Quiet s (outcome s k m c) → (answered s (outcome s k m c)).0 ≡ s
  quiet_step c h = answered_quiet s (outcome s k m c) h

  prune_quiet : (group : List ℕ) (keep : Keep) (dry : Bool) → Quiet s (outcome s k m (commands.Prune group keep dry))
  unfolding outcome prune_group idle_group idle_in
  prune_quiet group keep dry = refused s (session s k) r _ _ reads

  forget_quiet : (snapshot : List ℕ) → Quiet s (outcome s k m (commands.Forget snapshot))
  unfolding outcome forget idle_key idle_in
  forget_quiet snapshot = refused s (session s k) r _ _ reads

  open_quiet : (snapshot : List ℕ) → Quiet s (outcome s k m (commands.OpenReader snapshot))
  unfolding outcome open_reader idle_key idle_in
  open_quiet snapshot = refused s (session s k) r _ _ reads

  files_quiet : (snapshot : List ℕ) → Quiet s (outcome s k m (commands.Files snapshot))
  unfolding Quiet outcome files
  files_quiet snapshot = bound s (key_in s k snapshot) _ (λ a. bound s (or_else NoSnapshot (snapshot_named a s.snapshots)) _ (λ b. refl))

  part_quiet : (name : List ℕ) (offset : ℕ) → Quiet s (read_file s k name offset)
  unfolding Quiet read_file
  part_quiet name offset = bound s (download s k name offset) _ (λ given. refl)

  entry_quiet : (name : List ℕ) (entry : ℕ) → Quiet s (read_chunk s k name entry)
  unfolding Quiet read_chunk
  entry_quiet name entry =
      bound s (want_reader (session s k)) _ (λ r. bound s (unless NoFile (is_index_name name)) _ (λ a. bound s (or_else NoFile (file_named name (reader_files s r))) _
      (λ f. bound s (or_else (BadRange (length (pieces_of f.content))) (slice_get (pieces_of f.content) entry)) _ (λ p. refl))))

  close_is : outcome s k m commands.CloseReader ≡ Ok (ended s k, Done)
  unfolding outcome close_reader
  close_is = ap (λ (y : Session). want_reader y >>= (λ u. Ok (ended s k, Done))) reads

  -- each leaves the store, but that which is the last
  job_step : (a : Asking) → IsBegun (asking a)
      → ((answered s (step_outcome s k m (step_of a))).0 ≡ s) ⊎ ((q : Reply) × (take a (answered s (step_outcome s k m (step_of a))).1 ≡ over q))
  unfolding take
  job_step (grouping (commands.Prune group keep dry) choice shown) h = inl (quiet_step (commands.Prune group keep dry) (prune_quiet group keep dry))
  job_step (grouping c keep dry) h = absurd h
  job_step (forgetting before snapshot later) h = inl (quiet_step (commands.Forget snapshot) (forget_quiet snapshot))
  job_step (opening snapshot) h = inl (quiet_step (commands.OpenReader snapshot) (open_quiet snapshot))
  job_step (listing snapshot) h = inl (quiet_step (commands.Files snapshot) (files_quiet snapshot))
  job_step (reading v row bytes) h = inl (answered_quiet s (read_file s k row.file (length bytes)) (part_quiet row.file (length bytes)))
  job_step (checking v row fault place d later) h = inl (answered_quiet s (read_chunk s k row.file place) (entry_quiet row.file place))
  job_step (closing report) h =
      inr (subst (λ (o : Outcome). (q : Reply) × (take (closing report) (answered s o).1 ≡ over q)) (sym close_is) (closed_over report))
  job_step a h = absurd h

-- ---- histories

module _ (R : Option (List Snapshot)) where
  pub legal_behind : (w : World) (xs ys : List Event) → IsLegal R w (xs ++ ys) → IsLegal R (after_all R w xs) ys
  unfolding after_all
  legal_behind w [] ys h = h
  legal_behind w (e ∷ xs) ys h = legal_behind (after R w e) xs ys h.1

  event_changes : (w : World) (e : Event) → Changes w.store (after R w e).store
  unfolding after
  event_changes w e = moved_changes R w (lane e) (moment e) e.act (kind_of (kind e))

  -- no key falls, and the lanes are as many
  kept_all : (n : ℕ) (w : World) (es : List Event) → Ordered (w.store).snapshots → length (w.store).sessions ≡ n
      → Ordered ((after_all R w es).store).snapshots × (length ((after_all R w es).store).sessions ≡ n)
  unfolding after_all
  kept_all n w [] order lanes = (order, lanes)
  kept_all n w (e ∷ es) order lanes =
      let change = event_changes w e in
      kept_all n (after R w e) es (ordered_on w.store ((after R w e).store).snapshots order change.lists) (change.lanes ∙ lanes)

  -- ---- a step of the lane's own

  act_is : (w : World) (k m : ℕ) (a : Asking) → IsBegun (asking a) → act_outcome R w k m (act_of_step (step_of a)) ≡ step_outcome w.store k m (step_of a)
  unfolding act_outcome
  act_is w k m (grouping (commands.Prune group keep dry) choice shown) h = refl
  act_is w k m (grouping c keep dry) h = absurd h
  act_is w k m (forgetting before snapshot later) h = refl
  act_is w k m (opening snapshot) h = refl
  act_is w k m (listing snapshot) h = refl
  act_is w k m (reading v row bytes) h = refl
  act_is w k m (checking v row fault place d later) h = refl
  act_is w k m (closing report) h = refl
  act_is w k m a h = absurd h

  module _ (w : World) (e : Event) (a : Asking) (begun : IsBegun (asking a)) (act : e.act ≡ act_of_step (step_of a)) (done : kind e ≡ COMMAND_KIND) where
    abbrev told : Store × Reply
    told = answered w.store (step_outcome w.store (lane e) (moment e) (step_of a))

    outcome_is : act_outcome R w (lane e) (moment e) e.act ≡ step_outcome w.store (lane e) (moment e) (step_of a)
    outcome_is = ap (act_outcome R w (lane e) (moment e)) act ∙ act_is w (lane e) (moment e) a begun

    reply_is : IsRight R w e → reply e ≡ Some told.1
    reply_is right =
        let of_kind = subst (λ n. Right R w (lane e) (moment e) e.act (reply e) (class_of e.act) (kind_of n)) done right.says in
        let says = subst (λ c. Right R w (lane e) (moment e) e.act (reply e) c step_kind) (ap class_of act ∙ step_class (step_of a)) of_kind in
        says.1 ∙ ap (λ (o : Outcome). Some (answered w.store o).1) outcome_is

    store_is : (after R w e).store ≡ told.0
    unfolding after moved
    store_is =
        ap (λ n. (moved R w (lane e) (moment e) e.act (kind_of n)).store) done
        ∙ ap (λ (o : Outcome). (answered w.store o).0) outcome_is

  -- ---- from step to step

  module _ (x : Snapshot) (k : ℕ) (report : Reply) where
    abbrev Ends : World → List Event → Type 0
    Ends w es = (report ≡ report_of undamaged x) × (session (after_all R w es).store k ≡ none)

    apart : (w : World) (e : Event) → (lane e == k) ≡ false → session (after R w e).store k ≡ session w.store k
    unfolding after
    apart w e off = moved_apart R w (lane e) (moment e) k e.act (kind_of (kind e)) (λ same. true_false (sym (eq-eqb (lane e) k (sym same)) ∙ off))

    one_reply : (p q : Reply) → over p ≡ over q → p ≡ q
    one_reply p q e = cc

    some_reply : (p q : Reply) → Some p ≡ Some q → p ≡ q
    some_reply p q e = cc

    not_over : (a : Asking) (q : Reply) → asking a ≡ over q → ⊥
    not_over a q e = cc

    -- once it is over, the lane stays without a session
    over_stays : (q : Reply) (w : World) (es : List Event) → q ≡ report_of undamaged x → session w.store k ≡ none → StepsTo (over q) (own k es) (over report) → Ends w es
    unfolding after_all
    over_stays q w [] is idle steps = (sym (one_reply q report steps) ∙ is, idle)
    over_stays q w (e ∷ es) is idle steps = by_lane (lane e == k) refl steps (over_stays q (after R w e) es is)
      where
        by_lane : (b : Bool) → (lane e == k) ≡ b → StepsTo (over q) (cond b (e ∷ own k es) (own k es)) (over report)
            → (session (after R w e).store k ≡ none → StepsTo (over q) (own k es) (over report) → Ends (after R w e) es) → Ends (after R w e) es
        by_lane true on steps go = absurd steps
        by_lane false off steps go = go (apart w e off ∙ idle) steps

    finishes : (n : ℕ) (cs : List Step) (q : Reply) (w : World) (es : List Event) → EndsIn undamaged n cs x (report_of undamaged x) k w.store (over q) → StepsTo (over q) (own k es) (over report) → Ends w es
    finishes zero cs q w es ends steps = over_stays q w es (one_reply q (report_of undamaged x) ends.1) ends.2 steps
    finishes (suc n) cs q w es ends steps = absurd ends

    abbrev Goes : List Event → Type 0
    Goes es =
        (n : ℕ) (cs : List Step) (a : Asking) (s : Store) (w : World) → EndsIn undamaged n cs x (report_of undamaged x) k s (asking a) → IsBegun (asking a) → Reads x k w.store → Meanwhile x k s w.store
        → IsLegal R w es → StepsTo (asking a) (own k es) (over report) → Ends w es

    goes_on : (es : List Event) → Goes es → (n : ℕ) (cs : List Step) (job : Job) (w : World) → EndsIn undamaged n cs x (report_of undamaged x) k w.store job → IsBegun job → Reads x k w.store
        → IsLegal R w es → StepsTo job (own k es) (over report) → Ends w es
    goes_on es go n cs (over q) w ends begun reads legal steps = finishes n cs q w es ends steps
    goes_on es go n cs (asking a) w ends begun reads legal steps = go n cs a w.store w ends begun reads (record { own = refl; lanes = refl; there = reads.there }) legal steps

    own_step : (e : Event) (es : List Event) → Goes es → (n : ℕ) (cs : List Step) (a : Asking) (s : Store) (w : World) → EndsIn undamaged n cs x (report_of undamaged x) k s (asking a) → IsBegun (asking a)
        → Reads x k w.store → Meanwhile x k s w.store → IsRight R w e → IsLegal R (after R w e) es → lane e ≡ k → StepsTo (asking a) (e ∷ own k es) (over report)
        → Ends (after R w e) es
    own_step e es go zero cs a s w ends begun reads between right legal on steps = absurd (not_over a (report_of undamaged x) ends.1)
    own_step e es go (suc n) cs a s w ends begun reads between right legal on steps =
        by_step (job_step w.store (lane e) (moment e) reads.own (ap (session w.store) on ∙ reads.reads) a begun)
      where
        after_told : Store × Reply
        after_told = told w e a begun steps.0 steps.1

        stored : (after R w e).store ≡ after_told.0
        stored = store_is w e a begun steps.0 steps.1

        ends_on : EndsIn undamaged n ends.0 x (report_of undamaged x) k (after R w e).store (take a after_told.1)
        ends_on =
            subst (λ (t : Store). EndsIn undamaged n ends.0 x (report_of undamaged x) k t (take a after_told.1)) (sym stored)
            (subst (λ j. EndsIn undamaged n ends.0 x (report_of undamaged x) k (answered w.store (step_outcome w.store j (moment e) (step_of a))).0 (take a (answered w.store (step_outcome w.store j (moment e) (step_of a))).1)) (sym on)
            ((ends.2 w.store (moment e) between).1 (answered w.store (step_outcome w.store k (moment e) (step_of a))).1 (as_told (step_of a) (answered w.store (step_outcome w.store k (moment e) (step_of a))).1)))

        steps_on : StepsTo (take a after_told.1) (own k es) (over report)
        steps_on =
            subst (λ q. StepsTo (take a q) (own k es) (over report))
            (some_reply steps.2 after_told.1 (sym steps.3 ∙ reply_is w e a begun steps.0 steps.1 right)) steps.4

        by_step : (after_told.0 ≡ w.store) ⊎ ((q : Reply) × (take a after_told.1 ≡ over q)) → Ends (after R w e) es
        by_step (inl same) =
            goes_on es go n ends.0 (take a after_told.1) (after R w e) ends_on (take_begun a after_told.1 begun) (subst (Reads x k) (sym (stored ∙ same)) reads) legal steps_on
        by_step (inr (q, is)) =
            finishes n ends.0 q (after R w e) es (subst (EndsIn undamaged n ends.0 x (report_of undamaged x) k (after R w e).store) is ends_on) (subst (λ j. StepsTo j (own k es) (over report)) is steps_on)

    one_more : (e : Event) (es : List Event) → Goes es → Goes (e ∷ es)
    unfolding after_all
    one_more e es go n cs a s w ends begun reads between legal steps = by_lane (lane e == k) refl steps
      where
        by_lane : (b : Bool) → (lane e == k) ≡ b → StepsTo (asking a) (cond b (e ∷ own k es) (own k es)) (over report) → Ends (after R w e) es
        by_lane true on steps = own_step e es go n cs a s w ends begun reads between legal.0 legal.1 (eqb-true (lane e) k on) steps
        by_lane false off steps =
            let change = event_changes w e in
            let same = apart w e off in
            go n cs a s (after R w e) ends begun (reads_on x k w.store (after R w e).store change same reads) (meanwhile_on x k s w.store (after R w e).store change same reads between) legal.1 steps

    going : (es : List Event) → Goes es
    going [] n cs a s w ends begun reads between legal steps = absurd (not_over a report steps)
    going (e ∷ es) n cs a s w ends begun reads between legal steps = one_more e es (going es) n cs a s w ends begun reads between legal steps

-- ---- from the OPEN_READER on

module _ (R : Option (List Snapshot)) (o : Opening) (before : List Event) (first : Event) (later : List Event) (text : List ℕ) (x : Snapshot) (report : Reply)
    (h : MayBegin R o before first later text x) (steps : StepsTo (asking (opening text)) (first ∷ own (lane first) later) (over report)) where
  abbrev w : World
  w = after_all R (opened o) before

  abbrev k : ℕ
  k = lane first

  legal : IsLegal R w (first ∷ later)
  legal = legal_behind R (opened o) before (first ∷ later) h.legal

  kept : Ordered (w.store).snapshots × (length (w.store).sessions ≡ lane_count)
  kept = kept_all R lane_count (opened o) before (rise_ordered o.snapshots h.order) (length-replicate lane_count none)

  inside : k < length (w.store).sessions
  inside = subst (λ n. k < n) (sym kept.1) (legal.0).inside

  abbrev its_reader : Reader
  its_reader = record { key = x.key; noted = [] }

  opens : outcome w.store k (moment first) (commands.OpenReader text) ≡ Ok (with_session w.store k (reader its_reader), Done)
  unfolding outcome open_reader idle_key idle_in key_in
  opens = rw (h.idle, h.named, h.there)

  begins : (n : ℕ) → EndsIn undamaged n (chunk_reads x) x (report_of undamaged x) k w.store (asking (opening text)) → Ends R x k report (after R w first) later
  begins zero ends = absurd (not_over R x k report (opening text) (report_of undamaged x) ends.1)
  begins (suc n) ends =
      goes_on R x k report later (going R x k report later) n ends.0 (take (opening text) after_told.1) (after R w first) ends_on (take_begun (opening text) after_told.1 tt) reads legal.1 steps_on
    where
      after_told : Store × Reply
      after_told = told R w first (opening text) tt steps.0 steps.1

      stored : (after R w first).store ≡ after_told.0
      stored = store_is R w first (opening text) tt steps.0 steps.1

      now : (after R w first).store ≡ with_session w.store k (reader its_reader)
      now = stored ∙ ap (λ (y : Outcome). (answered w.store y).0) opens

      reads : Reads x k (after R w first).store
      reads = subst (Reads x k) (sym now) (record {
        order = kept.0;
        there = h.there;
        own = its_reader;
        reads = get_or-set_same (w.store).sessions k (reader its_reader) none inside;
        its = refl;
      })

      ends_on : EndsIn undamaged n ends.0 x (report_of undamaged x) k (after R w first).store (take (opening text) after_told.1)
      ends_on =
          subst (λ (t : Store). EndsIn undamaged n ends.0 x (report_of undamaged x) k t (take (opening text) after_told.1)) (sym stored)
          ((ends.2 w.store (moment first) (record { own = refl; lanes = refl; there = h.there })).1 after_told.1 refl)

      steps_on : StepsTo (take (opening text) after_told.1) (own k later) (over report)
      steps_on =
          subst (λ q. StepsTo (take (opening text) q) (own k later) (over report))
          (some_reply R x k report steps.2 after_told.1 (sym steps.3 ∙ reply_is R w first (opening text) tt steps.0 steps.1 legal.0)) steps.4

  has_ended : (report ≡ report_of undamaged x) × (session (after_all R (opened o) (before ++ first ∷ later)).store k ≡ none)
  unfolding after_all
  has_ended =
      let sound = sound_snapshots_verify x text w.store k undamaged h.fits h.named inside h.idle in
      let ended = begins sound.0 sound.1 in
      (ended.0, ap (λ (v : World). session v.store k) (after_all_append R (opened o) before (first ∷ later)) ∙ ended.1)

pub verifies_beside_others : VerifiesBesideOthers
verifies_beside_others R o before first later text x report h steps = has_ended R o before first later text x report h steps

-- A run and its replay, event by event: each collector's report that a lane told stands where the replay has free bytes.
use Rattle.std.proofs.Common.{◌≡◌, ◌⊎◌, inl, inr, ℕ, zero, suc, ◌+◌, ◌-◌, ◌<◌, Bool, true, false, cond, List, [], ◌∷◌, ◌++◌, length, Option, Some, None, IfSome, Ok, Err, Result, refl, sym, ap, subst, ◌∙◌, arith, append_assoc, append-nil, length-append, ◌==◌, if◌then◌else◌, slice_set}
use Rattle.std.specs.Prelude.{replicate}
use Rattle.std.specs.List.{cons_option}
use Rattle.std.proofs.lemmas.Bool.{eqb-true, or_parts}
use Rattle.std.proofs.lemmas.List.{get_or-set_same, get_or-set_other, length-set}
use Rattle.store_types.specs.declared.order.Entry.{Entry}
use Rattle.store_types.specs.declared.order.TheConstants.{COMMAND_KIND, PART_KIND, STOP_KIND, FAULT_KIND}
use Rattle.store_types.specs.declared.refusal.Refusal.{Refusal}
use Rattle.store_files.specs.Archive.{Snapshot}
use Rattle.wire_frames.specs.Frames.{frame}
use Rattle.wire_commands.specs.declared.reply.Reply.{Reply}
use Rattle.wire_commands.specs.declared.reply.Reply.TheVariants.{Collected}
use Rattle.wire_commands.specs.Inputs.{front}
use Rattle.wire_commands.specs.ReplyText.{reply_text}
use Rattle.store_model.specs.declared.ending.Ending.{Ending}
use Rattle.store_model.specs.declared.ending.Ending.TheVariants.{Clean}
use Rattle.store_model.specs.Job.{Asking, Job, over, asking, is_sync}
use Rattle.store_model.specs.Jobs.{take as job_take}
use Rattle.store_model.specs.Lanes.{Collecting, Run, Next, job_step, plain, sync, collect, collecting, bye, broken, end, front_next, lane_at, next_of}
use Rattle.store_model.specs.Weave.{Endings, entered, known, passed, told_by_input}
use Rattle.store_history.specs.declared.act.Act.{Act}
use Rattle.store_history.specs.declared.act.Event.{Event}
use Rattle.store_history.specs.Acts.{Class, stepping, reaching, starting, sweeping, wanting, ending, class_of}
use Rattle.store_history.specs.History.{World, EntryKind, kind_of, step_kind, pass_kind, short_kind, start_kind, close_kind, fault_kind, end_kind, remote_kind, no_kind, open_on, entry, lane, moment, kind, reply, entries, own, after}
use Rattle.store_history.specs.Legal.{IsLegal, IsRight, Refuses, Reports, Right, may_open}
use Rattle.store_history.specs.LaneRun.{blank, Task, steps, pulls, sweeps, Ahead, ahead, pull_ahead, ahead_by, job_in, Position, Runs, begin, lane_of, next_at, plain_text, position_after, text, IsIdle}
use Rattle.store_history.specs.Pulling.{Pulling, comparing}
use Rattle.store_history.specs.Remote.{IsRemote, may_read}
use Rattle.store_history.specs.Woven.{AreLanes, ending_at}
use Rattle.store_history.proofs.Beside.{pull_in}
use Rattle.store_history.proofs.Events.{IsPlainNext, next_plain, right_close, right_fault, right_short, right_start}
use Rattle.store_history.proofs.Keyed.{HasKeys}
use Rattle.store_history.proofs.Placed.{run_of, at, lane_is, model_next, model_is, plain_more, text_more}
use Rattle.store_history.proofs.Plainly.{ArePlain, IsPlainJob, IsPlainReply, KeepsPlain, says_plainly, take_plainly}
use Rattle.store_history.proofs.Whole.{AllKnow, AllRun, Knows, collects_next, keyed_next, know_next, legal_own, not_same, own_here, plain_next, runs_next, told_alike, turn}
use Rattle.plain_store.specs.declared.frees.Free.{Free}
use Rattle.plain_store.specs.Frees.{free_behind, freed, frees_from}
use Rattle.plain_store.specs.Runs.{own_collector, own_of}
use Rattle.replay.specs.Compare.{is_free}
use Rattle.replay.specs.Orders.{has_faults}
use Rattle.replay.proofs.ByInput.{as_clean, entered_kept}
use Rattle.replay_laws.proofs.Differing.{AreCovered, IsCovered, all_covered_more, free_here, told_text}
use Rattle.replay_laws.proofs.Saying.{OverIs, SaysMore, StepIs, says_more}

clash : true ≡ false → ⊥
clash h = cc

-- ---- what is answered

-- of a mark, a visit or a read of the remote, of a collector's end, or of something else
abbrev IsPart : ℕ → Type 0
IsPart n = n ≡ 1

abbrev IsOtherKind : ℕ → Type 0
IsOtherKind n = (kind_of n ≡ pass_kind → ⊥) × (kind_of n ≡ close_kind → ⊥)

kinds : (n : ℕ) → IsPart n ⊎ ((n ≡ 4) ⊎ IsOtherKind n)
kinds zero = inr (inr (λ h. cc, λ h. cc))
kinds (suc zero) = inl refl
kinds (suc (suc zero)) = inr (inr (λ h. cc, λ h. cc))
kinds (suc (suc (suc zero))) = inr (inr (λ h. cc, λ h. cc))
kinds (suc (suc (suc (suc zero)))) = inr (inl refl)
kinds (suc (suc (suc (suc (suc zero))))) = inr (inr (λ h. cc, λ h. cc))
kinds (suc (suc (suc (suc (suc (suc zero)))))) = inr (inr (λ h. cc, λ h. cc))
kinds (suc (suc (suc (suc (suc (suc (suc zero))))))) = inr (inr (λ h. cc, λ h. cc))
kinds (suc (suc (suc (suc (suc (suc (suc (suc n)))))))) = inr (inr (λ h. cc, λ h. cc))

module _ (R : Option (List Snapshot)) (w : World) (k m : ℕ) (a : Act) where
  abbrev Plainly : Option Reply → Type 0
  Plainly r = IfSome r IsPlainReply

  refuses_plainly : (o : Result (Unit {0}) Refusal) (r : Option Reply) → Refuses o r → Plainly r
  refuses_plainly (Ok may) r h = absurd h
  refuses_plainly (Err z) r h = subst Plainly (sym h) refl

  step_plainly : (r : Option Reply) (c : Class) → Right R w k m a r c step_kind → Plainly r
  step_plainly r stepping h = subst Plainly (sym h.1) (says_plainly R w k m a)
  step_plainly r reaching h = refuses_plainly (may_read R w.store k a) r h.1
  step_plainly r starting h = refuses_plainly (may_open w k) r h.1
  step_plainly r sweeping h = subst Plainly (sym h.2) refl
  step_plainly r wanting h = absurd h
  step_plainly r ending h = absurd h

  end_plainly : (r : Option Reply) (c : Class) → Right R w k m a r c end_kind → Plainly r
  end_plainly r stepping h = absurd h
  end_plainly r reaching h = absurd h
  end_plainly r starting h = absurd h
  end_plainly r sweeping h = absurd h
  end_plainly r wanting h = absurd h
  end_plainly r ending h = subst Plainly (sym h) tt

  remote_plainly : (r : Option Reply) (c : Class) → Right R w k m a r c remote_kind → Plainly r
  remote_plainly r stepping h = absurd h
  remote_plainly r reaching h = subst Plainly (sym h.2) refl
  remote_plainly r starting h = absurd h
  remote_plainly r sweeping h = absurd h
  remote_plainly r wanting h = absurd h
  remote_plainly r ending h = absurd h

  no_plainly : (r : Option Reply) (c : Class) → Right R w k m a r c no_kind → Plainly r
  no_plainly r stepping h = absurd h
  no_plainly r reaching h = absurd h
  no_plainly r starting h = absurd h
  no_plainly r sweeping h = absurd h
  no_plainly r wanting h = absurd h
  no_plainly r ending h = absurd h

  -- only a collector's end is answered by a report, and a read of the remote as may be
  pub right_plainly : (r : Option Reply) (c : Class) (n : EntryKind) → Right R w k m a r c n → (n ≡ pass_kind → ⊥) → (n ≡ close_kind → ⊥) → Plainly r
  right_plainly r c step_kind h pass close = step_plainly r c h
  right_plainly r c pass_kind h pass close = absurd (pass refl)
  right_plainly r c short_kind h pass close = subst Plainly (sym (right_short R w [] k m a r c h)) refl
  right_plainly r c start_kind h pass close = subst Plainly (sym (right_start R w [] k m a r c h).2) tt
  right_plainly r c close_kind h pass close = absurd (close refl)
  right_plainly r c fault_kind h pass close = subst Plainly (sym (right_fault R w [] k m a r c h)) refl
  right_plainly r c end_kind h pass close = end_plainly r c h
  right_plainly r c remote_kind h pass close = remote_plainly r c h
  right_plainly r c no_kind h pass close = no_plainly r c h

-- ---- what is told at an event

-- one reply at most
abbrev IsAny : Reply → Type 0
IsAny r = Unit {0}

abbrev AnyJob : Asking → Type 0
AnyJob j = Unit {0}

any_over : (j : Job) → OverIs IsAny j
any_over (over r) = tt
any_over (asking j) = tt

any_step : (n : Ahead) → StepIs AnyJob n
any_step (ahead (job_step j left)) = tt
any_step n = tt

any_reply : (r : Option Reply) → IfSome r IsAny
any_reply None = tt
any_reply (Some r) = tt

tells_one : (e : Ending) (p : Position) (v : Event) → SaysMore IsAny p.told (position_after e p v).told
tells_one e p v = says_more IsAny (λ z. tt) (λ xs. tt) tt AnyJob (λ j r q h. any_over (job_take j r)) e p v (any_reply (reply v)) (any_step (next_at p))

-- and none that is a report, where the answer is none
plain_over : (j : Job) → IsPlainJob j → OverIs IsPlainReply j
plain_over (over r) h = h
plain_over (asking j) h = tt

plain_step : (n : Next) → IsPlainNext n → StepIs KeepsPlain (ahead n)
plain_step (job_step j left) h = h
plain_step n h = tt

pull_step : (x : Pulling) (left : List ℕ) (n : Next) → StepIs KeepsPlain (pull_ahead x left n)
pull_step (comparing group remote) left (sync name behind) = tt
pull_step (comparing group remote) left n = tt
pull_step x left n = tt

-- no step of the lane's job, which is next, is to report a collector
next_step : (p : Position) → ArePlain (job_in p.task) → StepIs KeepsPlain (next_at p)
unfolding next_at
next_step p kept = by_task p.task refl
  where
    by_idle : IsIdle p.task → StepIs KeepsPlain (ahead_by p.task (p.size - length p.left) p.left)
    by_idle idle = subst (StepIs KeepsPlain) (sym (model_is p idle)) (plain_step (model_next p) (next_plain p kept))

    by_task : (t : Option Task) → p.task ≡ t → StepIs KeepsPlain (ahead_by p.task (p.size - length p.left) p.left)
    by_task (Some (pulls x)) is =
        subst (λ (t : Option Task). StepIs KeepsPlain (ahead_by t (p.size - length p.left) p.left)) (sym is)
        (pull_step x p.left (front_next (p.size - length p.left) (front p.left)))
    by_task None is = by_idle (subst IsIdle (sym is) tt)
    by_task (Some (steps j)) is = by_idle (subst IsIdle (sym is) tt)
    by_task (Some (sweeps b)) is = by_idle (subst IsIdle (sym is) tt)

tells_plainly : (e : Ending) (p : Position) (v : Event) → ArePlain (job_in p.task) → IfSome (reply v) IsPlainReply → SaysMore IsPlainReply p.told (position_after e p v).told
tells_plainly e p v kept h =
    says_more IsPlainReply (λ z. refl) (λ xs. refl) refl KeepsPlain (λ j r q x. plain_over (job_take j r) (take_plainly j r q x)) e p v h
    (next_step p kept)

-- ---- an entry of kind 1 leaves the run

passes : (b c : Bool) (x y z : Option Run) (after : Run) → b ≡ false → c ≡ true → cond b x (cond c y z) ≡ Some after → y ≡ Some after
passes false true x y z after h i is = is
passes true c x y z after h i is = absurd (clash h)
passes false false x y z after h i is = absurd (clash (sym i))

passed_same : (r after : Run) (n : Next) → passed r n ≡ Some after → after ≡ r
unfolding passed
passed_same r after (job_step j left) is = by_test (is_sync j) is
  where
    by_test : (b : Bool) → (if b then Some r else None) ≡ Some after → after ≡ r
    by_test true h = cc
    by_test false h = cc
passed_same r after (plain c left) is = cc
passed_same r after (sync group left) is = cc
passed_same r after (collect left) is = cc
passed_same r after (collecting is_out_of_memory) is = cc
passed_same r after bye is = cc
passed_same r after (broken refusal) is = cc
passed_same r after end is = cc

part_same : (E : Endings) (r after : Run) (place : ℕ) (e : Entry) (later : List Entry) → IsPart e.kind → entered E r place e later ≡ Some after → after ≡ r
unfolding entered
part_same E r after place e later one is =
    passed_same r after (next_of r e.lane)
    (passes (e.kind == COMMAND_KIND) (e.kind == PART_KIND) _ _ _ after (ap (λ n. n == COMMAND_KIND) one) (ap (λ n. n == PART_KIND) one) is)

longer : (told : List Reply) (r : Reply) → plain_text (told ++ r ∷ []) ≡ plain_text told → ⊥
longer told r same =
    let more : length (plain_text (told ++ r ∷ [])) ≡ length (plain_text told) + length (frame (reply_text (blank r))) =
    ap length (plain_more told r) ∙ length-append (plain_text told) (frame (reply_text (blank r))) in
    let some : suc (suc (suc (suc (length (reply_text (blank r)))))) ≡ length (frame (reply_text (blank r))) = refl in
    let equal : length (plain_text (told ++ r ∷ [])) ≡ length (plain_text told) = ap length same in
    absurd (omega (arith, more, some, equal))

-- ---- the lengths of texts

one_length : (r : Reply) → length (told_text (blank r)) ≡ length (told_text r)
unfolding reply_text
one_length (Collected start cutoff used pending removed) = refl
one_length r = refl

same_length : (told : List Reply) → length (plain_text told) ≡ length (text told)
unfolding text plain_text
same_length [] = refl
same_length (r ∷ rs) =
    length-append (told_text (blank r)) (plain_text rs)
    ∙ ap (λ n. n + length (plain_text rs)) (one_length r)
    ∙ ap (λ n. length (told_text r) + n) (same_length rs)
    ∙ sym (length-append (told_text r) (text rs))

-- ---- one more reply

no_more : (xs : List Reply) (r : Reply) → xs ≡ xs ++ r ∷ [] → ⊥
no_more xs r is =
    let sizes : length xs ≡ length (xs ++ r ∷ []) = ap length is in
    absurd (omega (arith, sizes, length-append xs (r ∷ [])))

last_is : (xs : List Reply) (a b : Reply) → xs ++ a ∷ [] ≡ xs ++ b ∷ [] → a ≡ b
last_is [] a b is = cc
last_is (x ∷ xs) a b is = last_is xs a b (tail_is (xs ++ a ∷ []) (xs ++ b ∷ []) is)
  where
    tail_is : (ys zs : List Reply) → x ∷ ys ≡ x ∷ zs → ys ≡ zs
    tail_is ys zs e = cc

-- ---- the collector that closes

own_is : (k : ℕ) (c : Option Collecting) → own_of c k ≡ open_on k c
own_is k None = refl
own_is k (Some c) = refl

-- ---- the induction

-- the bytes that are free in the replies from here on
abbrev pub freed_by : Option (List Snapshot) → World → List Position → List Event → List Free
freed_by R w qs h = frees_from told_by_input (run_of R w qs) w.events (entries h)

-- what a lane tells from here on is covered by them
pub record Tells (frees : List Free) (k : ℕ) (before told : List Reply) : Type 0 where
  pub rest : List Reply
  pub told_is : told ≡ before ++ rest
  pub are : AreCovered frees k (length (text before)) rest

tells_more : (f : Option Free) (frees : List Free) (k : ℕ) (before told : List Reply) → Tells frees k before told → Tells (cons_option f frees) k before told
tells_more f frees k before told t = record { rest = t.rest; told_is = t.told_is; are = all_covered_more f frees k t.rest (length (text before)) t.are }

-- one more reply was told
tells_first : (frees : List Free) (k : ℕ) (before : List Reply) (r : Reply) (told : List Reply) → IsCovered frees k (length (text before)) r → Tells frees k (before ++ r ∷ []) told → Tells frees k before told
tells_first frees k before r told here t = record {
  rest = r ∷ t.rest;
  told_is = t.told_is ∙ append_assoc before (r ∷ []) t.rest;
  are = (here, subst (λ n. AreCovered frees k n t.rest) (ap length (text_more before r) ∙ length-append (text before) (told_text r)) t.are);
}

module _ (R : Option (List Snapshot)) (remote : IsRemote R) (lanes : ℕ) (told : ℕ → List Reply) where
  abbrev es : List Ending
  es = replicate lanes Clean

  abbrev next : List Position → Event → Position
  next ps v = position_after (ending_at es (lane v)) (at ps (lane v)) v

  -- ---- what a lane tells at its event

  -- the free bytes by an entry and those behind it
  frees_on : (w : World) (qs : List Position) (v : Event) (vs : List Event) (q' : Position) → (kind v == FAULT_KIND) ≡ false
      → entered (known es) (run_of R w qs) w.events (entry v) (entries vs) ≡ Some (run_of R (after R w v) (slice_set qs (lane v) q'))
      → freed_by R w qs (v ∷ vs) ≡ cons_option (freed (run_of R w qs) (entry v)) (freed_by R (after R w v) (slice_set qs (lane v) q') vs)
  unfolding frees_from after
  frees_on w qs v vs q' sound enters =
      ap (λ o. elim o [ None ↦ [] | Some next ↦ cons_option (freed (run_of R w qs) (entry v)) (frees_from told_by_input next (w.events + 1) (entries vs)) ])
      (entered_kept (known es) told_by_input (run_of R w qs) (run_of R (after R w v) (slice_set qs (lane v) q')) w.events (entry v) (entries vs) (as_clean lanes (lane v)) sound enters)

  -- a collector that closes
  closing_covered : (w : World) (qs : List Position) (v : Event) (before : List Reply) (frees : List Free) (r : Reply) → kind v ≡ 4 → open_on (lane v) w.collecting ≡ Some false → (at qs (lane v)).told ≡ before
      → IsCovered (cons_option (freed (run_of R w qs) (entry v)) frees) (lane v) (length (text before)) r
  closing_covered w qs v before frees r four opened_is same =
      inr (λ i lt. subst (λ f. is_free (cons_option f frees) (lane v) (length (text before) + 5 + i) ≡ true) (sym is) (free_here frees (lane v) (length (text before)) i lt))
    where
      length_is : length (lane_at (run_of R w qs) (lane v)).told ≡ length (text before)
      length_is = ap (λ l. length l.told) (lane_is R w qs (lane v)) ∙ ap (λ t. length (plain_text t)) same ∙ same_length before

      is : freed (run_of R w qs) (entry v) ≡ Some (record { lane = lane v; place = length (text before) + 5 })
      is =
          ap (λ b. if b then free_behind (own_collector (run_of R w qs) (lane v)) (lane v) (length (lane_at (run_of R w qs) (lane v)).told) else None) (ap (λ n. n == STOP_KIND) four)
          ∙ ap (λ o. free_behind o (lane v) (length (lane_at (run_of R w qs) (lane v)).told)) (own_is (lane v) w.collecting ∙ opened_is)
          ∙ ap (λ n. Some (record { lane = lane v; place = n + 5 })) length_is

  module _ (w : World) (ps qs : List Position) (v : Event) (vs : List Event) (right : IsRight R w v) (here : Knows R w ps qs (lane v)) (q' : Position)
      (enters : entered (known es) (run_of R w qs) w.events (entry v) (entries vs) ≡ Some (run_of R (after R w v) (slice_set qs (lane v) q')))
      (inside : lane v < length qs) (beside : q'.told ≡ (next ps v).told) where
    abbrev before : List Reply
    before = (at ps (lane v)).told

    same : (at qs (lane v)).told ≡ before
    same = told_alike R w.store (lane v) (at ps (lane v)) (at qs (lane v)) (pull_in (at ps (lane v)).task) here.2

    -- at an entry of kind 1 nothing is told
    part_tells : IsPart (kind v) → (r : Reply) → (next ps v).told ≡ before ++ r ∷ [] → ⊥
    part_tells one r is =
        let run_is = part_same (known es) (run_of R w qs) (run_of R (after R w v) (slice_set qs (lane v) q')) w.events (entry v) (entries vs) one enters in
        let lanes_are : lane_of q' ≡ lane_of (at qs (lane v)) =
        ap lane_of (sym (get_or-set_same qs (lane v) q' (begin []) inside))
        ∙ sym (lane_is R (after R w v) (slice_set qs (lane v) q') (lane v))
        ∙ ap (λ x. lane_at x (lane v)) run_is ∙ lane_is R w qs (lane v) in
        longer before r
        (ap plain_text (sym (beside ∙ is)) ∙ ap (λ l. l.told) lanes_are ∙ ap plain_text same)

    covered_at : (frees : List Free) (r : Reply) → (next ps v).told ≡ before ++ r ∷ [] → (SaysMore IsPlainReply before (next ps v).told → IsPlainReply r)
        → IsCovered (cons_option (freed (run_of R w qs) (entry v)) frees) (lane v) (length (text before)) r
    covered_at frees r is plainly = by_kind (kinds (kind v))
      where
        by_collector : (o : Option Bool) → open_on (lane v) w.collecting ≡ o → Reports o (reply v) → kind v ≡ 4
            → IsCovered (cons_option (freed (run_of R w qs) (entry v)) frees) (lane v) (length (text before)) r
        by_collector (Some false) opened_is h four = closing_covered w qs v before frees r four opened_is same
        by_collector (Some true) opened_is h four = inl (plainly (tells_plainly (ending_at es (lane v)) (at ps (lane v)) v here.1 (subst (λ o. IfSome o IsPlainReply) (sym h) refl)))
        by_collector None opened_is h four = absurd (none_reports (reply v) h)
          where
            none_reports : (o : Option Reply) → Reports None o → ⊥
            none_reports None x = x
            none_reports (Some y) x = x

        by_kind : IsPart (kind v) ⊎ ((kind v ≡ 4) ⊎ IsOtherKind (kind v)) → IsCovered (cons_option (freed (run_of R w qs) (entry v)) frees) (lane v) (length (text before)) r
        by_kind (inl one) = absurd (part_tells one r is)
        by_kind (inr (inl four)) =
            let closes = right_close R w [] (lane v) (moment v) v.act (reply v) (class_of v.act)
            (subst (λ n. Right R w (lane v) (moment v) v.act (reply v) (class_of v.act) (kind_of n)) four right.says) in
            by_collector (open_on (lane v) w.collecting) refl closes.1 four
        by_kind (inr (inr other)) =
            inl (plainly (tells_plainly (ending_at es (lane v)) (at ps (lane v)) v here.1
            (right_plainly R w (lane v) (moment v) v.act (reply v) (class_of v.act) (kind_of (kind v)) right.says other.0 other.1)))

    -- the lane's own
    tells_here : (frees : List Free) (all : List Reply) → Tells (cons_option (freed (run_of R w qs) (entry v)) frees) (lane v) (next ps v).told all
        → Tells (cons_option (freed (run_of R w qs) (entry v)) frees) (lane v) before all
    tells_here frees all t = by_more (tells_one (ending_at es (lane v)) (at ps (lane v)) v)
      where
        by_more : SaysMore IsAny before (next ps v).told → Tells (cons_option (freed (run_of R w qs) (entry v)) frees) (lane v) before all
        by_more (inl none) = subst (λ xs. Tells (cons_option (freed (run_of R w qs) (entry v)) frees) (lane v) xs all) none t
        by_more (inr one) =
            tells_first (cons_option (freed (run_of R w qs) (entry v)) frees) (lane v) before one.0 all
            (covered_at frees one.0 one.1 (one_is one.0 one.1))
            (subst (λ xs. Tells (cons_option (freed (run_of R w qs) (entry v)) frees) (lane v) xs all) one.1 t)
          where
            one_is : (r : Reply) → (next ps v).told ≡ before ++ r ∷ [] → SaysMore IsPlainReply before (next ps v).told → IsPlainReply r
            one_is r is (inl none) = absurd (no_more before r (sym none ∙ is))
            one_is r is (inr other) = subst IsPlainReply (last_is before other.0 r (sym other.1 ∙ is)) other.2

  pub tells : (h : List Event) (w : World) (ps qs : List Position) → IsLegal R w h → AreLanes (length ps) h → length qs ≡ length ps → HasKeys w.store → AllKnow R w ps qs → AllRun es ps h told → has_faults (entries h) ≡ false
      → (k : ℕ) → k < length ps → Tells (freed_by R w qs h) k (at ps k).told (told k)
  unfolding AllKnow AllRun after
  tells [] w ps qs legal lanes count named aware runs sound k lt = record {
    rest = [];
    told_is = sym (runs k lt).1 ∙ sym (append-nil (at ps k).told);
    are = tt;
  }
  tells (v ∷ vs) w ps qs legal lanes count named aware runs sound k lt =
      let faults = or_parts (kind v == FAULT_KIND) (has_faults (entries vs)) sound in
      let run : Runs (ending_at es (lane v)) (at ps (lane v)) (v ∷ own (lane v) vs) (told (lane v)) = subst (λ xs. Runs (ending_at es (lane v)) (at ps (lane v)) xs (told (lane v))) (own_here v vs) (runs (lane v) lanes.0) in
      let here = aware (lane v) lanes.0 in
      let ends = legal_own R (after R w v) (lane v) vs legal.1 in
      let t = turn R remote es told w ps qs v vs legal.0 named here run.1 run.2 ends in
      let len : length (slice_set ps (lane v) (next ps v)) ≡ length ps = length-set ps (lane v) (next ps v) in
      let also : length (slice_set qs (lane v) t.0) ≡ length (slice_set ps (lane v) (next ps v)) = length-set qs (lane v) t.0 ∙ count ∙ sym len in
      let inside : lane v < length qs = subst (λ n. lane v < n) (sym count) lanes.0 in
      let tells_same = told_alike R (after R w v).store (lane v) (next ps v) t.0 (pull_in (next ps v).task) t.2 in
      let behind = tells vs (after R w v) (slice_set ps (lane v) (next ps v)) (slice_set qs (lane v) t.0) legal.1 (subst (λ n. AreLanes n vs) (sym len) lanes.1) also (keyed_next R remote es told w v named)
      (know_next R remote es told w ps qs v vs lanes.0 inside legal.0 named aware t.0
      (collects_next R remote es told w ps qs v vs legal.0 named here run.1 run.2 ends (at ps (lane v)).task refl)
      (plain_next R remote es told w ps qs v vs legal.0 named here run.1 run.2 ends (at ps (lane v)).task refl) t.2)
      (runs_next R remote es told ps v vs lanes.0 runs run.2) faults.1 k (subst (λ n. k < n) (sym len) lt) in
      subst (λ fs. Tells fs k (at ps k).told (told k)) (sym (frees_on w qs v vs t.0 faults.0 t.1))
      (by_lane w ps qs v vs legal.0 here t.0 t.1 inside tells_same lanes.0 k behind)
    where
      by_lane : (w : World) (ps qs : List Position) (v : Event) (vs : List Event) (right : IsRight R w v) (here : Knows R w ps qs (lane v)) (q' : Position)
          → entered (known es) (run_of R w qs) w.events (entry v) (entries vs) ≡ Some (run_of R (after R w v) (slice_set qs (lane v) q'))
          → lane v < length qs → q'.told ≡ (next ps v).told → lane v < length ps → (k : ℕ)
          → Tells (freed_by R (after R w v) (slice_set qs (lane v) q') vs) k (at (slice_set ps (lane v) (next ps v)) k).told (told k)
          → Tells (cons_option (freed (run_of R w qs) (entry v)) (freed_by R (after R w v) (slice_set qs (lane v) q') vs)) k (at ps k).told (told k)
      by_lane w ps qs v vs right here q' enters inside tells_same there k t = by_test (lane v == k) refl
        where
          more : Tells (cons_option (freed (run_of R w qs) (entry v)) (freed_by R (after R w v) (slice_set qs (lane v) q') vs)) k (at (slice_set ps (lane v) (next ps v)) k).told (told k)
          more = tells_more (freed (run_of R w qs) (entry v)) (freed_by R (after R w v) (slice_set qs (lane v) q') vs) k (at (slice_set ps (lane v) (next ps v)) k).told (told k) t

          by_test : (b : Bool) → (lane v == k) ≡ b
              → Tells (cons_option (freed (run_of R w qs) (entry v)) (freed_by R (after R w v) (slice_set qs (lane v) q') vs)) k (at ps k).told (told k)
          by_test true is =
              let k_is = eqb-true (lane v) k is in
              subst (λ i. Tells (cons_option (freed (run_of R w qs) (entry v)) (freed_by R (after R w v) (slice_set qs (lane v) q') vs)) i (at ps i).told (told i)) k_is
              (tells_here w ps qs v vs right here q' enters inside tells_same (freed_by R (after R w v) (slice_set qs (lane v) q') vs) (told (lane v))
              (subst (λ y. Tells (cons_option (freed (run_of R w qs) (entry v)) (freed_by R (after R w v) (slice_set qs (lane v) q') vs)) (lane v) y.told (told (lane v)))
              (get_or-set_same ps (lane v) (next ps v) (begin []) there)
              (subst (λ i. Tells (cons_option (freed (run_of R w qs) (entry v)) (freed_by R (after R w v) (slice_set qs (lane v) q') vs)) i (at (slice_set ps (lane v) (next ps v)) i).told (told i)) (sym k_is) more)))
          by_test false is =
              subst (λ y. Tells (cons_option (freed (run_of R w qs) (entry v)) (freed_by R (after R w v) (slice_set qs (lane v) q') vs)) k y.told (told k))
              (get_or-set_other ps (lane v) k (next ps v) (begin []) (not_same R remote es told k v is)) more

-- What a whole sweep leaves.
use Rattle.std.proofs.Common.{◌≡◌, ◌≤◌, ◌<◌, ◌⊎◌, inl, inr, ℕ, ◌+◌, Bool, true, false, cond, List, [], ◌∷◌, ◌++◌, length, Option, Some, None, Result, Ok, Err, refl, sym, subst, ap, ◌∙◌, arith, is_some, ltb-false}
use Rattle.std.specs.Prelude.{option_map, option_to_list, unwrap_or, IfSome, IsSome}
use Rattle.std.proofs.lemmas.Bool.{false≢true}
use Rattle.store_types.specs.declared.refusal.Refusal.{Refusal}
use Rattle.store_types.specs.declared.refusal.Refusal.TheVariants.{CollectorBusy}
use Rattle.store_types.specs.Chain.Refusing.{◌>>=◌, if_none}
use Rattle.store_types.specs.declared.order.TheConstants.{START_KIND}
use Rattle.store_files.specs.Archive.{Snapshot}
use Rattle.wire_commands.specs.declared.reply.Reply.{Reply}
use Rattle.wire_commands.specs.declared.reply.Reply.TheVariants.{Done}
use Rattle.store_model.specs.Heads.{idle_in}
use Rattle.store_model.specs.Lanes.{Collecting}
use Rattle.store_model.specs.Weave.{want_collector}
use Rattle.atime_book.specs.Touches.{cutoff_of, is_stale}
use Rattle.store_history.specs.declared.act.Act.{Act}
use Rattle.store_history.specs.declared.act.Act.TheVariants as acts
use Rattle.store_history.specs.declared.act.Event.{Event}
use Rattle.store_history.specs.Acts.{Class, starting, sweeping, class_of}
use Rattle.store_history.specs.History.{World, Opening, opened, moved, after, after_all, lane, moment, kind, reply, EntryKind, kind_of, pass_kind, start_kind, new_collecting}
use Rattle.store_history.specs.Legal.{may_open, Right, IsRight, IsLegal}
use Rattle.store_history.specs.LastTouches.{LastTouches, is_one_of}
use Rattle.store_history.specs.Sweeping.{Unmarked, Sweep, Swept, swept_at, is_there, chunks, oldest_in, new_sweep, left_of, first_taken, behind_first, next_taken, one_more, passed, is_done, is_over, is_pass, sweep_of, passing, marks_in, taken_in, taken_by, touched_after, without, spared, swept_by, while_open, swept_after, swept_all}
use Rattle.store_upkeep.specs.Safety.{In, IsFresh, IsThere, IsStocked, OpensStocked, IsSafe}
use Rattle.store_upkeep.specs.Laws.{StaysOpen, touched_all, taken_all, sent_in, IsWhole, LeavesRight}
use Rattle.store_upkeep.proofs.Members.{some_same, none_some, in_filter, is_one_in}
use Rattle.store_upkeep.proofs.Freshness.{Sends, Touches, touches_with, stays_fresh, is_fresh_now}
use Rattle.store_upkeep.proofs.Moving.{Moves}
use Rattle.store_upkeep.proofs.Acting.{Forgets, event_moves}
use Rattle.store_upkeep.proofs.Going.{safe_after, safe_all, opened_safe}
use Rattle.store_upkeep.proofs.Stocking.{taken_is, stocked_after, stocked_all, opened_stocked}
use Rattle.store_upkeep.proofs.Marking.{IsListed, open_same, listed_next, listed_all, opened_listed, marked_there}
use Rattle.store_upkeep.proofs.Following.{Follows, follows_itself, touched_follows, without_follows, gone_by, without_undated, visit_last}
use Rattle.store_upkeep.proofs.Listing.{IsKnown, known_next, known_all, opened_known, there_from}

-- ---- in the course of a sweep

-- where there is no open collector there is no sweep
abbrev Agrees : World → Swept → Type 0
Agrees w s = w.collecting ≡ None → s.sweep ≡ None

-- Beside u, the last touches had none been taken out since the start of the sweep: nothing is undated; each last touch is u's, but that of a chunk
-- that was taken out; what is still to be marked is of finished snapshots; and once the chunks are listed, each that is there is fresh or to be visited.
record Sweeps (w : World) (s : Swept) (u : LastTouches) (sweep : Sweep) : Type 0 where
  safe : IsSafe w s
  stocked : IsStocked w.store s.touches
  known : IsKnown s
  agrees : Agrees w s
  now_dated : (d : List ℕ) → s.touches.undated d ≡ false
  then_dated : (d : List ℕ) → u.undated d ≡ false
  follows : (d : List ℕ) → Follows sweep.cutoff (s.touches.last d) (u.last d)
  of_snapshots : IsListed w s
  listed : (ds : List (List ℕ)) → sweep.to_visit ≡ Some ds → (d : List ℕ) → IsThere s.touches d → IsFresh s.touches sweep.cutoff d ⊎ In d ds

-- how the sweep a goes on as b, by a mark or a visit, or by another event
abbrev Went : Swept → Event → Sweep → Sweep → Bool → Type 0
Went s e a b true = b ≡ passed s a a.unmarked
Went s e a b false = b ≡ spared e.act (reply e) a

mapped : (f : Sweep → Sweep) (o : Option Sweep) (a b : Sweep) → o ≡ Some a → option_map f o ≡ Some b → b ≡ f a
mapped f o a b is e = sym (some_same (f a) b (sym (ap (option_map f) is) ∙ e))

none_open : (w : World) (k : ℕ) → may_open w k ≡ Ok tt → w.collecting ≡ None
unfolding want_collector
none_open w k e = by_idle (idle_in w.store k) e
  where
    apart : (refusal : Refusal) → ◌≡◌ {A = Result (Unit {0}) Refusal} (Err refusal) (Ok tt) → ⊥
    apart refusal e = cc

    by_open : (o : Option Collecting) → if_none (λ (c : Collecting). CollectorBusy c.lane) o ≡ Ok tt → o ≡ None
    by_open None e = refl
    by_open (Some c) e = absurd (apart (CollectorBusy c.lane) e)

    by_idle : (r : Result (Unit {0}) Refusal) → (r >>= λ _. if_none (λ (c : Collecting). CollectorBusy c.lane) w.collecting) ≡ Ok tt → w.collecting ≡ None
    by_idle (Ok u) e = by_open w.collecting e
    by_idle (Err refusal) e = absurd (apart refusal e)

went_by : (R : Option (List Snapshot)) (w : World) (s : Swept) (e : Event) (a b : Sweep) → Agrees w s → s.sweep ≡ Some a → (c : Class) (n : EntryKind)
    → Right R w (lane e) (moment e) e.act (reply e) c n → swept_by w s e c n ≡ Some b → Went s e a b (is_pass c n)
went_by R w s e a b agrees is starting start_kind right next = absurd (none_some a (sym (agrees (none_open w (lane e) right.1)) ∙ is))
went_by R w s e a b agrees is sweeping pass_kind right next = mapped (λ sweep. passed s sweep sweep.unmarked) s.sweep a b is next
went_by R w s e a b agrees is c n right next = mapped (spared e.act (reply e)) s.sweep a b is next

went : (R : Option (List Snapshot)) (w : World) (s : Swept) (e : Event) (a b : Sweep) → IsRight R w e → Agrees w s → s.sweep ≡ Some a → (swept_after R w s e).sweep ≡ Some b
    → Went s e a b (is_pass (class_of e.act) (kind_of (kind e)))
unfolding swept_after
went R w s e a b right agrees is next =
    went_by R w s e a b agrees is (class_of e.act) (kind_of (kind e)) right.says
    (open_same (after R w e).collecting (swept_by w s e (class_of e.act) (kind_of (kind e))) b next)

agrees_after : (R : Option (List Snapshot)) (w : World) (s : Swept) (e : Event) → Agrees (after R w e) (swept_after R w s e)
unfolding swept_after
agrees_after R w s e closed = by_open (after R w e).collecting (swept_by w s e (class_of e.act) (kind_of (kind e))) closed
  where
    apart : (c : Collecting) → Some c ≡ None → ⊥
    apart c e = cc

    by_open : (o : Option Collecting) (new : Option Sweep) → o ≡ None → while_open o new ≡ None
    by_open None new closed = refl
    by_open (Some c) new closed = absurd (apart c closed)

-- ---- what stays of the sweep

-- its numbers, but for the count of those that are taken out
record Same (s : Swept) (o : Option Sweep) (a b : Sweep) : Type 0 where
  start : b.start ≡ a.start
  cutoff : b.cutoff ≡ a.cutoff
  removed : b.removed ≡ one_more (taken_in s o) a.removed

passed_same : (s : Swept) (a : Sweep) (us : List Unmarked) → a.unmarked ≡ us → Same s (Some a) a (passed s a us)
passed_same s a [] is = record { start = refl; cutoff = refl; removed = ap (λ us. one_more (next_taken s a us) a.removed) (sym is) }
passed_same s a (u ∷ us) is = record { start = refl; cutoff = refl; removed = ap (λ us. one_more (next_taken s a us) a.removed) (sym is) }

went_same : (s : Swept) (e : Event) (a b : Sweep) (pass : Bool) → s.sweep ≡ Some a → Went s e a b pass → Same s (sweep_of s.sweep pass) a b
went_same s e a b true is by = subst (λ o. Same s o a b) (sym is) (subst (Same s (Some a) a) (sym by) (passed_same s a a.unmarked refl))
went_same s e a b false is by = subst (Same s None a) (sym by) (record { start = refl; cutoff = refl; removed = refl })

-- ---- one event

module _ (R : Option (List Snapshot)) (w : World) (s : Swept) (u : LastTouches) (e : Event) (a b : Sweep)
    (right : IsRight R w e) (h : Sweeps w s u a) (is : s.sweep ≡ Some a) (next : (swept_after R w s e).sweep ≡ Some b) where
  moves : Moves w.store (after R w e).store (moment e) (Sends e.act (reply e)) (Touches e.act (reply e)) (Forgets e.act (reply e))
  unfolding after
  moves = event_moves R w e right

  by_went : Went s e a b (is_pass (class_of e.act) (kind_of (kind e)))
  by_went = went R w s e a b right h.agrees is next

  same : Same s (passing s e) a b
  same = went_same s e a b (is_pass (class_of e.act) (kind_of (kind e))) is by_went

  in_time : a.cutoff ≤ moment e
  in_time = omega (arith, (h.safe).cut a is, right.risen)

  named : (d : List ℕ) → Touches e.act (reply e) d → Sends e.act (reply e) d ⊎ IsThere s.touches d
  named d touches = elim (moves.named d touches) [ inl sent ↦ inl sent | inr pooled ↦ inr (h.stocked d (inr pooled)) ]

  -- what is marked is there
  marks_there : (d : List ℕ) → is_one_of d (marks_in (passing s e)) ≡ true → IsThere s.touches d
  marks_there d here =
      marked_there w s (is_pass (class_of e.act) (kind_of (kind e))) d h.of_snapshots h.stocked (is_one_in d (marks_in (passing s e)) here)

  undated_there : (d : List ℕ) → s.touches.undated d ≡ true → IsThere s.touches d
  undated_there d is = absurd (false≢true (sym (h.now_dated d) ∙ is))

  taken_stale : (d : List ℕ) → taken_by s e ≡ Some d → (n : ℕ) × (n ≤ a.cutoff) × (is_stale ((touched_after s e s.touches).last d) n ≡ true)
  taken_stale d taken =
      let at = taken_is s d s.sweep (is_pass (class_of e.act) (kind_of (kind e))) refl taken in
      let one : at.0 ≡ a = some_same at.0 a (sym (at.2).open_is ∙ is) in (
        a.cutoff,
        omega arith,
        ap (λ p. is_stale p a.cutoff) (visit_last s e d at.0 at.1 (at.2).open_is (at.2).all (h.now_dated d))
            ∙ subst (λ (x : Sweep). is_stale (s.touches.last d) x.cutoff ≡ true) one (at.2).stale,
      )

  follows_after : (d : List ℕ) → Follows b.cutoff ((swept_after R w s e).touches.last d) ((touched_after s e u).last d)
  unfolding swept_after
  follows_after d =
      subst (λ n. Follows n ((without (taken_by s e) (touched_after s e s.touches)).last d) ((touched_after s e u).last d)) (sym same.cutoff)
      (without_follows (taken_by s e) a.cutoff (touched_after s e s.touches) ((touched_after s e u).last d) d (taken_stale d)
      (touched_follows s e a.cutoff u d (omega (arith, in_time)) (named d) (marks_there d) (h.then_dated d ∙ sym (h.now_dated d)) (undated_there d) (h.follows d)))

  -- ---- what is still to be visited

  stays_after : (d : List ℕ) → IsFresh s.touches a.cutoff d → IsFresh (swept_after R w s e).touches b.cutoff d
  unfolding swept_after
  stays_after d fresh = subst (λ n. IsFresh (touches_with s e (passing s e)) n d) (sym same.cutoff) (stays_fresh s e (passing s e) a.cutoff d in_time fresh)

  sent_fresh : (d : List ℕ) → Touches e.act (reply e) d → IsFresh (swept_after R w s e).touches b.cutoff d
  unfolding swept_after
  sent_fresh d touches = subst (λ n. IsFresh (touches_with s e (passing s e)) n d) (sym same.cutoff) (is_fresh_now s e (passing s e) a.cutoff d in_time touches)

  sent_touches : (act : Act) (r : Option Reply) (d : List ℕ) → In d (sent_in act r) → Touches act r d
  sent_touches (acts.Chunk digest checked) (Some Done) d (inl here) = here
  sent_touches (acts.Chunk digest checked) (Some Done) d (inr none) = absurd none
  sent_touches act r d at = absurd at

  abbrev Left : List (List ℕ) → List ℕ → Type 0
  Left ds d = IsFresh (swept_after R w s e).touches b.cutoff d ⊎ In d ds

  -- what was fresh or to be visited before
  old_left : (ds : List (List ℕ)) (d : List ℕ) → IsFresh s.touches a.cutoff d ⊎ In d ds → Left ds d
  old_left ds d (inl fresh) = inl (stays_after d fresh)
  old_left ds d (inr at) = inr at

  spared_left : (ds : List (List ℕ)) → a.to_visit ≡ Some ds → (d : List ℕ) → IsThere (swept_after R w s e).touches d → Left ds d
  spared_left ds visits d there = by_coming (there_from R w s e d there)
    where
      by_coming : IsThere s.touches d ⊎ In d (sent_in e.act (reply e)) → Left ds d
      by_coming (inl old) = old_left ds d (h.listed ds visits d old)
      by_coming (inr sent) = inl (sent_fresh d (sent_touches e.act (reply e) d sent))

  -- before a visit each chunk that is there is fresh or among those that are left
  before_visit : (o : Option (List (List ℕ))) → a.to_visit ≡ o → (d : List ℕ) → IsThere s.touches d → IsFresh s.touches a.cutoff d ⊎ In d (unwrap_or o (chunks s))
  before_visit None visits d there = inr (in_filter (is_there s.touches) s.known d ((h.known).there d there) there)
  before_visit (Some ds) visits d there = h.listed ds visits d there

  gone_there : (d : List ℕ) → taken_by s e ≡ Some d → IsThere (swept_after R w s e).touches d → ⊥
  unfolding swept_after
  gone_there d taken there = gone_by (taken_by s e) (touched_after s e s.touches) d taken there

  -- the first that is left is taken out, or is fresh
  visited_left : (xs : List (List ℕ)) → (first_taken s.touches a.cutoff xs ≡ taken_by s e) → (d : List ℕ) → IsThere (swept_after R w s e).touches d
      → IsFresh s.touches a.cutoff d ⊎ In d xs → Left (behind_first xs) d
  visited_left xs takes d there (inl fresh) = inl (stays_after d fresh)
  visited_left [] takes d there (inr at) = absurd at
  visited_left (x ∷ xs) takes d there (inr (inr later)) = inr later
  visited_left (x ∷ xs) takes d there (inr (inl here)) = by_test (is_stale (s.touches.last x) a.cutoff) refl takes
    where
      by_test : (old : Bool) → is_stale (s.touches.last x) a.cutoff ≡ old → cond old (Some x) None ≡ taken_by s e → Left xs d
      by_test true stale takes = absurd (gone_there d (sym takes ∙ ap (λ y. Some y) (sym here)) there)
      by_test false fresh takes = inl (stays_after d (ap (λ y. is_stale (s.touches.last y) a.cutoff) here ∙ fresh))

  passed_left : (us : List Unmarked) → a.unmarked ≡ us → is_pass (class_of e.act) (kind_of (kind e)) ≡ true → (ds : List (List ℕ)) → (passed s a us).to_visit ≡ Some ds
      → (d : List ℕ) → IsThere (swept_after R w s e).touches d → Left ds d
  passed_left (v ∷ vs) all pass ds visits d there = spared_left ds visits d there
  passed_left [] all pass ds visits d there = subst (λ xs. Left xs d) (some_same (behind_first (left_of s a)) ds visits) (by_coming (there_from R w s e d there))
    where
      takes : first_taken s.touches a.cutoff (left_of s a) ≡ taken_by s e
      takes = sym (ap (λ p. taken_in s (sweep_of s.sweep p)) pass ∙ ap (taken_in s) is ∙ ap (next_taken s a) all)

      by_coming : IsThere s.touches d ⊎ In d (sent_in e.act (reply e)) → Left (behind_first (left_of s a)) d
      by_coming (inl old) = visited_left (left_of s a) takes d there (before_visit a.to_visit refl d old)
      by_coming (inr sent) = inl (sent_fresh d (sent_touches e.act (reply e) d sent))

  listed_by : (pass : Bool) → is_pass (class_of e.act) (kind_of (kind e)) ≡ pass → Went s e a b pass → (ds : List (List ℕ)) → b.to_visit ≡ Some ds
      → (d : List ℕ) → IsThere (swept_after R w s e).touches d → Left ds d
  listed_by true pass by ds visits d there = passed_left a.unmarked refl pass ds (sym (ap (λ (y : Sweep). y.to_visit) by) ∙ visits) d there
  listed_by false pass by ds visits d there = spared_left ds (sym (ap (λ (y : Sweep). y.to_visit) by) ∙ visits) d there

  now_dated_after : (d : List ℕ) → (swept_after R w s e).touches.undated d ≡ false
  unfolding swept_after
  now_dated_after d = without_undated (taken_by s e) (touched_after s e s.touches) d

  sweeps_after : Sweeps (after R w e) (swept_after R w s e) (touched_after s e u) b
  sweeps_after = record {
    safe = safe_after R w s e h.safe right;
    stocked = stocked_after R w s e h.safe right h.stocked;
    known = known_next R w s e h.known;
    agrees = agrees_after R w s e;
    now_dated = now_dated_after;
    then_dated = λ d. refl;
    follows = follows_after;
    of_snapshots = listed_next R w s e right h.of_snapshots;
    listed = listed_by (is_pass (class_of e.act) (kind_of (kind e))) refl by_went;
  }

-- ---- events one after another

record Ran (R : Option (List Snapshot)) (w : World) (s : Swept) (u : LastTouches) (es : List Event) (a b : Sweep) : Type 0 where
  sweeps : Sweeps (after_all R w es) (swept_all R w s es) (touched_all R w s u es) b
  start : b.start ≡ a.start
  cutoff : b.cutoff ≡ a.cutoff
  removed : b.removed ≡ a.removed + length (taken_all R w s es)

counted : (o : Option (List ℕ)) (n m k : ℕ) (xs : List (List ℕ)) → m ≡ one_more o n → k ≡ m + length xs → k ≡ n + length (option_to_list o ++ xs)
counted None n m k xs e f = omega (arith, e, f)
counted (Some d) n m k xs e f = omega (arith, e, f)

counted_all : (o : Option (List ℕ)) (k : ℕ) (xs : List (List ℕ)) → o ≡ None → k ≡ 0 + length xs → k ≡ length (option_to_list o ++ xs)
counted_all o k xs e f = subst (λ p. k ≡ length (option_to_list p ++ xs)) (sym e) (omega (arith, f))

some_of : (o : Option Sweep) → IsSome o → (x : Sweep) × (o ≡ Some x)
some_of None h = absurd (false≢true h)
some_of (Some x) h = (x, refl)

pub stays_some : (R : Option (List Snapshot)) (w : World) (s : Swept) (es : List Event) → StaysOpen R w s es → IsSome s.sweep
stays_some R w s [] h = h
stays_some R w s (e ∷ es) h = h.0

run : (R : Option (List Snapshot)) (es : List Event) (w : World) (s : Swept) (u : LastTouches) (a b : Sweep) → IsLegal R w es → Sweeps w s u a → s.sweep ≡ Some a → StaysOpen R w s es
    → (swept_all R w s es).sweep ≡ Some b → Ran R w s u es a b
unfolding after_all swept_all touched_all taken_all
run R [] w s u a b legal h is stays next =
    subst (Ran R w s u [] a) (some_same a b (sym is ∙ next)) (record { sweeps = h; start = refl; cutoff = refl; removed = omega arith })
run R (e ∷ es) w s u a b legal h is stays next =
    let c = some_of (swept_after R w s e).sweep (stays_some R (after R w e) (swept_after R w s e) es stays.1) in
    let numbers = same R w s u e a c.0 legal.0 h is c.1 in
    let rest = run R es (after R w e) (swept_after R w s e) (touched_after s e u) c.0 b legal.1 (sweeps_after R w s u e a c.0 legal.0 h is c.1) c.1 stays.1 next in
    record {
      sweeps = rest.sweeps;
      start = rest.start ∙ numbers.start;
      cutoff = rest.cutoff ∙ numbers.cutoff;
      removed = counted (taken_by s e) a.removed (c.0).removed b.removed (taken_all R (after R w e) (swept_after R w s e) es) numbers.removed rest.removed;
    }

-- ---- the start

module _ (R : Option (List Snapshot)) (w : World) (s : Swept) (e : Event) (act_is : e.act ≡ acts.Start) (kind_is : kind e ≡ START_KIND) where
  no_pass : is_pass (class_of e.act) (kind_of (kind e)) ≡ false
  no_pass = ap (λ (a : Act). is_pass (class_of a) (kind_of (kind e))) act_is

  none_taken : taken_by s e ≡ None
  none_taken = ap (λ b. taken_in s (sweep_of s.sweep b)) no_pass

  pub opens : (after R w e).collecting ≡ new_collecting (lane e) false
  unfolding after moved
  opens = ap (λ n. (moved R w (lane e) (moment e) e.act (kind_of n)).collecting) kind_is

  new_is : (swept_after R w s e).sweep ≡ Some (new_sweep w.store (moment e))
  unfolding swept_after
  new_is =
      ap (λ o. while_open o (swept_by w s e (class_of e.act) (kind_of (kind e)))) opens
      ∙ ap (λ (a : Act). swept_by w s e (class_of a) (kind_of (kind e))) act_is
      ∙ ap (λ n. swept_by w s e starting (kind_of n)) kind_is

  first_follows : (d : List ℕ) → Follows (new_sweep w.store (moment e)).cutoff ((swept_after R w s e).touches.last d) ((touched_after s e s.touches).last d)
  unfolding swept_after
  first_follows d =
      subst (λ o. Follows (new_sweep w.store (moment e)).cutoff ((without o (touched_after s e s.touches)).last d) ((touched_after s e s.touches).last d)) (sym none_taken)
      (follows_itself (new_sweep w.store (moment e)).cutoff ((touched_after s e s.touches).last d))

  first_dated : (d : List ℕ) → (swept_after R w s e).touches.undated d ≡ false
  unfolding swept_after
  first_dated d = without_undated (taken_by s e) (touched_after s e s.touches) d

  first_sweeps : IsRight R w e → IsSafe w s → IsStocked w.store s.touches → IsKnown s → IsListed w s → Sweeps (after R w e) (swept_after R w s e) (touched_after s e s.touches) (new_sweep w.store (moment e))
  first_sweeps right safe stocked known listed_of = record {
    safe = safe_after R w s e safe right;
    stocked = stocked_after R w s e safe right stocked;
    known = known_next R w s e known;
    agrees = agrees_after R w s e;
    now_dated = first_dated;
    then_dated = λ d. refl;
    follows = first_follows;
    of_snapshots = listed_next R w s e right listed_of;
    listed = λ ds visits d there. absurd (none_some ds visits);
  }

-- ---- the end

over_visits : (us : List Unmarked) (o : Option (List (List ℕ))) → is_done us o ≡ true → o ≡ Some []
over_visits [] None h = absurd (false≢true h)
over_visits [] (Some []) h = refl
over_visits [] (Some (d ∷ ds)) h = absurd (false≢true h)
over_visits (u ∷ us) o h = absurd (false≢true h)

module _ (w : World) (s : Swept) (u : LastTouches) (sweep : Sweep) (h : Sweeps w s u sweep) (over : is_over sweep ≡ true) (d : List ℕ) (when : ℕ) where
  left_then : s.touches.last d ≡ Some when → (u.last d ≡ Some when) × (sweep.cutoff ≤ when)
  left_then is = (subst (λ p. Follows sweep.cutoff p (u.last d)) is (h.follows d), by_left (h.listed [] (over_visits sweep.unmarked sweep.to_visit over) d (ap is_some is)))
    where
      by_left : IsFresh s.touches sweep.cutoff d ⊎ In d [] → sweep.cutoff ≤ when
      by_left (inl fresh) = ltb-false when sweep.cutoff (subst (λ p. is_stale p sweep.cutoff ≡ false) is fresh)
      by_left (inr none) = absurd none

  then_left : (u.last d ≡ Some when) × (sweep.cutoff ≤ when) → s.touches.last d ≡ Some when
  then_left was = by_last (s.touches.last d) refl
    where
      by_last : (p : Option ℕ) → s.touches.last d ≡ p → s.touches.last d ≡ Some when
      by_last None is =
          let before : when < sweep.cutoff = subst (λ q. IfSome q (λ m. m < sweep.cutoff)) was.0 (subst (λ p. Follows sweep.cutoff p (u.last d)) is (h.follows d)) in
          absurd (omega (arith, before, was.1))
      by_last (Some l) is = is ∙ sym (subst (λ p. Follows sweep.cutoff p (u.last d)) is (h.follows d)) ∙ was.0

pub legal_parts : (R : Option (List Snapshot)) (w : World) (xs ys : List Event) → IsLegal R w (xs ++ ys) → IsLegal R w xs × IsLegal R (after_all R w xs) ys
unfolding after_all
legal_parts R w [] ys legal = (tt, legal)
legal_parts R w (x ∷ xs) ys legal = let rest = legal_parts R (after R w x) xs ys legal.1 in ((legal.0, rest.0), rest.1)

leaves : (R : Option (List Snapshot)) (w : World) (s : Swept) (start : Event) (since : List Event) (sweep : Sweep) → IsLegal R w (start ∷ since) → IsSafe w s → IsStocked w.store s.touches → IsKnown s → IsListed w s
    → IsWhole R w s start since sweep → LeavesRight R w s start since sweep
unfolding swept_all touched_all taken_all
leaves R w s start since sweep legal safe stocked known listed_of whole =
    let first = first_sweeps R w s start whole.act whole.kind_is legal.0 safe stocked known listed_of in
    let ran = run R since (after R w start) (swept_after R w s start) (touched_after s start s.touches) (new_sweep w.store (moment start)) sweep legal.1 first
    (new_is R w s start whole.act whole.kind_is) whole.stays whole.sweep_is in
    record {
      started = ran.start;
      cutoff = ran.cutoff;
      removed = counted_all (taken_by s start) sweep.removed (taken_all R (after R w start) (swept_after R w s start) since) (none_taken R w s start whole.act whole.kind_is) ran.removed;
      chunks = λ d when. (
        left_then (after_all R (after R w start) since) (swept_all R (after R w start) (swept_after R w s start) since)
            (touched_all R (after R w start) (swept_after R w s start) (touched_after s start s.touches) since) sweep ran.sweeps whole.over d when,
        then_left (after_all R (after R w start) since) (swept_all R (after R w start) (swept_after R w s start) since)
            (touched_all R (after R w start) (swept_after R w s start) (touched_after s start s.touches) since) sweep ran.sweeps whole.over d when,
      );
    }

-- ---- its start and its cutoff

numbers_stay : (R : Option (List Snapshot)) (es : List Event) (w : World) (s : Swept) (a b : Sweep) → IsLegal R w es → Agrees w s → s.sweep ≡ Some a → StaysOpen R w s es
    → (swept_all R w s es).sweep ≡ Some b → (b.start ≡ a.start) × (b.cutoff ≡ a.cutoff)
unfolding swept_all
numbers_stay R [] w s a b legal agrees is stays end =
    let one = some_same b a (sym end ∙ is) in (ap (λ (x : Sweep). x.start) one, ap (λ (x : Sweep). x.cutoff) one)
numbers_stay R (v ∷ es) w s a b legal agrees is stays end =
    let c = some_of (swept_after R w s v).sweep (stays_some R (after R w v) (swept_after R w s v) es stays.1) in
    let numbers = went_same s v a c.0 (is_pass (class_of v.act) (kind_of (kind v))) is (went R w s v a c.0 legal.0 agrees is c.1) in
    let rest = numbers_stay R es (after R w v) (swept_after R w s v) c.0 b legal.1 (agrees_after R w s v) c.1 stays.1 end in
    (rest.0 ∙ numbers.start, rest.1 ∙ numbers.cutoff)

pub whole_numbers : (R : Option (List Snapshot)) (w : World) (s : Swept) (start : Event) (since : List Event) (sweep : Sweep) → IsLegal R w (start ∷ since) → IsWhole R w s start since sweep
    → (sweep.start ≡ moment start) × (sweep.cutoff ≡ cutoff_of (moment start) (oldest_in (w.store).sessions))
unfolding swept_all
whole_numbers R w s start since sweep legal whole =
    numbers_stay R since (after R w start) (swept_after R w s start) (new_sweep w.store (moment start)) sweep legal.1 (agrees_after R w s start)
    (new_is R w s start whole.act whole.kind_is) whole.stays whole.sweep_is

-- ---- in a legal history

pub sweeps_leave : (R : Option (List Snapshot)) (o : Opening) (before : List Event) (start : Event) (since : List Event) (sweep : Sweep)
    → IsLegal R (opened o) (before ++ start ∷ since) → OpensStocked o
    → IsWhole R (after_all R (opened o) before) (swept_all R (opened o) (swept_at o) before) start since sweep
    → LeavesRight R (after_all R (opened o) before) (swept_all R (opened o) (swept_at o) before) start since sweep
sweeps_leave R o before start since sweep legal opens whole =
    let parts = legal_parts R (opened o) before (start ∷ since) legal in
    leaves R (after_all R (opened o) before) (swept_all R (opened o) (swept_at o) before) start since sweep parts.1
    (safe_all R (opened o) (swept_at o) before parts.0 (opened_safe o))
    (stocked_all R (opened o) (swept_at o) before parts.0 (opened_safe o) (opened_stocked o opens))
    (known_all R (opened o) (swept_at o) before (opened_known o))
    (listed_all R (opened o) (swept_at o) before parts.0 (opened_listed o)) whole

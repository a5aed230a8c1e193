-- What is still to be marked is of finished snapshots, so what is marked is there.
use Rattle.std.proofs.Common.{◌≡◌, ◌⊎◌, inl, inr, ℕ, Bool, true, false, not, List, [], ◌∷◌, drop, Option, Some, None, refl, sym, subst, ap, ◌∙◌}
use Rattle.std.specs.Prelude.{option_map}
use Rattle.std.proofs.lemmas.Bool.{false≢true}
use Rattle.store_types.specs.declared.names.SnapshotKey.{SnapshotKey}
use Rattle.store_files.specs.Archive.{File, Snapshot}
use Rattle.wire_commands.specs.declared.command.Command.TheVariants.{Forget}
use Rattle.wire_commands.specs.declared.reply.Reply.{Reply}
use Rattle.wire_commands.specs.declared.reply.Reply.TheVariants.{Done}
use Rattle.store_model.specs.Lanes.{Collecting}
use Rattle.store_history.specs.declared.act.Act.{Act}
use Rattle.store_history.specs.declared.act.Act.TheVariants as acts
use Rattle.store_history.specs.declared.act.Event.{Event}
use Rattle.store_history.specs.Acts.{Class, stepping, starting, sweeping, class_of}
use Rattle.store_history.specs.History.{World, Opening, opened, after, after_all, moment, kind, reply, EntryKind, kind_of, pass_kind, start_kind}
use Rattle.store_history.specs.Legal.{IsRight, IsLegal}
use Rattle.store_history.specs.Sweeping.{digests_of, Unmarked, unmarked_of, indexes_of, indexes_in, mark_limit, Sweep, Swept, swept_at, new_sweep, next_marks, passed, sweep_of, marks_in, forgets, spared, swept_by, while_open, swept_after, swept_all}
use Rattle.store_upkeep.specs.Safety.{In, IsOf, IsThere, IsStocked}
use Rattle.store_upkeep.proofs.Members.{some_same, none_some, in_append, flat_map_in, in_take, in_drop, filter_in}
use Rattle.store_upkeep.proofs.Freshness.{Sends, Touches}
use Rattle.store_upkeep.proofs.Moving.{IsFree, Moves}
use Rattle.store_upkeep.proofs.Acting.{Forgets, event_moves}

-- an index that is still to be marked is, in what is left of it, of a finished snapshot
abbrev pub IsListed : World → Swept → Type 0
IsListed w s =
    (sweep : Sweep) → s.sweep ≡ Some sweep → (v : Unmarked) → In v sweep.unmarked → (d : List ℕ) → In d v.digests → IsOf (w.store).snapshots v.key d

-- ---- the start

unmarked_is : (key : SnapshotKey) (name : List ℕ) (ds : List (List ℕ)) (v : Unmarked) → In v (unmarked_of key name ds) → (key ≡ v.key) × (v.digests ≡ ds)
unmarked_is key name [] v at = absurd at
unmarked_is key name (d ∷ ds) v (inl first) = (ap (λ (x : Unmarked). x.key) (sym first), ap (λ (x : Unmarked). x.digests) first)
unmarked_is key name (d ∷ ds) v (inr h) = absurd h

indexes_of_snapshots : (xs : List Snapshot) (v : Unmarked) (d : List ℕ) → In v (indexes_in xs) → In d v.digests → IsOf xs v.key d
indexes_of_snapshots xs v d at has =
    let x = flat_map_in indexes_of xs v at in
    let f = flat_map_in (λ (f : File). unmarked_of (x.0).key f.name (digests_of f.content)) (x.0).files v x.2 in
    let whole = unmarked_is (x.0).key (f.0).name (digests_of (f.0).content) v f.2 in
    (x.0, x.1, whole.0, (f.0, f.1, subst (In d) whole.1 has))

-- ---- a mark or a visit

passed_in : (s : Swept) (a : Sweep) (us : List Unmarked) (v : Unmarked) → a.unmarked ≡ us → In v (passed s a us).unmarked → (d : List ℕ) → In d v.digests
    → (x : Unmarked) × In x a.unmarked × (x.key ≡ v.key) × In d x.digests
passed_in s a [] v all at d has = (v, at, refl, has)
passed_in s a (x ∷ xs) v all at d has = by_part (in_append (unmarked_of x.key x.name (drop mark_limit x.digests)) xs v at)
  where
    Goal : Type 0
    Goal = (y : Unmarked) × In y a.unmarked × (y.key ≡ v.key) × In d y.digests

    by_first : In v (unmarked_of x.key x.name (drop mark_limit x.digests)) → Goal
    by_first first =
        let whole = unmarked_is x.key x.name (drop mark_limit x.digests) v first in
        (x, subst (In x) (sym all) (inl refl), whole.0, in_drop mark_limit x.digests d (subst (In d) whole.1 has))

    by_part : In v (unmarked_of x.key x.name (drop mark_limit x.digests)) ⊎ In v xs → Goal
    by_part (inl first) = by_first first
    by_part (inr later) = (v, subst (In v) (sym all) (inr later), refl, has)

-- ---- an event

pub open_same : (o : Option Collecting) (new : Option Sweep) (b : Sweep) → while_open o new ≡ Some b → new ≡ Some b
open_same None new b e = absurd (none_some b e)
open_same (Some collecting) new b e = e

mapped_from : (f : Sweep → Sweep) (o : Option Sweep) (b : Sweep) → option_map f o ≡ Some b → (a : Sweep) × (o ≡ Some a) × (b ≡ f a)
mapped_from f None b e = absurd (none_some b e)
mapped_from f (Some a) b e = (a, refl, sym (some_same (f a) b e))

-- only a command or a step forgets
forgets_class : (a : Act) (r : Option Reply) (key : SnapshotKey) → forgets a r key ≡ true → class_of a ≡ stepping
forgets_class (acts.Plain (Forget text)) (Some Done) key h = refl
forgets_class a r key h = absurd (false≢true h)

module _ (R : Option (List Snapshot)) (w : World) (s : Swept) (e : Event) (right : IsRight R w e) (h : IsListed w s) where
  moves : Moves w.store (after R w e).store (moment e) (Sends e.act (reply e)) (Touches e.act (reply e)) (Forgets e.act (reply e))
  moves = event_moves R w e right

  still_of : (key : SnapshotKey) (d : List ℕ) → (forgets e.act (reply e) key ≡ true → ⊥) → IsOf (w.store).snapshots key d → IsOf ((after R w e).store).snapshots key d
  still_of key d off x = by_remaining (moves.remains x.0 x.1)
    where
      by_remaining : In x.0 ((after R w e).store).snapshots ⊎ (IsFree (after R w e).store (x.0).key × Forgets e.act (reply e) (x.0).key) → IsOf ((after R w e).store).snapshots key d
      by_remaining (inl here) = (x.0, here, x.2, x.3)
      by_remaining (inr gone) = absurd (off (subst (λ k. forgets e.act (reply e) k ≡ true) x.2 gone.1))

  Goal : Sweep → Type 0
  Goal b = (v : Unmarked) → In v b.unmarked → (d : List ℕ) → In d v.digests → IsOf ((after R w e).store).snapshots v.key d

  no_forget : (c : Class) → class_of e.act ≡ c → (c ≡ stepping → ⊥) → (key : SnapshotKey) → forgets e.act (reply e) key ≡ true → ⊥
  no_forget c is off key f = off (sym is ∙ forgets_class e.act (reply e) key f)

  starts_apart : starting ≡ stepping → ⊥
  starts_apart e = cc

  sweeps_apart : sweeping ≡ stepping → ⊥
  sweeps_apart e = cc

  by_class : (c : Class) (n : EntryKind) → class_of e.act ≡ c → (b : Sweep) → swept_by w s e c n ≡ Some b → Goal b
  unfolding Goal
  by_class starting start_kind is b next v at d has =
      still_of v.key d (no_forget starting is starts_apart v.key)
      (indexes_of_snapshots (w.store).snapshots v d (subst (λ (x : Sweep). In v x.unmarked) (sym (some_same (new_sweep w.store (moment e)) b next)) at) has)
  by_class sweeping pass_kind is b next v at d has =
      let a = mapped_from (λ sweep. passed s sweep sweep.unmarked) s.sweep b next in
      let x = passed_in s a.0 (a.0).unmarked v refl (subst (λ (y : Sweep). In v y.unmarked) a.2 at) d has in
      still_of v.key d (no_forget sweeping is sweeps_apart v.key) (subst (λ k. IsOf (w.store).snapshots k d) x.2 (h a.0 a.1 x.0 x.1 d x.3))
  by_class c n is b next v at d has =
      let a = mapped_from (spared e.act (reply e)) s.sweep b next in
      let old = filter_in (λ (y : Unmarked). not (forgets e.act (reply e) y.key)) (a.0).unmarked v (subst (λ (y : Sweep). In v y.unmarked) a.2 at) in
      still_of v.key d (λ f. false≢true (sym (ap not f) ∙ old.1)) (h a.0 a.1 v old.0 d has)

  pub listed_next : IsListed (after R w e) (swept_after R w s e)
  unfolding swept_after Goal
  listed_next b is = by_class (class_of e.act) (kind_of (kind e)) refl b (open_same (after R w e).collecting (swept_by w s e (class_of e.act) (kind_of (kind e))) b is)

pub listed_all : (R : Option (List Snapshot)) (w : World) (s : Swept) (es : List Event) → IsLegal R w es → IsListed w s → IsListed (after_all R w es) (swept_all R w s es)
unfolding after_all swept_all
listed_all R w s [] legal h = h
listed_all R w s (e ∷ es) legal h = listed_all R (after R w e) (swept_after R w s e) es legal.1 (listed_next R w s e legal.0 h)

pub opened_listed : (o : Opening) → IsListed (opened o) (swept_at o)
opened_listed o sweep is v at d has = absurd (none_some sweep is)

-- ---- what is marked

pub marked_there : (w : World) (s : Swept) (pass : Bool) (d : List ℕ) → IsListed w s → IsStocked w.store s.touches → In d (marks_in (sweep_of s.sweep pass)) → IsThere s.touches d
marked_there w s false d h stocked at = absurd at
marked_there w s true d h stocked at = by_sweep s.sweep refl at
  where
    by_first : (sweep : Sweep) → s.sweep ≡ Some sweep → (us : List Unmarked) → sweep.unmarked ≡ us → In d (next_marks us) → IsThere s.touches d
    by_first sweep is [] all at = absurd at
    by_first sweep is (v ∷ vs) all at =
        let x = h sweep is v (subst (In v) (sym all) (inl refl)) d (in_take mark_limit v.digests d at) in
        stocked d (inl (x.0, x.1, x.3))

    by_sweep : (o : Option Sweep) → s.sweep ≡ o → In d (marks_in o) → IsThere s.touches d
    by_sweep None is at = absurd at
    by_sweep (Some sweep) is at = by_first sweep is sweep.unmarked refl at

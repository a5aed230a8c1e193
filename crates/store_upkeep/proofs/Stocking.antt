-- No chunk that is needed is taken out, and each is there.
use Rattle.std.proofs.Common.{◌≡◌, ◌⊎◌, inl, inr, ℕ, max, Bool, true, false, cond, List, [], ◌∷◌, map, Option, Some, None, refl, sym, subst, ap, ◌∙◌, is_some, true≢false, if◌then◌else◌}
use Rattle.std.specs.Prelude.{option_map, unwrap_or}
use Rattle.std.specs.Str.{bytes_eq}
use Rattle.std.proofs.lemmas.Slice.Eq.{bytes_eq-Decides}
use Rattle.sha2.specs.Sha256.{sha256}
use Rattle.store_types.specs.declared.names.SnapshotKey.{SnapshotKey}
use Rattle.store_files.specs.Archive.{Snapshot}
use Rattle.wire_commands.specs.declared.command.Command.TheVariants.{Append}
use Rattle.wire_commands.specs.declared.reply.Reply.{Reply}
use Rattle.wire_commands.specs.declared.reply.Reply.TheVariants.{Done}
use Rattle.store_model.specs.Store.{none, Writer, writer, session}
use Rattle.atime_book.specs.Touches.{greatest, is_stale, last_in}
use Rattle.store_history.specs.declared.act.Act.{Act}
use Rattle.store_history.specs.declared.act.Act.TheVariants.{Plain, Chunk}
use Rattle.store_history.specs.declared.act.Event.{Event}
use Rattle.store_history.specs.Acts.{class_of}
use Rattle.store_history.specs.History.{World, Opening, opened, after, after_all, moment, kind, reply, kind_of, EntryKind}
use Rattle.store_history.specs.Legal.{IsRight, IsLegal}
use Rattle.store_history.specs.LastTouches.{LastTouches, is_one_of, touches_at_opening, touched, dated, touched_by, touches_after}
use Rattle.store_history.specs.Sweeping.{Unmarked, Sweep, Swept, swept_at, left_of, first_taken, next_taken, is_pass, sweep_of, passing, marks_in, taken_in, taken_by, without, swept_after, swept_all}
use Rattle.store_upkeep.specs.Safety.{In, IsStored, IsPooled, IsNeeded, IsThere, IsStocked, OpensStocked, IsSafe}
use Rattle.store_upkeep.proofs.Members.{some_same, none_some, in_is_one}
use Rattle.store_upkeep.proofs.Freshness.{Sends, Touches, touches_with}
use Rattle.store_upkeep.proofs.Moving.{GoesOn, Begins, IsNew, Moves, no_writer}
use Rattle.store_upkeep.proofs.Acting.{Forgets, event_moves}
use Rattle.store_upkeep.proofs.Kept.{needed_fresh}
use Rattle.store_upkeep.proofs.Going.{safe_after, opened_safe, histories_safe, no_session}

-- ---- the chunk that is taken out

-- all is marked, and its last touch is before the cutoff
pub record IsTaken (s : Swept) (sweep : Sweep) (d : List ℕ) : Type 0 where
  pub open_is : s.sweep ≡ Some sweep
  pub all : sweep.unmarked ≡ []
  pub stale : is_stale (s.touches.last d) sweep.cutoff ≡ true

first_stale : (touches : LastTouches) (c : ℕ) (xs : List (List ℕ)) (d : List ℕ) → first_taken touches c xs ≡ Some d → is_stale (touches.last d) c ≡ true
first_stale touches c [] d e = absurd (none_some d e)
first_stale touches c (x ∷ xs) d e = by_test (is_stale (touches.last x) c) refl e
  where
    by_test : (b : Bool) → is_stale (touches.last x) c ≡ b → (if b then Some x else None) ≡ Some d → is_stale (touches.last d) c ≡ true
    by_test true is e = ap (λ y. is_stale (touches.last y) c) (sym (some_same x d e)) ∙ is
    by_test false is e = absurd (none_some d e)

next_stale : (s : Swept) (sweep : Sweep) (d : List ℕ) (us : List Unmarked) → next_taken s sweep us ≡ Some d → (us ≡ []) × (is_stale (s.touches.last d) sweep.cutoff ≡ true)
next_stale s sweep d [] e = (refl, first_stale s.touches sweep.cutoff (left_of s sweep) d e)
next_stale s sweep d (u ∷ us) e = absurd (none_some d e)

pub taken_is : (s : Swept) (d : List ℕ) (o : Option Sweep) (b : Bool) → s.sweep ≡ o → taken_in s (sweep_of o b) ≡ Some d → (sweep : Sweep) × (b ≡ true) × IsTaken s sweep d
taken_is s d o false is e = absurd (none_some d e)
taken_is s d None true is e = absurd (none_some d e)
taken_is s d (Some sweep) true is e =
    let next = next_stale s sweep d sweep.unmarked e in
    (sweep, refl, record { open_is = is; all = next.0; stale = next.1 })

pub taken_fresh : (w : World) (s : Swept) (e : Event) (d : List ℕ) → IsSafe w s → taken_by s e ≡ Some d → IsNeeded w.store d → ⊥
taken_fresh w s e d h taken needed =
    let at = taken_is s d s.sweep (is_pass (class_of e.act) (kind_of (kind e))) refl taken in
    true≢false (sym (at.2).stale ∙ needed_fresh w s h at.0 (at.2).open_is (at.2).all d needed)

pub taken_unneeded : (R : Option (List Snapshot)) (o : Opening) (es : List Event) (e : Event) (d : List ℕ) → IsLegal R (opened o) es
    → taken_by (swept_all R (opened o) (swept_at o) es) e ≡ Some d → IsNeeded (after_all R (opened o) es).store d → ⊥
taken_unneeded R o es e d legal taken needed =
    taken_fresh (after_all R (opened o) es) (swept_all R (opened o) (swept_at o) es) e d (histories_safe R o es legal) taken needed

-- ---- what is there

raised_there : (m : ℕ) (here : Bool) (last : Option ℕ) → is_some last ≡ true → is_some (cond here (option_map (λ when. max when m) last) last) ≡ true
raised_there m true None is = is
raised_there m true (Some when) is = refl
raised_there m false last is = is

pub came_there : (m : ℕ) (here : Bool) (last : Option ℕ) → is_some last ≡ true → is_some (cond here (Some (greatest last m)) last) ≡ true
came_there m true last is = refl
came_there m false last is = is

pub touched_by_there : (act : Act) (r : Option Reply) (m : ℕ) (t : LastTouches) (d : List ℕ) → IsThere t d → IsThere (touched_by act r m t) d
touched_by_there (Chunk digest checked) (Some Done) m t d is = came_there m (bytes_eq digest.0 d) (t.last d) is
touched_by_there (Plain (Append number entries)) (Some Done) m t d is = raised_there m (is_one_of d (map (λ e. (e.digest).0) entries)) (t.last d) is
touched_by_there act r m t d is = is

sent_there : (act : Act) (r : Option Reply) (m : ℕ) (t : LastTouches) (d : List ℕ) → Sends act r d → IsThere (touched_by act r m t) d
sent_there (Chunk digest checked) (Some Done) m t d is = ap (λ b. is_some (cond b (Some (greatest (t.last d) m)) (t.last d))) ((bytes_eq-Decides digest.0 d).1 (sym is))
sent_there act r m t d is = absurd is

dated_there : (m : ℕ) (t : LastTouches) (d : List ℕ) → IsThere t d → IsThere (dated m t) d
dated_there m t d is = raised_there m (t.undated d) (t.last d) is

pub touches_there : (e : Event) (t : LastTouches) (d : List ℕ) → IsThere t d → IsThere (touches_after t e) d
touches_there e t d is = dated_there (moment e) (touched_by e.act (reply e) (moment e) t) d (touched_by_there e.act (reply e) (moment e) t d is)

without_there : (taken : Option (List ℕ)) (t : LastTouches) (d : List ℕ) → (taken ≡ Some d → ⊥) → IsThere t d → IsThere (without taken t) d
without_there None t d off is = is
without_there (Some digest) t d off is = by_test (bytes_eq digest d) refl
  where
    by_test : (b : Bool) → bytes_eq digest d ≡ b → is_some (cond b None (t.last d)) ≡ true
    by_test true same = absurd (off (ap (λ x. Some x) ((bytes_eq-Decides digest d).0 same)))
    by_test false same = is

-- a chunk that is there stays, where it is not taken out
pub stays_there : (s : Swept) (e : Event) (sweep : Option Sweep) (d : List ℕ) → (taken_in s sweep ≡ Some d → ⊥) → IsThere (touches_after s.touches e) d → IsThere (touches_with s e sweep) d
stays_there s e sweep d off is =
    let t = touches_after s.touches e in
    without_there (taken_in s sweep) (touched (λ x. is_one_of x (marks_in sweep)) (moment e) t) d off (raised_there (moment e) (is_one_of d (marks_in sweep)) (t.last d) is)

sends_no_pass : (act : Act) (r : Option Reply) (d : List ℕ) (n : EntryKind) → Sends act r d → is_pass (class_of act) n ≡ false
sends_no_pass (Chunk digest checked) (Some Done) d n is = refl
sends_no_pass act r d n is = absurd is

-- one that is sent is there
pub arrives : (s : Swept) (e : Event) (d : List ℕ) → Sends e.act (reply e) d → IsThere (touches_with s e (passing s e)) d
arrives s e d is =
    let idle : is_pass (class_of e.act) (kind_of (kind e)) ≡ false = sends_no_pass e.act (reply e) d (kind_of (kind e)) is in
    subst (λ b. IsThere (touches_with s e (sweep_of s.sweep b)) d) (sym idle)
    (stays_there s e None d (λ taken. none_some d taken)
    (dated_there (moment e) (touched_by e.act (reply e) (moment e) s.touches) d (sent_there e.act (reply e) (moment e) s.touches d is)))

-- ---- what is needed is there

module _ (w w' : World) (s : Swept) (Sent Touched : List ℕ → Type 0) (Gone : SnapshotKey → Type 0) (h : IsSafe w s) (m : Moves w.store w'.store w'.moment Sent Touched Gone) where
  was_stored : (d : List ℕ) → IsStored w'.store d → IsNeeded w.store d
  was_stored d x = by_coming (m.comes x.0 x.1)
    where
      by_coming : In x.0 (w.store).snapshots ⊎ IsNew w.store x.0 → IsNeeded w.store d
      by_coming (inl old) = inl (x.0, old, x.2)
      by_coming (inr new) = inr (new.0, new.1, new.2, (h.touched new.0 new.1 new.2).pooled d (new.3 d x.2))

  was_pooled : (d : List ℕ) → IsPooled w'.store d → Sent d ⊎ IsNeeded w.store d
  was_pooled d p = by_writer (m.writers p.0 p.1 p.2)
    where
      by_old : (v : Writer) → session w.store p.0 ≡ writer v → GoesOn w.store Sent Touched v p.1 → Sent d ⊎ IsNeeded w.store d
      by_old v was goes = elim (goes.pool d p.3) [
        | inl old ↦ inr (inr (p.0, v, was, old))
        | inr new ↦ elim new [
          | inl sent ↦ inl sent
          | inr base ↦ inr (inl ((base.2).0, (base.2).1, (base.2).3))
        ]
      ]

      by_writer : (((v : Writer) × (session w.store p.0 ≡ writer v) × GoesOn w.store Sent Touched v p.1) ⊎ ((session w.store p.0 ≡ none) × Begins w'.store w'.moment p.1)) → Sent d ⊎ IsNeeded w.store d
      by_writer (inl v) = by_old v.0 v.1 v.2
      by_writer (inr new) = absurd (subst (λ ps. In d (map sha256 ps)) (new.1).pool p.3)

  -- what is needed was so before, or was sent
  pub was_needed : (d : List ℕ) → IsNeeded w'.store d → Sent d ⊎ IsNeeded w.store d
  was_needed d (inl x) = inr (was_stored d x)
  was_needed d (inr p) = was_pooled d p

pub stocked_after : (R : Option (List Snapshot)) (w : World) (s : Swept) (e : Event) → IsSafe w s → IsRight R w e → IsStocked w.store s.touches
    → IsStocked (after R w e).store (swept_after R w s e).touches
unfolding swept_after after
stocked_after R w s e h right stocked d needed =
    by_need (was_needed w (after R w e) s (Sends e.act (reply e)) (Touches e.act (reply e)) (Forgets e.act (reply e)) h (event_moves R w e right) d needed)
  where
    by_need : Sends e.act (reply e) d ⊎ IsNeeded w.store d → IsThere (touches_with s e (passing s e)) d
    by_need (inl sent) = arrives s e d sent
    by_need (inr old) = stays_there s e (passing s e) d (λ taken. taken_fresh w s e d h taken old) (touches_there e s.touches d (stocked d old))

pub stocked_all : (R : Option (List Snapshot)) (w : World) (s : Swept) (es : List Event) → IsLegal R w es → IsSafe w s → IsStocked w.store s.touches
    → IsStocked (after_all R w es).store (swept_all R w s es).touches
unfolding after_all swept_all
stocked_all R w s [] legal h stocked = stocked
stocked_all R w s (e ∷ es) legal h stocked =
    stocked_all R (after R w e) (swept_after R w s e) es legal.1 (safe_after R w s e h legal.0) (stocked_after R w s e h legal.0 stocked)

-- ---- the opening

pub opened_stocked : (o : Opening) → OpensStocked o → IsStocked (opened o).store (touches_at_opening o)
opened_stocked o opens d (inl x) =
    ap (λ b. is_some (cond b (Some (unwrap_or (last_in o.touches d) o.moment)) None)) (in_is_one d (map sha256 o.chunks) (opens x.0 x.1 d x.2))
opened_stocked o opens d (inr p) = absurd (no_writer p.1 (sym (no_session o p.0) ∙ p.2))

pub needed_there : (R : Option (List Snapshot)) (o : Opening) (es : List Event) → IsLegal R (opened o) es → OpensStocked o
    → IsStocked (after_all R (opened o) es).store (swept_all R (opened o) (swept_at o) es).touches
needed_there R o es legal opens = stocked_all R (opened o) (swept_at o) es legal (opened_safe o) (opened_stocked o opens)

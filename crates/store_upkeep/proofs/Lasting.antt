-- The last touch of a chunk that is there is what it would be, had none ever been taken out.
use Rattle.std.proofs.Common.{◌≡◌, ◌≤◌, ◌⊎◌, inl, inr, ℕ, suc, Bool, true, false, ◌&&◌, List, [], ◌∷◌, map, Option, Some, None, refl, sym, subst, ap, ◌∙◌, arith, is_some, is_none, cond}
use Rattle.std.specs.Prelude.{unwrap_or}
use Rattle.std.proofs.lemmas.Bool.{false≢true}
use Rattle.sha2.specs.Sha256.{sha256}
use Rattle.store_files.specs.Archive.{Snapshot}
use Rattle.atime_book.specs.Touches.{is_stale, last_in}
use Rattle.store_history.specs.declared.act.Event.{Event}
use Rattle.store_history.specs.Acts.{class_of}
use Rattle.store_history.specs.History.{World, Opening, opened, after, after_all, moment, kind, reply, kind_of}
use Rattle.store_history.specs.Legal.{IsRight, IsLegal}
use Rattle.store_history.specs.LastTouches.{LastTouches, is_one_of, touches_at_opening}
use Rattle.store_history.specs.Sweeping.{Sweep, Swept, swept_at, is_pass, passing, marks_in, taken_by, touched_after, swept_after, swept_all}
use Rattle.store_upkeep.specs.Safety.{IsThere, IsStocked, OpensStocked, IsSafe}
use Rattle.store_upkeep.specs.Laws.{touched_all}
use Rattle.store_upkeep.proofs.Members.{none_some, is_one_in}
use Rattle.store_upkeep.proofs.Freshness.{Sends, Touches}
use Rattle.store_upkeep.proofs.Acting.{event_moves}
use Rattle.store_upkeep.proofs.Going.{safe_after, opened_safe}
use Rattle.store_upkeep.proofs.Stocking.{taken_is, stocked_after, opened_stocked}
use Rattle.store_upkeep.proofs.Marking.{IsListed, listed_next, opened_listed, marked_there}
use Rattle.store_upkeep.proofs.Following.{Follows, follows_itself, follows_later, touched_follows, without_follows, without_undated, visit_last}

-- Beside u, the last touches had none ever been taken out. Once a sweep is open no chunk is undated, and until then those that are undated are there.
record Lasts (w : World) (s : Swept) (u : LastTouches) : Type 0 where
  safe : IsSafe w s
  stocked : IsStocked w.store s.touches
  listed : IsListed w s
  same_undated : (d : List ℕ) → u.undated d ≡ s.touches.undated d
  undated_there : (d : List ℕ) → s.touches.undated d ≡ true → IsThere s.touches d
  is_dated : (s.sweep ≡ None) ⊎ ((d : List ℕ) → s.touches.undated d ≡ false)
  follows : (d : List ℕ) → Follows (suc w.moment) (s.touches.last d) (u.last d)

module _ (R : Option (List Snapshot)) (w : World) (s : Swept) (u : LastTouches) (e : Event) (right : IsRight R w e) (h : Lasts w s u) where
  named : (d : List ℕ) → Touches e.act (reply e) d → Sends e.act (reply e) d ⊎ IsThere s.touches d
  named d touches = elim ((event_moves R w e right).named d touches) [ inl sent ↦ inl sent | inr pooled ↦ inr (h.stocked d (inr pooled)) ]

  marks_there : (d : List ℕ) → is_one_of d (marks_in (passing s e)) ≡ true → IsThere s.touches d
  marks_there d here = marked_there w s (is_pass (class_of e.act) (kind_of (kind e))) d h.listed h.stocked (is_one_in d (marks_in (passing s e)) here)

  undated_no_more : (sweep : Sweep) → s.sweep ≡ Some sweep → (d : List ℕ) → s.touches.undated d ≡ false
  undated_no_more sweep is d = by_dated h.is_dated
    where
      by_dated : (s.sweep ≡ None) ⊎ ((d : List ℕ) → s.touches.undated d ≡ false) → s.touches.undated d ≡ false
      by_dated (inl closed) = absurd (none_some sweep (sym closed ∙ is))
      by_dated (inr dated) = dated d

  taken_stale : (d : List ℕ) → taken_by s e ≡ Some d → (n : ℕ) × (n ≤ suc (moment e)) × (is_stale ((touched_after s e s.touches).last d) n ≡ true)
  taken_stale d taken =
      let at = taken_is s d s.sweep (is_pass (class_of e.act) (kind_of (kind e))) refl taken in (
        (at.0).cutoff,
        omega (arith, (h.safe).cut at.0 (at.2).open_is, right.risen),
        ap (λ p. is_stale p (at.0).cutoff) (visit_last s e d at.0 at.1 (at.2).open_is (at.2).all (undated_no_more at.0 (at.2).open_is d)) ∙ (at.2).stale,
      )

  follows_after : (d : List ℕ) → Follows (suc (moment e)) ((swept_after R w s e).touches.last d) ((touched_after s e u).last d)
  unfolding swept_after
  follows_after d =
      without_follows (taken_by s e) (suc (moment e)) (touched_after s e s.touches) ((touched_after s e u).last d) d (taken_stale d)
      (touched_follows s e (suc (moment e)) u d (omega arith) (named d) (marks_there d) (h.same_undated d) (h.undated_there d)
      (follows_later (suc w.moment) (suc (moment e)) (s.touches.last d) (u.last d) (omega (arith, right.risen)) (h.follows d)))

  dated_after : (d : List ℕ) → (swept_after R w s e).touches.undated d ≡ false
  unfolding swept_after
  dated_after d = without_undated (taken_by s e) (touched_after s e s.touches) d

  lasts_after : Lasts (after R w e) (swept_after R w s e) (touched_after s e u)
  unfolding after
  lasts_after = record {
    safe = safe_after R w s e h.safe right;
    stocked = stocked_after R w s e h.safe right h.stocked;
    listed = listed_next R w s e right h.listed;
    same_undated = λ d. sym (dated_after d);
    undated_there = λ d is. absurd (false≢true (sym (dated_after d) ∙ is));
    is_dated = inr dated_after;
    follows = follows_after;
  }

lasts_all : (R : Option (List Snapshot)) (es : List Event) (w : World) (s : Swept) (u : LastTouches) → IsLegal R w es → Lasts w s u
    → Lasts (after_all R w es) (swept_all R w s es) (touched_all R w s u es)
unfolding after_all swept_all touched_all
lasts_all R [] w s u legal h = h
lasts_all R (e ∷ es) w s u legal h = lasts_all R es (after R w e) (swept_after R w s e) (touched_after s e u) legal.1 (lasts_after R w s u e legal.0 h)

opened_lasts : (o : Opening) → OpensStocked o → Lasts (opened o) (swept_at o) (touches_at_opening o)
opened_lasts o opens = record {
  safe = opened_safe o;
  stocked = opened_stocked o opens;
  listed = opened_listed o;
  same_undated = λ d. refl;
  undated_there = λ d is. by_test (is_one_of d (map sha256 o.chunks)) (is_none (last_in o.touches d)) (unwrap_or (last_in o.touches d) o.moment) is;
  is_dated = inl refl;
  follows = λ d. follows_itself (suc o.moment) ((touches_at_opening o).last d);
}
  where
    by_test : (here unknown : Bool) (when : ℕ) → (here && unknown) ≡ true → is_some (cond here (Some when) None) ≡ true
    by_test true unknown when is = refl
    by_test false unknown when is = is

pub last_touches : (R : Option (List Snapshot)) (o : Opening) (es : List Event) (d : List ℕ) (when : ℕ) → IsLegal R (opened o) es → OpensStocked o
    → (swept_all R (opened o) (swept_at o) es).touches.last d ≡ Some when → (touched_all R (opened o) (swept_at o) (touches_at_opening o) es).last d ≡ Some when
last_touches R o es d when legal opens is =
    let lasts = lasts_all R es (opened o) (swept_at o) (touches_at_opening o) legal (opened_lasts o opens) in
    subst (λ p. Follows (suc (after_all R (opened o) es).moment) p ((touched_all R (opened o) (swept_at o) (touches_at_opening o) es).last d)) is (lasts.follows d)

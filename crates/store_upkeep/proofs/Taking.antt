-- Which events take chunks out, and which chunks would be there had none been.
use Rattle.std.proofs.Common.{◌≡◌, ◌⊎◌, ◌↔◌, inl, inr, ℕ, zero, suc, max, Bool, true, false, cond, List, [], ◌∷◌, map, Option, Some, None, refl, sym, ap, ◌∙◌, is_some, true≢false}
use Rattle.std.specs.Prelude.{option_map}
use Rattle.std.specs.Str.{bytes_eq}
use Rattle.std.proofs.lemmas.Bool.{false≢true}
use Rattle.std.proofs.lemmas.Slice.Eq.{bytes_eq-Decides}
use Rattle.store_types.specs.declared.order.TheConstants.{PART_KIND}
use Rattle.store_files.specs.Archive.{Snapshot}
use Rattle.wire_commands.specs.declared.command.Command.TheVariants.{Append}
use Rattle.wire_commands.specs.declared.reply.Reply.{Reply}
use Rattle.wire_commands.specs.declared.reply.Reply.TheVariants.{Done}
use Rattle.atime_book.specs.Touches.{greatest}
use Rattle.store_history.specs.declared.act.Act.{Act}
use Rattle.store_history.specs.declared.act.Act.TheVariants as acts
use Rattle.store_history.specs.declared.act.Event.{Event}
use Rattle.store_history.specs.Acts.{sweeping, class_of}
use Rattle.store_history.specs.History.{World, after, moment, kind, reply, kind_of}
use Rattle.store_history.specs.LastTouches.{LastTouches, is_one_of, touched_by, touches_after}
use Rattle.store_history.specs.Sweeping.{Swept, is_pass, passing, marks_in, taken_by, touched_after, swept_after}
use Rattle.store_upkeep.specs.Safety.{In, IsThere}
use Rattle.store_upkeep.specs.Laws.{touched_all, sent_in, digests_sent}
use Rattle.store_upkeep.proofs.Members.{some_same, none_some, in_append, in_left, in_right}
use Rattle.store_upkeep.proofs.Stocking.{taken_is, touches_there, stays_there, came_there}

-- ---- marks and visits

one_is : (n : ℕ) → is_pass sweeping (kind_of n) ≡ true → n ≡ 1
one_is zero h = absurd (false≢true h)
one_is (suc zero) h = refl
one_is (suc (suc zero)) h = absurd (false≢true h)
one_is (suc (suc (suc zero))) h = absurd (false≢true h)
one_is (suc (suc (suc (suc zero)))) h = absurd (false≢true h)
one_is (suc (suc (suc (suc (suc zero))))) h = absurd (false≢true h)
one_is (suc (suc (suc (suc (suc (suc zero)))))) h = absurd (false≢true h)
one_is (suc (suc (suc (suc (suc (suc (suc zero))))))) h = absurd (false≢true h)
one_is (suc (suc (suc (suc (suc (suc (suc (suc n)))))))) h = absurd (false≢true h)

-- each is a Step, of kind 1
pub pass_is : (a : Act) (n : ℕ) → is_pass (class_of a) (kind_of n) ≡ true → (a ≡ acts.Step) × (n ≡ 1)
pass_is acts.Step n h = (refl, one_is n h)
pass_is a n h = absurd (false≢true h)

pub only_visits : (R : Option (List Snapshot)) (w : World) (s : Swept) (e : Event) (d : List ℕ) → IsThere s.touches d → (IsThere (swept_after R w s e).touches d → ⊥)
    → (taken_by s e ≡ Some d) × (e.act ≡ acts.Step) × (kind e ≡ PART_KIND)
unfolding swept_after
only_visits R w s e d there gone = by_taken (taken_by s e) refl
  where
    stays : (taken_by s e ≡ Some d → ⊥) → ⊥
    stays off = gone (stays_there s e (passing s e) d off (touches_there e s.touches d there))

    visit : taken_by s e ≡ Some d → (taken_by s e ≡ Some d) × (e.act ≡ acts.Step) × (kind e ≡ PART_KIND)
    visit taken =
        let at = taken_is s d s.sweep (is_pass (class_of e.act) (kind_of (kind e))) refl taken in
        let is = pass_is e.act (kind e) at.1 in
        (taken, is.0, is.1)

    by_test : (x : List ℕ) (b : Bool) → bytes_eq x d ≡ b → taken_by s e ≡ Some x → (taken_by s e ≡ Some d) × (e.act ≡ acts.Step) × (kind e ≡ PART_KIND)
    by_test x true same taken = visit (taken ∙ ap (λ y. Some y) ((bytes_eq-Decides x d).0 same))
    by_test x false same taken = absurd (stays (λ here. true≢false (sym ((bytes_eq-Decides x d).1 (some_same x d (sym taken ∙ here))) ∙ same)))

    by_taken : (o : Option (List ℕ)) → taken_by s e ≡ o → (taken_by s e ≡ Some d) × (e.act ≡ acts.Step) × (kind e ≡ PART_KIND)
    by_taken None is = absurd (stays (λ here. none_some d (sym is ∙ here)))
    by_taken (Some x) is = by_test x (bytes_eq x d) refl is

-- ---- had none been taken out

raised_same : (m : ℕ) (here : Bool) (last : Option ℕ) → is_some (cond here (option_map (λ when. max when m) last) last) ≡ is_some last
raised_same m true None = refl
raised_same m true (Some when) = refl
raised_same m false last = refl

came_from : (m : ℕ) (here : Bool) (last : Option ℕ) → is_some (cond here (Some (greatest last m)) last) ≡ true → (is_some last ≡ true) ⊎ (here ≡ true)
came_from m true last is = inr refl
came_from m false last is = inl is

came_now : (m : ℕ) (here : Bool) (last : Option ℕ) → here ≡ true → is_some (cond here (Some (greatest last m)) last) ≡ true
came_now m true last h = refl
came_now m false last h = absurd (false≢true h)

-- which chunks are there after an act's touches
pub touched_from : (act : Act) (r : Option Reply) (m : ℕ) (t : LastTouches) (d : List ℕ) → IsThere (touched_by act r m t) d → IsThere t d ⊎ In d (sent_in act r)
touched_from (acts.Chunk digest checked) (Some Done) m t d is = elim (came_from m (bytes_eq digest.0 d) (t.last d) is) [
  | inl there ↦ inl there
  | inr here ↦ inr (inl (sym ((bytes_eq-Decides digest.0 d).0 here)))
]
touched_from (acts.Plain (Append number entries)) (Some Done) m t d is =
    inl (sym (raised_same m (is_one_of d (map (λ e. (e.digest).0) entries)) (t.last d)) ∙ is)
touched_from act r m t d is = inl is

touched_to : (act : Act) (r : Option Reply) (m : ℕ) (t : LastTouches) (d : List ℕ) → IsThere t d ⊎ In d (sent_in act r) → IsThere (touched_by act r m t) d
touched_to (acts.Chunk digest checked) (Some Done) m t d (inl there) = came_there m (bytes_eq digest.0 d) (t.last d) there
touched_to (acts.Chunk digest checked) (Some Done) m t d (inr (inl e)) = came_now m (bytes_eq digest.0 d) (t.last d) ((bytes_eq-Decides digest.0 d).1 (sym e))
touched_to (acts.Chunk digest checked) (Some Done) m t d (inr (inr h)) = absurd h
touched_to (acts.Plain (Append number entries)) (Some Done) m t d (inl there) = raised_same m (is_one_of d (map (λ e. (e.digest).0) entries)) (t.last d) ∙ there
touched_to act r m t d (inl there) = there
touched_to act r m t d (inr h) = absurd h

-- and after an event's, where none is taken out
after_is : (s : Swept) (e : Event) (t : LastTouches) (d : List ℕ) → is_some ((touched_after s e t).last d) ≡ is_some ((touched_by e.act (reply e) (moment e) t).last d)
after_is s e t d =
    raised_same (moment e) (is_one_of d (marks_in (passing s e))) ((touches_after t e).last d)
    ∙ raised_same (moment e) ((touched_by e.act (reply e) (moment e) t).undated d) ((touched_by e.act (reply e) (moment e) t).last d)

pub after_from : (s : Swept) (e : Event) (t : LastTouches) (d : List ℕ) → IsThere (touched_after s e t) d → IsThere t d ⊎ In d (sent_in e.act (reply e))
after_from s e t d is = touched_from e.act (reply e) (moment e) t d (sym (after_is s e t d) ∙ is)

after_to : (s : Swept) (e : Event) (t : LastTouches) (d : List ℕ) → IsThere t d ⊎ In d (sent_in e.act (reply e)) → IsThere (touched_after s e t) d
after_to s e t d h = after_is s e t d ∙ touched_to e.act (reply e) (moment e) t d h

all_from : (R : Option (List Snapshot)) (w : World) (s : Swept) (t : LastTouches) (es : List Event) (d : List ℕ) → IsThere (touched_all R w s t es) d → IsThere t d ⊎ In d (digests_sent es)
unfolding touched_all
all_from R w s t [] d is = inl is
all_from R w s t (e ∷ es) d is = by_rest (all_from R (after R w e) (swept_after R w s e) (touched_after s e t) es d is)
  where
    by_this : IsThere t d ⊎ In d (sent_in e.act (reply e)) → IsThere t d ⊎ In d (digests_sent (e ∷ es))
    by_this (inl there) = inl there
    by_this (inr sent) = inr (in_left (sent_in e.act (reply e)) (digests_sent es) d sent)

    by_rest : IsThere (touched_after s e t) d ⊎ In d (digests_sent es) → IsThere t d ⊎ In d (digests_sent (e ∷ es))
    by_rest (inl there) = by_this (after_from s e t d there)
    by_rest (inr sent) = inr (in_right (sent_in e.act (reply e)) (digests_sent es) d sent)

all_to : (R : Option (List Snapshot)) (w : World) (s : Swept) (t : LastTouches) (es : List Event) (d : List ℕ) → IsThere t d ⊎ In d (digests_sent es) → IsThere (touched_all R w s t es) d
unfolding touched_all
all_to R w s t [] d (inl there) = there
all_to R w s t [] d (inr h) = absurd h
all_to R w s t (e ∷ es) d (inl there) = all_to R (after R w e) (swept_after R w s e) (touched_after s e t) es d (inl (after_to s e t d (inl there)))
all_to R w s t (e ∷ es) d (inr sent) = by_part (in_append (sent_in e.act (reply e)) (digests_sent es) d sent) (λ h. all_to R (after R w e) (swept_after R w s e) (touched_after s e t) es d h)
  where
    by_part : In d (sent_in e.act (reply e)) ⊎ In d (digests_sent es)
        → (IsThere (touched_after s e t) d ⊎ In d (digests_sent es) → IsThere (touched_all R (after R w e) (swept_after R w s e) (touched_after s e t) es) d)
        → IsThere (touched_all R (after R w e) (swept_after R w s e) (touched_after s e t) es) d
    by_part (inl this) go = go (inl (after_to s e t d (inr this)))
    by_part (inr rest) go = go (inr rest)

pub there_or_sent : (R : Option (List Snapshot)) (w : World) (s : Swept) (t : LastTouches) (es : List Event) (d : List ℕ)
    → IsThere (touched_all R w s t es) d ↔ (IsThere t d ⊎ In d (digests_sent es))
there_or_sent R w s t es d = (all_from R w s t es d, all_to R w s t es d)

-- What the answer of an act tells.
use Rattle.std.proofs.Common.{◌≡◌, ◌+◌, ◌⊎◌, inl, inr, ℕ, zero, suc, Bool, true, false, ◌==◌, List, [], ◌∷◌, ◌++◌, length, if◌then◌else◌, Option, Some, None, IsSome, IfSome, IsTrue, refl, sym, ap, subst, ◌∙◌, arith, append_assoc}
use Rattle.std.proofs.lemmas.Bool.{eqb-true, eqb-false}
use Rattle.turn_lock.specs.Places.{RisesWithin}
use Rattle.turn_lock.specs.State.{SeatState}
use Rattle.seat_history.specs.Entered.{HasEntered, event_at}
use Rattle.seat_history.proofs.Picking.{grown_more}
use Rattle.shared_store.specs.Comes.{AreAnswered}
use Rattle.std.specs.Option.{unwrap_or}
use Rattle.wire_commands.specs.declared.command.Command.{Command}
use Rattle.wire_commands.specs.declared.command.Command.TheVariants as commands
use Rattle.store_types.specs.declared.refusal.Refusal.{Refusal}
use Rattle.store_types.specs.declared.refusal.Refusal.TheVariants.{NoMemory}
use Rattle.wire_commands.specs.declared.reply.Reply.{Reply}
use Rattle.wire_commands.specs.declared.reply.Reply.TheVariants.{Refused}
use Rattle.wire_commands.specs.HasText.{ReplyHasText}
use Rattle.store_model.specs.declared.step.Step.{Step}
use Rattle.store_model.specs.declared.step.Step.TheVariants as steps
use Rattle.store_history.specs.declared.act.Act.{Act}
use Rattle.store_history.specs.declared.act.Act.TheVariants as acts
use Rattle.store_history.specs.declared.act.Answer.{Answer}
use Rattle.store_history.specs.declared.act.Event.{Event}
use Rattle.store_history.specs.Acts.{Class, stepping, reaching, starting, sweeping, wanting, ending, act_of_command, act_of_step, class_of}
use Rattle.store_history.specs.History.{moment, kind, kind_of, reply}
use Rattle.store_model.specs.Weave.{first_fault}
use Rattle.store_model.specs.declared.ending.Ending.{Ending}
use Rattle.store_model.specs.declared.ending.Ending.TheVariants as endings
use Rattle.core_state.specs.Answers.{IsTold}
use Rattle.store_history.specs.Answered.{fault_after, AreKept, FitsKind, FitsReply, GivesReply, IsKept}
use Rattle.core_state.specs.History.{History, then_event}
use Rattle.store_history.specs.Replies.{may_answer, may_give}
use Rattle.lane.specs.declared.acts.Told.{Told}
use Rattle.lane.specs.Acting.{Has, HasReply, IsRefused, IsWant, Did, MayTell, short_ending}

-- ---- acts that have a reply

pub replied : (c : Command) → HasReply (act_of_command c)
replied (commands.Chunk digest blob) = tt
replied (commands.Blob file blob) = tt
replied (commands.Prune group keep dry) = tt
replied c = tt

pub step_replied : (s : Step) → HasReply (act_of_step s)
step_replied (steps.Command c) = replied c
step_replied (steps.ReadFile name offset) = tt
step_replied (steps.ReadChunk name entry) = tt

pub is_told : (a : Act) (x : Answer) → HasReply a → IsTold a x → IsSome x.reply
is_told (acts.Plain c) x h told = told
is_told (acts.JobGroup c) x h told = told
is_told (acts.Blob name checked) x h told = told
is_told (acts.Chunk digest checked) x h told = told
is_told (acts.ReadFile name offset) x h told = told
is_told (acts.ReadChunk name entry) x h told = told
is_told (acts.RemoteList c) x h told = told
is_told (acts.RemoteFile snapshot name offset) x h told = told
is_told (acts.RemoteChunk digest) x h told = told
is_told acts.Start x h told = absurd h
is_told acts.Step x h told = absurd h
is_told acts.Short x h told = told
is_told acts.End x h told = absurd h

pub none_some : (o : Option Reply) → o ≡ None → IsSome o → ⊥
none_some None is some = cc
none_some (Some r) is some = cc

-- ---- what is told

pub same_reply : (o : Option Reply) (r s : Reply) → o ≡ Some r → o ≡ Some s → r ≡ s
same_reply o r s is also = inner (sym is ∙ also)
  where
    inner : Some r ≡ Some s → r ≡ s
    inner e = cc

as_refused : (r : Reply) (refusal : Refusal) → r ≡ Refused refusal → IsRefused r
as_refused r refusal is = subst IsRefused (sym is) tt

-- ---- by what its event may be

-- an event has its place in some history
pub record HasPlace (v : Event) : Type 0 where
  pub place : ℕ
  pub fault : Option ℕ
  pub before : ℕ
  pub kept : IsKept place fault before v

last_placed : (place : ℕ) (fault : Option ℕ) (before : ℕ) (h : List Event) (v : Event) → AreKept place fault before (h ++ v ∷ []) → HasPlace v
last_placed place fault before [] v kept = record { place = place; fault = fault; before = before; kept = kept.0 }
last_placed place fault before (w ∷ h) v kept = last_placed (place + 1) (fault_after place (kind w) fault) (moment w) h v kept.1

-- the last event of a history
pub placed_last : (h : List Event) (v : Event) → AreAnswered (h ++ v ∷ []) → HasPlace v
placed_last h v answered = last_placed 0 None answered.0 h v answered.1

-- want of memory has its kind
pub want_kind : (v : Event) (told : Told) → HasPlace v → (v.answer).last ≡ told.last → IsWant v.act told → kind v ≡ 2
want_kind v told at same (inl is) = subst (λ c. FitsKind c at.fault (kind v)) (ap class_of is) (at.kept).kind_is
want_kind v told at same (inr is) = (at.kept).last (same ∙ is)

want_reply : (v : Event) (r : Reply) → HasPlace v → reply v ≡ Some r → kind v ≡ 2 → r ≡ Refused NoMemory
want_reply v r at tells two = same_reply (reply v) r _ tells (subst (λ n. FitsReply at.fault v.act (kind_of n) (reply v)) two (at.kept).tells)

some_none : (r : Reply) → Some r ≡ None → ⊥
some_none r e = cc

same_some : (r s : Reply) → Some r ≡ Some s → r ≡ s
same_some r s e = cc

-- only a read of the remote has an entry of a read and a reply
gives_by : (c : Class) (a : Act) (r : Reply) → GivesReply c a (Some r) → IsTrue (may_give a r)
gives_by reaching a r gives = gives.0
gives_by stepping a r gives = absurd (some_none r gives)
gives_by starting a r gives = absurd (some_none r gives)
gives_by sweeping a r gives = absurd (some_none r gives)
gives_by wanting a r gives = absurd (some_none r gives)
gives_by ending a r gives = absurd (some_none r gives)

pub gave_by : (v : Event) (r : Reply) → HasPlace v → reply v ≡ Some r → kind v ≡ 1 → IsTrue (may_give v.act r)
gave_by v r at tells one =
    gives_by (class_of v.act) v.act r (subst (λ o. GivesReply (class_of v.act) v.act o) tells (subst (λ n. FitsReply at.fault v.act (kind_of n) (reply v)) one (at.kept).tells))

-- no act but one of a collector that is open has an entry of its end
no_close : (c : Class) (fault : Option ℕ) → (c ≡ sweeping → ⊥) → FitsKind c fault 4 → ⊥
no_close sweeping fault other fits = other refl
no_close stepping fault other (inl p) = let e = p.0 in absurd (omega (arith, e))
no_close stepping fault other (inr (inl e)) = absurd (omega (arith, e))
no_close stepping fault other (inr (inr e)) = absurd (omega (arith, e))
no_close reaching fault other (inl (inl e, f)) = absurd (omega (arith, e))
no_close reaching fault other (inl (inr (inl e), f)) = absurd (omega (arith, e))
no_close reaching fault other (inl (inr (inr e), f)) = absurd (omega (arith, e))
no_close reaching fault other (inr (inl e)) = absurd (omega (arith, e))
no_close reaching fault other (inr (inr e)) = absurd (omega (arith, e))
no_close starting fault other (inl (inl e, f)) = absurd (omega (arith, e))
no_close starting fault other (inl (inr e, f)) = absurd (omega (arith, e))
no_close starting fault other (inr (inl e)) = absurd (omega (arith, e))
no_close starting fault other (inr (inr e)) = absurd (omega (arith, e))
no_close wanting fault other e = absurd (omega (arith, e))
no_close ending fault other (inl e) = absurd (omega (arith, e))
no_close ending fault other (inr p) = let e = p.0 in absurd (omega (arith, e))

-- what is told, but by a read
other_kind : (n : ℕ) (a : Act) (fault : Option ℕ) (r : Reply) → (class_of a ≡ sweeping → ⊥) → FitsKind (class_of a) fault n → FitsReply fault a (kind_of n) (Some r) → (n ≡ 1 → ⊥)
    → IsTrue (may_answer a r) ⊎ IsRefused r
other_kind zero a fault r apart fits tells other = inl tells.0
other_kind (suc zero) a fault r apart fits tells other = absurd (other refl)
other_kind (suc (suc zero)) a fault r apart fits tells other = inr (as_refused r _ (same_some r _ tells))
other_kind (suc (suc (suc zero))) a fault r apart fits tells other = absurd (some_none r tells)
other_kind (suc (suc (suc (suc zero)))) a fault r apart fits tells other = absurd (no_close (class_of a) fault apart fits)
other_kind (suc (suc (suc (suc (suc zero))))) a fault r apart fits tells other = inr (as_refused r _ (same_some r _ tells))
other_kind (suc (suc (suc (suc (suc (suc zero)))))) a fault r apart fits tells other = absurd (some_none r tells)
other_kind (suc (suc (suc (suc (suc (suc (suc zero))))))) a fault r apart fits tells other = inr (as_refused r _ (same_some r _ tells))
other_kind (suc (suc (suc (suc (suc (suc (suc (suc n)))))))) a fault r apart fits tells other = absurd tells

pub other_by : (v : Event) (r : Reply) → (class_of v.act ≡ sweeping → ⊥) → HasPlace v → reply v ≡ Some r → (kind v ≡ 1 → ⊥) → IsTrue (may_answer v.act r) ⊎ IsRefused r
other_by v r apart at tells other = other_kind (kind v) v.act at.fault r apart (at.kept).kind_is (subst (λ o. FitsReply at.fault v.act (kind_of (kind v)) o) tells (at.kept).tells) other

-- an act that has a reply is none of an open collector
pub no_sweep : (a : Act) → HasReply a → class_of a ≡ sweeping → ⊥
no_sweep acts.Start h is = absurd h
no_sweep acts.Step h is = absurd h
no_sweep acts.End h is = absurd h
no_sweep a h is = cc

-- ---- an act by a seat

-- An act of the lane was entered, and this is its answer.
pub record Acted (before after : History → Type 0) (k : ℕ) (act : Act) (a : Answer) : Type 0 where
  pub calls : ℕ
  pub lane_is : (a.entry).lane ≡ k
  pub at : HasPlace (event_at act a calls)
  pub told : IsTold act a
  pub text : IfSome a.reply ReplyHasText
  pub history : (h : History) → before h → after (then_event h (event_at act a calls))

pub acted_by : (old new : SeatState Event) (k : ℕ) (act : Act) (a : Answer) → HasEntered act a old new → AreAnswered new.seen → RisesWithin 0 (length new.seen) new.mine
    → (a.entry).lane ≡ k → IsTold act a → IfSome a.reply ReplyHasText → (start : SeatState Event) → Acted (Has start old) (Has start new) k act a
acted_by old new k act a e answered rises is told text start = record {
  calls = e.calls;
  lane_is = is;
  at = placed_last e.before (event_at act a e.calls) (subst AreAnswered (ap (λ s. s.seen) e.now) answered);
  told = told;
  text = text;
  history = λ h g. grown_more start old new h.events act a e rises g;
}

-- ---- one that has a reply

pub did_of : (before after : History → Type 0) (k : ℕ) (act : Act) (a : Answer) (r : Reply) → HasReply act → Acted before after k act a → a.reply ≡ Some r
    → Did before after k act (record { reply = r; last = a.last })
did_of before after k act a r replied x tells = let v = event_at act a x.calls in record {
  event = v;
  asks = refl;
  lane_is = x.lane_is;
  tells = tells;
  last = refl;
  kind_is = want_kind v (record { reply = r; last = a.last }) x.at refl;
  gave = gave_by v r x.at tells;
  other = other_by v r (no_sweep act replied) x.at tells;
  history = x.history;
}

pub tells_of : (before after : History → Type 0) (k : ℕ) (act : Act) (a : Answer) (r : Reply) → HasReply act → Acted before after k act a → a.reply ≡ Some r
    → MayTell act (record { reply = r; last = a.last })
tells_of before after k act a r replied x tells = record {
  reply_is = by_kind (kind v == 1) refl;
  want = λ wants. want_reply v r x.at tells (want_kind v (record { reply = r; last = a.last }) x.at refl wants);
}
  where
    v : Event
    v = event_at act a x.calls

    of_other : IsTrue (may_answer act r) ⊎ IsRefused r → IsTrue (may_answer act r) ⊎ (IsTrue (may_give act r) ⊎ IsRefused r)
    of_other (inl may) = inl may
    of_other (inr refused) = inr (inr refused)

    by_kind : (b : Bool) → ((a.entry).kind == 1) ≡ b → IsTrue (may_answer act r) ⊎ (IsTrue (may_give act r) ⊎ IsRefused r)
    by_kind true is = inr (inl (gave_by v r x.at tells (eqb-true (a.entry).kind 1 is)))
    by_kind false is = of_other (other_by v r (no_sweep act replied) x.at tells (eqb-false (a.entry).kind 1 is))

-- ---- an end that met a fault

has_first : (place : ℕ) (o : Option ℕ) → first_fault place o ≡ None → ⊥
has_first place None is = cc
has_first place (Some first) is = cc

none_some_place : (o : Option ℕ) → o ≡ None → IsSome o → ⊥
none_some_place None is some = cc
none_some_place (Some n) is some = cc

first_some : (place : ℕ) (o : Option ℕ) → IsSome (first_fault place o)
first_some place None = refl
first_some place (Some first) = refl

fault_stays : (place n : ℕ) (o : Option ℕ) → IsSome o → IsSome (fault_after place n o)
fault_stays place n o some = by_test (n == 5)
  where
    by_test : (b : Bool) → IsSome (if b then first_fault place o else o)
    by_test true = first_some place o
    by_test false = some

-- after a fault no end meets one
later_end : (place : ℕ) (fault : Option ℕ) (before : ℕ) (h : List Event) (u : Event) → IsSome fault → AreKept place fault before (h ++ u ∷ []) → u.act ≡ acts.End → kind u ≡ 5 → ⊥
later_end place fault before [] u some kept asks five = by_kind (subst (λ c. FitsKind c fault (kind u)) (ap class_of asks) (kept.0).kind_is)
  where
    by_kind : FitsKind ending fault (kind u) → ⊥
    by_kind (inl six) = omega (arith, six, five)
    by_kind (inr p) = none_some_place fault p.1 some
later_end place fault before (w ∷ h) u some kept asks five =
    later_end (place + 1) (fault_after place (kind w) fault) (moment w) h u (fault_stays place (kind w) fault some) kept.1 asks five

second_end : (place : ℕ) (fault : Option ℕ) (before : ℕ) (h : List Event) (v : Event) (m : List Event) (u : Event) → AreKept place fault before ((h ++ v ∷ m) ++ u ∷ []) → kind v ≡ 5 → u.act ≡ acts.End → kind u ≡ 5 → ⊥
second_end place fault before [] v m u kept five asks again =
    later_end (place + 1) (fault_after place (kind v) fault) (moment v) m u
    (subst (λ n. IsSome (fault_after place n fault)) (sym five) (first_some place fault)) kept.1 asks again
second_end place fault before (w ∷ h) v m u kept five asks again =
    second_end (place + 1) (fault_after place (kind w) fault) (moment w) h v m u kept.1 five asks again

-- an end that met a fault meets none again, whatever others did meanwhile
pub ends_once : (a b c : SeatState Event) (x y : Answer) → HasEntered acts.End x a b → HasEntered acts.End y b c → AreAnswered c.seen → (x.entry).kind ≡ 5 → (y.entry).kind ≡ 5 → ⊥
ends_once a b c x y first second answered five again =
    let v : Event = event_at acts.End x first.calls in
    let u : Event = event_at acts.End y second.calls in
    let m = second.seen.0 in
    let seen_is : second.before ≡ first.before ++ v ∷ m = sym second.seen.1 ∙ ap (λ s. s.seen ++ m) first.now ∙ append_assoc first.before (v ∷ []) m in
    let all : AreAnswered ((first.before ++ v ∷ m) ++ u ∷ []) = subst (λ es. AreAnswered (es ++ u ∷ [])) seen_is (subst AreAnswered (ap (λ s. s.seen) second.now) answered) in
    second_end 0 None all.0 first.before v m u all.1 five refl again

-- ---- want of memory that ends a lane

pub short_is : (o : Option Ending) → unwrap_or o endings.NoMemory ≡ short_ending o
short_is None = refl
short_is (Some e) = refl

-- What holds of any stage of a task, and of its answer.
use Rattle.std.proofs.Common.{◌≡◌, ℕ, Bool, true, false, ◌||◌, Some, IsSome, IfSome, Result, Ok, Err, IfOk, OnErr, refl, sym, subst}
use Rattle.store_types.specs.declared.refusal.Refusal.TheVariants.{NoMemory}
use Rattle.wire_commands.specs.declared.reply.Reply.{Reply}
use Rattle.wire_commands.specs.declared.reply.Reply.TheVariants.{Refused}
use Rattle.store_history.specs.declared.act.Answer.{Answer}
use Rattle.lane.specs.Tasks.{Stage, taken_by, Tells, MayWant}

false_true : false ≡ true → ⊥
false_true e = cc

-- ---- what was told

pub tells_is : (a : Answer) (r : Reply) (P : Reply → Type 0) → a.reply ≡ Some r → P r → Tells a P
tells_is a r P is holds = (subst IsSome (sym is) refl, subst (λ o. IfSome o P) (sym is) holds)

pub told_is : (a : Answer) (r : Reply) (P : Reply → Type 0) → a.reply ≡ Some r → Tells a P → P r
told_is a r P is tells = subst (λ o. IfSome o P) is tells.1

-- ---- an answer that is dropped

-- All one whether it was taken: want of memory behind it has the same end.
pub record IsDropped (s after : Stage) : Type 0 where
  pub wants : MayWant after
  pub again : MayWant s
  pub ends : (kind : ℕ) → taken_by after kind (Some (Refused NoMemory)) ≡ taken_by s kind (Some (Refused NoMemory))

-- ---- the last answer

-- this one was the last, or one before it
pub by_last : (P : Type 0) (last was : Bool) → (last ≡ true → P) → (was ≡ true → P) → (last || was) ≡ true → P
by_last P true was now before is = now refl
by_last P false true now before is = before refl
by_last P false false now before is = absurd (false_true is)

-- ---- a result that is known

pub of_ok : {T E : Type 0} (r : Result T E) (x : T) (P : T → Type 0) → r ≡ Ok x → IfOk r P → P x
of_ok r x P is holds = subst (λ r. IfOk r P) is holds

pub of_err : {T E : Type 0} (r : Result T E) (e : E) (P : Type 0) → r ≡ Err e → OnErr r P → P
of_err r e P is holds = subst (λ r. OnErr r P) is holds

-- Calls that take memory and may be refused, and what they answer where a call within them stops.
use Rattle.std.proofs.Common.{◌≡◌, Result, Ok, Err, subst, sym}
use Rattle.std.specs.Prelude.{IsErrAnd, MatchResult}
use Rattle.store_types.specs.declared.refusal.Refusal.{Refusal}
use Rattle.store_types.specs.declared.refusal.Refusal.TheVariants.{NoMemory}
use Rattle.store_stops.specs.Outcomes.{OnCause, IfAnswered}

-- what a call within stops by, the call stops by
pub at_stop : {A E : Type 0} (P : A → Type 0) (Q : E → Type 0) (result : Result A E) (stop : E) → IsErrAnd result (λ e. e ≡ stop) → Q stop → MatchResult result P Q
at_stop P Q (Ok x) stop same is = absurd same
at_stop P Q (Err e) stop same is = subst Q (sym same) is

-- ---- a refusal is answered

-- what is so of a refusal, whichever it is, is so where it is none of memory
pub on_cause : (P : Refusal → Type 0) (refusal : Refusal) → P refusal → OnCause P refusal
on_cause P NoMemory told = tt
on_cause P cause told = told

pub refused : {A : Type 0} (P : Result A Refusal → Type 0) (result : Result A Refusal) (cause : Refusal) → IsErrAnd result (λ e. e ≡ cause) → P (Err cause) → IfAnswered result P
refused P (Ok x) cause same told = absurd same
refused P (Err e) cause same told = subst (OnCause (λ x. P (Err x))) (sym same) (on_cause (λ x. P (Err x)) cause told)

-- ---- a stop is handed on

pub weaker_cause : (P Q : Refusal → Type 0) (stop : Refusal) → ((cause : Refusal) → P cause → Q cause) → OnCause P stop → OnCause Q stop
weaker_cause P Q NoMemory by told = tt
weaker_cause P Q cause by told = by cause told

-- What a call gives that takes memory, and that may be refused. Want of memory is told as a refusal, but it is no answer:
-- where it is told, nothing is said of what the call would have answered.
use Rattle.std.specs.Prelude.{Result, Ok, Err, MatchResult, IfErr}
use Rattle.store_types.specs.declared.refusal.Refusal.{Refusal}
use Rattle.store_types.specs.declared.refusal.Refusal.TheVariants.{NoMemory}

-- each refusal but want of memory has this
abbrev pub OnCause : (Refusal → Type 0) → Refusal → Type 0
OnCause P NoMemory = Unit {0}
OnCause P cause = P cause

abbrev pub IfCause : {A : Type 0} → Result A Refusal → (Refusal → Type 0) → Type 0
IfCause result P = IfErr result (OnCause P)

-- the answer, a value or a refusal, has this
abbrev pub IfAnswered : {A : Type 0} → Result A Refusal → (Result A Refusal → Type 0) → Type 0
IfAnswered result P = MatchResult result (λ x. P (Ok x)) (OnCause (λ cause. P (Err cause)))

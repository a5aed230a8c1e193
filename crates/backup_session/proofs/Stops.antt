-- A call stops by what a call within stops by.
use Rattle.std.proofs.Common.{◌≡◌, Result, Err}
use Rattle.std.specs.Prelude.{IsErrAnd}
use Rattle.store_types.specs.declared.refusal.Refusal.{Refusal}
use Rattle.store_stops.specs.Outcomes.{OnCause}
use Rattle.store_stops.proofs.OutcomeLemmas.{at_stop, on_cause, weaker_cause}
use Rattle.backup_session.specs.declared.state.Pending.{Pending}
use Rattle.backup_session.specs.Session.{Writing, StopsBy}
use Rattle.backup_session.specs.Answers.{Leaves, Does}
use Rattle.backup_session.specs.Kept.{HoldsBack, LeavesPending}

pub does_stop : {S A B : Type 0} (show : A → B) (leave : Writing → S) (old new : S) (result : Result A Refusal) (step : Result (Writing × B) Refusal) (stop : Refusal)
    → IsErrAnd result (λ e. e ≡ stop) → StopsBy old new step stop → Does show leave old new result step
does_stop show leave old new result step stop same by = at_stop (λ a. Leaves leave new step (show a)) (StopsBy old new step) result stop same by

pub holds_stop : {A B : Type 0} (show : A → B) (pending : A → Pending) (old new : Writing) (result : Result A Refusal) (step : Result (Writing × B) Refusal) (stop : Refusal)
    → IsErrAnd result (λ e. e ≡ stop) → StopsBy old new step stop → HoldsBack show pending old new result step
holds_stop show pending old new result step stop same by = at_stop (λ a. LeavesPending old new (pending a) step (show a)) (StopsBy old new step) result stop same by

pub refuses : {S B : Type 0} (old new : S) (step : Result (Writing × B) Refusal) (refusal : Refusal) → step ≡ Err refusal → new ≡ old → StopsBy old new step refusal
refuses old new step refusal is same = (on_cause (λ cause. step ≡ Err cause) refusal is, same)

-- by what it tells of each of its causes
pub stops_by : {S B : Type 0} (P : Refusal → Type 0) (old new : S) (step : Result (Writing × B) Refusal) (stop : Refusal)
    → new ≡ old → ((refusal : Refusal) → P refusal → step ≡ Err refusal) → OnCause P stop → StopsBy old new step stop
stops_by P old new step stop same by told = (weaker_cause P (λ cause. step ≡ Err cause) stop by told, same)

-- Behind a refusal, and behind a chunk of another length, a SYNC ends its writer, and is over.
use Rattle.std.proofs.Common.{◌≡◌, inl, inr, Bool, true, not, ◌&&◌, List, [], ◌∷◌, refl, sym, ap, subst, ◌∙◌}
use Rattle.std.specs.Prelude.{MatchBool}
use Rattle.std.specs.List.{fold}
use Rattle.std.proofs.lemmas.List.Sums.{fold-append}
use Rattle.store_types.specs.declared.refusal.Refusal.{Refusal}
use Rattle.store_types.specs.declared.refusal.Refusal.TheVariants.{DiskFault, Halted, NoMemory, Unreadable}
use Rattle.wire_commands.specs.declared.command.Command.TheVariants.{Abort}
use Rattle.wire_commands.specs.declared.reply.Reply.{Reply}
use Rattle.wire_commands.specs.declared.reply.Reply.TheVariants.{Refused}
use Rattle.store_history.specs.declared.act.Act.TheVariants.{Plain}
use Rattle.store_history.specs.Pulling.{Pulling, seeking, comparing, starting, rejecting, aborting, SyncJob, reports, asks, act_of, chunk_told, compared, file_told, manifest_told, sought, started, stops, take, take_more}
use Rattle.job_laws.specs.Pulls.{EndsBy, EndsWriter, IsMismatch, IsOver, IsOverOrEnding, RefusalsEndIt, is_fault, pull_after}
use Rattle.job_laws.proofs.FirstRefusals.{Tells, ends_tell, finds_is, refused_tells, tells_behind}

-- ---- from there on

at_end : (z : Refusal) (pull : SyncJob) → Tells z pull → IsOverOrEnding pull
at_end z (reports report) h = inl tt
at_end z (asks (aborting first)) h = inr refl
at_end z (asks x) h = absurd h

tells_some : (x : Pulling) (z : Refusal) → (w : Refusal) × Tells w (take x (Refused z))
unfolding take
tells_some (rejecting path) NoMemory = (NoMemory, refl)
tells_some (rejecting path) z = (Unreadable path, ends_tell (Unreadable path) (Refused z))
tells_some (aborting first) z = (first, ends_tell first (Refused z))
tells_some x z = (z, refused_tells x z tt)

over_stays : (report : Reply) (rs : List Reply) → IsOverOrEnding (fold take_more (reports report) rs)
over_stays report [] = inl tt
over_stays report (r ∷ rs) = over_stays report rs

stays : (pull : SyncJob) (z : Refusal) (rs : List Reply) → IsOverOrEnding (fold take_more pull (Refused z ∷ rs))
stays (reports report) z rs = over_stays report rs
stays (asks x) z rs =
    let told = tells_some x z in
    at_end told.0 (fold take_more (take x (Refused z)) rs) (tells_behind told.0 rs (take x (Refused z)) told.1)

-- ---- next

abbrev EndsIf : Bool → Refusal → SyncJob → Type 0
EndsIf writes z pull = MatchBool (writes && not (is_fault z)) (EndsWriter pull) (IsOver pull)

stops_next : (z : Refusal) → EndsIf true z (stops z)
stops_next DiskFault = tt
stops_next (Halted place) = tt
stops_next z = refl

ends_next : (x : Pulling) (z : Refusal) → (act_of x ≡ Plain Abort → ⊥) → EndsBy x z (take x (Refused z))
unfolding take sought compared started manifest_told file_told chunk_told
ends_next (seeking group) z other = tt
ends_next (comparing group remote) z other = tt
ends_next (starting c) z other = tt
ends_next (rejecting path) z other = absurd (other refl)
ends_next (aborting first) z other = absurd (other refl)
ends_next x z other = stops_next z

-- ---- where a chunk has another length

other_next : (x : Pulling) (r : Reply) (z : Refusal) → IsMismatch x r z → take x r ≡ asks (aborting z)
other_next x r z is = finds_is x r is.digest is.fine is.finds ∙ ap (λ (y : Refusal). asks (aborting y)) (sym is.is)

other_stays : (pull : SyncJob) (x : Pulling) (r : Reply) (z : Refusal) (rs : List Reply) → pull ≡ asks x → IsMismatch x r z → IsOverOrEnding (fold take_more pull (r ∷ rs))
other_stays pull x r z rs asked is =
    at_end z (fold take_more pull (r ∷ rs))
    (tells_behind z rs (take_more pull r) (subst (Tells z) (sym (ap (λ p. take_more p r) asked ∙ other_next x r z is)) refl))

pub refusals_end : RefusalsEndIt
refusals_end = record {
  next = λ group before x z asked other.
      subst (EndsBy x z) (sym (fold-append take_more (asks (seeking group)) before (Refused z ∷ [])))
      (subst (λ pull. EndsBy x z (take_more pull (Refused z))) (sym asked) (ends_next x z other));
  later = λ group before rs z.
      subst IsOverOrEnding (sym (fold-append take_more (asks (seeking group)) before (Refused z ∷ rs))) (stays (pull_after group before) z rs);
  other = λ group before x r z asked is.
      fold-append take_more (asks (seeking group)) before (r ∷ []) ∙ ap (λ pull. take_more pull r) asked ∙ other_next x r z is;
  later_other = λ group before rs x r z asked is.
      subst IsOverOrEnding (sym (fold-append take_more (asks (seeking group)) before (r ∷ rs))) (other_stays (pull_after group before) x r z rs asked is);
}

-- A step that stops before its end.
use Rattle.std.proofs.Common.{◌≡◌, Result, Ok, Err, refl, sym, subst}
use Rattle.std.specs.Prelude.{IsErrAnd}
use Rattle.store_types.specs.declared.refusal.Refusal.{Refusal}
use Rattle.wire_commands.specs.declared.reply.Reply.{Reply}
use Rattle.wire_commands.specs.HasText.{FitsRefusal}
use Rattle.store_model.specs.Store.{Store, Outcome}
use Rattle.plain_sessions.specs.declared.stop.Stop.{Stop}
use Rattle.plain_sessions.specs.declared.stop.Stop.TheVariants.{Refused, NoMemory}
use Rattle.plain_sessions.specs.Outcomes.{Gives, IsFitRefusal}
use Rattle.plain_store.specs.Outcomes.{Does, IsSpelled}

pub does_refuse : (s : Store) (result : Result Reply Stop) (r : Refusal) (o : Outcome) → IsErrAnd result (λ stop. stop ≡ Refused r) → o ≡ Err r → Does s s result o
does_refuse s (Ok reply) r o is h = absurd is
does_refuse s (Err stop) r o is h = subst (λ (x : Stop). Does s s (Err x) o) (sym is) (h, refl)

pub refusal_fits : (result : Result Reply Stop) (r : Refusal) → IsErrAnd result (λ stop. stop ≡ Refused r) → FitsRefusal r → IsSpelled result
refusal_fits (Ok reply) r is h = absurd is
refusal_fits (Err stop) r is h = subst (λ (x : Stop). IsSpelled (Err x)) (sym is) h

-- a test with a stop of its own
pub does_stop : {A B : Type 0} (shown : A → B) (s : Store) (result : Result Reply Stop) (stop : Stop) (test : Result B Refusal) (o : Outcome)
    → IsErrAnd result (λ x. x ≡ stop) → Gives {A = A} shown (Err stop) test → ((r : Refusal) → test ≡ Err r → o ≡ Err r) → Does s s result o
does_stop shown s (Ok reply) stop test o is gives refused = absurd is
does_stop {A} shown s (Err x) stop test o is gives refused = subst (λ (y : Stop). Does s s (Err y) o) (sym is) (by_stop stop gives)
  where
    by_stop : (stop : Stop) → Gives {A = A} shown (Err stop) test → Does s s (Err stop) o
    by_stop (Refused r) g = (refused r g, refl)
    by_stop NoMemory g = refl

pub stop_fits : (result : Result Reply Stop) (stop : Stop) → IsErrAnd result (λ x. x ≡ stop) → IsFitRefusal {A = Reply} (Err stop) → IsSpelled result
stop_fits (Ok reply) stop is h = absurd is
stop_fits (Err x) stop is h = subst (λ (y : Stop). IsSpelled (Err y)) (sym is) h

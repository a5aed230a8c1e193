-- A test that stops before its end.
use Rattle.std.proofs.Common.{◌≡◌, Result, Err, sym, subst}
use Rattle.store_types.specs.declared.refusal.Refusal.{Refusal}
use Rattle.plain_sessions.specs.declared.stop.Stop.{Stop}
use Rattle.plain_sessions.specs.declared.stop.Stop.TheVariants.{Refused, NoMemory}
use Rattle.plain_sessions.specs.Outcomes.{Gives}

-- a test that is refused
pub gives_refusal : {A B : Type 0} (shown : A → B) (result : Result A Stop) (r : Refusal) (test : Result B Refusal) → result ≡ Err (Refused r) → test ≡ Err r → Gives shown result test
gives_refusal {A} shown result r test is h = subst (λ (x : Result A Stop). Gives shown x test) (sym is) h

-- a test that stops where another does
pub gives_stop : {A B C D : Type 0} (shown : A → B) (other : C → D) (result : Result A Stop) (stop : Stop) (test : Result B Refusal) (first : Result D Refusal)
    → result ≡ Err stop → Gives {A = C} other (Err stop) first → ((r : Refusal) → first ≡ Err r → test ≡ Err r) → Gives shown result test
gives_stop {A} {B} {C} {D} shown other result stop test first is gives refused = subst (λ (x : Result A Stop). Gives shown x test) (sym is) (by_stop stop gives)
  where
    by_stop : (stop : Stop) → Gives {A = C} other (Err stop) first → Gives {A = A} shown (Err stop) test
    by_stop (Refused r) g = refused r g
    by_stop NoMemory g = tt

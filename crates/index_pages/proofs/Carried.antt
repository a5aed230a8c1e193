-- Faults that are handed up.
use Rattle.std.proofs.Common.{◌≡◌, Result, Ok, Err, sym, ap, subst, ◌∙◌}
use Rattle.std.specs.Prelude.{IsErrAnd, IsErrOf}
use Rattle.index_pages.specs.declared.fault.PageFault.{PageFault}
use Rattle.index_pages.specs.declared.fault.PageFault.TheVariants.{Missing, BadIndex, Changed, Failed, NoMemory}
use Rattle.index_pages.specs.Gives.{IsTold}

pub by_err : {A : Type 0} (result : Result A PageFault) (fault : PageFault) (P : Result A PageFault → Type 0) → IsErrAnd result (λ x. x ≡ fault) → P (Err fault) → P result
by_err (Ok x) fault P is p = absurd is
by_err (Err x) fault P is p = subst (λ y. P (Err y)) (sym is) p

err_is : {A : Type 0} (a b : PageFault) → ◌≡◌ {A = Result A PageFault} (Err a) (Err b) → a ≡ b
err_is a b e = cc

-- the same fault, of another value
pub same_err : {A B : Type 0} (a b : PageFault) → ◌≡◌ {A = Result A PageFault} (Err a) (Err b) → ◌≡◌ {A = Result B PageFault} (Err a) (Err b)
same_err {A = A} a b e = ap Err (err_is {A = A} a b e)

pub carried : {A B : Type 0} (result : Result A PageFault) (fault e : PageFault) → IsErrAnd result (λ x. x ≡ fault) → IsErrOf result e → ◌≡◌ {A = Result B PageFault} (Err fault) (Err e)
carried (Ok x) fault e is h = absurd is
carried {A = A} (Err x) fault e is h = ap Err (sym is ∙ err_is {A = A} x e h)

pub told_not_failed : (A : Type 0) (fault : PageFault) → IsTold fault → ◌≡◌ {A = Result A PageFault} (Err fault) (Err Failed) → ⊥
told_not_failed A Missing told e = cc
told_not_failed A (BadIndex cause) told e = cc
told_not_failed A (Changed page) told e = cc
told_not_failed A Failed told e = told
told_not_failed A NoMemory told e = told

pub told_not_short : (A : Type 0) (fault : PageFault) → IsTold fault → ◌≡◌ {A = Result A PageFault} (Err fault) (Err NoMemory) → ⊥
told_not_short A Missing told e = cc
told_not_short A (BadIndex cause) told e = cc
told_not_short A (Changed page) told e = cc
told_not_short A Failed told e = told
told_not_short A NoMemory told e = told

pub ok_not : {A : Type 0} (x : A) (e : PageFault) → IsErrOf (Ok x) e → ⊥
ok_not x e h = cc

pub short_not_failed : {A : Type 0} (result : Result A PageFault) → IsErrAnd result (λ x. x ≡ NoMemory) → IsErrOf result Failed → ⊥
short_not_failed {A = A} result is f = apart (carried result NoMemory Failed is f)
  where
    apart : ◌≡◌ {A = Result A PageFault} (Err NoMemory) (Err Failed) → ⊥
    apart e = cc

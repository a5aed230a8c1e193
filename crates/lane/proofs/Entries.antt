-- Of two, one is true.
use Rattle.std.proofs.Common.{◌≡◌, Bool, true, false, ◌||◌, refl, ap}

pub first_true : (a b : Bool) → a ≡ true → a || b ≡ true
first_true a b e = ap (λ x. x || b) e

pub second_true : (a b : Bool) → b ≡ true → a || b ≡ true
second_true true b e = refl
second_true false b e = e

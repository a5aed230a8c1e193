-- What a test of a command answers.
use Rattle.std.specs.Prelude.{◌≡◌, List, Result, Ok, Err, MatchResult, Vec}
use Rattle.std.specs.declared.alloc.Global.{Global}
use Rattle.store_types.specs.declared.refusal.Refusal.{Refusal}
use Rattle.wire_commands.specs.HasText.{FitsRefusal}
use Rattle.plain_sessions.specs.declared.stop.Stop.{Stop}
use Rattle.plain_sessions.specs.declared.stop.Stop.TheVariants.{Refused, NoMemory}

-- a value that a test gives, or the refusal of the test
abbrev pub Gives : {A B : Type 0} → (A → B) → Result A Stop → Result B Refusal → Type 0
Gives shown (Ok x) test = test ≡ Ok (shown x)
Gives shown (Err (Refused refusal)) test = test ≡ Err refusal
Gives shown (Err NoMemory) test = Unit {0}

-- the test's own value
abbrev pub GivesSame : {A : Type 0} → Result A Stop → Result A Refusal → Type 0
GivesSame result test = Gives (λ x. x) result test

-- the test's list
abbrev pub GivesItems : {A : Type 0} → Result (Vec A Global) Stop → Result (List A) Refusal → Type 0
GivesItems result test = Gives (λ found. found.items) result test

-- where no memory is taken: the test gives what is shown of the answer, or the refusal
abbrev pub Tells : {A B : Type 0} → Result A Refusal → Result B Refusal → (A → B) → Type 0
Tells result test show = MatchResult result (λ a. test ≡ Ok (show a)) (λ r. test ≡ Err r)

-- what a test refuses with has a text
abbrev pub IsFitRefusal : {A : Type 0} → Result A Stop → Type 0
IsFitRefusal (Ok x) = Unit {0}
IsFitRefusal (Err (Refused refusal)) = FitsRefusal refusal
IsFitRefusal (Err NoMemory) = Unit {0}

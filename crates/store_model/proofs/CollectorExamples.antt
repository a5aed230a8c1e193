-- The collector, woven: it opens, acts and closes on one lane, beside the others.
use Rattle.std.specs.Prelude.{◌≡◌, ℕ, List, [], ◌∷◌, ◌++◌, codes, replicate, refl, None, Result, Ok, Err}
use Rattle.store_types.specs.declared.order.Entry.{Entry}
use Rattle.store_model.specs.declared.ending.Ending.{Ending}
use Rattle.store_model.specs.declared.ending.Ending.TheVariants as endings
use Rattle.store_model.specs.Weave.{Misfit, weave}
use Rattle.wire_commands.proofs.Hexadecimal.{hex}
use Rattle.store_model.proofs.OnLiterals.{store_model_on_literals}

abbrev entry : ℕ → ℕ → Entry
entry lane kind = record { lane = lane; moment = 5; kind = kind }

abbrev gc : List ℕ
gc = hex (codes "01000000 24")

abbrev open_writer : List ℕ
open_writer = hex (codes "1d000000 0a 1b") ++ codes "host/a/2020-01-15T06:30:03Z"

-- five numbers behind the 0, free and zeros here
abbrev report : List ℕ
report = hex (codes "29000000 00") ++ replicate 40 0

-- the replies, or the first misfit
abbrev given : List Entry → List (List ℕ) → List Ending → Result (List (List ℕ)) Misfit
given order inputs es = elim (weave [] None order inputs es) [ Ok w ↦ Ok w.replies | Err e ↦ Err e ]

-- it acts three times, and another lane's command stands between
collected : given (entry 0 3 ∷ entry 0 1 ∷ entry 1 0 ∷ entry 0 1 ∷ entry 0 1 ∷ entry 0 4 ∷ entry 0 6 ∷ entry 1 6 ∷ []) (gc ∷ open_writer ∷ []) (endings.Clean ∷ endings.Clean ∷ [])
    ≡ Ok (report ∷ hex (codes "02000000 00 00") ∷ [])
unfolding store_model_on_literals
collected = refl

-- a second one is told the lane of the first, until that is closed
busy : given (entry 1 3 ∷ entry 0 0 ∷ entry 1 4 ∷ entry 0 3 ∷ entry 0 4 ∷ entry 0 6 ∷ entry 1 6 ∷ []) ((gc ++ gc) ∷ gc ∷ []) (endings.Clean ∷ endings.Clean ∷ [])
    ≡ Ok ((hex (codes "05000000 19 01000000") ++ report) ∷ report ∷ [])
unfolding store_model_on_literals
busy = refl

-- a lane with a writer has none
wrong_state : given (entry 0 0 ∷ entry 0 0 ∷ entry 0 6 ∷ []) ((open_writer ++ gc) ∷ []) (endings.Clean ∷ [])
    ≡ Ok (hex (codes "02000000 00 00 02000000 03 01") ∷ [])
unfolding store_model_on_literals
wrong_state = refl

-- memory was wanting before it opened, and then while it was open
short : given (entry 0 2 ∷ entry 0 3 ∷ entry 0 1 ∷ entry 0 2 ∷ entry 0 4 ∷ entry 0 6 ∷ []) ((gc ++ gc) ∷ []) (endings.Clean ∷ [])
    ≡ Ok (hex (codes "01000000 1c 01000000 1c") ∷ [])
unfolding store_model_on_literals
short = refl

-- a fault closes it
faulted : given (entry 0 3 ∷ entry 0 5 ∷ entry 0 5 ∷ entry 0 6 ∷ []) ((gc ++ gc) ∷ []) (endings.Clean ∷ [])
    ≡ Ok (hex (codes "01000000 1a 09000000 1b 0100000000000000") ∷ [])
unfolding store_model_on_literals
faulted = refl

-- so does the end of a lane whose source failed, and then another may open
end_closes : given (entry 0 3 ∷ entry 0 6 ∷ entry 1 3 ∷ entry 1 4 ∷ entry 1 6 ∷ []) (gc ∷ gc ∷ []) (endings.SourceFault ∷ endings.Clean ∷ [])
    ≡ Ok ([] ∷ report ∷ [])
unfolding store_model_on_literals
end_closes = refl

-- no other end does
left_open : given (entry 0 3 ∷ entry 0 6 ∷ []) (gc ∷ []) (endings.Clean ∷ []) ≡ Err (record { entry = 1; lane = 0; replayed = 0 })
unfolding store_model_on_literals
left_open = refl

-- GC is refused, or its collector opens
not_refused : given (entry 0 0 ∷ entry 0 6 ∷ []) (gc ∷ []) (endings.Clean ∷ []) ≡ Err (record { entry = 0; lane = 0; replayed = 0 })
unfolding store_model_on_literals
not_refused = refl

not_opened : given (entry 1 3 ∷ entry 0 3 ∷ entry 0 6 ∷ entry 1 6 ∷ []) (gc ∷ gc ∷ []) (endings.Clean ∷ endings.Clean ∷ [])
    ≡ Err (record { entry = 1; lane = 0; replayed = 0 })
unfolding store_model_on_literals
not_opened = refl

-- while it is open its lane has no other step
not_stepped : given (entry 0 3 ∷ entry 0 0 ∷ entry 0 6 ∷ []) ((gc ++ open_writer) ∷ []) (endings.Clean ∷ []) ≡ Err (record { entry = 1; lane = 0; replayed = 0 })
unfolding store_model_on_literals
not_stepped = refl

not_closed_twice : given (entry 0 3 ∷ entry 0 4 ∷ entry 0 4 ∷ entry 0 6 ∷ []) (gc ∷ []) (endings.Clean ∷ []) ≡ Err (record { entry = 2; lane = 0; replayed = 45 })
unfolding store_model_on_literals
not_closed_twice = refl

-- Want of memory, faults of the disk, and lanes that end early, woven.
use Rattle.std.specs.Prelude.{◌≡◌, ℕ, List, [], ◌∷◌, ◌++◌, codes, refl, None, Result, Ok, Err}
use Rattle.store_types.specs.declared.order.Entry.{Entry}
use Rattle.store_model.specs.declared.ending.Ending.{Ending}
use Rattle.store_model.specs.declared.ending.Ending.TheVariants as endings
use Rattle.store_model.specs.Weave.{Misfit, weave}
use Rattle.wire_commands.proofs.Hexadecimal.{hex}
use Rattle.store_model.proofs.OnLiterals.{store_model_on_literals}

abbrev entry : ℕ → ℕ → Entry
entry lane kind = record { lane = lane; moment = 5; kind = kind }

abbrev finish : List ℕ
finish = hex (codes "01000000 12")

abbrev bye : List ℕ
bye = hex (codes "01000000 3f")

-- the replies, or the first misfit
abbrev given : List Entry → List (List ℕ) → List Ending → Result (List (List ℕ)) Misfit
given order inputs es = elim (weave [] None order inputs es) [ Ok w ↦ Ok w.replies | Err e ↦ Err e ]

-- memory was wanting for the first command, and the second was refused
short : given (entry 0 2 ∷ entry 0 0 ∷ entry 0 6 ∷ []) ((finish ++ finish ++ bye) ∷ []) (endings.Clean ∷ [])
    ≡ Ok (hex (codes "01000000 1c 02000000 03 00 01000000 00") ∷ [])
unfolding store_model_on_literals
short = refl

-- a frame that is no command is used up, with what stands behind it
used_up : given (entry 0 2 ∷ entry 0 6 ∷ []) ((hex (codes "02000000 6300") ++ finish) ∷ []) (endings.NoMemory ∷ []) ≡ Ok (hex (codes "01000000 1c") ∷ [])
unfolding store_model_on_literals
used_up = refl

-- neither BYE nor the end of the input
no_short_bye : given (entry 0 2 ∷ entry 0 6 ∷ []) (bye ∷ []) (endings.NoMemory ∷ []) ≡ Err (record { entry = 0; lane = 0; replayed = 0 })
unfolding store_model_on_literals
no_short_bye = refl

no_short_end : given (entry 0 0 ∷ entry 0 2 ∷ entry 0 6 ∷ []) (finish ∷ []) (endings.NoMemory ∷ []) ≡ Err (record { entry = 1; lane = 0; replayed = 6 })
unfolding store_model_on_literals
no_short_end = refl

-- the first fault, which the others are told of by its place
faults : given (entry 1 0 ∷ entry 0 5 ∷ entry 1 5 ∷ entry 0 5 ∷ entry 0 6 ∷ entry 1 6 ∷ []) ((finish ++ finish) ∷ (finish ++ finish ++ bye) ∷ []) (endings.Clean ∷ endings.Clean ∷ [])
    ≡ Ok (hex (codes "01000000 1a 09000000 1b 0100000000000000") ∷ hex (codes "02000000 03 00 09000000 1b 0100000000000000 01000000 00") ∷ [])
unfolding store_model_on_literals
faults = refl

-- a fault within a lane's end is told to no one
end_faulted : given (entry 0 5 ∷ entry 0 6 ∷ []) (bye ∷ []) (endings.Clean ∷ []) ≡ Ok (hex (codes "01000000 00") ∷ [])
unfolding store_model_on_literals
end_faulted = refl

-- nor where want of memory ended the lane with a command unread
cut_off : given (entry 0 2 ∷ entry 0 5 ∷ entry 0 6 ∷ []) ((finish ++ finish) ∷ []) (endings.NoMemory ∷ []) ≡ Ok (hex (codes "01000000 1c") ∷ [])
unfolding store_model_on_literals
cut_off = refl

-- where the sink failed it is told of the command that is next
sink_failed : given (entry 0 0 ∷ entry 0 5 ∷ entry 0 6 ∷ []) ((finish ++ finish) ∷ []) (endings.SinkFault ∷ []) ≡ Ok (hex (codes "02000000 03 00 01000000 1a") ∷ [])
unfolding store_model_on_literals
sink_failed = refl

-- where the source failed, commands may be left unread, and BYE is not replied to
source_failed : given (entry 0 6 ∷ entry 1 6 ∷ []) (finish ∷ bye ∷ []) (endings.SourceFault ∷ endings.SourceFault ∷ []) ≡ Ok ([] ∷ [] ∷ [])
unfolding store_model_on_literals
source_failed = refl

-- commands are left unread in no other case, and each entry finds a command
left_unread : given (entry 0 6 ∷ []) (finish ∷ []) (endings.Clean ∷ []) ≡ Err (record { entry = 0; lane = 0; replayed = 0 })
unfolding store_model_on_literals
left_unread = refl

nothing_next : given (entry 0 0 ∷ entry 0 6 ∷ []) (bye ∷ []) (endings.Clean ∷ []) ≡ Err (record { entry = 0; lane = 0; replayed = 0 })
unfolding store_model_on_literals
nothing_next = refl

-- an act of a collector that is not open
no_kind : given (entry 0 1 ∷ entry 0 6 ∷ []) (finish ∷ []) (endings.Clean ∷ []) ≡ Err (record { entry = 0; lane = 0; replayed = 0 })
unfolding store_model_on_literals
no_kind = refl

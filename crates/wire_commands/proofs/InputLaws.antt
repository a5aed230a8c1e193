-- The commands of an input are those of its frames.
use Rattle.std.proofs.Common.{◌≡◌, ℕ, zero, suc, List, [], ◌∷◌, ◌++◌, length, Option, Some, None, refl, sym, ap, ◌∙◌}
use Rattle.wire_frames.specs.Frames.{frame, Front, short, too_long, whole, cut, Tail, Frames, advanced_by, frames_from, first_frames, frames_of}
use Rattle.wire_frames.proofs.FramesLemmas.{cut-frame, frames_of-next}
use Rattle.wire_commands.specs.declared.command.Command.{Command}
use Rattle.wire_commands.specs.declared.command.Command.TheVariants.{Bye}
use Rattle.wire_commands.specs.CommandText.{command_of}
use Rattle.wire_commands.specs.Inputs.{body_front, cut_front, front, commands_from, first_commands, frames, command_and, commands_of, FramesAreCommands, InputsAreFrames, InputsGoOn}

-- ---- one frame

starts : (body rest : List ℕ) → front (frame body ++ rest) ≡ cut_front (cut (frame body ++ rest))
unfolding front
starts body rest = refl

pub frames_are_commands : FramesAreCommands
frames_are_commands body rest h = starts body rest ∙ ap cut_front (cut-frame body rest h)

-- ---- all frames

by_command : (o : Option Command) (rest : List ℕ) (go_on : List ℕ → List Command) (others : List Command) → go_on rest ≡ others
    → commands_from (body_front o rest) go_on ≡ command_and o others
by_command None rest go_on others e = refl
by_command (Some Bye) rest go_on others e = refl
by_command (Some c) rest go_on others e = ap (λ (cs : List Command). c ∷ cs) e

-- two ways to go on that agree
abbrev Agree : (List ℕ → List Command) → (Tail → Frames) → Type 0
Agree go_on frames_on = (t : Tail) → go_on t.bytes ≡ commands_of (frames_on t).list

by_cut : (go_on : List ℕ → List Command) (frames_on : Tail → Frames) (t : Tail) (f : Front) → Agree go_on frames_on
    → commands_from (cut_front f) go_on ≡ commands_of (frames_from t f frames_on).list
unfolding commands_of
by_cut go_on frames_on t short h = refl
by_cut go_on frames_on t (too_long len) h = refl
by_cut go_on frames_on t (whole body rest) h =
    let after : Tail = advanced_by t (whole body rest) in
    by_command (command_of body) rest go_on (commands_of (frames_on after).list) (h after)

by_front : (go_on : List ℕ → List Command) (frames_on : Tail → Frames) (offset : ℕ) (input : List ℕ) → Agree go_on frames_on
    → commands_from (front input) go_on ≡ commands_of (frames_from (record { offset = offset; bytes = input }) (cut input) frames_on).list
unfolding front cut commands_of
by_front go_on frames_on offset [] h = refl
by_front go_on frames_on offset (b ∷ bytes) h = by_cut go_on frames_on (record { offset = offset; bytes = b ∷ bytes }) (cut (b ∷ bytes)) h

by_bound : (n : ℕ) → Agree (first_commands n) (first_frames n)
unfolding first_commands first_frames commands_of
by_bound zero t = refl
by_bound (suc n) t = by_front (first_commands n) (first_frames n) t.offset t.bytes (by_bound n)

pub inputs_are_frames : InputsAreFrames
unfolding frames frames_of
inputs_are_frames input offset = by_bound (length input) (record { offset = offset; bytes = input })

pub inputs_go_on : InputsGoOn
inputs_go_on input =
    let t : Tail = record { offset = 0; bytes = input } in
    inputs_are_frames input 0
    ∙ ap (λ (f : Frames). commands_of f.list) (frames_of-next t)
    ∙ sym (by_front frames frames_of 0 input (λ t. inputs_are_frames t.bytes t.offset))

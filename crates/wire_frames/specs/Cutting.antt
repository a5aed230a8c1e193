-- What a cutter answers.
use Rattle.std.specs.Prelude.{◌≡◌, ◌≤◌, ◌<◌, ◌+◌, ◌-◌, ◌^◌, List, length, ℕ, Option, Some, None, Result, Ok, Err}
use Rattle.std.specs.Borrow.{Bor}
use Rattle.smallvec.specs.SmallVec.{SmallVec}
use Rattle.wire_frames.specs.Frames.{Tail, cut, short, too_long, whole}
use Rattle.wire_frames.specs.declared.frame.Frame.{Frame}
use Rattle.wire_frames.specs.declared.frame.TooLong.{TooLong}

-- What a cutter keeps: the byte at the offset stands at start.
pub record IsSound (offset start : ℕ) (bytes : SmallVec ℕ) : Type 0 where
  pub within : start ≤ length bytes.items
  pub skipped : start ≤ offset
  pub inline : 5 ≤ bytes.capacity
  pub fits : offset + (length bytes.items - start) < 2 ^ 64

-- the body at the front of some bytes
abbrev pub IsFrontBody : List ℕ → Result (Option (Bor (List ℕ))) TooLong → Type 0
IsFrontBody bytes (Err e) = cut bytes ≡ too_long e.length
IsFrontBody bytes (Ok None) = cut bytes ≡ short
IsFrontBody bytes (Ok (Some body)) = (rest : List ℕ) × (cut bytes ≡ whole body.now rest)

-- the frame at the front of a stream's tail
abbrev pub IsNext : Tail → Result (Option Frame) TooLong → Type 0
IsNext t (Err e) = cut t.bytes ≡ too_long e.length
IsNext t (Ok None) = cut t.bytes ≡ short
IsNext t (Ok (Some frame)) = (frame.offset ≡ t.offset) × ((rest : List ℕ) × (cut t.bytes ≡ whole frame.body.now rest))

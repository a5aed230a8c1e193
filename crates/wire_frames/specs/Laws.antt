-- What holds of frames and of the streams that they make.
use Rattle.std.specs.Prelude.{◌≡◌, ℕ, ◌≤◌, ◌+◌, List, [], ◌++◌, length}
use Rattle.std.specs.List.{concat, AllByRecursion}
use Rattle.wire_frames.specs.Frames.{body_limit, frame, AreBytes, Tail, fed, cut, whole, frames_of, frames_at, stream_of, frames_by_pieces}

-- what is written as a frame is cut off as that frame
abbrev pub WhatIsWrittenIsCutOff : Type 0
WhatIsWrittenIsCutOff = (body rest : List ℕ) → length body ≤ body_limit → cut (frame body ++ rest) ≡ whole body rest

-- what is cut off was a frame
abbrev pub WhatIsCutOffWasWritten : Type 0
WhatIsCutOffWasWritten = (bytes body rest : List ℕ) → AreBytes bytes → cut bytes ≡ whole body rest
    → (bytes ≡ frame body ++ rest) × (length body ≤ body_limit)

-- a stream that was made of bodies has just their frames
abbrev pub StreamsHaveTheirFrames : Type 0
StreamsHaveTheirFrames = (offset : ℕ) (bodies : List (List ℕ)) → AllByRecursion (λ body. length body ≤ body_limit) bodies
    → frames_of (record { offset = offset; bytes = stream_of bodies }) ≡
    record { list = frames_at offset bodies; tail = record { offset = offset + length (stream_of bodies); bytes = [] } }

-- however a stream comes in pieces, its frames are the same
abbrev pub PiecesHaveTheSameFrames : Type 0
PiecesHaveTheSameFrames = (t : Tail) (pieces : List (List ℕ)) → frames_by_pieces t pieces ≡ frames_of (fed t (concat pieces))

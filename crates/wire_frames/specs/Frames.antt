-- Frames: the length of a body in four bytes, low first, and the body.
use Rattle.std.specs.Prelude.{ℕ, zero, suc, ◌+◌, ◌<◌, List, [], ◌∷◌, ◌++◌, length, take, drop, slice_index, map, nat_lt, if◌then◌else◌}
use Rattle.std.specs.List.{concat}
use Rattle.std.specs.Int.{w32, to_le_bytes, from_le_bytes}

-- the greatest length of a body
abbrev pub body_limit : ℕ
body_limit = 16_778_240

abbrev pub frame : List ℕ → List ℕ
frame body = to_le_bytes w32 (length body) ++ body

-- each number is below 256
abbrev pub AreBytes : List ℕ → Type 0
AreBytes bytes = (i : ℕ) → slice_index bytes i < 256

-- what stands at the front of some bytes
pub data Front : Type 0 where
  -- neither a length above the limit nor a whole frame
  short : Front
  -- a length above the limit
  too_long : ℕ → Front
  -- a frame with this body, and what is left behind it
  whole : List ℕ → List ℕ → Front

-- behind a length
abbrev pub cut_body : ℕ → List ℕ → Front
cut_body n bytes =
    if nat_lt body_limit n then too_long n else
    if nat_lt (length bytes) n then short else
    whole (take n bytes) (drop n bytes)

unfoldable pub cut : List ℕ → Front
cut bytes = if nat_lt (length bytes) 4 then short else cut_body (from_le_bytes w32 (take 4 bytes)) (drop 4 bytes)

-- the bytes of a stream from an offset on
pub record Tail : Type 0 where
  pub offset : ℕ
  pub bytes : List ℕ

-- with more bytes at the end
abbrev pub fed : Tail → List ℕ → Tail
fed t more = record { offset = t.offset; bytes = t.bytes ++ more }

-- behind the frame at the front, where there is one
abbrev pub advanced_by : Tail → Front → Tail
advanced_by t (whole body rest) = record { offset = t.offset + (4 + length body); bytes = rest }
advanced_by t _ = t

abbrev pub advanced : Tail → Tail
advanced t = advanced_by t (cut t.bytes)

-- the offset of a frame's first byte, and its body
pub record FrameAt : Type 0 where
  pub offset : ℕ
  pub body : List ℕ

-- frames, and the tail behind the last of them
pub record Frames : Type 0 where
  pub list : List FrameAt
  pub tail : Tail

-- with frames before them
abbrev pub preceded : List FrameAt → Frames → Frames
preceded before f = record { list = before ++ f.list; tail = f.tail }

-- the frame at the front and those behind it, up to where no whole frame stands
abbrev pub frames_from : Tail → Front → (Tail → Frames) → Frames
frames_from t (whole body rest) go_on =
    preceded (record { offset = t.offset; body = body } ∷ []) (go_on (advanced_by t (whole body rest)))
frames_from t _ go_on = record { list = []; tail = t }

-- at most so many frames
unfoldable pub first_frames : ℕ → Tail → Frames
first_frames zero t = record { list = []; tail = t }
first_frames (suc n) t = frames_from t (cut t.bytes) (first_frames n)

-- All frames up to where no whole frame stands. There are no more than bytes. How they end is what
-- stands at the front of the tail: a length above the limit, or too few bytes.
unfoldable pub frames_of : Tail → Frames
frames_of t = first_frames (length t.bytes) t

-- the frames of these bodies, one after another from an offset on
abbrev pub frames_at : ℕ → List (List ℕ) → List FrameAt
frames_at offset [] = []
frames_at offset (body ∷ bodies) = (record { offset = offset; body = body }) ∷ frames_at (offset + (4 + length body)) bodies

abbrev pub stream_of : List (List ℕ) → List ℕ
stream_of bodies = concat (map frame bodies)

-- The frames where the bytes come in pieces, and all whole frames are taken before each piece.
unfoldable pub frames_by_pieces : Tail → List (List ℕ) → Frames
frames_by_pieces t [] = frames_of t
frames_by_pieces t (piece ∷ pieces) =
    let so_far = frames_of t in
    preceded so_far.list (frames_by_pieces (fed so_far.tail piece) pieces)

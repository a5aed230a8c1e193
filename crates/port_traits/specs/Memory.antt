-- Sources and sinks in memory, whose calls fail by a list.
use Rattle.std.specs.Prelude.{ℕ, ◌+◌, ◌-◌, ◌^◌, min, List, ◌++◌, length, take, drop}

-- One more, for a count that stops at 2^64 - 1.
abbrev pub one_more : ℕ → ℕ
one_more n = min (n + 1) (2 ^ 64 - 1)

-- The numbers of the calls that fail, from 0, and how many calls and faults there were.
pub record Calls : Type 0 where
  pub failing : List ℕ
  pub made : ℕ
  pub faults : ℕ

abbrev pub after_call : Calls → Calls
after_call c = record { failing = c.failing; made = one_more c.made; faults = c.faults }

abbrev pub after_fault : Calls → Calls
after_fault c = record { failing = c.failing; made = one_more c.made; faults = one_more c.faults }

-- What is left, at most how many bytes a read gives, and the calls.
pub record Reading : Type 0 where
  pub left : List ℕ
  pub most : ℕ
  pub calls : Calls

-- How many bytes a read into so much room gives.
abbrev pub read_count : Reading → ℕ → ℕ
read_count s room = min room (min s.most (length s.left))

abbrev pub after_read : Reading → ℕ → Reading
after_read s n = record { left = drop n s.left; most = s.most; calls = after_call s.calls }

abbrev pub after_failed_read : Reading → Reading
after_failed_read s = record { left = s.left; most = s.most; calls = after_fault s.calls }

-- What was taken, at most how many bytes a write takes, and the calls.
pub record Writing : Type 0 where
  pub taken : List ℕ
  pub most : ℕ
  pub calls : Calls

-- How many of the bytes a write takes.
abbrev pub write_count : Writing → List ℕ → ℕ
write_count s bytes = min s.most (length bytes)

abbrev pub after_write : Writing → List ℕ → Writing
after_write s bytes = record { taken = s.taken ++ take (write_count s bytes) bytes; most = s.most; calls = after_call s.calls }

abbrev pub after_failed_write : Writing → Writing
after_failed_write s = record { taken = s.taken; most = s.most; calls = after_fault s.calls }

-- What a clock will tell.
use Rattle.std.specs.Prelude.{ℕ, List, drop, slice_index_or}

-- A list of readings, and the number that is repeated after them.
pub record Readings : Type 0 where
  pub to_come : List ℕ
  pub afterwards : ℕ

-- The reading at a place, from 0.
abbrev pub reading_at : Readings → ℕ → ℕ
reading_at r i = slice_index_or r.to_come i r.afterwards

-- The readings without the first n.
abbrev pub readings_after : ℕ → Readings → Readings
readings_after n r = record { to_come = drop n r.to_come; afterwards = r.afterwards }

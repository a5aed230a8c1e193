-- The last entry that a writer keeps.
use Rattle.std.proofs.Common.{◌≡◌, ℕ, zero, suc, List, [], ◌∷◌, ◌-◌, Some, slice_get, length, sym, ap, arith}
use Rattle.std.proofs.lemmas.Option.{same_Some, slice_get_within}
use Rattle.dynamic_index.specs.Pieces.{last_end}
use Rattle.dynamic_index.specs.declared.writer.Entry.{Entry}
use Rattle.dynamic_index.specs.Entries.{ends_of}

last_at : (start : ℕ) (entries : List Entry) (i : ℕ) (e : Entry) → suc i ≡ length entries → Some e ≡ slice_get entries i → e.end ≡ last_end start (ends_of entries)
last_at start [] i e count is = absurd (omega (arith, count))
last_at start (x ∷ []) zero e count is = ap (λ (y : Entry). y.end) (same_Some e x is)
last_at start (x ∷ []) (suc i) e count is = absurd (omega (arith, count))
last_at start (x ∷ y ∷ es) zero e count is = absurd (omega (arith, count))
last_at start (x ∷ y ∷ es) (suc i) e count is = last_at x.end (y ∷ es) i e (omega (arith, count)) is

pub last_is : (entries : List Entry) (e : Entry) → Some e ≡ slice_get entries (length entries - 1) → e.end ≡ last_end 0 (ends_of entries)
last_is entries e is =
    last_at 0 entries (length entries - 1) e (omega (arith, slice_get_within entries (length entries - 1) e (sym is))) is

-- The table has what its comment says, by computing all of it.
use Rattle.std.proofs.Common.{◌≡◌, ℕ, ◌+◌, ◌*◌, ◌<◌, List, map, slice_index, slice_index_or, refl, ap, ◌∙◌, arith}
use Rattle.std.specs.List.{range_with_len}
use Rattle.std.proofs.lemmas.List.FromFn.{get_or-map-range_with_len}
use Rattle.crc_core.specs.Crc.{shift_bits}
use Rattle.crc_core.specs.declared.tables.TheConstants.{TABLES}

-- what each byte leaves, after itself and some bytes of 0
entries_after : ℕ → List ℕ
entries_after zeros = map (shift_bits (8 * (1 + zeros))) (range_with_len 0 256)

TABLES-entries : TABLES ≡ map entries_after (range_with_len 0 16)
unfolding entries_after shift_bits
TABLES-entries = refl

pub TABLES-entry : (none : List ℕ) (zeros byte : ℕ) → zeros < 16 → byte < 256
    → slice_index (slice_index_or TABLES zeros none) byte ≡ shift_bits (8 * (1 + zeros)) byte
unfolding entries_after
TABLES-entry none zeros byte few small =
    ap (λ rows. slice_index (slice_index_or rows zeros none) byte) TABLES-entries
    ∙ ap (λ entries. slice_index entries byte) (get_or-map-range_with_len entries_after 0 16 zeros zeros none few (omega arith))
    ∙ get_or-map-range_with_len (shift_bits (8 * (1 + zeros))) 0 256 byte byte 0 small (omega arith)

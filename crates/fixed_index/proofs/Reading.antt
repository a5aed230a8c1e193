-- What bytes that are an index have in them, for a reader that uses no view.
use Rattle.std.proofs.Common.{◌≡◌, ◌+◌, ◌*◌, ◌<◌, ◌≤◌, ℕ, IsTrue, List, length, Option, Some, None, Ok, refl, sym, subst, ◌∙◌, arith}
use Rattle.std.specs.Prelude.{◌==◌}
use Rattle.std.proofs.lemmas.Bool.{and_parts, eqb-true}
use Rattle.store_files.specs.declared.causes.IndexFault.{IndexFault}
use Rattle.store_files.specs.Cells.{entry_limit}
use Rattle.store_files.specs.FixedIndex.{FixedIndex, is_chunk_size, piece_count, has_sizes, fields_of, fixed_of}
use Rattle.fixed_index.specs.Viewing.{fault_of, IsIndex}
use Rattle.fixed_index.proofs.Cells.{count_is}
use Rattle.fixed_index.proofs.Cutting.{chunk_size_bounds, count_bounds}
use Rattle.fixed_index.proofs.Faults.{outcome, fixed_of-fault, is_index}

no_fault : (x y : FixedIndex) (fault : Option IndexFault) → outcome x fault ≡ Ok y → (fault ≡ None) × (y ≡ x)
no_fault x y None e = (refl, cc)
no_fault x y (Some fault) e = cc

-- The index is what the bytes have at the format's places.
pub fixed_of-ok : (bytes : List ℕ) (x : FixedIndex) → fixed_of bytes ≡ Ok x → (x ≡ fields_of bytes) × IsIndex bytes
fixed_of-ok bytes x is =
    let found = no_fault (fields_of bytes) x (fault_of bytes) (sym (fixed_of-fault bytes) ∙ is) in
    (found.1, is_index bytes found.0)

-- It has not too many pieces, each is as long as a piece may be, and none begins past the size.
pub record Fits (x : FixedIndex) : Type 0 where
  pub limit : length x.digests ≤ entry_limit
  pub least : 4096 ≤ x.chunk_size
  pub most : x.chunk_size ≤ 16_777_216
  pub reach : length x.digests * x.chunk_size < x.size + x.chunk_size

fits : (x : FixedIndex) → IsTrue (has_sizes x) → length x.digests ≤ entry_limit → Fits x
fits x sizes limit =
    let both = and_parts (is_chunk_size x.chunk_size) (length x.digests == piece_count x.size x.chunk_size) sizes in
    let bounds = chunk_size_bounds x.chunk_size both.0 in
    let count : length x.digests ≡ piece_count x.size x.chunk_size = eqb-true _ _ both.1 in
    let ends = count_bounds x.size x.chunk_size (omega (arith, bounds)) in
    record {
      limit = limit;
      least = bounds.0;
      most = bounds.1;
      reach = subst (λ n. n * x.chunk_size < x.size + x.chunk_size) (sym count) ends.1;
    }

pub fixed_of-fits : (bytes : List ℕ) (x : FixedIndex) → fixed_of bytes ≡ Ok x → Fits x
fixed_of-fits bytes x is =
    let found = fixed_of-ok bytes x is in
    let limit : length (fields_of bytes).digests ≤ entry_limit = omega (arith, count_is bytes, found.1.limit) in
    subst Fits (sym found.0) (fits (fields_of bytes) found.1.sizes limit)

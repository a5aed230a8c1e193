-- What a fixed index that decodes says is what its bytes spell.
use Rattle.std.proofs.Common.{◌≡◌, ℕ, ◌-◌, ◌/◌, ◌%◌, ◌≤◌, Bool, true, false, not, cond, List, length, take, Ok, Err, slice_range, refl}
use Rattle.std.specs.Prelude.{nat_lt, ◌==◌}
use Rattle.std.specs.Str.{bytes_eq}
use Rattle.std.proofs.lemmas.Bool.{ltb-false}
use Rattle.store_files.specs.declared.causes.IndexFault.TheVariants.{Short, Magic, Length, Count, Sizes, Csum}
use Rattle.store_files.specs.Cells.{header_len, entry_limit}
use Rattle.store_files.specs.FixedIndex.{FixedIndex, fixed_of, fields_of, magic, has_sizes, csum_of}

-- where none of the tests gives a fault
passes : (short magical whole many sized summed : Bool) (y x : FixedIndex) →
    cond short (Err Short) (cond (not magical) (Err Magic) (cond (not whole) (Err Length) (cond many (Err Count)
    (cond (not sized) (Err Sizes) (cond summed (Ok y) (Err Csum)))))) ≡ Ok x → (short ≡ false) × (x ≡ y)
passes true b w m s c y x h = cc
passes false false w m s c y x h = cc
passes false true false m s c y x h = cc
passes false true true true s c y x h = cc
passes false true true false false c y x h = cc
passes false true true false true true y x h = (refl, cc)
passes false true true false true false y x h = cc

pub fixed_fields : (bytes : List ℕ) (x : FixedIndex) → fixed_of bytes ≡ Ok x → (header_len ≤ length bytes) × (x ≡ fields_of bytes)
unfolding fixed_of
fixed_fields bytes x h =
    let w = passes (nat_lt (length bytes) header_len) (bytes_eq (take 8 bytes) magic) ((length bytes - header_len) % 32 == 0)
    (nat_lt entry_limit ((length bytes - header_len) / 32)) (has_sizes (fields_of bytes))
    (bytes_eq (slice_range bytes 32 64) (csum_of (fields_of bytes))) (fields_of bytes) x h in
    (ltb-false _ _ w.0, w.1)

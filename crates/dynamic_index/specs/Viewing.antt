-- A dynamic index as it is read.
use Rattle.std.specs.Prelude.{◌≡◌, ℕ, ◌-◌, ◌/◌, ◌%◌, ◌≤◌, Bool, not, List, length, take, ◌==◌, IsTrue, nat_lt, if◌then◌else◌, Option, Some, None, Result, Ok, Err, MatchResult, slice_range}
use Rattle.std.specs.Str.{bytes_eq}
use Rattle.store_files.specs.declared.causes.IndexFault.{IndexFault}
use Rattle.store_files.specs.declared.causes.IndexFault.TheVariants.{Short, Magic, Length, Count, Sizes, Csum}
use Rattle.store_files.specs.Cells.{header_len, entry_limit}
use Rattle.store_files.specs.DynamicIndex.{DynamicIndex, dynamic_of, fields_of, steps_fit, csum_of}
use Rattle.store_files.specs.DynamicIndex.{magic as magic_bytes}
use Rattle.dynamic_index.specs.declared.view.BadIndex.{BadIndex}

-- the first of these tests that tells a fault: too short, of this magic, whole entries, too many, of these steps, of this csum
abbrev pub first_fault : Bool → Bool → Bool → Bool → Bool → Bool → Option IndexFault
first_fault short magical whole many stepped summed =
    if short then Some Short else (if not magical then Some Magic
    else (if not whole then Some Length else (if many then Some Count
    else (if not stepped then Some Sizes else (if summed then None else Some Csum)))))

-- the first fault of bytes that are no index
unfoldable pub fault_of : List ℕ → Option IndexFault
fault_of bytes =
    first_fault (nat_lt (length bytes) header_len) (bytes_eq (take 8 bytes) magic_bytes) ((length bytes - header_len) % 40 == 0)
    (nat_lt entry_limit ((length bytes - header_len) / 40)) (steps_fit 0 (fields_of bytes).entries)
    (bytes_eq (slice_range bytes 32 64) (csum_of (fields_of bytes)))

-- an answer tells the index that the bytes are, or the first cause for which they are none
abbrev pub TellsIndex : List ℕ → Result DynamicIndex BadIndex → Type 0
TellsIndex bytes read = MatchResult read (λ x. dynamic_of bytes ≡ Ok x) (λ e. dynamic_of bytes ≡ Err e.cause)

-- bytes that are an index
pub record IsIndex (bytes : List ℕ) : Type 0 where
  pub long : header_len ≤ length bytes
  pub magic : take 8 bytes ≡ magic_bytes
  pub whole : (length bytes - header_len) % 40 ≡ 0
  pub limit : (length bytes - header_len) / 40 ≤ entry_limit
  pub steps : IsTrue (steps_fit 0 (fields_of bytes).entries)
  pub csum : slice_range bytes 32 64 ≡ csum_of (fields_of bytes)

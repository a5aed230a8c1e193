-- A fixed index as it is read.
use Rattle.std.specs.Prelude.{◌≡◌, ℕ, ◌+◌, ◌-◌, ◌*◌, ◌/◌, ◌%◌, ◌≤◌, Bool, not, List, length, take, ◌==◌, IsTrue, nat_lt, min, if◌then◌else◌, Option, Some, None, Result, Ok, Err, MatchResult, slice_range}
use Rattle.std.specs.Str.{bytes_eq}
use Rattle.store_files.specs.declared.causes.IndexFault.{IndexFault}
use Rattle.store_files.specs.declared.causes.IndexFault.TheVariants.{Short, Magic, Length, Count, Sizes, Csum}
use Rattle.store_files.specs.Cells.{header_len, entry_limit}
use Rattle.store_files.specs.FixedIndex.{FixedIndex, fixed_of, fields_of, has_sizes, csum_of}
use Rattle.store_files.specs.FixedIndex.{magic as magic_bytes}
use Rattle.fixed_index.specs.declared.view.BadIndex.{BadIndex}

-- where a piece begins
abbrev pub start_of : FixedIndex → ℕ → ℕ
start_of x i = i * x.chunk_size

-- where it ends
abbrev pub stop_of : FixedIndex → ℕ → ℕ
stop_of x i = min (start_of x i + x.chunk_size) x.size

-- the first of these tests that tells a fault: too short, of this magic, whole entries, too many, of these sizes, of this csum
abbrev pub first_fault : Bool → Bool → Bool → Bool → Bool → Bool → Option IndexFault
first_fault short magical whole many sized summed =
    if short then Some Short else (if not magical then Some Magic
    else (if not whole then Some Length else (if many then Some Count
    else (if not sized then Some Sizes else (if summed then None else Some Csum)))))

-- the first fault of bytes that are no index
unfoldable pub fault_of : List ℕ → Option IndexFault
fault_of bytes =
    first_fault (nat_lt (length bytes) header_len) (bytes_eq (take 8 bytes) magic_bytes) ((length bytes - header_len) % 32 == 0)
    (nat_lt entry_limit ((length bytes - header_len) / 32)) (has_sizes (fields_of bytes))
    (bytes_eq (slice_range bytes 32 64) (csum_of (fields_of bytes)))

-- an answer tells the index that the bytes are, or the first cause for which they are none
abbrev pub TellsIndex : List ℕ → Result FixedIndex BadIndex → Type 0
TellsIndex bytes read = MatchResult read (λ x. fixed_of bytes ≡ Ok x) (λ e. fixed_of bytes ≡ Err e.cause)

-- bytes that are an index
pub record IsIndex (bytes : List ℕ) : Type 0 where
  pub long : header_len ≤ length bytes
  pub magic : take 8 bytes ≡ magic_bytes
  pub whole : (length bytes - header_len) % 32 ≡ 0
  pub limit : (length bytes - header_len) / 32 ≤ entry_limit
  pub sizes : IsTrue (has_sizes (fields_of bytes))
  pub csum : slice_range bytes 32 64 ≡ csum_of (fields_of bytes)

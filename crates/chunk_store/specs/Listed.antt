-- The chunk names that files have, as digests.
use Rattle.std.specs.Prelude.{◌≡◌, ◌↔◌, ℕ, Bool, true, ◌&&◌, List, [], ◌∷◌, if◌then◌else◌, Option, Some, None, drop, map, IsSome, IsTrue, Result, Ok, Err, IfOk, String, Vec, string_bytes}
use Rattle.std.specs.List.{All, Contains, filter_map}
use Rattle.std.specs.Str.{bytes_eq}
use Rattle.std.specs.declared.alloc.Global.{Global}
use Rattle.std.specs.FinMap.{get, keys}
use Rattle.hex.specs.Hex.{decode_sized}
use Rattle.hex.specs.declared.error.FromHexError.{FromHexError}
use Rattle.disk_trait.specs.Files.{Files}
use Rattle.disk_trait.specs.declared.disk.Disk.{Ghosts}
use Rattle.store_types.specs.declared.names.Digest32.{Digest32}
use Rattle.store_types.specs.Names.{name_lt}
use Rattle.store_files.specs.Folder.{IsDigest, chunk_name}

-- each digest is above the one before it, in byte order
abbrev pub digests_rise : List Digest32 → Bool
digests_rise [] = true
digests_rise (d ∷ []) = true
digests_rise (d ∷ e ∷ ds) = name_lt d.0 e.0 && digests_rise (e ∷ ds)

-- These are the digests under whose names a file stands, whatever it holds, in byte order and each once.
pub record Lists (files : Files) (digests : List Digest32) : Type 0 where
  pub rising : IsTrue (digests_rise digests)
  pub each : All (λ d. IsDigest d.0) digests
  pub exactly : (d : Digest32) → IsDigest d.0 → Contains digests d ↔ IsSome (get files (chunk_name d.0))

abbrev pub by_digits : List ℕ → Result (List ℕ) FromHexError → Option Digest32
by_digits name (Ok d) = if bytes_eq name (chunk_name d) then Some (record { 0 = d }) else None
by_digits name (Err cause) = None

-- the digest whose chunk has this name
abbrev pub digest_named : List ℕ → Option Digest32
digest_named name = by_digits name (decode_sized (drop 13 name) 32)

-- the digests whose chunks have these names
abbrev pub digests_in : List (String Global) → List Digest32
digests_in names = filter_map (λ n. digest_named (string_bytes n)) names

-- where these are all names, the digests are those under whose names a file stands
abbrev pub ListsAmong : List (String Global) → List Digest32 → Type 0
ListsAmong names digests = (files : Files) → map string_bytes names ≡ keys files → Lists files digests

-- the answer is the digests of an honest disk's chunks
abbrev pub ListsChunks : {D E : Type 0} → Ghosts D → D → Result (Vec Digest32 Global) E → Type 0
ListsChunks d disk result = d.honest disk → IfOk result (λ digests. Lists (d.content disk) digests.items)

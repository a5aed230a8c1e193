-- Archives of both layouts, a base, a reader's chunks and ranges, and manifests that list another size or are none.
use Rattle.std.specs.Prelude.{◌≡◌, ℕ, List, [], ◌∷◌, ◌++◌, codes, refl, replicate, ◌==◌, if◌then◌else◌, Option, Some, None, Result, Ok, Err}
use Rattle.hex.specs.Hex.{encode_lower}
use Rattle.sha2.specs.Sha256.{sha256}
use Rattle.blob_codec.specs.Blob.{blob}
use Rattle.store_types.specs.declared.names.Digest32.{Digest32}
use Rattle.store_types.specs.declared.refusal.CloseFault.TheVariants.{Rest}
use Rattle.store_types.specs.declared.refusal.Refusal.{Refusal}
use Rattle.store_types.specs.declared.refusal.Refusal.TheVariants.{WrongSize, BadClose}
use Rattle.store_files.specs.Archive.{fixed}
use Rattle.store_model.specs.Archives.{pieces_named, want_facts}
use Rattle.wire_commands.proofs.Hexadecimal.{hex}
use Rattle.store_model.proofs.OnLiterals.{store_model_on_literals, digests_on_literals, uuids_on_literals, manifests_on_literals}
use Rattle.store_model.proofs.ExampleBytes.{k, later_k, entry, replies_in, alone, open_writer, finish, u64_of, new_dynamic, chunk, close_index, append_two, two_pieces_csum}

-- ---- a dynamic archive: pieces that are none, an offset too low, and a FINISH while it is open

archives : alone (open_writer ++ new_dynamic
    ++ close_index 1 0 (sha256 []) ++ close_index 0 0 (sha256 [])
    ++ hex (codes "0b000000 0d 09") ++ codes "data.didx"
    ++ chunk 48 (sha256 (codes "abc")) (codes "abc") ++ chunk 48 (sha256 (codes "abc")) (codes "abc")
    ++ chunk 48 (sha256 (codes "abc")) (codes "abd") ++ chunk 45 (sha256 []) [] ++ append_two 2
    ++ chunk 47 (sha256 (codes "de")) (codes "de") ++ append_two 2 ++ append_two 3 ++ finish
    ++ close_index 2 5 (sha256 []) ++ close_index 2 5 two_pieces_csum) 16
    ≡ (hex (codes "02000000 0000 02000000 0000")
    ++ hex (codes "22000000 10 01") ++ replicate 32 0 ++ hex (codes "01000000 00 02000000 0000 01000000 00 01000000 00")
    ++ hex (codes "21000000 0c") ++ sha256 (codes "abd") ++ hex (codes "0d000000 0d 00000000 0000000000000000 05000000 0e 01000000")
    ++ hex (codes "01000000 00 0d000000 0f 01000000 0300000000000000 01000000 00 02000000 11 01")
    ++ hex (codes "22000000 10 03") ++ two_pieces_csum ++ hex (codes "01000000 00")) ∷ []
unfolding store_model_on_literals digests_on_literals
archives = refl

-- ---- a fixed archive: a chunk size that is none, and a size that is not reached

abbrev new_fixed : List ℕ → List ℕ
new_fixed chunk_size = hex (codes "1b000000 0c 09") ++ codes "root.fidx" ++ hex (codes "0110000000000000") ++ hex chunk_size

fixed_begun : alone (open_writer ++ new_fixed (codes "8813000000000000") ++ new_fixed (codes "0010000000000000") ++ close_index 0 0 (sha256 [])) 4
    ≡ (hex (codes "02000000 0000 0d000000 0d 00000000 8813000000000000 02000000 0000 22000000 10 04 0110000000000000") ++ replicate 24 0) ∷ []
unfolding store_model_on_literals digests_on_literals
fixed_begun = refl

-- what stands for a piece is its length: 4,096 under the digest of one byte 0, else the byte
abbrev length_by : Digest32 → Option ℕ
length_by digest = elim digest.0 [ [] ↦ None | n ∷ ns ↦ Some (if n == 0 then 4096 else n) ]

abbrev two_from : ℕ → ℕ → Result (List ℕ) Refusal
two_from size second =
    pieces_named length_by (λ n. n) (fixed size 4096) 0 0 ((record { 0 = 0 ∷ [] }, 0) ∷ (record { 0 = second ∷ [] }, 4096) ∷ [])

-- the last piece has what is left of the size
last_is_shorter : two_from 4097 1 ≡ Ok (4096 ∷ 1 ∷ [])
unfolding store_model_on_literals
last_is_shorter = refl

last_is_too_long : two_from 4097 2 ≡ Err (WrongSize 1 2)
unfolding store_model_on_literals
last_is_too_long = refl

last_is_whole : two_from 8192 0 ≡ Ok (4096 ∷ 4096 ∷ [])
unfolding store_model_on_literals
last_is_whole = refl

abbrev no_digest : Digest32
no_digest = record { 0 = [] }

reached : want_facts (fixed 4097 4096) 2 4097 no_digest 2 4097 no_digest ≡ Ok tt
reached = refl

not_reached : want_facts (fixed 4097 4096) 1 4096 no_digest 1 4096 no_digest ≡ Err (BadClose (Rest 4097))
not_reached = refl

-- ---- a finished snapshot of two pieces, by what its manifest lists as their size

abbrev pub listing : List ℕ → List ℕ
listing size =
    codes "{\"backup-id\":\"a\",\"backup-time\":1579069803,\"backup-type\":\"host\",\"files\":[{\"csum\":\""
    ++ encode_lower two_pieces_csum ++ codes "\",\"filename\":\"root.didx\",\"size\":" ++ size ++ codes "}]}"

abbrev put_listing : List ℕ → List ℕ
put_listing manifest = codes "index.json.blob" ++ blob manifest

abbrev backup : List ℕ → List ℕ
backup size =
    open_writer ++ new_dynamic ++ chunk 48 (sha256 (codes "abc")) (codes "abc") ++ chunk 47 (sha256 (codes "de")) (codes "de")
    ++ append_two 3 ++ close_index 2 5 two_pieces_csum
    ++ hex (codes "d2000000 11 0f") ++ put_listing (listing size) ++ finish

abbrev uploaded : List ℕ
uploaded = hex (codes "02000000 0000 02000000 0000 01000000 00 01000000 00 01000000 00 01000000 00 01000000 00")

another_size : alone (backup (codes "6")) 8 ≡ (uploaded ++ hex (codes "0c000000 13 09") ++ codes "root.didx" ++ hex (codes "06")) ∷ []
unfolding store_model_on_literals digests_on_literals manifests_on_literals
another_size = refl

no_manifest : alone (open_writer ++ hex (codes "1f000000 11 0f") ++ put_listing (codes "[]") ++ finish) 3
    ≡ hex (codes "02000000 0000 01000000 00 02000000 12 02") ∷ []
unfolding store_model_on_literals manifests_on_literals
no_manifest = refl

-- ---- the next writer has the base's pieces from PREVIOUS on; a reader has an archive's from its DOWNLOAD on

abbrev append_first : List ℕ
append_first = hex (codes "2c000000 0f 00 0100") ++ sha256 (codes "abc") ++ u64_of 0

-- the index file's size as the offset: nothing is left
abbrev all_of : List ℕ → List ℕ
all_of code = hex (codes "13000000") ++ hex code ++ hex (codes "09") ++ codes "root.didx" ++ hex (codes "5010000000000000")

abbrev empty_part : List ℕ
empty_part = hex (codes "09000000 00 5010000000000000")

abbrev get_chunk : List ℕ
get_chunk = hex (codes "21000000 16") ++ sha256 (codes "abc")

-- two bytes from an offset
abbrev range : ℕ → List ℕ
range offset = hex (codes "17000000 17 09") ++ codes "root.didx" ++ u64_of offset ++ hex (codes "02000000")

pieces_again : replies_in (replicate 8 (entry 0 0) ++ replicate 5 (entry 1 0) ++ replicate 7 (entry 0 0) ++ entry 0 6 ∷ entry 1 6 ∷ [])
    (
    (backup (codes "5") ++ hex (codes "1d000000 14 1b") ++ k ++ get_chunk ++ range 2 ++ all_of (codes "15") ++ get_chunk ++ range 2 ++ range 4)
    ∷ (hex (codes "1d000000 0a 1b") ++ later_k ++ new_dynamic ++ append_first ++ all_of (codes "0b") ++ append_first) ∷ []
    )
    ≡ (
    uploaded ++ hex (codes "01000000 00 01000000 00 01000000 14 01000000 14") ++ empty_part
    ++ hex (codes "10000000 00") ++ blob (codes "abc") ++ hex (codes "03000000 00 6364 09000000 16 0500000000000000")
    )
    ∷ (hex (codes "1d000000 00 1b") ++ k ++ hex (codes "02000000 0000 05000000 0e 00000000") ++ empty_part ++ hex (codes "01000000 00")) ∷ []
unfolding store_model_on_literals digests_on_literals uuids_on_literals manifests_on_literals
pieces_again = refl

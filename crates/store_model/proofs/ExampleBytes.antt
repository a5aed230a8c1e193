-- Sessions as bytes, for examples: commands on one lane or two, and what each is replied.
use Rattle.std.specs.Prelude.{ℕ, List, [], ◌∷◌, ◌++◌, codes, replicate, None, Ok, Err}
use Rattle.sha2.specs.Sha256.{sha256}
use Rattle.store_types.specs.declared.order.Entry.{Entry}
use Rattle.blob_codec.specs.Blob.{blob}
use Rattle.store_model.specs.Weave.{told_by_input, woven}
use Rattle.wire_commands.proofs.Hexadecimal.{hex}

abbrev pub k : List ℕ
k = codes "host/a/2020-01-15T06:30:03Z"

abbrev pub later_k : List ℕ
later_k = codes "host/a/2020-01-15T06:30:04Z"

abbrev pub manifest : List ℕ
manifest = codes "{\"backup-id\":\"a\",\"backup-time\":1579069803,\"backup-type\":\"host\",\"files\":[]}"

abbrev pub entry : ℕ → ℕ → Entry
entry lane kind = record { lane = lane; moment = 5; kind = kind }

-- so many commands of lane 0, and its end
abbrev pub commands : ℕ → List Entry
commands n = replicate n (entry 0 0) ++ entry 0 6 ∷ []

-- the replies, where an input's ending is as the input tells it
abbrev pub replies_in : List Entry → List (List ℕ) → List (List ℕ)
replies_in order inputs = elim (woven told_by_input [] None order inputs) [ Ok w ↦ w.replies | Err e ↦ [] ]

abbrev pub alone : List ℕ → ℕ → List (List ℕ)
alone input n = replies_in (commands n) (input ∷ [])

abbrev pub open_writer : List ℕ
open_writer = hex (codes "1d000000 0a 1b") ++ k

abbrev pub put_manifest : List ℕ
put_manifest = hex (codes "67000000 11 0f") ++ codes "index.json.blob" ++ blob manifest

abbrev pub finish : List ℕ
finish = hex (codes "01000000 12")

abbrev pub put : List ℕ
put = open_writer ++ put_manifest ++ finish

abbrev pub put_replies : List ℕ
put_replies = hex (codes "02000000 0000 01000000 00 01000000 00")

abbrev pub u8_of : ℕ → List ℕ
u8_of n = n ∷ []

abbrev pub u64_of : ℕ → List ℕ
u64_of n = n ∷ replicate 7 0

abbrev pub new_dynamic : List ℕ
new_dynamic = hex (codes "0b000000 0d 09") ++ codes "root.didx"

abbrev pub chunk : ℕ → List ℕ → List ℕ → List ℕ
chunk size digest piece = u8_of size ++ hex (codes "000000 0e") ++ digest ++ blob piece

abbrev pub close_index : ℕ → ℕ → List ℕ → List ℕ
close_index count size csum = hex (codes "32000000 10 00") ++ u64_of count ++ u64_of size ++ csum

abbrev pub append_two : ℕ → List ℕ
append_two offset = hex (codes "54000000 0f 00 0200") ++ sha256 (codes "abc") ++ u64_of 0 ++ sha256 (codes "de") ++ u64_of offset

abbrev pub two_pieces_csum : List ℕ
two_pieces_csum = sha256 (u64_of 3 ++ sha256 (codes "abc") ++ u64_of 5 ++ sha256 (codes "de"))

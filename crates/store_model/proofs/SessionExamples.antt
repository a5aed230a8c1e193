-- Sessions from their bytes: what each is replied, and what a lane leaves.
use Rattle.std.specs.Prelude.{◌≡◌, ℕ, List, [], ◌∷◌, ◌++◌, codes, refl, length, None, Ok}
use Rattle.hex.specs.Hex.{encode_lower}
use Rattle.sha2.specs.Sha256.{sha256}
use Rattle.blob_codec.specs.Blob.{blob}
use Rattle.store_model.specs.declared.ending.Ending.TheVariants as endings
use Rattle.store_model.specs.Store.{store_of}
use Rattle.store_model.specs.Weave.{weave}
use Rattle.wire_commands.proofs.Hexadecimal.{hex}
use Rattle.store_model.proofs.OnLiterals.{store_model_on_literals, digests_on_literals, manifests_on_literals}
use Rattle.store_model.proofs.ExampleBytes.{k, later_k, manifest, entry, commands, replies_in, alone, open_writer, put_manifest, finish, put, put_replies}

manifest_length : length manifest ≡ 74
manifest_length = refl

-- ---- ends

empty_input : weave [] None (commands 0) ([] ∷ []) (endings.Clean ∷ []) ≡ Ok (record { store = store_of []; replies = [] ∷ [] })
unfolding store_model_on_literals
empty_input = refl

bye : alone (hex (codes "01000000 3f")) 0 ≡ hex (codes "01000000 00") ∷ []
unfolding store_model_on_literals
bye = refl

no_such_command : alone (hex (codes "01000000 63")) 0 ≡ hex (codes "09000000 01 0000000000000000") ∷ []
unfolding store_model_on_literals
no_such_command = refl

empty_body : alone (hex (codes "00000000")) 0 ≡ hex (codes "09000000 01 0000000000000000") ∷ []
unfolding store_model_on_literals
empty_body = refl

cut_frame : alone (hex (codes "05000000 0a")) 0 ≡ hex (codes "09000000 01 0000000000000000") ∷ []
unfolding store_model_on_literals
cut_frame = refl

too_long : alone (hex (codes "01040001")) 0 ≡ hex (codes "05000000 02 01040001") ∷ []
unfolding store_model_on_literals
too_long = refl

finish_alone : alone (hex (codes "01000000 12")) 1 ≡ hex (codes "02000000 03 00") ∷ []
unfolding store_model_on_literals
finish_alone = refl

-- ---- a snapshot of a manifest alone, and its manifest read again

finished : alone put 3 ≡ put_replies ∷ []
unfolding store_model_on_literals manifests_on_literals
finished = refl

read_again : alone (put ++ hex (codes "1d000000 14 1b") ++ k ++ hex (codes "19000000 15 0f") ++ codes "index.json.blob" ++ hex (codes "0000000000000000")) 5
    ≡ (put_replies ++ hex (codes "01000000 00 5f000000 00 5600000000000000") ++ blob manifest) ∷ []
unfolding store_model_on_literals manifests_on_literals
read_again = refl

-- ---- a blob, and parts of it

abbrev conf : List ℕ
conf = hex (codes "42ab3807be8370a1 2639f4cb 313233343536373839")

conf_is : conf ≡ blob (codes "123456789")
unfolding store_model_on_literals
conf_is = refl

abbrev conf_manifest : List ℕ
conf_manifest =
    codes "{\"backup-id\":\"a\",\"backup-time\":1579069803,\"backup-type\":\"host\",\"files\":[{\"crypt-mode\":\"none\",\"csum\":\""
    ++ encode_lower (sha256 conf) ++ codes "\",\"filename\":\"a.conf.blob\",\"size\":21}]}"

abbrev put_conf : List ℕ → List ℕ
put_conf bytes = hex (codes "22000000 11 0b") ++ codes "a.conf.blob" ++ bytes

abbrev download : List ℕ → List ℕ
download offset = hex (codes "15000000 15 0b") ++ codes "a.conf.blob" ++ hex offset

conf_manifest_length : length conf_manifest ≡ 204
unfolding store_model_on_literals digests_on_literals
conf_manifest_length = refl

parts : alone (open_writer ++ put_conf conf ++ hex (codes "e9000000 11 0f") ++ codes "index.json.blob" ++ blob conf_manifest ++ finish
    ++ hex (codes "1d000000 14 1b") ++ k
    ++ download (codes "0000000000000000") ++ download (codes "1500000000000000") ++ download (codes "1600000000000000") ++ hex (codes "01000000 3f")) 8
    ≡ (hex (codes "02000000 0000 01000000 00 01000000 00 01000000 00 01000000 00")
    ++ hex (codes "1e000000 00 1500000000000000") ++ conf
    ++ hex (codes "09000000 00 1500000000000000")
    ++ hex (codes "09000000 16 1500000000000000")
    ++ hex (codes "01000000 00")) ∷ []
unfolding store_model_on_literals digests_on_literals manifests_on_literals
parts = refl

-- ---- blobs that are none: eleven bytes, a wrong CRC, and a compressed one. The session goes on.

bad_blobs : alone (open_writer
    ++ hex (codes "18000000 11 0b") ++ codes "a.conf.blob" ++ hex (codes "42ab3807be8370a1 000000")
    ++ put_conf (hex (codes "42ab3807be8370a1 2739f4cb 313233343536373839"))
    ++ put_conf (hex (codes "31b958426fb6a37f 2639f4cb 313233343536373839"))
    ++ hex (codes "19000000 11 0b") ++ codes "a.conf.blob" ++ hex (codes "42ab3807be8370a1 00000000")
    ++ put_conf conf) 6
    ≡ hex (codes "02000000 0000 02000000 0b 01 0a000000 0b 07 2739f4cb 2639f4cb 02000000 0b 02 01000000 00 01000000 0a") ∷ []
unfolding store_model_on_literals
bad_blobs = refl

-- ---- two lanes: the group is another writer's; then a time that is not newer, and the base

next_writer : replies_in (entry 0 0 ∷ entry 1 0 ∷ entry 0 0 ∷ entry 0 0 ∷ entry 1 0 ∷ entry 1 0 ∷ entry 0 6 ∷ entry 1 6 ∷ [])
    (put ∷ (open_writer ++ open_writer ++ hex (codes "1d000000 0a 1b") ++ later_k) ∷ [])
    ≡ put_replies ∷ (hex (codes "05000000 05 00000000") ++ hex (codes "09000000 07 6bb11e5e00000000") ++ hex (codes "1d000000 00 1b") ++ k) ∷ []
unfolding store_model_on_literals manifests_on_literals
next_writer = refl

-- a writer without FINISH leaves nothing: the group is free
unfinished : replies_in (entry 0 0 ∷ entry 0 0 ∷ entry 0 6 ∷ entry 1 0 ∷ entry 1 6 ∷ []) ((open_writer ++ put_manifest) ∷ open_writer ∷ [])
    ≡ hex (codes "02000000 0000 01000000 00") ∷ hex (codes "02000000 0000") ∷ []
unfolding store_model_on_literals
unfinished = refl

-- ---- ABORT frees the group and leaves nothing, CLOSE_READER ends a reader, and each is refused in another session

abbrev abort : List ℕ
abort = hex (codes "01000000 13")

abbrev close_reader : List ℕ
close_reader = hex (codes "01000000 18")

closed : alone (abort ++ open_writer ++ put_manifest ++ close_reader ++ abort ++ put
    ++ hex (codes "1d000000 14 1b") ++ k ++ abort ++ close_reader ++ close_reader) 12
    ≡ (hex (codes "02000000 03 00 02000000 0000 01000000 00 02000000 03 01 01000000 00") ++ put_replies
    ++ hex (codes "01000000 00 02000000 03 02 01000000 00 02000000 03 00")) ∷ []
unfolding store_model_on_literals manifests_on_literals
closed = refl

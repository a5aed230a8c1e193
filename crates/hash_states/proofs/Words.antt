-- Words of the blocks of a message.
use Rattle.std.proofs.Common.{◌≡◌, ℕ, ◌+◌, ◌*◌, List, take, drop, get_or, arith, add_assoc}
use Rattle.std.proofs.lemmas.List.{get_or-drop, get_or-take}
use Rattle.sha2.specs.Sha256.{compress, hash_after, word_at}
use Rattle.sha2.proofs.Absorbing256.{hash_after_next}
use Rattle.hash_states.specs.Lanes.{AreWords}

-- a word behind a place
word_at-drop : (bytes : List ℕ) (at i : ℕ) → word_at (drop at bytes) i ≡ word_at bytes (at + i)
word_at-drop bytes at i = simp (get_or-drop, add_assoc)

-- a word that was read at its place in all bytes
pub word_behind : (bytes : List ℕ) (at i place word : ℕ) → word ≡ word_at bytes place → at + i ≡ place
    → word ≡ word_at (drop at bytes) i
word_behind bytes at i place word read is = rw (word_at-drop bytes at i, is) read

-- a block's words are those of its 64 bytes
AreWords-take : (words bytes : List ℕ) → AreWords words bytes → AreWords words (take 64 bytes)
AreWords-take words bytes are k below =
    let e0 : get_or (take 64 bytes) (4 * k) 0 ≡ get_or bytes (4 * k) 0 =
    get_or-take 64 bytes (4 * k) 0 (omega arith) in
    let e1 : get_or (take 64 bytes) (4 * k + 1) 0 ≡ get_or bytes (4 * k + 1) 0 =
    get_or-take 64 bytes (4 * k + 1) 0 (omega arith) in
    let e2 : get_or (take 64 bytes) (4 * k + 2) 0 ≡ get_or bytes (4 * k + 2) 0 =
    get_or-take 64 bytes (4 * k + 2) 0 (omega arith) in
    let e3 : get_or (take 64 bytes) (4 * k + 3) 0 ≡ get_or bytes (4 * k + 3) 0 =
    get_or-take 64 bytes (4 * k + 3) 0 (omega arith) in
    rw (e0, e1, e2, e3) (are k below)

-- one block more, by its words
pub next_block : (first bytes value words next : List ℕ) (n place : ℕ)
    → value ≡ hash_after first bytes n → AreWords words (drop place bytes) → place ≡ n * 64
    → ((block : List ℕ) → AreWords words block → next ≡ compress value block)
    → next ≡ hash_after first bytes (n + 1)
next_block first bytes value words next n place before are is compressed =
    let block : List ℕ = take 64 (drop (n * 64) bytes) in
    let words_are : AreWords words block = AreWords-take words (drop (n * 64) bytes) (rw is at are) in
    rw (hash_after_next first bytes n, ← before) (compressed block words_are)

-- The chunks that wait, and their first fault.
use Rattle.std.proofs.Common.{◌≡◌, ℕ, suc, ◌+◌, ◌<◌, ◌≤◌, Bool, true, false, cond, List, [], ◌∷◌, ◌++◌, length, get_or, drop, Option, None, Some, Result, Ok, Err, refl, sym, ap, subst, ◌∙◌, arith, length-drop}
use Rattle.std.specs.Prelude.{◌&&◌, ◌==◌, All, is_none, is_ok, is_some, nat_le, nat_lt, slice_index_or}
use Rattle.std.specs.Option.{option_or}
use Rattle.std.specs.Str.{bytes_eq}
use Rattle.std.proofs.lemmas.Bool.{true≢false, eq-eqb, eqb-true, ltb-true, leb-true, lt-ltb, le-leb}
use Rattle.std.proofs.lemmas.List.{drop-drop, drop_all, drop_more}
use Rattle.sha2.specs.Sha256.{sha256}
use Rattle.store_types.specs.declared.refusal.BadBlob.{BadBlob}
use Rattle.store_types.specs.declared.refusal.ChunkFault.{ChunkFault}
use Rattle.blob_codec.specs.Blob.{data_of}
use Rattle.blob_codec.proofs.Reading.{HasParts-from_data_of}
use Rattle.chunk_store.specs.Pieces.{TestsPiece, by_data, checked}
use Rattle.wire_commands.specs.declared.rows.FileFault.{FileFault}
use Rattle.wire_commands.specs.declared.rows.FileFault.TheVariants as faults
use Rattle.store_types.specs.declared.piece.Piece.{Piece}
use Rattle.store_model.specs.VerifyJob.{chunk_fault, digest, is_piece, is_piece_of}
use Rattle.job_steps.specs.declared.chunks.Chunks.{Chunks}
use Rattle.job_steps.specs.declared.part.Waiting.{Waiting}
use Rattle.job_steps.specs.declared.tested.TestOf.{TestOf}
use Rattle.job_steps.specs.declared.tested.Tested.{Tested}
use Rattle.std.specs.declared.thread.PromisedHandle.{PromisedHandle}
use Rattle.job_steps.specs.Parts.{parts_fault}
use Rattle.job_steps.specs.Visits.{HasNext, IsSettled, ReadsOne, StaysAt, fault_in, is_as_long, next_piece, pieces_left, place_in}
use Rattle.job_steps.specs.Waits.{IsTested, fault_with}

-- ---- the test of a chunk

same_test : (a b : Bool) → (a ≡ true → b ≡ true) → (b ≡ true → a ≡ true) → a ≡ b
same_test true true f g = refl
same_test true false f g = sym (f refl)
same_test false true f g = g refl
same_test false false f g = refl

not_empty : (n : ℕ) → nat_le 1 n ≡ nat_lt 0 n
not_empty n =
    same_test (nat_le 1 n) (nat_lt 0 n)
    (λ h. let above : 1 ≤ n = leb-true 1 n h in lt-ltb 0 n (omega arith))
    (λ h. let above : 0 < n = ltb-true 0 n h in le-leb 1 n (omega arith))

-- the data of a blob are all but its first 12 bytes
piece_length : (bytes piece : List ℕ) → data_of bytes ≡ Ok piece → length bytes ≡ length piece + 12
piece_length bytes piece e =
    let parts = HasParts-from_data_of bytes piece e in
    omega (arith, parts.long, length-drop 8 bytes, length-drop 4 (drop 8 bytes), ap length parts.rest)

as_long : (n k : ℕ) (bytes : List ℕ) → length bytes ≡ n + 12 → length bytes ≡ k + 12 → (n == k) ≡ true
as_long n k bytes has wants = eq-eqb n k (omega (arith, has, wants))

module _ (p : Piece) (bytes : List ℕ) where
  fault_of_none : (cause : BadBlob) → data_of bytes ≡ Err cause → chunk_fault p bytes ≡ Some (faults.Damaged p.digest)
  fault_of_none cause e = rw (chunk_fault, e) refl

  fault_of_piece : (piece : List ℕ) (t : Bool) → data_of bytes ≡ Ok piece → is_piece p piece ≡ t → chunk_fault p bytes ≡ cond t None (Some (faults.Damaged p.digest))
  fault_of_piece piece t e h = rw (chunk_fault, e, h) refl

  -- of another length than the index says
  pub fault_of_other : is_as_long p bytes ≡ false → chunk_fault p bytes ≡ Some (faults.Damaged p.digest)
  fault_of_other other = by_data_of (data_of bytes) refl
    where
      by_data_of : (held : Result (List ℕ) BadBlob) → data_of bytes ≡ held → chunk_fault p bytes ≡ Some (faults.Damaged p.digest)
      by_data_of (Err cause) e = fault_of_none cause e
      by_data_of (Ok piece) e = fault_of_piece piece false e (by_length (length piece == p.length) refl)
        where
          by_length : (b : Bool) → (length piece == p.length) ≡ b → (b && is_piece_of p.digest piece) ≡ false
          by_length true same =
              let one : length piece ≡ p.length = eqb-true (length piece) p.length same in
              let long : is_as_long p bytes ≡ true = eq-eqb (length bytes) (p.length + 12) (piece_length bytes piece e ∙ ap (λ n. n + 12) one) in
              absurd (true≢false (sym long ∙ other))
          by_length false same = refl

  checked_is : (piece : List ℕ) (t : Bool) → is_piece_of p.digest piece ≡ t → is_ok (checked (p.digest).0 piece) ≡ t
  checked_is piece t h =
      let same : (nat_le 1 (length piece) && bytes_eq (sha256 piece) (p.digest).0) ≡ t = ap (λ b. b && bytes_eq (sha256 piece) (p.digest).0) (not_empty (length piece)) ∙ h in
      by_test t same
    where
      by_test : (t : Bool) → (nat_le 1 (length piece) && bytes_eq (sha256 piece) (p.digest).0) ≡ t → is_ok (checked (p.digest).0 piece) ≡ t
      by_test true same = rw (same, checked) refl
      by_test false same = rw (same, checked) refl

  none_of : (t : Bool) → is_none (cond t None (Some (faults.Damaged p.digest))) ≡ t
  none_of true = refl
  none_of false = refl

  module _ (sized : length bytes ≡ p.length + 12) where
    -- as long as the index says, it is the piece by its digest
    piece_is : (piece : List ℕ) → data_of bytes ≡ Ok piece → is_piece p piece ≡ is_piece_of p.digest piece
    piece_is piece e = ap (λ b. b && is_piece_of p.digest piece) (as_long (length piece) p.length bytes (piece_length bytes piece e) sized)

    found_is : (held : Result (List ℕ) BadBlob) → data_of bytes ≡ held → is_ok (by_data (p.digest).0 held) ≡ is_none (chunk_fault p bytes)
    found_is (Err cause) e = sym (ap is_none (fault_of_none cause e))
    found_is (Ok piece) e =
        let t = is_piece_of p.digest piece in
        checked_is piece t refl ∙ sym (ap is_none (fault_of_piece piece t e (piece_is piece e)) ∙ none_of t)

    -- what the test says is whether the model has a fault
    pub tested_is : {A : Type 0} (result : Result A ChunkFault) → TestsPiece (p.digest).0 bytes result → is_ok result ≡ is_none (chunk_fault p bytes)
    tested_is (Ok x) h = sym h ∙ found_is (data_of bytes) refl
    tested_is (Err fault) h = sym (ap is_ok h) ∙ found_is (data_of bytes) refl

  -- a chunk has no fault, or that it is damaged
  pub fault_cases : (t : Bool) → is_none (chunk_fault p bytes) ≡ t → chunk_fault p bytes ≡ cond t None (Some (faults.Damaged p.digest))
  fault_cases t h = by_data_of (data_of bytes) refl
    where
      by_data_of : (held : Result (List ℕ) BadBlob) → data_of bytes ≡ held → chunk_fault p bytes ≡ cond t None (Some (faults.Damaged p.digest))
      by_data_of (Err cause) e =
          let is = fault_of_none cause e in
          let no : false ≡ t = sym (ap is_none is) ∙ h in
          is ∙ ap (λ b. cond b None (Some (faults.Damaged p.digest))) no
      by_data_of (Ok piece) e =
          let s = is_piece p piece in
          let is = fault_of_piece piece s e refl in
          let same : s ≡ t = sym (none_of s) ∙ sym (ap is_none is) ∙ h in
          is ∙ ap (λ b. cond b None (Some (faults.Damaged p.digest))) same

-- ---- the first of some faults

pub or_none : (fault : Option FileFault) → option_or fault None ≡ fault
or_none None = refl
or_none (Some f) = refl

pub or_assoc : (a b c : Option FileFault) → option_or (option_or a b) c ≡ option_or a (option_or b c)
or_assoc None b c = refl
or_assoc (Some f) b c = refl

-- a fault so far comes first
pub fault_first : (fault : Option FileFault) (ws : List Waiting) → option_or fault (fault_with None ws) ≡ fault_with fault ws
fault_first fault [] = or_none fault
fault_first fault (w ∷ ws) =
    let one = chunk_fault w.piece w.blob in
    ap (option_or fault) (sym (fault_first one ws)) ∙ sym (or_assoc fault one (fault_with None ws)) ∙ fault_first (option_or fault one) ws

pub fault_some : (f : FileFault) (ws : List Waiting) → fault_with (Some f) ws ≡ Some f
fault_some f ws = sym (fault_first (Some f) ws)

-- one more waits
pub fault_push : (fault : Option FileFault) (ws : List Waiting) (w : Waiting) → fault_with fault (ws ++ w ∷ []) ≡ option_or (fault_with fault ws) (chunk_fault w.piece w.blob)
fault_push fault [] w = refl
fault_push fault (x ∷ ws) w = fault_push (option_or fault (chunk_fault x.piece x.blob)) ws w

-- ---- the parts at threads

-- the fault of the part that a thread tests
abbrev pub fault_at : PromisedHandle Tested TestOf → Option FileFault
fault_at p = fault_with None p.promise.0.value.chunks.items

-- one more was handed over
pub parts_push : (ps : List (PromisedHandle Tested TestOf)) (p : PromisedHandle Tested TestOf) → parts_fault (ps ++ p ∷ []) ≡ option_or (parts_fault ps) (fault_at p)
parts_push [] p = or_none (fault_at p)
parts_push (q ∷ ps) p = ap (option_or (fault_at q)) (parts_push ps p) ∙ sym (or_assoc (fault_at q) (parts_fault ps) (fault_at p))

-- the last of them is joined
pub parts_pop : (all rest : List (PromisedHandle Tested TestOf)) (p : PromisedHandle Tested TestOf) (fault : Option FileFault) → all ≡ rest ++ p ∷ []
    → option_or (parts_fault rest) (option_or (fault_at p) fault) ≡ option_or (parts_fault all) fault
parts_pop all rest p fault is =
    sym
    (ap (λ ps. option_or (parts_fault ps) fault) is ∙ ap (λ f. option_or f fault) (parts_push rest p)
    ∙ or_assoc (parts_fault rest) (fault_at p) fault)

-- the fault so far, those at threads, and those that wait, in this order
pub fault_in_order : (fault : Option FileFault) (c : Chunks) → fault_in fault c ≡ option_or fault (option_or (parts_fault c.handed.parts.items) (fault_with None c.waiting.chunks.items))
fault_in_order fault c =
    let parts = parts_fault c.handed.parts.items in
    sym (fault_first (option_or fault parts) c.waiting.chunks.items) ∙ or_assoc fault parts (fault_with None c.waiting.chunks.items)

-- what waits was handed over, and none waits behind it
pub fault_handed : (fault found : Option FileFault) (old : Chunks) (parts : List (PromisedHandle Tested TestOf)) (ws : List Waiting) → ws ≡ []
    → option_or found (parts_fault parts) ≡ option_or (parts_fault old.handed.parts.items) (fault_with None old.waiting.chunks.items)
    → fault_with (option_or (option_or fault found) (parts_fault parts)) ws ≡ fault_in fault old
fault_handed fault found old parts ws none told =
    ap (fault_with (option_or (option_or fault found) (parts_fault parts))) none ∙ or_assoc fault found (parts_fault parts) ∙ ap (option_or fault) told
    ∙ sym (fault_in_order fault old)

-- where none is at a thread and none waits
pub fault_settled : (fault : Option FileFault) (c : Chunks) → IsSettled c → fault_in fault c ≡ fault
fault_settled fault c settled =
    ap (λ ws. fault_with (option_or fault (parts_fault c.handed.parts.items)) ws) settled.1
    ∙ ap (λ ps. option_or fault (parts_fault ps)) settled.0 ∙ or_none fault

-- ---- a batch that is tested

-- the same chunk, tested or not
pub record IsSameChunk (x y : Waiting) : Type 0 where
  pub piece : y.piece ≡ x.piece
  pub blob : y.blob ≡ x.blob

pub same_faults : (xs ys : List Waiting) → length ys ≡ length xs → ((i : ℕ) (d : Waiting) → i < length xs → IsSameChunk (slice_index_or xs i d) (slice_index_or ys i d))
    → (fault : Option FileFault) → fault_with fault ys ≡ fault_with fault xs
same_faults [] [] len each fault = refl
same_faults [] (y ∷ ys) len each fault = absurd (omega (arith, len))
same_faults (x ∷ xs) [] len each fault = absurd (omega (arith, len))
same_faults (x ∷ xs) (y ∷ ys) len each fault =
    let first : IsSameChunk x y = each 0 x (omega arith) in
    let one : chunk_fault y.piece y.blob ≡ chunk_fault x.piece x.blob = ap (λ p. chunk_fault p y.blob) first.piece ∙ ap (chunk_fault x.piece) first.blob in
    ap (λ f. fault_with (option_or fault f) ys) one
    ∙ same_faults xs ys (omega (arith, len)) (λ i d lt. each (suc i) d (omega (arith, lt))) (option_or fault (chunk_fault x.piece x.blob))

-- ---- the next of the entries

head_is : {A : Type 0} (xs : List A) (d : A) → 0 < length xs → xs ≡ slice_index_or xs 0 d ∷ drop 1 xs
head_is [] d h = absurd (omega (arith, h))
head_is (x ∷ xs) d h = refl

module _ (c : Chunks) where
  pub left_is : HasNext c → pieces_left c ≡ next_piece c ∷ drop 1 (pieces_left c)
  left_is next = head_is (pieces_left c) (record { digest = digest []; length = 0 }) (omega (arith, length-drop (place_in c) c.entries.items, next))

  pub none_left : length (c.entries.items) ≤ place_in c → pieces_left c ≡ []
  none_left h = drop_all (place_in c) c.entries.items h

  -- the entry that is read next
  pub next_is : HasNext c → (e : Piece) → e ≡ get_or c.entries.items (place_in c) e → e ≡ next_piece c
  next_is next e is =
      let none : Piece = record { digest = digest []; length = 0 } in
      sym (ap (λ xs. slice_index_or xs 0 none) (drop_more c.entries.items (place_in c) e next) ∙ sym is)

-- ---- what a call leaves

-- those that are left behind one that was read
pub left_more : (old new : Chunks) → ReadsOne old new → pieces_left new ≡ drop 1 (pieces_left old)
left_more old new reads =
    ap (λ (xs : List Piece). drop (place_in new) xs) reads.entries ∙ ap (λ n. drop n old.entries.items) reads.place
    ∙ sym (drop-drop 1 (place_in old) old.entries.items)

module _ (old new : Chunks) (stays : StaysAt old new) where
  pub left_stays : pieces_left new ≡ pieces_left old
  left_stays = ap (λ (xs : List Piece). drop (place_in new) xs) stays.entries ∙ ap (λ n. drop n old.entries.items) stays.place

  pub next_stays : HasNext old → HasNext new
  next_stays next = omega (arith, next, stays.place, ap length stays.entries)

-- a file with a fault keeps it
pub put_known : (fault : Option FileFault) (c : Chunks) (found : Option FileFault) → is_some fault ≡ true → fault_in fault c ≡ option_or (fault_in fault c) found
put_known None c found h = cc
put_known (Some f) c found h = let is = fault_some f c.waiting.chunks.items in is ∙ sym (ap (λ x. option_or x found) is)

-- ---- the chunks that wait, one by one

module _ (ws : List Waiting) (i : ℕ) (w : Waiting) (lt : i < length ws) (is : w ≡ get_or ws i w) where
  at_place : drop i ws ≡ w ∷ drop (i + 1) ws
  at_place = drop_more ws i w lt ∙ ap (λ x. x ∷ drop (i + 1) ws) (sym is)

  pub whole_there : is_none (chunk_fault w.piece w.blob) ≡ true → fault_with None (drop i ws) ≡ fault_with None (drop (i + 1) ws)
  whole_there h = ap (fault_with None) at_place ∙ ap (λ f. fault_with f (drop (i + 1) ws)) (fault_cases w.piece w.blob true h)

  pub damaged_there : is_none (chunk_fault w.piece w.blob) ≡ false → fault_with None (drop i ws) ≡ Some (faults.Damaged w.piece.digest)
  damaged_there h =
      ap (fault_with None) at_place ∙ ap (λ f. fault_with f (drop (i + 1) ws)) (fault_cases w.piece w.blob false h)
      ∙ fault_some (faults.Damaged w.piece.digest) (drop (i + 1) ws)

  tested_there : All IsTested ws → IsTested w
  tested_there tested = subst IsTested (sym is) (tested i w lt)

  pub whole_at : All IsTested ws → w.is_whole ≡ true → fault_with None (drop i ws) ≡ fault_with None (drop (i + 1) ws)
  whole_at tested h = whole_there (sym (tested_there tested) ∙ h)

  pub damaged_at : All IsTested ws → w.is_whole ≡ false → fault_with None (drop i ws) ≡ Some (faults.Damaged w.piece.digest)
  damaged_at tested h = damaged_there (sym (tested_there tested) ∙ h)

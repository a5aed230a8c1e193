-- The fields of refusals that are enums, and numbers in a small range.
use Rattle.std.proofs.Common.{◌≡◌, ℕ, zero, suc, ◌^◌, ◌<◌, ◌≤◌, Bool, true, false, cond, ◌&&◌, eqb, leb, List, [], ◌∷◌, ◌++◌, length, Option, Some, None, refl, sym, ap, subst, ◌∙◌, arith, inl, inr}
use Rattle.std.specs.Prelude.{⊤}
use Rattle.std.specs.Int.{w32, w64}
use Rattle.std.specs.List.{list_all}
use Rattle.std.proofs.lemmas.Bool.{leb-true, le-leb, false≢true}
use Rattle.std.proofs.lemmas.List.{length-replicate}
use Rattle.std.proofs.lemmas.Bool.Decides.{eqb_tells}
use Rattle.store_types.specs.declared.refusal.SessionState.{SessionState}
use Rattle.store_types.specs.declared.refusal.SessionState.TheVariants.{Idle, Writer, Reader}
use Rattle.store_types.specs.declared.refusal.BadBlob.{BadBlob as BlobCause}
use Rattle.store_types.specs.declared.refusal.BadBlob.TheVariants as blobs
use Rattle.store_types.specs.declared.refusal.CloseFault.{CloseFault}
use Rattle.store_types.specs.declared.refusal.CloseFault.TheVariants.{Count, Size, Csum, Rest}
use Rattle.store_types.specs.declared.refusal.ChunkFault.{ChunkFault}
use Rattle.store_types.specs.declared.refusal.ChunkFault.TheVariants.{Nothing, NotABlob, Other}
use Rattle.store_types.specs.Chain.Reading.{◌>>=◌, only_if}
use Rattle.wire_frames.specs.Frames.{AreBytes}
use Rattle.wire_commands.specs.Fields.{Read, u32, u64, bytes_at, number_at, digest_at}
use Rattle.wire_commands.specs.RefusalText.{state_number, zeros, blob_fault_text, close_fault_text, chunk_fault_text}
use Rattle.wire_commands.specs.RefusalReading.{state_at, crcs_at, blob_fault_at, zeros_at, wide_at, made, close_fault_at, chunk_fault_at, small_at}
use Rattle.wire_commands.specs.HasText.{FitsBadBlob, FitsCloseFault, FitsChunkFault}
use Rattle.wire_commands.proofs.FieldLaws.{found, IsField, Takes, bind_some, taken_is, bytes_takes, bytes_again, u32_field, u64_field, digest_field, both, both_field}

-- a choice by a number
pub either_at : {A : Type 0} (P : ℕ → A → Type 0) (n k : ℕ) (x y : A) → P k x → P n y → P n (cond (eqb n k) x y)
either_at P n k x y here elsewhere =
    elim (eqb_tells n k) [ inl (same, is) ↦ rw (same, is) here | inr (apart, other) ↦ rw apart elsewhere ]

pub none_takes : {A : Type 0} (spelled : A → List ℕ) (Fits : A → Type 0) (bytes : List ℕ) → Takes spelled Fits bytes None
none_takes spelled Fits bytes x rest e = absurd cc

pub value_takes : {A : Type 0} (spelled : A → List ℕ) (Fits : A → Type 0) (x : A) (rest : List ℕ) → AreBytes rest → Fits x → Takes spelled Fits (spelled x ++ rest) (Some (x, rest))
value_takes spelled Fits x rest bytes fits y s e = taken_is spelled Fits (spelled x ++ rest) x y rest s e (refl, bytes, fits)

pub made_some : {A B : Type 0} (make : A → B) (r : Read A) (y : B) (s : List ℕ) → made make r ≡ found y s → (x : A × List ℕ) × (r ≡ Some x) × (found (make x.0) x.1 ≡ found y s)
made_some make None y s e = absurd cc
made_some make (Some x) y s e = (x, refl, e)

-- a field behind a number
pub made_takes : {A B : Type 0} {read : List ℕ → Read A} {part : A → List ℕ} {PartFits : A → Type 0} (spelled : B → List ℕ) (Fits : B → Type 0) → IsField read part PartFits
    → (make : A → B) (n : ℕ) (rest : List ℕ) → AreBytes rest → ((x : A) → n ∷ part x ≡ spelled (make x)) → ((x : A) → PartFits x → Fits (make x))
    → Takes spelled Fits (n ∷ rest) (made make (read rest))
made_takes {A} {B} {read} {part} spelled Fits field make n rest bytes same fits y s e =
    let r = made_some make (read rest) y s e in
    let taken = field.takes rest bytes r.0.0 r.0.1 r.1 in
    let whole : n ∷ rest ≡ spelled (make r.0.0) ++ r.0.1 = ap (λ (t : List ℕ). n ∷ t) taken.0 ∙ ap (λ (t : List ℕ). t ++ r.0.1) (same r.0.0) in
    taken_is spelled Fits (n ∷ rest) (make r.0.0) y r.0.1 s r.2 (whole, taken.1, fits r.0.0 taken.2)

pub made_again : {A B : Type 0} {read : List ℕ → Read A} {part : A → List ℕ} {PartFits : A → Type 0} → IsField read part PartFits
    → (make : A → B) (x : A) (rest : List ℕ) → PartFits x → made make (read (part x ++ rest)) ≡ Some (make x, rest)
made_again field make x rest fits = rw (field.again x rest fits) refl

pub both_made : {A B C : Type 0} (r : Read A) (second : List ℕ → Read B) (make : A → B → C)
    → (r >>= (λ x. second x.1 >>= (λ y. found (make x.0 y.0) y.1))) ≡ made (λ (p : A × B). make p.0 p.1) (r >>= (λ x. second x.1 >>= (λ y. found (x.0, y.0) y.1)))
both_made None second make = refl
both_made {A} {B} {C} (Some x) second make = inner (second x.1)
  where
    inner : (r : Read B) → (r >>= (λ y. found (make x.0 y.0) y.1)) ≡ made (λ (p : A × B). make p.0 p.1) (r >>= (λ y. found (x.0, y.0) y.1))
    inner None = refl
    inner (Some y) = refl

pub only_if_some : {A : Type 0} (b : Bool) (o : Option A) (y : A) → (only_if b >>= (λ u. o)) ≡ Some y → (b ≡ true) × (o ≡ Some y)
only_if_some true o y e = (refl, e)
only_if_some false o y e = absurd cc

-- ---- states

abbrev state_text : SessionState → List ℕ
state_text s = state_number s ∷ []

abbrev AnyState : SessionState → Type 0
AnyState s = ⊤

state_takes : (bytes : List ℕ) → AreBytes bytes → Takes state_text AnyState bytes (state_at bytes)
state_takes [] fits = none_takes state_text AnyState []
state_takes (n ∷ bytes) fits =
    let rest : AreBytes bytes = λ i. fits (suc i) in
    let P : ℕ → Option SessionState → Type 0 = λ n o. Takes state_text AnyState (n ∷ bytes) (o >>= (λ state. Some (state, bytes))) in
    either_at P n 0 (Some Idle) _ (value_takes state_text AnyState Idle bytes rest tt)
    (either_at P n 1 (Some Writer) _ (value_takes state_text AnyState Writer bytes rest tt)
    (either_at P n 2 (Some Reader) None (value_takes state_text AnyState Reader bytes rest tt)
    (none_takes state_text AnyState (n ∷ bytes))))

state_again : (s : SessionState) (rest : List ℕ) → AnyState s → state_at (state_text s ++ rest) ≡ Some (s, rest)
state_again Idle rest fits = refl
state_again Writer rest fits = refl
state_again Reader rest fits = refl

pub state_field : IsField state_at (λ s. state_number s ∷ []) (λ s. ⊤)
state_field = record { takes = state_takes; again = state_again }

-- ---- faults of blobs

abbrev make_crcs : ℕ × ℕ → BlobCause
make_crcs p = blobs.WrongCrc p.0 p.1

crcs_field : IsField (both (number_at w32) (number_at w32)) (λ p. u32 p.0 ++ u32 p.1) (λ p. (p.0 < 2 ^ 32) × (p.1 < 2 ^ 32))
crcs_field = both_field u32_field u32_field

crcs_is : (bytes : List ℕ) → crcs_at bytes ≡ made make_crcs (both (number_at w32) (number_at w32) bytes)
crcs_is bytes = both_made (number_at w32 bytes) (number_at w32) (λ kept found. blobs.WrongCrc kept found)

crcs_takes : (bytes : List ℕ) → AreBytes bytes → Takes blob_fault_text FitsBadBlob (7 ∷ bytes) (crcs_at bytes)
crcs_takes bytes fits =
    subst (λ (o : Read BlobCause). Takes blob_fault_text FitsBadBlob (7 ∷ bytes) o) (sym (crcs_is bytes))
    (made_takes blob_fault_text FitsBadBlob crcs_field make_crcs 7 bytes fits (λ p. refl) (λ p h. h))

blob_fault_takes : (bytes : List ℕ) → AreBytes bytes → Takes blob_fault_text FitsBadBlob bytes (blob_fault_at bytes)
blob_fault_takes [] fits = none_takes blob_fault_text FitsBadBlob []
blob_fault_takes (n ∷ bytes) fits =
    let rest : AreBytes bytes = λ i. fits (suc i) in
    let P : ℕ → Read BlobCause → Type 0 = λ n o. Takes blob_fault_text FitsBadBlob (n ∷ bytes) o in
    either_at P n 1 (Some (blobs.Short, bytes)) _ (value_takes blob_fault_text FitsBadBlob blobs.Short bytes rest tt)
    (either_at P n 2 (Some (blobs.Compressed, bytes)) _ (value_takes blob_fault_text FitsBadBlob blobs.Compressed bytes rest tt)
    (either_at P n 3 (Some (blobs.Encrypted, bytes)) _ (value_takes blob_fault_text FitsBadBlob blobs.Encrypted bytes rest tt)
    (either_at P n 4 (Some (blobs.EncryptedCompressed, bytes)) _ (value_takes blob_fault_text FitsBadBlob blobs.EncryptedCompressed bytes rest tt)
    (either_at P n 5 (Some (blobs.UnknownMagic, bytes)) _ (value_takes blob_fault_text FitsBadBlob blobs.UnknownMagic bytes rest tt)
    (either_at P n 6 (Some (blobs.TooLong, bytes)) _ (value_takes blob_fault_text FitsBadBlob blobs.TooLong bytes rest tt)
    (either_at P n 7 (crcs_at bytes) None (crcs_takes bytes rest)
    (none_takes blob_fault_text FitsBadBlob (n ∷ bytes))))))))

crcs_again : (p : ℕ × ℕ) (rest : List ℕ) → (p.0 < 2 ^ 32) × (p.1 < 2 ^ 32) → crcs_at ((u32 p.0 ++ u32 p.1) ++ rest) ≡ Some (make_crcs p, rest)
crcs_again p rest fits = crcs_is ((u32 p.0 ++ u32 p.1) ++ rest) ∙ made_again crcs_field make_crcs p rest fits

blob_fault_again : (f : BlobCause) (rest : List ℕ) → FitsBadBlob f → blob_fault_at (blob_fault_text f ++ rest) ≡ Some (f, rest)
blob_fault_again blobs.Short rest fits = refl
blob_fault_again blobs.Compressed rest fits = refl
blob_fault_again blobs.Encrypted rest fits = refl
blob_fault_again blobs.EncryptedCompressed rest fits = refl
blob_fault_again blobs.UnknownMagic rest fits = refl
blob_fault_again blobs.TooLong rest fits = refl
blob_fault_again (blobs.WrongCrc kept found) rest fits = crcs_again (kept, found) rest fits

pub blob_fault_field : IsField blob_fault_at blob_fault_text FitsBadBlob
blob_fault_field = record { takes = blob_fault_takes; again = blob_fault_again }

-- ---- zeros and wide numbers

zeros_are : (n : ℕ) (xs : List ℕ) → length xs ≡ n → list_all (λ b. eqb b 0) xs ≡ true → xs ≡ zeros n
zeros_are zero [] len h = refl
zeros_are zero (x ∷ xs) len h = absurd (omega (arith, len))
zeros_are (suc n) [] len h = absurd (omega (arith, len))
zeros_are (suc n) (x ∷ xs) len h =
    elim (eqb_tells x 0) [
      | inl (same, is) ↦ rw is (ap (λ (t : List ℕ). 0 ∷ t) (zeros_are n xs (omega (arith, len)) (rw same at h)))
      | inr (apart, other) ↦ let no : false ≡ true = rw apart at h in absurd (false≢true no)
    ]

zeros_pass : (n : ℕ) → list_all (λ b. eqb b 0) (zeros n) ≡ true
zeros_pass zero = refl
zeros_pass (suc n) = zeros_pass n

zeros_takes : (n : ℕ) (bytes : List ℕ) → AreBytes bytes → Takes (λ z. zeros n) (λ z. ⊤) bytes (zeros_at n bytes)
zeros_takes n bytes fits z rest e =
    let t = bind_some (bytes_at n bytes) (λ t. only_if (list_all (λ b. eqb b 0) t.0) >>= (λ u. found tt t.1)) (z, rest) e in
    let taken = bytes_takes n bytes t.0.0 t.0.1 fits t.1 in
    let held = only_if_some (list_all (λ b. eqb b 0) t.0.0) (found tt t.0.1) (z, rest) t.2 in
    let front : t.0.0 ≡ zeros n = zeros_are n t.0.0 taken.3 held.0 in
    taken_is (λ z. zeros n) (λ z. ⊤) bytes tt z t.0.1 rest held.1 (taken.0 ∙ ap (λ (x : List ℕ). x ++ t.0.1) front, taken.1, tt)

zeros_again : (n : ℕ) (z : Unit {0}) (rest : List ℕ) → ⊤ → zeros_at n (zeros n ++ rest) ≡ Some (z, rest)
zeros_again n z rest fits = rw (bytes_again n (zeros n) rest (length-replicate n 0), zeros_pass n) refl

pub zeros_field : (n : ℕ) → IsField (zeros_at n) (λ z. zeros n) (λ z. ⊤)
zeros_field n = record { takes = zeros_takes n; again = zeros_again n }

wide_is : (bytes : List ℕ) → wide_at bytes ≡ made (λ (p : ℕ × Unit {0}). p.0) (both (number_at w64) (zeros_at 24) bytes)
wide_is bytes = both_made (number_at w64 bytes) (zeros_at 24) (λ n z. n)

wide_pair_field : IsField (both (number_at w64) (zeros_at 24)) (λ p. u64 p.0 ++ zeros 24) (λ p. (p.0 < 2 ^ 64) × ⊤)
wide_pair_field = both_field u64_field (zeros_field 24)

wide_takes : (bytes : List ℕ) → AreBytes bytes → Takes (λ n. u64 n ++ zeros 24) (λ n. n < 2 ^ 64) bytes (wide_at bytes)
wide_takes bytes fits n rest e =
    let r = made_some (λ (p : ℕ × Unit {0}). p.0) (both (number_at w64) (zeros_at 24) bytes) n rest (sym (wide_is bytes) ∙ e) in
    let taken = wide_pair_field.takes bytes fits r.0.0 r.0.1 r.1 in
    taken_is (λ n. u64 n ++ zeros 24) (λ n. n < 2 ^ 64) bytes r.0.0.0 n r.0.1 rest r.2 (taken.0, taken.1, taken.2.0)

wide_again : (n : ℕ) (rest : List ℕ) → n < 2 ^ 64 → wide_at ((u64 n ++ zeros 24) ++ rest) ≡ Some (n, rest)
wide_again n rest fits = wide_is ((u64 n ++ zeros 24) ++ rest) ∙ made_again wide_pair_field (λ (p : ℕ × Unit {0}). p.0) (n, tt) rest (fits, tt)

wide_field : IsField wide_at (λ n. u64 n ++ zeros 24) (λ n. n < 2 ^ 64)
wide_field = record { takes = wide_takes; again = wide_again }

-- ---- faults of closing

close_fault_takes : (bytes : List ℕ) → AreBytes bytes → Takes close_fault_text FitsCloseFault bytes (close_fault_at bytes)
close_fault_takes [] fits = none_takes close_fault_text FitsCloseFault []
close_fault_takes (n ∷ bytes) fits =
    let rest : AreBytes bytes = λ i. fits (suc i) in
    let P : ℕ → Read CloseFault → Type 0 = λ n o. Takes close_fault_text FitsCloseFault (n ∷ bytes) o in
    either_at P n 1 (made Count (wide_at bytes)) _ (made_takes close_fault_text FitsCloseFault wide_field Count 1 bytes rest (λ x. refl) (λ x h. h))
    (either_at P n 2 (made Size (wide_at bytes)) _ (made_takes close_fault_text FitsCloseFault wide_field Size 2 bytes rest (λ x. refl) (λ x h. h))
    (either_at P n 3 (made Csum (digest_at bytes)) _ (made_takes close_fault_text FitsCloseFault digest_field Csum 3 bytes rest (λ x. refl) (λ x h. h))
    (either_at P n 4 (made Rest (wide_at bytes)) None (made_takes close_fault_text FitsCloseFault wide_field Rest 4 bytes rest (λ x. refl) (λ x h. h))
    (none_takes close_fault_text FitsCloseFault (n ∷ bytes)))))

close_fault_again : (f : CloseFault) (rest : List ℕ) → FitsCloseFault f → close_fault_at (close_fault_text f ++ rest) ≡ Some (f, rest)
close_fault_again (Count n) rest fits = made_again wide_field Count n rest fits
close_fault_again (Size n) rest fits = made_again wide_field Size n rest fits
close_fault_again (Csum d) rest fits = made_again digest_field Csum d rest fits
close_fault_again (Rest n) rest fits = made_again wide_field Rest n rest fits

pub close_fault_field : IsField close_fault_at close_fault_text FitsCloseFault
close_fault_field = record { takes = close_fault_takes; again = close_fault_again }

-- ---- faults of chunks

chunk_fault_takes : (bytes : List ℕ) → AreBytes bytes → Takes chunk_fault_text FitsChunkFault bytes (chunk_fault_at bytes)
chunk_fault_takes [] fits = none_takes chunk_fault_text FitsChunkFault []
chunk_fault_takes (n ∷ bytes) fits =
    let rest : AreBytes bytes = λ i. fits (suc i) in
    let P : ℕ → Read ChunkFault → Type 0 = λ n o. Takes chunk_fault_text FitsChunkFault (n ∷ bytes) o in
    either_at P n 0 (made (λ z. Nothing) (zeros_at 32 bytes)) _ (made_takes chunk_fault_text FitsChunkFault (zeros_field 32) (λ z. Nothing) 0 bytes rest (λ z. refl) (λ z h. h))
    (either_at P n 1 (made (λ z. NotABlob) (zeros_at 32 bytes)) _ (made_takes chunk_fault_text FitsChunkFault (zeros_field 32) (λ z. NotABlob) 1 bytes rest (λ z. refl) (λ z h. h))
    (either_at P n 2 (made Other (digest_at bytes)) None (made_takes chunk_fault_text FitsChunkFault digest_field Other 2 bytes rest (λ x. refl) (λ x h. h))
    (none_takes chunk_fault_text FitsChunkFault (n ∷ bytes))))

chunk_fault_again : (f : ChunkFault) (rest : List ℕ) → FitsChunkFault f → chunk_fault_at (chunk_fault_text f ++ rest) ≡ Some (f, rest)
chunk_fault_again Nothing rest fits = made_again (zeros_field 32) (λ z. Nothing) tt rest tt
chunk_fault_again NotABlob rest fits = made_again (zeros_field 32) (λ z. NotABlob) tt rest tt
chunk_fault_again (Other d) rest fits = made_again digest_field Other d rest fits

pub chunk_fault_field : IsField chunk_fault_at chunk_fault_text FitsChunkFault
chunk_fault_field = record { takes = chunk_fault_takes; again = chunk_fault_again }

-- ---- numbers in a small range

abbrev pub IsFrom1To : ℕ → ℕ → Type 0
IsFrom1To greatest n = (1 ≤ n) × (n ≤ greatest)

and_true : (a b : Bool) → (a && b) ≡ true → (a ≡ true) × (b ≡ true)
and_true true b e = (refl, e)
and_true false b e = absurd (false≢true e)

small_takes : (greatest : ℕ) (bytes : List ℕ) → AreBytes bytes → Takes (λ n. n ∷ []) (IsFrom1To greatest) bytes (small_at greatest bytes)
small_takes greatest [] fits m rest e = absurd cc
small_takes greatest (n ∷ bytes) fits m rest e =
    let held = only_if_some (leb 1 n && leb n greatest) (found n bytes) (m, rest) e in
    let range = and_true (leb 1 n) (leb n greatest) held.0 in
    let rest-fits : AreBytes bytes = λ i. fits (suc i) in
    taken_is (λ n. n ∷ []) (IsFrom1To greatest) (n ∷ bytes) n m bytes rest held.1 (refl, rest-fits, (leb-true 1 n range.0, leb-true n greatest range.1))

small_again : (greatest n : ℕ) (rest : List ℕ) → IsFrom1To greatest n → small_at greatest (n ∷ rest) ≡ Some (n, rest)
small_again greatest n rest fits = rw (le-leb 1 n fits.0, le-leb n greatest fits.1) refl

pub small_field : (greatest : ℕ) → IsField (small_at greatest) (λ n. n ∷ []) (IsFrom1To greatest)
small_field greatest = record { takes = small_takes greatest; again = small_again greatest }

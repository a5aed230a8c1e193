-- A refusal that is read is spelled so, and one that is spelled is read again.
use Rattle.std.proofs.Common.{◌≡◌, ℕ, ◌≤◌, Bool, true, false, not, cond, eqb, List, [], ◌∷◌, ◌++◌, length, Option, Some, None, refl, ap, ◌∙◌, arith, inl, inr}
use Rattle.std.specs.Prelude.{◌↔◌}
use Rattle.std.specs.Int.{w32, w64}
use Rattle.std.proofs.lemmas.Bool.{ne_eqb, false≢true}
use Rattle.std.proofs.lemmas.Bool.Decides.{leb_tells}
use Rattle.std.proofs.lemmas.List.{nil_from_length}
use Rattle.store_types.specs.declared.refusal.Refusal.{Refusal}
use Rattle.store_types.specs.declared.refusal.Refusal.TheVariants.{BadFrame, TooLong, WrongState, BadName, GroupBusy, SnapshotBusy, NotNewer, NoSnapshot, NoFile, Exists, BadBlob, WrongDigest, WrongSize, UnknownChunk, BadOffset, BadClose, OpenIndexes, BadManifest, ManifestMismatch, NotAllowed, TooMany, BadRange, Damaged, Unreadable, CollectorBusy, DiskFault, Halted, NoMemory, NoRemote, RemoteFault}
use Rattle.store_types.specs.Chain.Reading.{◌>>=◌, only_if}
use Rattle.wire_frames.specs.Frames.{AreBytes}
use Rattle.wire_commands.specs.Fields.{Read, text, whole, byte_at, number_at, digest_at, text_at}
use Rattle.wire_commands.specs.RefusalText.{refusal_text}
use Rattle.wire_commands.specs.RefusalReading.{alone, one, two, state_at, blob_fault_at, close_fault_at, chunk_fault_at, small_at, cause_at, names_no_file, mismatch_in, refusal_from}
use Rattle.wire_commands.specs.HasText.{FitsMismatch, FitsRefusal}
use Rattle.wire_commands.proofs.FieldLaws.{nothing_left, IsField, bind_some, byte_field, u32_field, u64_field, digest_field, text_field}
use Rattle.wire_commands.proofs.RefusalFields.{either_at, only_if_some, state_field, blob_fault_field, close_fault_field, chunk_fault_field, small_field}
use Rattle.wire_commands.proofs.BodyLaws.{some, Spells, value_spells, none_spells, nothing_spells, whole_is, whole_again, one_spells, one_again, two_spells, two_again}

-- ---- a manifest's mismatch

abbrev names_rightly : List ℕ → ℕ → Bool
names_rightly file field = cond (names_no_file field) (eqb (length file) 0) (not (eqb (length file) 0))

names_none : (file : List ℕ) (field : ℕ) → names_rightly file field ≡ true → (file ≡ []) ↔ (field ≤ 3)
names_none file field e =
    elim (leb_tells field 3) [
      | inl (key, below) ↦ let empty : eqb (length file) 0 ≡ true = rw key at e in (λ is. below, λ le. nothing_left file empty)
      | inr (other, above) ↦
          let named : not (eqb (length file) 0) ≡ true = rw other at e in
          (λ is. let wrong : false ≡ true = rw is at named in absurd (false≢true wrong), λ le. absurd (omega arith))
    ]

names_rightly-is : (file : List ℕ) (field : ℕ) → (file ≡ []) ↔ (field ≤ 3) → names_rightly file field ≡ true
names_rightly-is file field h =
    elim (leb_tells field 3) [
      | inl (key, below) ↦ rw (key, h.1 below) refl
      | inr (other, above) ↦
          let named : eqb (length file) 0 ≡ false = ne_eqb (length file) 0 (λ empty. let le : field ≤ 3 = h.0 (nil_from_length file empty) in omega arith) in
          rw (other, named) refl
    ]

mismatch_spells : (bytes : List ℕ) → AreBytes bytes → Spells refusal_text FitsRefusal bytes 19 (mismatch_in bytes)
unfolding mismatch_in refusal_text
mismatch_spells bytes fits r e =
    let named : List ℕ × List ℕ → ℕ → Option Refusal = λ file field. only_if (names_rightly file.0 field) >>= (λ u. Some (ManifestMismatch file.0 field)) in
    let file = bind_some (text_at bytes) (λ file. whole (small_at 7 file.1) >>= named file) r e in
    let name = text_field.takes bytes fits file.0.0 file.0.1 file.1 in
    let field = bind_some (whole (small_at 7 file.0.1)) (named file.0) r file.2 in
    let number = whole_is (small_field 7) file.0.1 name.1 field.0 field.1 in
    let held = only_if_some (names_rightly file.0.0 field.0) (Some (ManifestMismatch file.0.0 field.0)) r field.2 in
    let spelled : 19 ∷ bytes ≡ 19 ∷ text file.0.0 ++ field.0 ∷ [] = ap (λ (t : List ℕ). 19 ∷ t) (name.0 ∙ ap (λ (t : List ℕ). text file.0.0 ++ t) number.0) in
    value_spells refusal_text FitsRefusal bytes 19 (ManifestMismatch file.0.0 field.0) (name.2, number.1.0, number.1.1, names_none file.0.0 field.0 held.0) spelled r held.1

mismatch_again : (file : List ℕ) (field : ℕ) → FitsMismatch file field → mismatch_in (text file ++ field ∷ []) ≡ Some (ManifestMismatch file field)
unfolding mismatch_in
mismatch_again file field fits =
    let number : whole (small_at 7 (field ∷ [])) ≡ Some field = whole_again (small_field 7) field (fits.1, fits.2) in
    let rightly : names_rightly file field ≡ true = names_rightly-is file field fits.3 in
    ap (λ (r : Read (List ℕ)). r >>= (λ f. whole (small_at 7 f.1) >>= (λ n. only_if (names_rightly f.0 n) >>= (λ u. some (ManifestMismatch f.0 n))))) (text_field.again file (field ∷ []) fits.0)
    ∙ ap (λ (o : Option ℕ). o >>= (λ n. only_if (names_rightly file n) >>= (λ u. some (ManifestMismatch file n)))) number
    ∙ ap (λ (b : Bool). only_if b >>= (λ u. some (ManifestMismatch file field))) rightly

-- ---- all

one_at : {A : Type 0} {read : List ℕ → Read A} {part : A → List ℕ} {PartFits : A → Type 0} → IsField read part PartFits
    → (make : A → Refusal) (bytes : List ℕ) (n : ℕ) → AreBytes bytes → ((x : A) → n ∷ part x ≡ refusal_text (make x)) → ((x : A) → PartFits x → FitsRefusal (make x))
    → Spells refusal_text FitsRefusal bytes n (one read make bytes)
unfolding one
one_at field make bytes n bytes_fit same fits = one_spells refusal_text FitsRefusal field make bytes n bytes_fit same fits

two_at : {A B : Type 0} {first : List ℕ → Read A} {second : List ℕ → Read B} {front : A → List ℕ} {back : B → List ℕ} {FrontFits : A → Type 0} {BackFits : B → Type 0}
    → IsField first front FrontFits → IsField second back BackFits → (make : A → B → Refusal) (bytes : List ℕ) (n : ℕ) → AreBytes bytes
    → ((p : A × B) → n ∷ front p.0 ++ back p.1 ≡ refusal_text (make p.0 p.1)) → ((p : A × B) → FrontFits p.0 × BackFits p.1 → FitsRefusal (make p.0 p.1))
    → Spells refusal_text FitsRefusal bytes n (two first second make bytes)
unfolding two
two_at first second make bytes n bytes_fit same fits = two_spells refusal_text FitsRefusal first second make bytes n bytes_fit same fits

alone_at : (r : Refusal) (bytes : List ℕ) (n : ℕ) → FitsRefusal r → n ∷ [] ≡ refusal_text r → Spells refusal_text FitsRefusal bytes n (alone r bytes)
unfolding alone
alone_at r bytes n fits e = nothing_spells refusal_text FitsRefusal bytes n r fits e

pub refusal_spells : (n : ℕ) (bytes : List ℕ) → AreBytes bytes → Spells refusal_text FitsRefusal bytes n (refusal_from n bytes)
unfolding refusal_from refusal_text
refusal_spells n bytes fits =
    let P : ℕ → Option Refusal → Type 0 = Spells refusal_text FitsRefusal bytes in
    either_at P n 1 (one (number_at w64) BadFrame bytes) _ (one_at u64_field BadFrame bytes 1 fits (λ x. refl) (λ x h. h))
    (either_at P n 2 (one (number_at w32) TooLong bytes) _ (one_at u32_field TooLong bytes 2 fits (λ x. refl) (λ x h. h))
    (either_at P n 3 (one state_at WrongState bytes) _ (one_at state_field WrongState bytes 3 fits (λ x. refl) (λ x h. h))
    (either_at P n 4 (alone BadName bytes) _ (alone_at BadName bytes 4 tt refl)
    (either_at P n 5 (one (number_at w32) GroupBusy bytes) _ (one_at u32_field GroupBusy bytes 5 fits (λ x. refl) (λ x h. h))
    (either_at P n 6 (one (number_at w32) SnapshotBusy bytes) _ (one_at u32_field SnapshotBusy bytes 6 fits (λ x. refl) (λ x h. h))
    (either_at P n 7 (one (number_at w64) NotNewer bytes) _ (one_at u64_field NotNewer bytes 7 fits (λ x. refl) (λ x h. h))
    (either_at P n 8 (alone NoSnapshot bytes) _ (alone_at NoSnapshot bytes 8 tt refl)
    (either_at P n 9 (alone NoFile bytes) _ (alone_at NoFile bytes 9 tt refl)
    (either_at P n 10 (alone Exists bytes) _ (alone_at Exists bytes 10 tt refl)
    (either_at P n 11 (one blob_fault_at BadBlob bytes) _ (one_at blob_fault_field BadBlob bytes 11 fits (λ x. refl) (λ x h. h))
    (either_at P n 12 (one digest_at WrongDigest bytes) _ (one_at digest_field WrongDigest bytes 12 fits (λ x. refl) (λ x h. h))
    (either_at P n 13 (two (number_at w32) (number_at w64) WrongSize bytes) _ (two_at u32_field u64_field WrongSize bytes 13 fits (λ p. refl) (λ p h. h))
    (either_at P n 14 (one (number_at w32) UnknownChunk bytes) _ (one_at u32_field UnknownChunk bytes 14 fits (λ x. refl) (λ x h. h))
    (either_at P n 15 (two (number_at w32) (number_at w64) BadOffset bytes) _ (two_at u32_field u64_field BadOffset bytes 15 fits (λ p. refl) (λ p h. h))
    (either_at P n 16 (one close_fault_at BadClose bytes) _ (one_at close_fault_field BadClose bytes 16 fits (λ x. refl) (λ x h. h))
    (either_at P n 17 (one byte_at OpenIndexes bytes) _ (one_at byte_field OpenIndexes bytes 17 fits (λ x. refl) (λ x h. h))
    (either_at P n 18 (one cause_at BadManifest bytes) _ (one_at (small_field 5) BadManifest bytes 18 fits (λ x. refl) (λ x h. h))
    (either_at P n 19 (mismatch_in bytes) _ (mismatch_spells bytes fits)
    (either_at P n 20 (alone NotAllowed bytes) _ (alone_at NotAllowed bytes 20 tt refl)
    (either_at P n 21 (one (number_at w32) TooMany bytes) _ (one_at u32_field TooMany bytes 21 fits (λ x. refl) (λ x h. h))
    (either_at P n 22 (one (number_at w64) BadRange bytes) _ (one_at u64_field BadRange bytes 22 fits (λ x. refl) (λ x h. h))
    (either_at P n 23 (two digest_at chunk_fault_at Damaged bytes) _ (two_at digest_field chunk_fault_field Damaged bytes 23 fits (λ p. refl) (λ p h. h))
    (either_at P n 24 (one text_at Unreadable bytes) _ (one_at text_field Unreadable bytes 24 fits (λ x. refl) (λ x h. h))
    (either_at P n 25 (one (number_at w32) CollectorBusy bytes) _ (one_at u32_field CollectorBusy bytes 25 fits (λ x. refl) (λ x h. h))
    (either_at P n 26 (alone DiskFault bytes) _ (alone_at DiskFault bytes 26 tt refl)
    (either_at P n 27 (one (number_at w64) Halted bytes) _ (one_at u64_field Halted bytes 27 fits (λ x. refl) (λ x h. h))
    (either_at P n 28 (alone NoMemory bytes) _ (alone_at NoMemory bytes 28 tt refl)
    (either_at P n 29 (alone NoRemote bytes) _ (alone_at NoRemote bytes 29 tt refl)
    (either_at P n 30 (alone RemoteFault bytes) None (alone_at RemoteFault bytes 30 tt refl)
    (none_spells refusal_text FitsRefusal bytes n))))))))))))))))))))))))))))))

-- the refusal that a body spells
abbrev pub refusal_in : List ℕ → Option Refusal
refusal_in [] = None
refusal_in (n ∷ bytes) = refusal_from n bytes

one_is : {A : Type 0} {read : List ℕ → Read A} {part : A → List ℕ} {PartFits : A → Type 0} → IsField read part PartFits
    → (make : A → Refusal) (x : A) → PartFits x → one read make (part x) ≡ Some (make x)
unfolding one
one_is field make x fits = one_again field make x fits

two_are : {A B : Type 0} {first : List ℕ → Read A} {second : List ℕ → Read B} {front : A → List ℕ} {back : B → List ℕ} {FrontFits : A → Type 0} {BackFits : B → Type 0}
    → IsField first front FrontFits → IsField second back BackFits → (make : A → B → Refusal) (x : A) (y : B) → FrontFits x → BackFits y → two first second make (front x ++ back y) ≡ Some (make x y)
unfolding two
two_are first second make x y x_fits y_fits = two_again first second make x y x_fits y_fits

pub refusal_again : (r : Refusal) → FitsRefusal r → refusal_in (refusal_text r) ≡ Some r
unfolding refusal_from refusal_text alone
refusal_again (BadFrame offset) fits = one_is u64_field BadFrame offset fits
refusal_again (TooLong len) fits = one_is u32_field TooLong len fits
refusal_again (WrongState state) fits = one_is state_field WrongState state tt
refusal_again BadName fits = refl
refusal_again (GroupBusy lane) fits = one_is u32_field GroupBusy lane fits
refusal_again (SnapshotBusy lane) fits = one_is u32_field SnapshotBusy lane fits
refusal_again (NotNewer latest) fits = one_is u64_field NotNewer latest fits
refusal_again NoSnapshot fits = refl
refusal_again NoFile fits = refl
refusal_again Exists fits = refl
refusal_again (BadBlob fault) fits = one_is blob_fault_field BadBlob fault fits
refusal_again (WrongDigest digest) fits = one_is digest_field WrongDigest digest fits
refusal_again (WrongSize place size) fits = two_are u32_field u64_field WrongSize place size fits.0 fits.1
refusal_again (UnknownChunk place) fits = one_is u32_field UnknownChunk place fits
refusal_again (BadOffset place expected) fits = two_are u32_field u64_field BadOffset place expected fits.0 fits.1
refusal_again (BadClose fault) fits = one_is close_fault_field BadClose fault fits
refusal_again (OpenIndexes count) fits = one_is byte_field OpenIndexes count fits
refusal_again (BadManifest cause) fits = one_is (small_field 5) BadManifest cause fits
refusal_again (ManifestMismatch file field) fits = mismatch_again file field fits
refusal_again NotAllowed fits = refl
refusal_again (TooMany limit) fits = one_is u32_field TooMany limit fits
refusal_again (BadRange size) fits = one_is u64_field BadRange size fits
refusal_again (Damaged digest fault) fits = two_are digest_field chunk_fault_field Damaged digest fault fits.0 fits.1
refusal_again (Unreadable name) fits = one_is text_field Unreadable name fits
refusal_again (CollectorBusy lane) fits = one_is u32_field CollectorBusy lane fits
refusal_again DiskFault fits = refl
refusal_again (Halted place) fits = one_is u64_field Halted place fits
refusal_again NoMemory fits = refl
refusal_again NoRemote fits = refl
refusal_again RemoteFault fits = refl

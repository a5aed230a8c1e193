-- A field that is read is the field that was written, and what was written is read again.
use Rattle.std.proofs.Common.{◌≡◌, ℕ, suc, ◌+◌, ◌^◌, ◌<◌, ◌≤◌, Bool, true, false, cond, eqb, ltb, List, [], ◌∷◌, ◌++◌, length, take, drop, Option, Some, None, refl, sym, ap, subst, ◌∙◌, append_assoc, arith, inl, inr, append-nil}
use Rattle.std.specs.Int.{Width, w16, w32, w64, byte_len, from_le_bytes, to_le_bytes}
use Rattle.std.proofs.lemmas.Bool.{cases_lt, ltb-false, le-ltb, eqb-true}
use Rattle.std.proofs.lemmas.List.{take_at, drop_at, take-append-drop, length-append, length-take, get_or-drop, get_or-take, get_or_past, nil_from_length}
use Rattle.std.proofs.lemmas.Nat.{le_bytes_2, le_bytes_4, le_bytes_8, from_le_bytes-to_le_bytes_2, from_le_bytes-to_le_bytes_4, from_le_bytes-to_le_bytes_8}
use Rattle.store_types.specs.Chain.Reading.{◌>>=◌}
use Rattle.wire_frames.specs.Frames.{AreBytes}
use Rattle.wire_commands.specs.Fields.{Read, text, whole, byte_at, bytes_at, number_at, digest_at, text_at}
use Rattle.wire_commands.specs.HasText.{IsText, IsDigest}

-- ---- steps

-- the value of a step that went on
pub bind_some : {A B : Type 0} (o : Option A) (f : A → Option B) (y : B) → (o >>= f) ≡ Some y → (x : A) × (o ≡ Some x) × (f x ≡ Some y)
bind_some (Some x) f y e = (x, refl, e)
bind_some None f y e = absurd cc

-- a test that held
pub if_some : {A : Type 0} (b : Bool) (x y : A) → cond b (Some x) None ≡ Some y → (b ≡ true) × (x ≡ y)
if_some true x y e = (refl, cc)
if_some false x y e = absurd cc

pub unless_some : {A : Type 0} (b : Bool) (x y : A) → cond b None (Some x) ≡ Some y → (b ≡ false) × (x ≡ y)
unless_some true x y e = absurd cc
unless_some false x y e = (refl, cc)

abbrev pub found : {A : Type 0} → A → List ℕ → Read A
found x rest = Some (x, rest)

pub found_is : {A : Type 0} (x y : A) (r s : List ℕ) → found x r ≡ found y s → (x ≡ y) × (r ≡ s)
found_is {A} x y r s e =
    let pairs : (x, r) ≡ (y, s) = cc in
    (ap (λ (p : A × List ℕ). p.0) pairs, ap (λ (p : A × List ℕ). p.1) pairs)

pub nothing_left : (bytes : List ℕ) → eqb (length bytes) 0 ≡ true → bytes ≡ []
nothing_left bytes e = nil_from_length bytes (eqb-true (length bytes) 0 e)

pub whole_some : {A : Type 0} (found : Read A) (x : A) → whole found ≡ Some x → found ≡ Some (x, [])
whole_some None x e = absurd cc
whole_some (Some f) x e =
    let held = if_some (eqb (length f.1) 0) f.0 x e in
    let no_more : f.1 ≡ [] = nothing_left f.1 held.0 in
    rw (← held.1, ← no_more) refl

-- ---- bytes

pub AreBytes-drop : (n : ℕ) (bytes : List ℕ) → AreBytes bytes → AreBytes (drop n bytes)
AreBytes-drop n bytes h i = rw get_or-drop (h (n + i))

pub AreBytes-take : (n : ℕ) (bytes : List ℕ) → AreBytes bytes → AreBytes (take n bytes)
AreBytes-take n bytes h i =
    elim (cases_lt i n) [
      | inl lt ↦ rw (get_or-take n bytes i 0 lt) (h i)
      | inr le ↦ rw (get_or_past (take n bytes) i 0 (omega (arith, length-take n bytes))) (omega arith)
    ]

-- ---- fields

-- What was read from the front of the bytes is spelled so there.
abbrev pub Takes : {A : Type 0} → (A → List ℕ) → (A → Type 0) → List ℕ → Read A → Type 0
Takes {A} spelled Fits bytes found = (x : A) (rest : List ℕ) → found ≡ Some (x, rest) → (bytes ≡ spelled x ++ rest) × AreBytes rest × Fits x

abbrev Taken : {A : Type 0} → (A → List ℕ) → (A → Type 0) → List ℕ → A → List ℕ → Type 0
Taken spelled Fits bytes x rest = (bytes ≡ spelled x ++ rest) × AreBytes rest × Fits x

pub taken_is : {A : Type 0} (spelled : A → List ℕ) (Fits : A → Type 0) (bytes : List ℕ) (x y : A) (r s : List ℕ) → found x r ≡ found y s
    → Taken spelled Fits bytes x r → Taken spelled Fits bytes y s
taken_is {A} spelled Fits bytes x y r s e taken =
    let is = found_is x y r s e in
    subst (λ (rest : List ℕ). Taken spelled Fits bytes y rest) is.1 (subst (λ (z : A). Taken spelled Fits bytes z r) is.0 taken)

-- What is read is spelled so, and what is spelled is read again, whatever follows it.
pub record IsField {A : Type 0} (read : List ℕ → Read A) (spelled : A → List ℕ) (Fits : A → Type 0) : Type 0 where
  pub takes : (bytes : List ℕ) → AreBytes bytes → Takes spelled Fits bytes (read bytes)
  pub again : (x : A) (rest : List ℕ) → Fits x → read (spelled x ++ rest) ≡ Some (x, rest)

-- at the end of a body
pub again_alone : {A : Type 0} {read : List ℕ → Read A} {spelled : A → List ℕ} {Fits : A → Type 0} → IsField read spelled Fits → (x : A) → Fits x → read (spelled x) ≡ Some (x, [])
again_alone {A} {read} {spelled} field x fits = subst (λ (bytes : List ℕ). read bytes ≡ Some (x, [])) (append-nil (spelled x)) (field.again x [] fits)

-- n bytes
pub bytes_takes : (n : ℕ) (bytes t rest : List ℕ) → AreBytes bytes → bytes_at n bytes ≡ Some (t, rest)
    → (bytes ≡ t ++ rest) × AreBytes rest × AreBytes t × (length t ≡ n)
bytes_takes n bytes t rest fits e =
    let there = unless_some (ltb (length bytes) n) (take n bytes, drop n bytes) (t, rest) e in
    let long : n ≤ length bytes = ltb-false _ _ there.0 in
    let is : (take n bytes ≡ t) × (drop n bytes ≡ rest) = (ap (λ (p : List ℕ × List ℕ). p.0) there.1, ap (λ (p : List ℕ × List ℕ). p.1) there.1) in
    (rw (← is.0, ← is.1) (sym (take-append-drop n bytes)), rw (← is.1) (AreBytes-drop n bytes fits), rw (← is.0) (AreBytes-take n bytes fits), rw (← is.0) (omega (arith, length-take n bytes)))

pub bytes_again : (n : ℕ) (t rest : List ℕ) → length t ≡ n → bytes_at n (t ++ rest) ≡ Some (t, rest)
bytes_again n t rest len =
    let fits : ltb (length (t ++ rest)) n ≡ false = le-ltb _ _ (omega (arith, length-append t rest)) in
    rw (fits, take_at t rest n len, drop_at t rest n len) refl

-- ---- a byte

byte_takes : (bytes : List ℕ) → AreBytes bytes → Takes (λ b. b ∷ []) (λ b. b < 256) bytes (byte_at bytes)
byte_takes [] fits b rest e = absurd cc
byte_takes (c ∷ bytes) fits b rest e = taken_is (λ b. b ∷ []) (λ b. b < 256) (c ∷ bytes) c b bytes rest e (refl, λ i. fits (suc i), fits 0)

pub byte_field : IsField byte_at (λ b. b ∷ []) (λ b. b < 256)
byte_field = record { takes = byte_takes; again = λ x rest fits. refl }

-- ---- numbers

pub record IsWide (w : Width) (limit : ℕ) : Type 0 where
  pub len : (n : ℕ) → length (to_le_bytes w n) ≡ byte_len w
  pub back : (bytes : List ℕ) → length bytes ≡ byte_len w → AreBytes bytes → to_le_bytes w (from_le_bytes w bytes) ≡ bytes
  pub again : (n : ℕ) → n < limit → from_le_bytes w (to_le_bytes w n) ≡ n
  pub below : (bytes : List ℕ) → AreBytes bytes → from_le_bytes w bytes < limit

wide16 : IsWide w16 (2 ^ 16)
wide16 = record {
  len = λ n. refl;
  back = λ bytes len fits. le_bytes_2 bytes _ len fits refl;
  again = λ n lt. from_le_bytes-to_le_bytes_2 n lt;
  below = λ bytes fits. omega (arith, fits 0, fits 1);
}

wide32 : IsWide w32 (2 ^ 32)
wide32 = record {
  len = λ n. refl;
  back = λ bytes len fits. le_bytes_4 bytes _ len fits refl;
  again = λ n lt. from_le_bytes-to_le_bytes_4 n lt;
  below = λ bytes fits. omega (arith, fits 0, fits 1, fits 2, fits 3);
}

wide64 : IsWide w64 (2 ^ 64)
wide64 = record {
  len = λ n. refl;
  back = λ bytes len fits. le_bytes_8 bytes _ len fits refl;
  again = λ n lt. from_le_bytes-to_le_bytes_8 n lt;
  below = λ bytes fits. omega (arith, fits 0, fits 1, fits 2, fits 3, fits 4, fits 5, fits 6, fits 7);
}

number_takes : (w : Width) (limit : ℕ) → IsWide w limit → (bytes : List ℕ) → AreBytes bytes → Takes (to_le_bytes w) (λ n. n < limit) bytes (number_at w bytes)
number_takes w limit wide bytes fits n rest e =
    let front = bind_some (bytes_at (byte_len w) bytes) (λ t. Some (from_le_bytes w t.0, t.1)) (n, rest) e in
    let t : List ℕ = front.0.0 in
    let taken = bytes_takes (byte_len w) bytes t front.0.1 fits front.1 in
    let spelled : to_le_bytes w (from_le_bytes w t) ≡ t = wide.back t taken.3 taken.2 in
    taken_is (to_le_bytes w) (λ n. n < limit) bytes (from_le_bytes w t) n front.0.1 rest front.2 (rw spelled taken.0, taken.1, wide.below t taken.2)

number_again : (w : Width) (limit : ℕ) → IsWide w limit → (n : ℕ) (rest : List ℕ) → n < limit → number_at w (to_le_bytes w n ++ rest) ≡ Some (n, rest)
number_again w limit wide n rest lt = rw (bytes_again (byte_len w) (to_le_bytes w n) rest (wide.len n), wide.again n lt) refl

pub u16_field : IsField (number_at w16) (to_le_bytes w16) (λ n. n < 2 ^ 16)
u16_field = record { takes = number_takes w16 (2 ^ 16) wide16; again = number_again w16 (2 ^ 16) wide16 }

pub u32_field : IsField (number_at w32) (to_le_bytes w32) (λ n. n < 2 ^ 32)
u32_field = record { takes = number_takes w32 (2 ^ 32) wide32; again = number_again w32 (2 ^ 32) wide32 }

pub u64_field : IsField (number_at w64) (to_le_bytes w64) (λ n. n < 2 ^ 64)
u64_field = record { takes = number_takes w64 (2 ^ 64) wide64; again = number_again w64 (2 ^ 64) wide64 }

-- ---- digests and texts

digest_takes : (bytes : List ℕ) → AreBytes bytes → Takes (λ d. d.0) IsDigest bytes (digest_at bytes)
digest_takes bytes fits d rest e =
    let front = bind_some (bytes_at 32 bytes) (λ t. Some (record { 0 = t.0 }, t.1)) (d, rest) e in
    let taken = bytes_takes 32 bytes front.0.0 front.0.1 fits front.1 in
    taken_is (λ d. d.0) IsDigest bytes (record { 0 = front.0.0 }) d front.0.1 rest front.2 (taken.0, taken.1, taken.3)

pub digest_field : IsField digest_at (λ d. d.0) IsDigest
digest_field = record { takes = digest_takes; again = λ d rest fits. rw (bytes_again 32 d.0 rest fits) refl }

text_takes : (bytes : List ℕ) → AreBytes bytes → Takes text IsText bytes (text_at bytes)
text_takes [] fits t rest e = absurd cc
text_takes (n ∷ bytes) fits t rest e =
    let taken = bytes_takes n bytes t rest (λ i. fits (suc i)) e in
    (rw (taken.3, ← taken.0) refl, taken.1, rw taken.3 (fits 0))

pub text_field : IsField text_at text IsText
text_field = record { takes = text_takes; again = λ t rest fits. bytes_again (length t) t rest refl }

-- ---- two fields

abbrev pub both : {A B : Type 0} → (List ℕ → Read A) → (List ℕ → Read B) → List ℕ → Read (A × B)
both first second bytes = do
  x ← first bytes
  y ← second x.1
  Some ((x.0, y.0), y.1)

pub both_field : {A B : Type 0} {first : List ℕ → Read A} {second : List ℕ → Read B} {front : A → List ℕ} {back : B → List ℕ} {FrontFits : A → Type 0} {BackFits : B → Type 0}
    → IsField first front FrontFits → IsField second back BackFits → IsField (both first second) (λ p. front p.0 ++ back p.1) (λ p. FrontFits p.0 × BackFits p.1)
both_field {A} {B} {first} {second} {front} {back} {FrontFits} {BackFits} f s = record { takes = taken; again = there }
  where
    Fits : A × B → Type 0
    Fits p = FrontFits p.0 × BackFits p.1

    taken : (bytes : List ℕ) → AreBytes bytes → Takes (λ p. front p.0 ++ back p.1) (λ p. FrontFits p.0 × BackFits p.1) bytes (both first second bytes)
    taken bytes fits p rest e =
        let x = bind_some (first bytes) (λ x. second x.1 >>= (λ y. found (x.0, y.0) y.1)) (p, rest) e in
        let xs = f.takes bytes fits x.0.0 x.0.1 x.1 in
        let y = bind_some (second x.0.1) (λ y. found (x.0.0, y.0) y.1) (p, rest) x.2 in
        let ys = s.takes x.0.1 xs.1 y.0.0 y.0.1 y.1 in
        let whole : bytes ≡ (front x.0.0 ++ back y.0.0) ++ y.0.1 =
        xs.0 ∙ ap (λ (t : List ℕ). front x.0.0 ++ t) ys.0 ∙ sym (append_assoc (front x.0.0) (back y.0.0) y.0.1) in
        taken_is (λ p. front p.0 ++ back p.1) (λ p. FrontFits p.0 × BackFits p.1) bytes (x.0.0, y.0.0) p y.0.1 rest y.2 (whole, ys.1, (xs.2, ys.2))

    there : (p : A × B) (rest : List ℕ) → FrontFits p.0 × BackFits p.1 → both first second ((front p.0 ++ back p.1) ++ rest) ≡ Some (p, rest)
    there p rest fits = rw (append_assoc (front p.0) (back p.1) rest, f.again p.0 (back p.1 ++ rest) fits.0, s.again p.1 rest fits.1) refl

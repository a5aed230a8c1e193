-- Values one after another, and behind their count.
use Rattle.std.proofs.Common.{◌≡◌, ℕ, zero, suc, ◌^◌, ◌<◌, List, [], ◌∷◌, ◌++◌, length, All, Some, refl, sym, ap, subst, ◌∙◌, append_assoc}
use Rattle.std.specs.List.{flat_map}
use Rattle.std.proofs.lemmas.List.Elements.{All-nil, All-cons, All-head, All-tail}
use Rattle.store_types.specs.Chain.Reading.{◌>>=◌}
use Rattle.wire_frames.specs.Frames.{AreBytes}
use Rattle.wire_commands.specs.Fields.{Read, rows, few_rows, many_at, rows_at, few_rows_at}
use Rattle.wire_commands.proofs.FieldLaws.{found, found_is, bind_some, IsField, byte_field, u16_field}

-- What was read as so many values is spelled so.
abbrev ManyTaken : {A : Type 0} → (A → List ℕ) → (A → Type 0) → ℕ → List ℕ → List A → List ℕ → Type 0
ManyTaken part Fits n bytes xs rest = (bytes ≡ flat_map part xs ++ rest) × AreBytes rest × (length xs ≡ n) × All Fits xs

many_is : {A : Type 0} (part : A → List ℕ) (Fits : A → Type 0) (n : ℕ) (bytes : List ℕ) (xs ys : List A) (r s : List ℕ) → found xs r ≡ found ys s
    → ManyTaken part Fits n bytes xs r → ManyTaken part Fits n bytes ys s
many_is {A} part Fits n bytes xs ys r s e taken =
    let is = found_is xs ys r s e in
    subst (λ (rest : List ℕ). ManyTaken part Fits n bytes ys rest) is.1 (subst (λ (zs : List A). ManyTaken part Fits n bytes zs r) is.0 taken)

pub many_takes : {A : Type 0} {read : List ℕ → Read A} {part : A → List ℕ} {Fits : A → Type 0} → IsField read part Fits
    → (n : ℕ) (bytes : List ℕ) → AreBytes bytes → (xs : List A) (rest : List ℕ) → many_at read n bytes ≡ Some (xs, rest)
    → ManyTaken part Fits n bytes xs rest
unfolding many_at
many_takes {A} {read} {part} {Fits} field zero bytes bytes_fit xs rest e =
    many_is part Fits 0 bytes [] xs bytes rest e (refl, bytes_fit, refl, All-nil Fits)
many_takes {A} {read} {part} {Fits} field (suc n) bytes bytes_fit xs rest e =
    let first = bind_some (read bytes) (λ x. many_at read n x.1 >>= (λ others. found (x.0 ∷ others.0) others.1)) (xs, rest) e in
    let x = first.0.0 in
    let behind = first.0.1 in
    let here = field.takes bytes bytes_fit x behind first.1 in
    let others = bind_some (many_at read n behind) (λ others. found (x ∷ others.0) others.1) (xs, rest) first.2 in
    let there = many_takes field n behind here.1 others.0.0 others.0.1 others.1 in
    let whole : bytes ≡ (part x ++ flat_map part others.0.0) ++ others.0.1 =
    here.0 ∙ ap (λ (t : List ℕ). part x ++ t) there.0 ∙ sym (append_assoc (part x) (flat_map part others.0.0) others.0.1) in
    many_is part Fits (suc n) bytes (x ∷ others.0.0) xs others.0.1 rest others.2
    (whole, there.1, ap suc there.2, All-cons Fits x others.0.0 here.2 there.3)

pub many_again : {A : Type 0} {read : List ℕ → Read A} {part : A → List ℕ} {Fits : A → Type 0} → IsField read part Fits
    → (xs : List A) (rest : List ℕ) → All Fits xs → many_at read (length xs) (flat_map part xs ++ rest) ≡ Some (xs, rest)
unfolding many_at
many_again field [] rest fits = refl
many_again {A} {read} {part} {Fits} field (x ∷ xs) rest fits =
    rw (
      append_assoc (part x) (flat_map part xs) rest,
      field.again x (flat_map part xs ++ rest) (All-head Fits x xs fits),
      many_again field xs rest (All-tail Fits x xs fits),
    ) refl

-- ---- behind their count

pub counted_field : {A : Type 0} {count_at : List ℕ → Read ℕ} {counted : ℕ → List ℕ} {limit : ℕ} {read : List ℕ → Read A} {part : A → List ℕ} {PartFits : A → Type 0}
    → IsField count_at counted (λ n. n < limit) → IsField read part PartFits
    → IsField (λ bytes. count_at bytes >>= (λ c. many_at read c.0 c.1)) (λ xs. counted (length xs) ++ flat_map part xs) (λ xs. (length xs < limit) × All PartFits xs)
counted_field {A} {count_at} {counted} {limit} {read} {part} {PartFits} count_field field = record { takes = taken; again = there }
  where
    Fits : List A → Type 0
    Fits xs = (length xs < limit) × All PartFits xs

    taken : (bytes : List ℕ) → AreBytes bytes → (xs : List A) (rest : List ℕ) → (count_at bytes >>= (λ c. many_at read c.0 c.1)) ≡ Some (xs, rest)
        → (bytes ≡ (counted (length xs) ++ flat_map part xs) ++ rest) × AreBytes rest × Fits xs
    taken bytes bytes_fit xs rest e =
        let count = bind_some (count_at bytes) (λ c. many_at read c.0 c.1) (xs, rest) e in
        let n = count.0.0 in
        let here = count_field.takes bytes bytes_fit n count.0.1 count.1 in
        let many = many_takes field n count.0.1 here.1 xs rest count.2 in
        let same : counted n ≡ counted (length xs) = ap counted (sym many.2) in
        let whole : bytes ≡ (counted (length xs) ++ flat_map part xs) ++ rest =
        here.0 ∙ ap (λ (t : List ℕ). counted n ++ t) many.0
        ∙ ap (λ (t : List ℕ). t ++ (flat_map part xs ++ rest)) same ∙ sym (append_assoc (counted (length xs)) (flat_map part xs) rest) in
        (whole, many.1, (rw many.2 here.2, many.3))

    there : (xs : List A) (rest : List ℕ) → Fits xs → (count_at ((counted (length xs) ++ flat_map part xs) ++ rest) >>= (λ c. many_at read c.0 c.1)) ≡ Some (xs, rest)
    there xs rest fits =
        rw (append_assoc (counted (length xs)) (flat_map part xs) rest, count_field.again (length xs) (flat_map part xs ++ rest) fits.0)
        (many_again field xs rest fits.1)

pub rows_field : {A : Type 0} {read : List ℕ → Read A} {part : A → List ℕ} {PartFits : A → Type 0} → IsField read part PartFits
    → IsField (rows_at read) (rows part) (λ xs. (length xs < 2 ^ 16) × All PartFits xs)
rows_field field = counted_field u16_field field

pub few_rows_field : {A : Type 0} {read : List ℕ → Read A} {part : A → List ℕ} {PartFits : A → Type 0} → IsField read part PartFits
    → IsField (few_rows_at read) (few_rows part) (λ xs. (length xs < 256) × All PartFits xs)
few_rows_field field = counted_field byte_field field

-- Rows one after another: passed over, read, counted and written.
use Rattle.std.proofs.Common.{◌≡◌, ℕ, zero, suc, ◌+◌, ◌^◌, ◌<◌, ◌≤◌, Bool, true, false, cond, eqb, List, [], ◌∷◌, ◌++◌, length, take, drop, slice_index_or, Option, Some, None, Result, IsErr, is_ok, refl, sym, ap, subst, ◌∙◌, append-nil, append_assoc, arith, length-append}
use Rattle.std.specs.Prelude.{is_some, option_map}
use Rattle.std.specs.Int.{w32, to_le_bytes}
use Rattle.std.specs.List.{flat_map}
use Rattle.std.proofs.lemmas.Bool.{false≢true}
use Rattle.std.proofs.lemmas.Grind.{flat_map-append}
use Rattle.std.proofs.lemmas.List.{take-append-drop}
use Rattle.port_traits.specs.Bytes.{AddsTo, WritesCounted}
use Rattle.port_traits.proofs.BytesLemmas.{WritesCounted-then, WritesCounted-failed}
use Rattle.store_types.specs.Chain.Reading.{◌>>=◌}
use Rattle.wire_commands.specs.Fields.{Read, whole, many_at}
use Rattle.wire_frames.specs.Frames.{frame}
use Rattle.wire_frames.proofs.WritingLemmas.{put-no_header, put-no_head, put-all}
use Rattle.wire_commands.proofs.FieldLaws.{found}
use Rattle.wire_commands.proofs.BodyLaws.{some}

-- ---- passed over

-- what stands behind a value
abbrev pub behind : {A : Type 0} → Read A → Option (List ℕ)
behind r = option_map (λ x. x.1) r

-- whether so many values are all that there is
abbrev pub are_all : {A : Type 0} → (List ℕ → Read A) → ℕ → List ℕ → Bool
are_all read n bytes = is_some (whole (many_at read n bytes))

all_none : {A : Type 0} (read : List ℕ → Read A) (n : ℕ) (bytes : List ℕ) (r : Read A) → read bytes ≡ r → behind r ≡ None → are_all read (suc n) bytes ≡ false
unfolding many_at
all_none {A} read n bytes None is e = ap (λ (r : Read A). is_some (whole (r >>= (λ x. many_at read n x.1 >>= (λ others. found (x.0 ∷ others.0) others.1))))) is
all_none read n bytes (Some x) is e = absurd cc

pub none_behind : {A : Type 0} (read : List ℕ → Read A) (n : ℕ) (bytes : List ℕ) → None ≡ behind (read bytes) → are_all read (suc n) bytes ≡ false
none_behind read n bytes e = all_none read n bytes (read bytes) refl (sym e)

whole_others : {A : Type 0} (x : A) (r : Read (List A)) → is_some (whole (r >>= (λ others. found (x ∷ others.0) others.1))) ≡ is_some (whole r)
whole_others x None = refl
whole_others x (Some f) = by_left (eqb (length f.1) 0)
  where
    by_left : (b : Bool) → is_some (cond b (Some (x ∷ f.0)) None) ≡ is_some (cond b (Some f.0) None)
    by_left true = refl
    by_left false = refl

all_some : {A : Type 0} (read : List ℕ → Read A) (n : ℕ) (bytes rest : List ℕ) (r : Read A) → read bytes ≡ r → behind r ≡ Some rest
    → are_all read (suc n) bytes ≡ are_all read n rest
unfolding many_at
all_some read n bytes rest None is e = absurd cc
all_some {A} read n bytes rest (Some x) is e =
    let same : x.1 ≡ rest = cc in
    ap (λ (r : Read A). is_some (whole (r >>= (λ y. many_at read n y.1 >>= (λ others. found (y.0 ∷ others.0) others.1))))) is
    ∙ whole_others x.0 (many_at read n x.1) ∙ ap (λ (t : List ℕ). are_all read n t) same

pub some_behind : {A : Type 0} (read : List ℕ → Read A) (n : ℕ) (bytes rest : List ℕ) → Some rest ≡ behind (read bytes) → are_all read (suc n) bytes ≡ are_all read n rest
some_behind read n bytes rest e = all_some read n bytes rest (read bytes) refl (sym e)

-- at the end
pub all_zero : {A : Type 0} (read : List ℕ → Read A) (rest : List ℕ) → are_all read 0 rest ≡ eqb (length rest) 0
unfolding many_at
all_zero {A} read rest = by_left (eqb (length rest) 0)
  where
    by_left : (b : Bool) → is_some (cond b (some {A = List A} []) None) ≡ b
    by_left true = refl
    by_left false = refl

-- ---- read

-- behind values that were read before
abbrev pub prefixed : {A : Type 0} → List A → Read (List A) → Read (List A)
prefixed xs r = option_map (λ f. (xs ++ f.0, f.1)) r

pub prefixed_nil : {A : Type 0} (r : Read (List A)) → prefixed [] r ≡ r
prefixed_nil None = refl
prefixed_nil (Some f) = refl

pushed : {A : Type 0} (xs : List A) (x : A) (r : Read (List A)) → prefixed xs (r >>= (λ others. found (x ∷ others.0) others.1)) ≡ prefixed (xs ++ x ∷ []) r
pushed xs x None = refl
pushed xs x (Some f) = ap (λ ys. found ys f.1) (sym (append_assoc xs (x ∷ []) f.0))

read_by : {A : Type 0} (read : List ℕ → Read A) (n : ℕ) (xs : List A) (bytes rest : List ℕ) (x : A) (r : Read A) → read bytes ≡ r → found x rest ≡ r
    → prefixed xs (many_at read (suc n) bytes) ≡ prefixed (xs ++ x ∷ []) (many_at read n rest)
unfolding many_at
read_by {A} read n xs bytes rest x r is e =
    ap (λ (r : Read A). prefixed xs (r >>= (λ y. many_at read n y.1 >>= (λ others. found (y.0 ∷ others.0) others.1)))) (is ∙ sym e)
    ∙ pushed xs x (many_at read n rest)

-- one more value
pub read_more : {A : Type 0} (read : List ℕ → Read A) (n : ℕ) (xs : List A) (bytes rest : List ℕ) (x : A) → found x rest ≡ read bytes
    → prefixed xs (many_at read (suc n) bytes) ≡ prefixed (xs ++ x ∷ []) (many_at read n rest)
read_more read n xs bytes rest x e = read_by read n xs bytes rest x (read bytes) refl e

-- and none
pub read_none : {A : Type 0} (read : List ℕ → Read A) (n : ℕ) (xs : List A) (bytes : List ℕ) → None ≡ read bytes → prefixed xs (many_at read (suc n) bytes) ≡ None
unfolding many_at
read_none {A} read n xs bytes e = ap (λ (r : Read A). prefixed xs (r >>= (λ y. many_at read n y.1 >>= (λ others. found (y.0 ∷ others.0) others.1)))) (sym e)

-- all are read, and nothing is left
pub read_all : {A : Type 0} (read : List ℕ → Read A) (xs : List A) (rest : List ℕ) (r : Read (List A)) → r ≡ prefixed xs (many_at read 0 rest) → is_some (whole r) ≡ true
    → Some xs ≡ whole r
unfolding many_at
read_all {A} read xs rest r is whole_is = by_left (eqb (length rest) 0) refl
  where
    same : whole r ≡ cond (eqb (length rest) 0) (Some (xs ++ [])) None
    same = ap whole is

    by_left : (b : Bool) → eqb (length rest) 0 ≡ b → Some xs ≡ whole r
    by_left true e = ap some (sym (append-nil xs)) ∙ sym (same ∙ ap (λ b. cond b (some (xs ++ [])) None) e)
    by_left false e =
        let none : whole r ≡ None = same ∙ ap (λ b. cond b (some (xs ++ [])) None) e in
        let clash : false ≡ true = sym (ap is_some none) ∙ whole_is in
        absurd (false≢true clash)

-- what a read gave
pub none_read : {A B : Type 0} (f : B → A × List ℕ) (o : Option B) (r : Read A) → o ≡ None → option_map f o ≡ r → None ≡ r
none_read f o r is e = sym (ap (option_map f) is) ∙ e

pub some_read : {A B : Type 0} (f : B → A × List ℕ) (o : Option B) (x : B) (r : Read A) → o ≡ Some x → option_map f o ≡ r → Some (f x) ≡ r
some_read f o x r is e = sym (ap (option_map f) is) ∙ e

-- ---- counted and written

-- values up to a place, one more, and the others
pub one_more : {A : Type 0} (f : A → List ℕ) (xs : List A) (i : ℕ) (x : A) → i < length xs → x ≡ slice_index_or xs i x
    → flat_map f (take (suc i) xs) ≡ flat_map f (take i xs) ++ f x
one_more f [] i x lt is = absurd (omega arith)
one_more f (y ∷ ys) zero x lt is = append-nil (f y) ∙ ap f (sym is)
one_more f (y ∷ ys) (suc i) x lt is =
    ap (λ (t : List ℕ). f y ++ t) (one_more f ys i x (omega arith) is) ∙ sym (append_assoc (f y) (flat_map f (take i ys)) (f x))

-- and the place behind it
one_more_at : {A : Type 0} (f : A → List ℕ) (xs : List A) (i : ℕ) (x : A) → i < length xs → x ≡ slice_index_or xs i x
    → flat_map f (take (i + 1) xs) ≡ flat_map f (take i xs) ++ f x
one_more_at f xs i x lt is =
    let next : i + 1 ≡ suc i = omega arith in
    ap (λ n. flat_map f (take n xs)) next ∙ one_more f xs i x lt is

split_at : {A : Type 0} (f : A → List ℕ) (xs : List A) (i : ℕ) → flat_map f xs ≡ flat_map f (take i xs) ++ flat_map f (drop i xs)
split_at f xs i = ap (flat_map f) (sym (take-append-drop i xs)) ∙ flat_map-append f (take i xs) (drop i xs)

pub split_behind : {A : Type 0} (f : A → List ℕ) (xs : List A) (i : ℕ) (x : A) → i < length xs → x ≡ slice_index_or xs i x
    → flat_map f xs ≡ flat_map f (take i xs) ++ (f x ++ flat_map f (drop (suc i) xs))
split_behind f xs i x lt is =
    split_at f xs (suc i) ∙ ap (λ (t : List ℕ). t ++ flat_map f (drop (suc i) xs)) (one_more f xs i x lt is)
    ∙ append_assoc (flat_map f (take i xs)) (f x) (flat_map f (drop (suc i) xs))

pub sum_within : {A : Type 0} (f : A → List ℕ) (xs : List A) (i : ℕ) (x : A) → i < length xs → x ≡ slice_index_or xs i x
    → length (flat_map f (take i xs)) + length (f x) ≤ length (flat_map f xs)
sum_within f xs i x lt is =
    omega (
      arith,
      ap length (split_behind f xs i x lt is),
      length-append (flat_map f (take i xs)) (f x ++ flat_map f (drop (suc i) xs)),
      length-append (f x) (flat_map f (drop (suc i) xs)),
    )

pub sum_is : {A : Type 0} (f : A → List ℕ) (xs : List A) (i : ℕ) (x : A) → i < length xs → x ≡ slice_index_or xs i x
    → length (flat_map f (take (i + 1) xs)) ≡ length (flat_map f (take i xs)) + length (f x)
sum_is f xs i x lt is = ap length (one_more_at f xs i x lt is) ∙ length-append (flat_map f (take i xs)) (f x)

added_none : (a : Option (List ℕ)) → AddsTo a a []
added_none None = refl
added_none (Some told) = ap some (sym (append-nil told))

pub nothing_written : (a : Option (List ℕ)) (m : ℕ) → m < 2 ^ 64 → WritesCounted a a m m [] true
nothing_written a m lt = record { count = 0; how_many = refl; added = added_none a; counted = omega arith }

-- one more value is written
pub written_more : {A : Type 0} (f : A → List ℕ) (xs : List A) (i : ℕ) (x : A) (a b c : Option (List ℕ)) (m n k : ℕ) (head : List ℕ)
    → i < length xs → x ≡ slice_index_or xs i x → head ≡ f x
    → WritesCounted a b m n (flat_map f (take i xs)) true → WritesCounted b c n k head true → WritesCounted a c m k (flat_map f (take (i + 1) xs)) true
written_more f xs i x a b c m n k head lt is spelled before here =
    subst (λ (t : List ℕ). WritesCounted a c m k t true) (sym (one_more_at f xs i x lt is))
    (WritesCounted-then a b c m n k (flat_map f (take i xs)) (f x) true before (subst (λ (t : List ℕ). WritesCounted b c n k t true) spelled here))

-- or a front of it
pub written_front : {A T E : Type 0} (f : A → List ℕ) (xs : List A) (i : ℕ) (x : A) (a b c : Option (List ℕ)) (m n k : ℕ) (head : List ℕ) (r : Result T E)
    → i < length xs → x ≡ slice_index_or xs i x → head ≡ f x → IsErr r
    → WritesCounted a b m n (flat_map f (take i xs)) true → WritesCounted b c n k head false → WritesCounted a c m k (flat_map f xs) (is_ok r)
written_front f xs i x a b c m n k head r lt is spelled failed before here =
    subst (λ (t : List ℕ). WritesCounted a c m k t (is_ok r)) (sym (split_behind f xs i x lt is))
    (WritesCounted-then a b c m n k (flat_map f (take i xs)) (f x ++ flat_map f (drop (suc i) xs)) (is_ok r) before
    (WritesCounted-failed b c n k (f x) (flat_map f (drop (suc i) xs)) r failed (subst (λ (t : List ℕ). WritesCounted b c n k t false) spelled here)))

-- ---- a frame of a head and values

header_is : (header slice head rest : List ℕ) (size : ℕ) → slice ≡ head → size ≡ length rest → header ≡ to_le_bytes w32 (length slice + size)
    → header ≡ to_le_bytes w32 (length head + length rest)
header_is header slice head rest size same sized e =
    let sum : length slice + size ≡ length head + length rest = omega (arith, ap length same, sized) in
    e ∙ ap (to_le_bytes w32) sum

pub rows_no_header : {T E : Type 0} (a b : Option (List ℕ)) (m n : ℕ) (header slice head rest : List ℕ) (size : ℕ) (r : Result T E) → slice ≡ head → size ≡ length rest
    → header ≡ to_le_bytes w32 (length slice + size) → IsErr r → WritesCounted a b m n header false → WritesCounted a b m n (frame (head ++ rest)) (is_ok r)
rows_no_header a b m n header slice head rest size r same sized e failed first =
    put-no_header a b m n header head rest r (header_is header slice head rest size same sized e) failed first

pub rows_no_head : {T E : Type 0} (a b c : Option (List ℕ)) (m n k : ℕ) (header slice head rest : List ℕ) (size : ℕ) (r : Result T E) → slice ≡ head → size ≡ length rest
    → header ≡ to_le_bytes w32 (length slice + size) → IsErr r → WritesCounted a b m n header true → WritesCounted b c n k slice false
    → WritesCounted a c m k (frame (head ++ rest)) (is_ok r)
rows_no_head a b c m n k header slice head rest size r same sized e failed first second =
    put-no_head a b c m n k header head rest r (header_is header slice head rest size same sized e) failed first
    (subst (λ (t : List ℕ). WritesCounted b c n k t false) same second)

pub rows_all : (a b c d : Option (List ℕ)) (m n k j : ℕ) (header slice head rest : List ℕ) (size : ℕ) (all : Bool) → slice ≡ head → size ≡ length rest
    → header ≡ to_le_bytes w32 (length slice + size) → WritesCounted a b m n header true → WritesCounted b c n k slice true → WritesCounted c d k j rest all
    → WritesCounted a d m j (frame (head ++ rest)) all
rows_all a b c d m n k j header slice head rest size all same sized e first second third =
    put-all a b c d m n k j header head rest all (header_is header slice head rest size same sized e) first
    (subst (λ (t : List ℕ). WritesCounted b c n k t true) same second) third

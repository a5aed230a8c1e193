-- Reads that follow one another.
use Rattle.std.proofs.Common.{◌≡◌, ℕ, zero, suc, ◌+◌, ◌-◌, ◌^◌, ◌<◌, ◌≤◌, cond, inl, inr, List, [], ◌∷◌, ◌++◌, length, take, Option, Some, None, refl, sym, ap, subst, ◌∙◌, arith, append_assoc, length-append}
use Rattle.std.proofs.lemmas.List.{length-take-le, append-nil}
use Rattle.std.specs.Prelude.{nat_lt, slice_get}
use Rattle.std.proofs.lemmas.Bool.{cases_lt, le-ltb, lt-ltb}
use Rattle.std.specs.Io.KnownBytes.{prepend_known}
use Rattle.port_traits.specs.Bytes.{TakesFrom}
use Rattle.replay.specs.Reading.{IsReadOut, IsTooLong, IsPiece}

-- so many bytes were read so far, and this holds of them
pub record HasRead (left left' : Option (List ℕ)) (taken : ℕ) (P : List ℕ → Type 0) : Type 0 where
  pub all : List ℕ
  pub took : TakesFrom left left' all
  pub count : length all ≡ taken
  pub holds : P all

TakesFrom-none : (a : Option (List ℕ)) → TakesFrom a a []
TakesFrom-none None = refl
TakesFrom-none (Some xs) = refl

pub TakesFrom-then : (a b c : Option (List ℕ)) (xs ys : List ℕ) → TakesFrom a b xs → TakesFrom b c ys → TakesFrom a c (xs ++ ys)
TakesFrom-then a b None xs ys first second = first ∙ ap (prepend_known xs) second
TakesFrom-then a b (Some told) xs ys first second =
    first ∙ ap (prepend_known xs) second ∙ ap Some (sym (append_assoc xs ys told))

pub read_none : (a : Option (List ℕ)) (P : List ℕ → Type 0) → P [] → HasRead a a 0 P
read_none a P holds = record { all = []; took = TakesFrom-none a; count = refl; holds = holds }

pub read_more : (a b c : Option (List ℕ)) (taken n : ℕ) (piece : List ℕ) (P Q : List ℕ → Type 0) → HasRead a b taken P → IsPiece b c taken piece n →
    ((all : List ℕ) → P all → length all ≡ taken → Q (all ++ take n piece)) → HasRead a c (taken + n) Q
read_more a b c taken n piece P Q so_far more next = record {
  all = so_far.all ++ take n piece;
  took = TakesFrom-then a b c so_far.all (take n piece) so_far.took more.took;
  count = omega (arith, so_far.count, length-append so_far.all (take n piece), length-take-le n piece more.bound);
  holds = next so_far.all so_far.holds so_far.count;
}

-- nothing was left to read
pub read_all : {A : Type 0} (a b c : Option (List ℕ)) (taken : ℕ) (piece : List ℕ) (P : List ℕ → Type 0) (tells : List ℕ → A → Type 0) (told : A) →
    HasRead a b taken P → IsPiece b c taken piece 0 → ((all : List ℕ) → P all → tells all told) → IsReadOut a c tells told
read_all a b c taken piece P tells told so_far last tell = record {
  all = so_far.all;
  took = subst (TakesFrom a c) (append-nil so_far.all) (TakesFrom-then a b c so_far.all (take 0 piece) so_far.took last.took);
  ended = last.ended refl;
  within = omega (arith, so_far.count, last.before);
  holds = tell so_far.all so_far.holds;
}

-- and no more may be read
pub read_too_many : (a b c : Option (List ℕ)) (taken : ℕ) (P : List ℕ → Type 0) → HasRead a b taken P → (c ≡ b) × (taken ≡ 2 ^ 40) → IsTooLong a c
read_too_many a b c taken P so_far stopped = record {
  front = so_far.all;
  took = subst (λ rest. TakesFrom a rest so_far.all) (sym stopped.0) so_far.took;
  many = so_far.count ∙ stopped.1;
}

-- ---- a byte of all that was read

get_left : (xs ys : List ℕ) (i : ℕ) → i < length xs → slice_get (xs ++ ys) i ≡ slice_get xs i
get_left [] ys i below = absurd (omega arith)
get_left (x ∷ xs) ys zero below = refl
get_left (x ∷ xs) ys (suc i) below = get_left xs ys i (omega arith)

get_right : (xs ys : List ℕ) (i : ℕ) → length xs ≤ i → slice_get (xs ++ ys) i ≡ slice_get ys (i - length xs)
get_right [] ys i past = ap (slice_get ys) (let e : i ≡ i - 0 = omega arith in e)
get_right (x ∷ xs) ys zero past = absurd (omega arith)
get_right (x ∷ xs) ys (suc i) past =
    get_right xs ys i (omega arith) ∙ ap (slice_get ys) (let e : i - length xs ≡ suc i - suc (length xs) = omega arith in e)

pub found_on : (found : Option ℕ) (place taken : ℕ) (all more piece : List ℕ) (n : ℕ) → length all ≡ taken → found ≡ slice_get all place → more ≡ take n piece →
    cond (nat_lt place taken) found (slice_get more (place - taken)) ≡ slice_get (all ++ take n piece) place
found_on found place taken all more piece n size holds is = elim (cases_lt place taken) [
  | inl below ↦
      ap (λ b. cond b found (slice_get more (place - taken))) (lt-ltb place taken below) ∙ holds ∙ sym (get_left all (take n piece) place (omega arith))
  | inr above ↦
      ap (λ b. cond b found (slice_get more (place - taken))) (le-ltb place taken above) ∙ ap (λ m. slice_get m (place - taken)) is
      ∙ ap (λ k. slice_get (take n piece) (place - k)) (sym size) ∙ sym (get_right all (take n piece) place (omega arith))
]

-- what was read tells something else
pub reads_as : {A B : Type 0} (l m : Option (List ℕ)) (P : List ℕ → A → Type 0) (Q : List ℕ → B → Type 0) (a : A) (b : B) → IsReadOut l m P a → ((all : List ℕ) → P all a → Q all b) → IsReadOut l m Q b
reads_as l m P Q a b read by = record { all = read.all; took = read.took; ended = read.ended; within = read.within; holds = by read.all read.holds }

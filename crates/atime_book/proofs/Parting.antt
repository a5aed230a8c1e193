-- The chunks of one part among those of all.
use Rattle.std.proofs.Common.{◌≡◌, ◌⊎◌, inl, inr, ℕ, zero, suc, ◌+◌, ◌-◌, ◌<◌, ◌≤◌, max, true, List, [], ◌∷◌, ◌++◌, length, get_or, set, take, drop, refl, sym, ap, subst, ◌∙◌, append_assoc, Vec, Global, arith, Some, None}
use Rattle.std.specs.List.{AllByRecursion}
use Rattle.std.proofs.lemmas.List.{map-append, length-append, length-set, nil_from_length, set-get_or, set_split}
use Rattle.std.proofs.lemmas.List.Elements.{All-from_recursion, recursion_from_All}
use Rattle.store_types.specs.declared.names.Digest32.{Digest32}
use Rattle.atime_book.specs.declared.parts.Touched.{Touched}
use Rattle.atime_book.specs.Parts.{number_of, as_touch, touches_of, joined, IsRising, IsPart, ArePartsFrom, IsParted, AreEmpty, StandsAt, GoesTo}
use Rattle.atime_book.specs.Touches.{last_in, NotesNew, TouchedAt, SweptAt}
use Rattle.atime_book.proofs.Orders.{IsBelow, IsAbove, greater, lower_less, missing, found, raised, swept}
use Rattle.atime_book.proofs.Rising.{Below, Above, After, Between, rising_none, rising_with, rising_without, rising_join, rising_again, goes_between, stands_between, in_two, in_three}

-- ---- numbers

abbrev HasLower : ℕ → Touched → Type 0
HasLower n t = number_of t.digest.0 < n

abbrev HasHigher : ℕ → Touched → Type 0
HasHigher n t = n < number_of t.digest.0

abbrev HasNumber : ℕ → Touched → Type 0
HasNumber n t = number_of t.digest.0 ≡ n

append_all : (P : Touched → Type 0) (xs ys : List Touched) → AllByRecursion P xs → AllByRecursion P ys → AllByRecursion P (xs ++ ys)
append_all P [] ys front back = back
append_all P (x ∷ xs) ys front back = (front.0, append_all P xs ys front.1 back)

weaker : (P Q : Touched → Type 0) → ((t : Touched) → P t → Q t) → (ts : List Touched) → AllByRecursion P ts → AllByRecursion Q ts
weaker P Q f [] all = tt
weaker P Q f (t ∷ ts) all = (f t all.0, weaker P Q f ts all.1)

later : (m n : ℕ) → m < n → (parts : List (Vec Touched Global)) → ArePartsFrom n parts → AllByRecursion (HasHigher m) (joined parts)
later m n low [] are = tt
later m n low (p ∷ ps) are =
    append_all (HasHigher m) p.items (joined ps)
    (weaker (HasNumber n) (HasHigher m) (λ t is. omega (arith, is, low)) p.items (recursion_from_All (HasNumber n) p.items are.0.own))
    (later m (suc n) (omega (arith, low)) ps are.1)

below_all : (d : List ℕ) (n : ℕ) → number_of d ≡ n → (ts : List Touched) → AllByRecursion (HasLower n) ts → AllByRecursion (Below d) ts
below_all d n is ts all = weaker (HasLower n) (Below d) (λ t low. lower_less t.digest.0 d (omega (arith, is, low))) ts all

above_all : (d : List ℕ) (n : ℕ) → number_of d ≡ n → (ts : List Touched) → AllByRecursion (HasHigher n) ts → AllByRecursion (Above d) ts
above_all d n is ts all = weaker (HasHigher n) (Above d) (λ t high. greater d t.digest.0 (lower_less d t.digest.0 (omega (arith, is, high)))) ts all

after_all : (d : Digest32) (n : ℕ) → number_of d.0 ≡ n → (ts : List Touched) → AllByRecursion (HasHigher n) ts → After d ts
after_all d n is [] all = tt
after_all d n is (t ∷ ts) all = (lower_less d.0 t.digest.0 (omega (arith, is, all.0)), after_all d n is ts all.1)

-- ---- the parts in turn rise

pub joined_rises : (n : ℕ) (parts : List (Vec Touched Global)) → ArePartsFrom n parts → IsRising (joined parts)
joined_rises n [] are = rising_none
joined_rises n (p ∷ ps) are =
    rising_join p.items (joined ps)
    (weaker (HasNumber n) (λ t. After t.digest (joined ps)) (λ t is. after_all t.digest n is (joined ps) (later n (suc n) (omega arith) ps are.1)) p.items
    (recursion_from_All (HasNumber n) p.items are.0.own))
    are.0.rise (joined_rises (suc n) ps are.1)

-- ---- one part

-- Part n is the k-th of those from m on.
pub record AtPart (m k n : ℕ) (parts : List (Vec Touched Global)) (part : List Touched) : Type 0 where
  pub front : List Touched
  pub back : List Touched
  pub is_part : IsPart n part
  pub lower : AllByRecursion (HasLower n) front
  pub higher : AllByRecursion (HasHigher n) back
  pub was : joined parts ≡ front ++ (part ++ back)
  pub now : (p : Vec Touched Global) → joined (set parts k p) ≡ front ++ (p.items ++ back)
  pub stays : (p : Vec Touched Global) → IsPart n p.items → ArePartsFrom m (set parts k p)

-- the same part, behind one more
behind : (m k n : ℕ) (p : Vec Touched Global) (ps : List (Vec Touched Global)) (part : List Touched) → m < n → IsPart m p.items → ArePartsFrom (suc m) ps →
    AtPart (suc m) k n ps part → AtPart m (suc k) n (p ∷ ps) part
behind m k n p ps part low first are rest = record {
  front = p.items ++ rest.front;
  back = rest.back;
  is_part = rest.is_part;
  lower = append_all (HasLower n) p.items rest.front
      (weaker (HasNumber m) (HasLower n) (λ t own. omega (arith, own, low)) p.items (recursion_from_All (HasNumber m) p.items first.own)) rest.lower;
  higher = rest.higher;
  was = ap (λ ts. p.items ++ ts) rest.was ∙ sym (append_assoc p.items rest.front (part ++ rest.back));
  now = λ q. ap (λ ts. p.items ++ ts) (rest.now q) ∙ sym (append_assoc p.items rest.front (q.items ++ rest.back));
  stays = λ q is_part. (first, rest.stays q is_part);
}

pub at_part : (m k n : ℕ) (parts : List (Vec Touched Global)) (d : Vec Touched Global) → n ≡ m + k → ArePartsFrom m parts → k < length parts →
    AtPart m k n parts (get_or parts k d).items
at_part m k n [] d is are below = absurd (omega (arith, below))
at_part m zero n (p ∷ ps) d is are below =
    let same : m ≡ n = omega (arith, is) in
    record {
      front = [];
      back = joined ps;
      is_part = subst (λ j. IsPart j p.items) same are.0;
      lower = tt;
      higher = later n (suc m) (omega (arith, is)) ps are.1;
      was = refl;
      now = λ q. refl;
      stays = λ q is_part. (subst (λ j. IsPart j q.items) (sym same) is_part, are.1);
    }
at_part m (suc k) n (p ∷ ps) d is are below =
    behind m k n p ps (get_or ps k d).items (omega (arith, is)) are.0 are.1 (at_part (suc m) k n ps d (omega (arith, is)) are.1 (omega (arith, below)))

regrouped : (f x y b : List Touched) → f ++ ((x ++ y) ++ b) ≡ (f ++ x) ++ (y ++ b)
regrouped f x y b = ap (λ z. f ++ z) (append_assoc x y b) ∙ sym (append_assoc f x (y ++ b))

below_touches : (d : List ℕ) (ts : List Touched) → AllByRecursion (Below d) ts → AllByRecursion (IsBelow d) (touches_of ts)
below_touches d [] all = tt
below_touches d (t ∷ ts) all = (all.0, below_touches d ts all.1)

above_touches : (d : List ℕ) (ts : List Touched) → AllByRecursion (Above d) ts → AllByRecursion (IsAbove d) (touches_of ts)
above_touches d [] all = tt
above_touches d (t ∷ ts) all = (all.0, above_touches d ts all.1)

-- ---- the part of a digest, in two at the digest's place

module _ (k : ℕ) (parts : List (Vec Touched Global)) (part : List Touched) (at : AtPart 0 k k parts part) (d : List ℕ) (number : number_of d ≡ k) (xs ys : List Touched) (between : Between d xs ys) where
  abbrev pub lower_ones : List Touched
  lower_ones = at.front ++ xs

  abbrev pub higher_ones : List Touched
  higher_ones = ys ++ at.back

  below_ones : AllByRecursion (Below d) lower_ones
  below_ones = append_all (Below d) at.front xs (below_all d k number at.front at.lower) between.below

  above_ones : AllByRecursion (Above d) higher_ones
  above_ones = append_all (Above d) ys at.back between.above (above_all d k number at.back at.higher)

  below_is : AllByRecursion (IsBelow d) (touches_of lower_ones)
  below_is = below_touches d lower_ones below_ones

  above_is : AllByRecursion (IsAbove d) (touches_of higher_ones)
  above_is = above_touches d higher_ones above_ones

  -- the touches, where the part's chunks are these
  two : (ts : List (Vec Touched Global)) → joined ts ≡ at.front ++ ((xs ++ ys) ++ at.back) → touches_of (joined ts) ≡ touches_of lower_ones ++ touches_of higher_ones
  two ts is = ap touches_of (is ∙ regrouped at.front xs ys at.back) ∙ map-append as_touch lower_ones higher_ones

  three : (ts : List (Vec Touched Global)) (t : Touched) → joined ts ≡ at.front ++ ((xs ++ t ∷ ys) ++ at.back) →
      touches_of (joined ts) ≡ touches_of lower_ones ++ as_touch t ∷ touches_of higher_ones
  three ts t is = ap touches_of (is ∙ regrouped at.front xs (t ∷ ys) at.back) ∙ map-append as_touch lower_ones (t ∷ higher_ones)

  pub none_there : xs ++ ys ≡ part → last_in (touches_of (joined parts)) d ≡ None
  none_there is =
      ap (λ ts. last_in ts d) (two parts (at.was ∙ ap (λ p. at.front ++ (p ++ at.back)) (sym is)))
      ∙ missing d (touches_of lower_ones) (touches_of higher_ones) below_is above_is

  pub found_there : (t : Touched) → xs ++ t ∷ ys ≡ part → t.digest.0 ≡ d → last_in (touches_of (joined parts)) d ≡ Some t.moment
  found_there t is same =
      let front = subst (λ q. AllByRecursion (IsBelow q) (touches_of lower_ones)) (sym same) below_is in
      ap (λ ts. last_in ts d) (three parts t (at.was ∙ ap (λ p. at.front ++ (p ++ at.back)) (sym is)))
      ∙ ap (last_in (touches_of lower_ones ++ as_touch t ∷ touches_of higher_ones)) (sym same)
      ∙ found (as_touch t) (touches_of lower_ones) (touches_of higher_ones) front

  pub notes_new : (moment : ℕ) (t : Touched) (new : Vec Touched Global) → xs ++ ys ≡ part → new.items ≡ xs ++ t ∷ ys → t.digest.0 ≡ d →
      NotesNew (record { moment = moment; touches = touches_of (joined parts) }) (record { moment = moment; touches = touches_of (joined (set parts k new)) }) (as_touch t)
  notes_new moment t new is made same = record {
    read = refl;
    lower = touches_of lower_ones;
    higher = touches_of higher_ones;
    before = two parts (at.was ∙ ap (λ p. at.front ++ (p ++ at.back)) (sym is));
    after = three (set parts k new) t (at.now new ∙ ap (λ p. at.front ++ (p ++ at.back)) made);
    below = All-from_recursion (IsBelow t.digest.0) (touches_of lower_ones) (subst (λ q. AllByRecursion (IsBelow q) (touches_of lower_ones)) (sym same) below_is);
    above = All-from_recursion (IsAbove t.digest.0) (touches_of higher_ones) (subst (λ q. AllByRecursion (IsAbove q) (touches_of higher_ones)) (sym same) above_is);
  }

  pub raises : (moment : ℕ) (t u : Touched) (when : ℕ) (new : Vec Touched Global) → xs ++ t ∷ ys ≡ part → new.items ≡ xs ++ u ∷ ys → t.digest.0 ≡ d →
      u.digest ≡ t.digest → u.moment ≡ max t.moment when →
      TouchedAt (record { moment = moment; touches = touches_of (joined parts) }) (record { moment = moment; touches = touches_of (joined (set parts k new)) }) d when
  raises moment t u when new is made same kept greatest_is =
      let front = subst (λ q. AllByRecursion (IsBelow q) (touches_of lower_ones)) (sym same) below_is in
      let old = three parts t (at.was ∙ ap (λ p. at.front ++ (p ++ at.back)) (sym is)) in
      let now = three (set parts k new) u (at.now new ∙ ap (λ p. at.front ++ (p ++ at.back)) made)
      ∙ ap (λ q. touches_of lower_ones ++ record { digest = q.0; moment = u.moment } ∷ touches_of higher_ones) kept in
      subst (λ q. TouchedAt (record { moment = moment; touches = touches_of (joined parts) }) (record { moment = moment; touches = touches_of (joined (set parts k new)) }) q when) same
      (subst (λ ts. TouchedAt (record { moment = moment; touches = ts }) (record { moment = moment; touches = touches_of (joined (set parts k new)) }) t.digest.0 when) (sym old)
      (subst (λ ts. TouchedAt (record { moment = moment; touches = touches_of lower_ones ++ as_touch t ∷ touches_of higher_ones }) (record { moment = moment; touches = ts }) t.digest.0 when) (sym now)
      (raised moment (as_touch t) u.moment when (touches_of lower_ones) (touches_of higher_ones) front greatest_is)))

  pub sweeps : (moment : ℕ) (t : Touched) (new : Vec Touched Global) → xs ++ t ∷ ys ≡ part → new.items ≡ xs ++ ys → t.digest.0 ≡ d →
      SweptAt (record { moment = moment; touches = touches_of (joined parts) }) (record { moment = moment; touches = touches_of (joined (set parts k new)) }) d true
  sweeps moment t new is made same =
      let front = subst (λ q. AllByRecursion (IsBelow q) (touches_of lower_ones)) (sym same) below_is in
      let back = subst (λ q. AllByRecursion (IsAbove q) (touches_of higher_ones)) (sym same) above_is in
      let old = three parts t (at.was ∙ ap (λ p. at.front ++ (p ++ at.back)) (sym is)) in
      let now = two (set parts k new) (at.now new ∙ ap (λ p. at.front ++ (p ++ at.back)) made) in
      subst (λ q. SweptAt (record { moment = moment; touches = touches_of (joined parts) }) (record { moment = moment; touches = touches_of (joined (set parts k new)) }) q true) same
      (subst (λ ts. SweptAt (record { moment = moment; touches = ts }) (record { moment = moment; touches = touches_of (joined (set parts k new)) }) t.digest.0 true) (sym old)
      (subst (λ ts. SweptAt (record { moment = moment; touches = touches_of lower_ones ++ as_touch t ∷ touches_of higher_ones }) (record { moment = moment; touches = ts }) t.digest.0 true) (sym now)
      (swept moment (as_touch t) (touches_of lower_ones) (touches_of higher_ones) front back)))

  -- ---- and what the part is then

  pub part_with : (t : Touched) (new : Vec Touched Global) → xs ++ ys ≡ part → new.items ≡ xs ++ t ∷ ys → t.digest.0 ≡ d → IsPart k new.items
  part_with t new is made same =
      let own = recursion_from_All (HasNumber k) part at.is_part.own in
      subst (IsPart k) (sym made)
      (record {
        rise = rising_with xs t ys (subst (λ q. AllByRecursion (Below q) xs) (sym same) between.below) (subst (λ q. AllByRecursion (Above q) ys) (sym same) between.above)
            (subst IsRising (sym is) at.is_part.rise);
        own = All-from_recursion (HasNumber k) (xs ++ t ∷ ys) (all_with xs (ap number_of same ∙ number) (subst (AllByRecursion (HasNumber k)) (sym is) own));
      })
    where
      all_with : (zs : List Touched) → HasNumber k t → AllByRecursion (HasNumber k) (zs ++ ys) → AllByRecursion (HasNumber k) (zs ++ t ∷ ys)
      all_with [] this all = (this, all)
      all_with (z ∷ zs) this all = (all.0, all_with zs this all.1)

  pub part_without : (t : Touched) (new : Vec Touched Global) → xs ++ t ∷ ys ≡ part → new.items ≡ xs ++ ys → IsPart k new.items
  part_without t new is made =
      let own = recursion_from_All (HasNumber k) part at.is_part.own in
      subst (IsPart k) (sym made)
      (record {
        rise = rising_without xs t ys (subst IsRising (sym is) at.is_part.rise);
        own = All-from_recursion (HasNumber k) (xs ++ ys) (all_without xs (subst (AllByRecursion (HasNumber k)) (sym is) own));
      })
    where
      all_without : (zs : List Touched) → AllByRecursion (HasNumber k) (zs ++ t ∷ ys) → AllByRecursion (HasNumber k) (zs ++ ys)
      all_without [] all = all.1
      all_without (z ∷ zs) all = (all.0, all_without zs all.1)

  pub part_again : (t u : Touched) (new : Vec Touched Global) → xs ++ t ∷ ys ≡ part → new.items ≡ xs ++ u ∷ ys → u.digest ≡ t.digest → IsPart k new.items
  part_again t u new is made kept =
      let own = recursion_from_All (HasNumber k) part at.is_part.own in
      subst (IsPart k) (sym made)
      (record {
        rise = rising_again xs t u ys kept (subst IsRising (sym is) at.is_part.rise);
        own = All-from_recursion (HasNumber k) (xs ++ u ∷ ys) (all_again xs (subst (AllByRecursion (HasNumber k)) (sym is) own));
      })
    where
      all_again : (zs : List Touched) → AllByRecursion (HasNumber k) (zs ++ t ∷ ys) → AllByRecursion (HasNumber k) (zs ++ u ∷ ys)
      all_again [] all = (ap (λ q. number_of q.0) kept ∙ all.0, all.1)
      all_again (z ∷ zs) all = (all.0, all_again zs all.1)

-- ---- how many there are then

-- the chunks of a part were these
pub count_now : (k : ℕ) (parts : List (Vec Touched Global)) (part : List Touched) (at : AtPart 0 k k parts part) (new : Vec Touched Global) →
    length (joined (set parts k new)) + length part ≡ length (joined parts) + length new.items
count_now k parts part at new =
    let old = ap length at.was in
    let now = ap length (at.now new) in
    omega (
      arith,
      old,
      now,
      length-append at.front (part ++ at.back),
      length-append part at.back,
      length-append at.front (new.items ++ at.back),
      length-append new.items at.back,
    )

-- ---- no parts, and empty ones

pub no_parts : (parts : List (Vec Touched Global)) (n : ℕ) → (length parts ≡ 0) ⊎ (length parts ≡ 256) → n < 256 → length parts ≤ n → parts ≡ []
no_parts parts n (inl none) byte past = nil_from_length parts none
no_parts parts n (inr all) byte past = absurd (omega (arith, all, byte, past))

empty_joined : (parts : List (Vec Touched Global)) → AllByRecursion (λ (p : Vec Touched Global). p.items ≡ []) parts → joined parts ≡ []
empty_joined [] all = refl
empty_joined (p ∷ ps) all = ap (λ ts. ts ++ joined ps) all.0 ∙ empty_joined ps all.1

empty_parts : (n : ℕ) (parts : List (Vec Touched Global)) → AllByRecursion (λ (p : Vec Touched Global). p.items ≡ []) parts → ArePartsFrom n parts
empty_parts n [] all = tt
empty_parts n (p ∷ ps) all =
    let part : IsPart n [] = record { rise = rising_none; own = All-from_recursion (HasNumber n) [] tt } in
    (subst (IsPart n) (sym all.0) part, empty_parts (suc n) ps all.1)

pub none_joined : (parts : List (Vec Touched Global)) → AreEmpty parts → joined parts ≡ []
none_joined parts are = empty_joined parts (recursion_from_All (λ (p : Vec Touched Global). p.items ≡ []) parts are.empty)

pub parted_empty : (parts : List (Vec Touched Global)) → AreEmpty parts → IsParted parts 0
parted_empty parts are =
    record {
      bytes = inr are.bytes;
      each = empty_parts 0 parts (recursion_from_All (λ (p : Vec Touched Global). p.items ≡ []) parts are.empty);
      counted = sym (ap length (none_joined parts are));
    }

-- ---- a part as it is borrowed

module _ (parts : List (Vec Touched Global)) (count : ℕ) (parted : IsParted parts count) (k : ℕ) (v : Vec Touched Global) (is : v ≡ get_or parts k v) (inside : k < length parts) (d : List ℕ) (number : number_of d ≡ k) where
  here : AtPart 0 k k parts v.items
  here = let same : k ≡ 0 + k = omega arith in subst (λ (p : Vec Touched Global). AtPart 0 k k parts p.items) (sym is) (at_part 0 k k parts v same parted.each inside)

  pub part_rises : IsRising v.items
  part_rises = here.is_part.rise

  pub parts_same : set parts k v ≡ parts
  parts_same = ap (set parts k) is ∙ set-get_or parts k v

  pub parted_same : IsParted (set parts k v) count
  parted_same = subst (λ ps. IsParted ps count) (sym parts_same) parted

  parted_with : (new : Vec Touched Global) → IsPart k new.items → (n : ℕ) → n + length v.items ≡ count + length new.items → IsParted (set parts k new) n
  parted_with new is_part n counts = record {
    bytes = subst (λ l. (l ≡ 0) ⊎ (l ≡ 256)) (sym (length-set parts k new)) parted.bytes;
    each = here.stays new is_part;
    counted = omega (arith, counts, count_now k parts v.items here new, parted.counted);
  }

  -- the same chunks, in another block of memory
  pub joined_kept : (new : Vec Touched Global) → new.items ≡ v.items → joined (set parts k new) ≡ joined parts
  joined_kept new same = here.now new ∙ ap (λ ts. here.front ++ (ts ++ here.back)) same ∙ sym here.was

  pub parted_kept : (new : Vec Touched Global) → new.items ≡ v.items → IsParted (set parts k new) count
  parted_kept new same =
      let long : count + length v.items ≡ count + length new.items = omega (arith, ap length same) in
      parted_with new (subst (IsPart k) (sym same) here.is_part) count long

  module _ (i : ℕ) (e : Touched) (stands : StandsAt v.items d i) where
    abbrev chunk : Touched
    chunk = get_or v.items i e

    three_is : take i v.items ++ chunk ∷ drop (suc i) v.items ≡ v.items
    three_is = in_three v.items i e stands.within

    between : Between d (take i v.items) (drop (suc i) v.items)
    between = stands_between v.items d i e part_rises stands

    less_one : (new : Vec Touched Global) → new.items ≡ take i v.items ++ drop (suc i) v.items → length new.items + 1 ≡ length v.items
    less_one new made =
        omega (
          arith,
          ap length made,
          ap length three_is,
          length-append (take i v.items) (drop (suc i) v.items),
          length-append (take i v.items) (chunk ∷ drop (suc i) v.items),
        )

    pub some_here : last_in (touches_of (joined parts)) d ≡ Some chunk.moment
    some_here = found_there k parts v.items here d number (take i v.items) (drop (suc i) v.items) between chunk three_is (stands.same e)

    pub one_or_more : 1 ≤ count
    one_or_more =
        omega (
          arith,
          stands.within,
          parted.counted,
          ap length here.was,
          length-append here.front (v.items ++ here.back),
          length-append v.items here.back,
        )

    pub swept_here : (moment : ℕ) (new : Vec Touched Global) → new.items ≡ take i v.items ++ drop (suc i) v.items →
        SweptAt (record { moment = moment; touches = touches_of (joined parts) }) (record { moment = moment; touches = touches_of (joined (set parts k new)) }) d true
    swept_here moment new made =
        sweeps k parts v.items here d number (take i v.items) (drop (suc i) v.items) between moment chunk new three_is made (stands.same e)

    pub swept_parted : (new : Vec Touched Global) → new.items ≡ take i v.items ++ drop (suc i) v.items → IsParted (set parts k new) (count - 1)
    swept_parted new made =
        parted_with new (part_without k parts v.items here d number (take i v.items) (drop (suc i) v.items) between chunk new three_is made) (count - 1)
        (omega (arith, one_or_more, less_one new made))

    raised_is : (u : Touched) (new : Vec Touched Global) → new.items ≡ set v.items i u → new.items ≡ take i v.items ++ u ∷ drop (suc i) v.items
    raised_is u new made = made ∙ set_split v.items i u stands.within

    pub raised_here : (moment when : ℕ) (u : Touched) (new : Vec Touched Global) → new.items ≡ set v.items i u → u.digest ≡ chunk.digest → u.moment ≡ max chunk.moment when →
        TouchedAt (record { moment = moment; touches = touches_of (joined parts) }) (record { moment = moment; touches = touches_of (joined (set parts k new)) }) d when
    raised_here moment when u new made kept greatest_is =
        raises k parts v.items here d number (take i v.items) (drop (suc i) v.items) between moment chunk u when new three_is (raised_is u new made) (stands.same e) kept greatest_is

    pub raised_parted : (u : Touched) (new : Vec Touched Global) → new.items ≡ set v.items i u → u.digest ≡ chunk.digest → IsParted (set parts k new) count
    raised_parted u new made kept =
        let long : count + length v.items ≡ count + length new.items = omega (arith, ap length made, length-set v.items i u) in
        parted_with new (part_again k parts v.items here d number (take i v.items) (drop (suc i) v.items) between chunk u new three_is (raised_is u new made) kept) count long

  module _ (i : ℕ) (goes : GoesTo v.items d i) where
    pub none_here : last_in (touches_of (joined parts)) d ≡ None
    none_here = none_there k parts v.items here d number (take i v.items) (drop i v.items) (goes_between v.items d i goes) (in_two v.items i)

    pub noted_here : (moment : ℕ) (t : Touched) (new : Vec Touched Global) → new.items ≡ take i v.items ++ t ∷ drop i v.items → t.digest.0 ≡ d →
        NotesNew (record { moment = moment; touches = touches_of (joined parts) }) (record { moment = moment; touches = touches_of (joined (set parts k new)) }) (as_touch t)
    noted_here moment t new made same =
        notes_new k parts v.items here d number (take i v.items) (drop i v.items) (goes_between v.items d i goes) moment t new (in_two v.items i) made same

    pub noted_parted : (t : Touched) (new : Vec Touched Global) → new.items ≡ take i v.items ++ t ∷ drop i v.items → t.digest.0 ≡ d → IsParted (set parts k new) (count + 1)
    noted_parted t new made same =
        let long : count + 1 + length v.items ≡ count + length new.items = omega (
          arith,
          ap length made,
          ap length (in_two v.items i),
          length-append (take i v.items) (drop i v.items),
          length-append (take i v.items) (t ∷ drop i v.items),
        ) in
        parted_with new (part_with k parts v.items here d number (take i v.items) (drop i v.items) (goes_between v.items d i goes) t new (in_two v.items i) made same) (count + 1) long

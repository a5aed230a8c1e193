-- A book's chunks, read one by one.
use Rattle.std.proofs.Common.{◌≡◌, ℕ, suc, ◌/◌, ◌<◌, ◌≤◌, Bool, true, false, ◌&&◌, cond, List, [], ◌∷◌, ◌++◌, length, take, drop, map, Option, Some, None, refl, sym, ap, subst, ◌∙◌, append_assoc, le-leb, arith}
use Rattle.std.specs.Ordering.{is_lt}
use Rattle.std.specs.declared.cmp.Ordering.{Ordering}
use Rattle.std.specs.declared.cmp.Ordering.TheVariants.{Less, Equal, Greater}
use Rattle.std.specs.List.{AllByRecursion}
use Rattle.std.specs.Cmp.Lexicographic.{nat_list_cmp_total}
use Rattle.std.proofs.lemmas.Bool.{lt-leb}
use Rattle.std.proofs.lemmas.List.{length-drop, append-nil}
use Rattle.std.proofs.lemmas.List.Elements.{recursion_from_All}
use Rattle.store_types.specs.Names.{text_cmp}
use Rattle.store_files.specs.Cells.{first_cells}
use Rattle.store_files.specs.Book.{Touch, Book, touch_of}
use Rattle.atime_book.specs.Reading.{above, pass_from, touches_at, passed}
use Rattle.atime_book.specs.Touches.{NotesNew, last_in}
use Rattle.atime_book.proofs.Orders.{IsBelow, IsAbove, none_below}

less : (r : Ordering) → is_lt r ≡ true → r ≡ Less
less Less e = refl
less Equal e = cc
less Greater e = cc

-- each touch stands before a digest that is above the last one read
abbrev Follows : Option (List ℕ) → List Touch → Type 0
Follows before ts = (k : List ℕ) → above before k ≡ true → AllByRecursion (IsBelow k) ts

later : (d k : List ℕ) (ts : List Touch) → text_cmp d k ≡ Less → AllByRecursion (IsBelow d) ts → AllByRecursion (IsBelow k) ts
later d k [] below all = tt
later d k (t ∷ ts) below all = (nat_list_cmp_total.trans t.digest d k all.0 below, later d k ts below all.1)

below_push : (k : List ℕ) (ts : List Touch) (t : Touch) → AllByRecursion (IsBelow k) ts → text_cmp t.digest k ≡ Less → AllByRecursion (IsBelow k) (ts ++ t ∷ [])
below_push k [] t all e = (e, tt)
below_push k (u ∷ ts) t all e = (all.0, below_push k ts t all.1 e)

-- nothing is above what all are below
none_higher : (d : List ℕ) (xs ys : List Touch) → AllByRecursion (IsBelow d) (xs ++ ys) → AllByRecursion (IsAbove d) ys → ys ≡ []
none_higher d [] [] below above = refl
none_higher d [] (y ∷ ys) below above = let both : Less ≡ Greater = sym below.0 ∙ above.0 in cc
none_higher d (x ∷ xs) ys below above = none_higher d xs ys below.1 above

at_end : (old new : Book) (t : Touch) → NotesNew old new t → AllByRecursion (IsBelow t.digest) old.touches → new.touches ≡ old.touches ++ t ∷ []
at_end old new t is below =
    let none = none_higher t.digest is.lower is.higher (subst (AllByRecursion (IsBelow t.digest)) is.before below) (recursion_from_All (IsAbove t.digest) is.higher is.above) in
    let all = is.before ∙ ap (λ ys. is.lower ++ ys) none ∙ append-nil is.lower in
    is.after ∙ ap (λ ys. is.lower ++ t ∷ ys) none ∙ ap (λ xs. xs ++ t ∷ []) (sym all)

-- ---- the loop

pub record ReadsOn (moment : ℕ) (before : Option (List ℕ)) (ts : List Touch) (rest : List Touch) (all : List Touch) : Type 0 where
  pub joined : ts ++ rest ≡ all
  pub passes : pass_from moment before rest ≡ pass_from moment None all
  pub follows : Follows before ts

both : (a b c : Bool) → a ≡ true → b ≡ true → (a && b && c) ≡ c
both a b c p q = ap (λ x. x && b && c) p ∙ ap (λ x. x && c) q

pub not_yet : (moment : ℕ) (before : Option (List ℕ)) (ts : List Touch) (t : Touch) (rest all : List Touch) →
    ReadsOn moment before ts (t ∷ rest) all → above before t.digest ≡ true → last_in ts t.digest ≡ None
not_yet moment before ts t rest all is rises =
    ap (λ us. last_in us t.digest) (sym (append-nil ts)) ∙ none_below t.digest ts [] (is.follows t.digest rises)

pub reads_more : (moment : ℕ) (before : Option (List ℕ)) (old new : Book) (t : Touch) (rest all : List Touch) →
    ReadsOn moment before old.touches (t ∷ rest) all → t.moment ≤ moment → above before t.digest ≡ true → NotesNew old new t →
    ReadsOn moment (Some t.digest) new.touches rest all
reads_more moment before old new t rest all is within rises notes =
    subst (λ us. ReadsOn moment (Some t.digest) us rest all) (sym (at_end old new t notes (is.follows t.digest rises)))
    (record {
      joined = append_assoc old.touches (t ∷ []) rest ∙ is.joined;
      passes = sym (both _ _ _ (le-leb t.moment moment within) rises) ∙ is.passes;
      follows = λ k e. let below = less _ e in
          below_push k old.touches t (later t.digest k old.touches below (is.follows t.digest rises)) below;
    })

fails : (a b c : Bool) → a ≡ false → (a && b && c) ≡ false
fails a b c p = ap (λ x. x && b && c) p

fails_next : (a b c : Bool) → b ≡ false → (a && b && c) ≡ false
fails_next true b c p = ap (λ x. x && c) p
fails_next false b c p = refl

pub late : (moment : ℕ) (before : Option (List ℕ)) (ts : List Touch) (t : Touch) (rest all : List Touch) →
    ReadsOn moment before ts (t ∷ rest) all → moment < t.moment → None ≡ passed moment all
late moment before ts t rest all is after =
    let fact = sym is.passes ∙ fails _ _ _ (lt-leb t.moment moment after) in
    sym (ap (λ b. cond b (Some all) None) fact)

pub falls : (moment : ℕ) (before : Option (List ℕ)) (ts : List Touch) (t : Touch) (rest all : List Touch) →
    ReadsOn moment before ts (t ∷ rest) all → above before t.digest ≡ false → None ≡ passed moment all
falls moment before ts t rest all is low =
    let fact = sym is.passes ∙ fails_next _ _ _ low in
    sym (ap (λ b. cond b (Some all) None) fact)

pub reads_end : (moment : ℕ) (before : Option (List ℕ)) (ts : List Touch) (all : List Touch) →
    ReadsOn moment before ts [] all → Some ts ≡ passed moment all
reads_end moment before ts all is =
    ap Some (sym (append-nil ts) ∙ is.joined) ∙ sym (ap (λ b. cond b (Some all) None) (sym is.passes))

-- ---- cells

pub cells_more : (rest : List ℕ) → 40 ≤ length rest → touches_at rest ≡ touch_of (take 40 rest) ∷ touches_at (drop 40 rest)
unfolding first_cells
cells_more rest long =
    let count : length rest / 40 ≡ suc (length (drop 40 rest) / 40) = omega (arith, length-drop 40 rest) in
    ap (λ n. map touch_of (first_cells 40 n rest)) count

pub cells_none : (rest : List ℕ) → length rest < 40 → touches_at rest ≡ []
unfolding first_cells
cells_none rest short =
    let count : length rest / 40 ≡ 0 = omega arith in
    ap (λ n. map touch_of (first_cells 40 n rest)) count

pub opened : (moment : ℕ) (before : Option (List ℕ)) (ts : List Touch) (rest : List ℕ) (all : List Touch) (t : Touch) →
    ReadsOn moment before ts (touches_at rest) all → 40 ≤ length rest → t ≡ touch_of (take 40 rest) →
    ReadsOn moment before ts (t ∷ touches_at (drop 40 rest)) all
opened moment before ts rest all t is long reads =
    subst (λ us. ReadsOn moment before ts us all) (cells_more rest long ∙ ap (λ u. u ∷ touches_at (drop 40 rest)) (sym reads)) is

pub closed : (moment : ℕ) (before : Option (List ℕ)) (ts : List Touch) (rest : List ℕ) (all : List Touch) →
    ReadsOn moment before ts (touches_at rest) all → length rest < 40 → ReadsOn moment before ts [] all
closed moment before ts rest all is short = subst (λ us. ReadsOn moment before ts us all) (cells_none rest short) is

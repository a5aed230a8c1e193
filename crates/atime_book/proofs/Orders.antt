-- Digests in order, and what is found among touches.
use Rattle.std.proofs.Common.{◌≡◌, ℕ, ◌<◌, max, Bool, true, false, cond, eqb, List, [], ◌∷◌, ◌++◌, refl, sym, ap, ◌∙◌, Some, None, arith}
use Rattle.std.specs.Ordering.{is_eq, ordering_reverse, ordering_then, nat_cmp}
use Rattle.std.specs.declared.cmp.Ordering.{Ordering}
use Rattle.std.specs.declared.cmp.Ordering.TheVariants.{Less, Equal, Greater}
use Rattle.std.specs.Str.{bytes_eq}
use Rattle.std.specs.List.{AllByRecursion}
use Rattle.std.specs.Cmp.Lexicographic.{texts_ties, nat_list_cmp_total}
use Rattle.std.proofs.lemmas.Bool.{lt-ltb}
use Rattle.std.proofs.lemmas.List.Elements.{recursion_from_All}
use Rattle.std.proofs.lemmas.Slice.Eq.{bytes_eq-Decides}
use Rattle.store_types.specs.Names.{text_cmp}
use Rattle.store_files.specs.Book.{Touch, Book}
use Rattle.atime_book.specs.Parts.{number_of}
use Rattle.atime_book.specs.Touches.{last_in, last_of, greatest, NotesNew, TouchedAt, SweptAt}

pub greater : (a b : List ℕ) → text_cmp a b ≡ Less → text_cmp b a ≡ Greater
greater a b e = nat_list_cmp_total.antisymm b a ∙ ap ordering_reverse e

pub less : (a b : List ℕ) → text_cmp a b ≡ Greater → text_cmp b a ≡ Less
less a b e = nat_list_cmp_total.antisymm b a ∙ ap ordering_reverse e

-- the first byte decides
pub lower_less : (a b : List ℕ) → number_of a < number_of b → text_cmp a b ≡ Less
lower_less [] [] low = absurd (omega (arith, low))
lower_less [] (y ∷ ys) low = refl
lower_less (x ∷ xs) [] low = absurd (omega (arith, low))
lower_less (x ∷ xs) (y ∷ ys) low =
    let first : nat_cmp x y ≡ Less = ap (λ b. cond b Less (cond (eqb x y) Equal Greater)) (lt-ltb x y low) in
    ap (λ r. ordering_then r (text_cmp xs ys)) first

pub same_digest : (a b : List ℕ) → text_cmp a b ≡ Equal → a ≡ b
same_digest a b e = (bytes_eq-Decides a b).0 (texts_ties a b ∙ ap is_eq e)

pub unlike : (a b : List ℕ) → text_cmp a b ≡ Greater → bytes_eq a b ≡ false
unlike a b e = texts_ties a b ∙ ap is_eq e

reversed : (r : Ordering) → is_eq (ordering_reverse r) ≡ is_eq r
reversed Less = refl
reversed Equal = refl
reversed Greater = refl

swapped : (a b : List ℕ) → bytes_eq a b ≡ bytes_eq b a
swapped a b = texts_ties a b ∙ ap is_eq (nat_list_cmp_total.antisymm a b) ∙ reversed (text_cmp b a) ∙ sym (texts_ties b a)

-- ---- touches between those below a digest and those above it

abbrev pub IsBelow : List ℕ → Touch → Type 0
IsBelow d t = text_cmp t.digest d ≡ Less

abbrev pub IsAbove : List ℕ → Touch → Type 0
IsAbove d t = text_cmp t.digest d ≡ Greater

pub none_below : (d : List ℕ) (xs ys : List Touch) → AllByRecursion (IsBelow d) xs → last_in (xs ++ ys) d ≡ last_in ys d
none_below d [] ys all = refl
none_below d (x ∷ xs) ys all =
    ap (λ b. cond b (Some x.moment) (last_in (xs ++ ys) d)) (unlike d x.digest (greater x.digest d all.0)) ∙ none_below d xs ys all.1

none_above : (d : List ℕ) (ys : List Touch) → AllByRecursion (IsAbove d) ys → last_in ys d ≡ None
none_above d [] all = refl
none_above d (y ∷ ys) all =
    ap (λ b. cond b (Some y.moment) (last_in ys d)) (swapped d y.digest ∙ unlike y.digest d all.0) ∙ none_above d ys all.1

pub missing : (d : List ℕ) (xs ys : List Touch) → AllByRecursion (IsBelow d) xs → AllByRecursion (IsAbove d) ys → last_in (xs ++ ys) d ≡ None
missing d xs ys below above = none_below d xs ys below ∙ none_above d ys above

pub inserted : (t : Touch) (q : List ℕ) (xs ys : List Touch) → AllByRecursion (IsBelow t.digest) xs →
    last_in (xs ++ t ∷ ys) q ≡ cond (bytes_eq t.digest q) (Some t.moment) (last_in (xs ++ ys) q)
inserted t q [] ys below = ap (λ b. cond b (Some t.moment) (last_in ys q)) (swapped q t.digest)
inserted t q (x ∷ xs) ys below = by_test (bytes_eq q x.digest) refl (inserted t q xs ys below.1)
  where
    by_test : (b : Bool) → bytes_eq q x.digest ≡ b →
        last_in (xs ++ t ∷ ys) q ≡ cond (bytes_eq t.digest q) (Some t.moment) (last_in (xs ++ ys) q) →
        cond b (Some x.moment) (last_in (xs ++ t ∷ ys) q) ≡ cond (bytes_eq t.digest q) (Some t.moment) (cond b (Some x.moment) (last_in (xs ++ ys) q))
    by_test false is rest = rest
    by_test true is rest =
        let other = ap (bytes_eq t.digest) ((bytes_eq-Decides q x.digest).0 is) ∙ unlike t.digest x.digest (greater x.digest t.digest below.0) in
        ap (λ b. cond b (Some t.moment) (Some x.moment)) (sym other)

pub found : (t : Touch) (xs ys : List Touch) → AllByRecursion (IsBelow t.digest) xs → last_in (xs ++ t ∷ ys) t.digest ≡ Some t.moment
found t xs ys below =
    inserted t t.digest xs ys below ∙ ap (λ b. cond b (Some t.moment) (last_in (xs ++ ys) t.digest)) ((bytes_eq-Decides t.digest t.digest).1 refl)

-- ---- what changes

pub touched_new : (old new : Book) (t : Touch) → NotesNew old new t → last_of old t.digest ≡ None → TouchedAt old new t.digest t.moment
touched_new old new t is none = record { read = is.read; last = last }
  where
    by_test : (q : List ℕ) (b : Bool) → bytes_eq t.digest q ≡ b →
        cond b (Some t.moment) (last_of old q) ≡ cond b (Some (greatest (last_of old q) t.moment)) (last_of old q)
    by_test q false same = refl
    by_test q true same =
        let absent = ap (last_of old) (sym ((bytes_eq-Decides t.digest q).0 same)) ∙ none in
        ap (λ o. Some (greatest o t.moment)) (sym absent)

    last : (q : List ℕ) → last_of new q ≡ cond (bytes_eq t.digest q) (Some (greatest (last_of old q) t.moment)) (last_of old q)
    last q =
        ap (λ ts. last_in ts q) is.after ∙ inserted t q is.lower is.higher (recursion_from_All (IsBelow t.digest) is.lower is.below)
        ∙ ap (λ ts. cond (bytes_eq t.digest q) (Some t.moment) (last_in ts q)) (sym is.before)
        ∙ by_test q (bytes_eq t.digest q) refl

pub raised : (moment : ℕ) (t : Touch) (w when : ℕ) (xs ys : List Touch) → AllByRecursion (IsBelow t.digest) xs → w ≡ max t.moment when →
    TouchedAt (record { moment = moment; touches = xs ++ t ∷ ys }) (record { moment = moment; touches = xs ++ record { digest = t.digest; moment = w } ∷ ys }) t.digest when
raised moment t w when xs ys below is = record {
  read = refl;
  last = λ q. inserted (record { digest = t.digest; moment = w }) q xs ys below ∙ by_test q (bytes_eq t.digest q) refl;
}
  where
    old : (q : List ℕ) (b : Bool) → bytes_eq t.digest q ≡ b → last_in (xs ++ t ∷ ys) q ≡ cond b (Some t.moment) (last_in (xs ++ ys) q)
    old q b same = inserted t q xs ys below ∙ ap (λ b. cond b (Some t.moment) (last_in (xs ++ ys) q)) same

    by_test : (q : List ℕ) (b : Bool) → bytes_eq t.digest q ≡ b →
        cond b (Some w) (last_in (xs ++ ys) q) ≡ cond b (Some (greatest (last_in (xs ++ t ∷ ys) q) when)) (last_in (xs ++ t ∷ ys) q)
    by_test q false same = sym (old q false same)
    by_test q true same = ap Some (is ∙ ap (λ o. greatest o when) (sym (old q true same)))

pub swept : (moment : ℕ) (t : Touch) (xs ys : List Touch) → AllByRecursion (IsBelow t.digest) xs → AllByRecursion (IsAbove t.digest) ys →
    SweptAt (record { moment = moment; touches = xs ++ t ∷ ys }) (record { moment = moment; touches = xs ++ ys }) t.digest true
swept moment t xs ys below above = record { read = refl; last = λ q. by_test q (bytes_eq t.digest q) refl }
  where
    by_test : (q : List ℕ) (b : Bool) → bytes_eq t.digest q ≡ b → last_in (xs ++ ys) q ≡ cond b None (last_in (xs ++ t ∷ ys) q)
    by_test q true same = ap (last_in (xs ++ ys)) (sym ((bytes_eq-Decides t.digest q).0 same)) ∙ missing t.digest xs ys below above
    by_test q false same = sym (inserted t q xs ys below ∙ ap (λ b. cond b (Some t.moment) (last_in (xs ++ ys) q)) same)

pub swept_none : (book : Book) (d : List ℕ) → last_of book d ≡ None → SweptAt book book d true
swept_none book d none = record { read = refl; last = λ q. by_test q (bytes_eq d q) refl }
  where
    by_test : (q : List ℕ) (b : Bool) → bytes_eq d q ≡ b → last_of book q ≡ cond b None (last_of book q)
    by_test q true same = ap (last_of book) (sym ((bytes_eq-Decides d q).0 same)) ∙ none
    by_test q false same = refl

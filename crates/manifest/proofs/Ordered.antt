-- Files in byte order of their names.
use Rattle.std.proofs.Common.{◌≡◌, ℕ, List, [], ◌∷◌, Bool, true, false, cond, Option, Some, None, refl, sym, ap, ◌∙◌}
use Rattle.std.specs.List.{filter}
use Rattle.std.specs.Str.{bytes_eq}
use Rattle.std.specs.Ordering.{is_lt, is_gt, ordering_reverse}
use Rattle.std.specs.declared.cmp.Ordering.{Ordering}
use Rattle.std.specs.declared.cmp.Ordering.TheVariants.{Less, Equal, Greater}
use Rattle.std.specs.Cmp.Lexicographic.{nat_list_cmp_total}
use Rattle.std.proofs.lemmas.Cmp.{upto, tied_itself}
use Rattle.std.proofs.lemmas.Slice.Eq.{bytes_eq-Decides}
use Rattle.store_types.specs.Names.{name_lt, text_cmp}
use Rattle.store_files.specs.Manifest.Fields.{Fact}
use Rattle.store_files.specs.Manifest.Mismatch.{fact_named}
use Rattle.manifest.specs.Checking.{placed, in_order}
use Rattle.manifest.specs.Least.{lesser}

-- ---- names

less_back : (o : Ordering) → is_lt (ordering_reverse o) ≡ is_gt o
less_back Less = refl
less_back Equal = refl
less_back Greater = refl

greater : (a b : List ℕ) → name_lt b a ≡ is_gt (text_cmp a b)
greater a b = ap is_lt (nat_list_cmp_total.antisymm b a) ∙ less_back (text_cmp a b)

-- what is not less stays so along the order
pub not_less : (a b c : List ℕ) → name_lt b a ≡ false → name_lt c b ≡ false → name_lt c a ≡ false
not_less a b c e f = greater a c ∙ upto nat_list_cmp_total a b c (sym (greater a b) ∙ e) (sym (greater b c) ∙ f)

pub not_itself : (a : List ℕ) → name_lt a a ≡ false
not_itself a = ap is_lt (tied_itself nat_list_cmp_total a)

one_way : (o : Ordering) → is_lt o ≡ true → is_gt o ≡ false
one_way Less e = refl
one_way Equal e = cc
one_way Greater e = cc

pub not_back : (a b : List ℕ) → name_lt a b ≡ true → name_lt b a ≡ false
not_back a b e = greater a b ∙ one_way (text_cmp a b) e

no_name : (a b : List ℕ) → bytes_eq a b ≡ true → name_lt a b ≡ false
no_name a b e = ap (λ x. name_lt a x) (sym ((bytes_eq-Decides a b).0 e)) ∙ not_itself a

-- ---- the lesser of two

lesser-three : (x y z : List ℕ) (zy yx : Bool) → name_lt z y ≡ zy → name_lt y x ≡ yx → lesser (Some x) (cond zy (Some z) (Some y)) ≡ lesser (cond yx (Some y) (Some x)) (Some z)
lesser-three x y z true true e f = by_third (name_lt z x) refl
  where
    by_third : (b : Bool) → name_lt z x ≡ b → cond b (Some z) (Some x) ≡ cond (name_lt z y) (Some z) (Some y)
    by_third true g = sym (ap (λ b. cond b (Some z) (Some y)) e)
    by_third false g = let both = sym f ∙ not_less x z y g (not_back z y e) in cc
lesser-three x y z true false e f = refl
lesser-three x y z false true e f = ap (λ b. cond b (Some y) (Some x)) f ∙ sym (ap (λ b. cond b (Some z) (Some y)) e)
lesser-three x y z false false e f = ap (λ b. cond b (Some y) (Some x)) f ∙ sym (ap (λ b. cond b (Some z) (Some x)) (not_less x y z f e))

pub lesser-assoc : (a b c : Option (List ℕ)) → lesser a (lesser b c) ≡ lesser (lesser a b) c
lesser-assoc None b c = refl
lesser-assoc (Some x) None c = refl
lesser-assoc (Some x) (Some y) None = by_test (name_lt y x)
  where
    by_test : (b : Bool) → cond b (Some y) (Some x) ≡ lesser (cond b (Some y) (Some x)) None
    by_test true = refl
    by_test false = refl
lesser-assoc (Some x) (Some y) (Some z) = lesser-three x y z (name_lt z y) (name_lt y x) refl refl

pub lesser-none : (a : Option (List ℕ)) → lesser a None ≡ a
lesser-none None = refl
lesser-none (Some x) = refl

-- ---- lists in order

-- no name is less than this one
abbrev pub AllFrom : List ℕ → List Fact → Type 0
AllFrom m [] = Unit {0}
AllFrom m (g ∷ gs) = (name_lt g.name m ≡ false) × AllFrom m gs

abbrev pub Rises : List Fact → Type 0
Rises [] = Unit {0}
Rises (g ∷ gs) = AllFrom g.name gs × Rises gs

from_less : (m n : List ℕ) (gs : List Fact) → name_lt n m ≡ false → AllFrom n gs → AllFrom m gs
from_less m n [] e h = tt
from_less m n (g ∷ gs) e h = (not_less m n g.name e h.0, from_less m n gs e h.1)

placed-from : (m : List ℕ) (f : Fact) (gs : List Fact) → name_lt f.name m ≡ false → AllFrom m gs → AllFrom m (placed f gs)
placed-from m f [] e h = (e, tt)
placed-from m f (g ∷ gs) e h = by_test (name_lt g.name f.name) (placed-from m f gs e h.1)
  where
    by_test : (b : Bool) → AllFrom m (placed f gs) → AllFrom m (cond b (g ∷ placed f gs) (f ∷ g ∷ gs))
    by_test true others = (h.0, others)
    by_test false others = (e, h)

placed-rises : (f : Fact) (gs : List Fact) → Rises gs → Rises (placed f gs)
placed-rises f [] h = (tt, tt)
placed-rises f (g ∷ gs) h = by_test (name_lt g.name f.name) refl (placed-rises f gs h.1)
  where
    by_test : (b : Bool) → name_lt g.name f.name ≡ b → Rises (placed f gs) → Rises (cond b (g ∷ placed f gs) (f ∷ g ∷ gs))
    by_test true e others = (placed-from g.name f gs (not_back g.name f.name e) h.0, others)
    by_test false e others = ((e, from_less f.name g.name gs e h.0), h)

pub in_order-rises : (fs : List Fact) → Rises (in_order fs)
in_order-rises [] = tt
in_order-rises (f ∷ fs) = placed-rises f (in_order fs) (in_order-rises fs)

placed-first : (f : Fact) (gs : List Fact) → AllFrom f.name gs → placed f gs ≡ f ∷ gs
placed-first f [] h = refl
placed-first f (g ∷ gs) h = ap (λ b. cond b (g ∷ placed f gs) (f ∷ g ∷ gs)) h.0

-- what is in order stays as it is
pub in_order-same : (fs : List Fact) → Rises fs → in_order fs ≡ fs
in_order-same [] h = refl
in_order-same (f ∷ fs) h = ap (placed f) (in_order-same fs h.1) ∙ placed-first f fs h.0

filter-from : (keeps : Fact → Bool) (m : List ℕ) (fs : List Fact) → AllFrom m fs → AllFrom m (filter keeps fs)
filter-from keeps m [] h = tt
filter-from keeps m (f ∷ fs) h = by_test (keeps f) (filter-from keeps m fs h.1)
  where
    by_test : (b : Bool) → AllFrom m (filter keeps fs) → AllFrom m (cond b (f ∷ filter keeps fs) (filter keeps fs))
    by_test true others = (h.0, others)
    by_test false others = others

pub filter-rises : (keeps : Fact → Bool) (fs : List Fact) → Rises fs → Rises (filter keeps fs)
filter-rises keeps [] h = tt
filter-rises keeps (f ∷ fs) h = by_test (keeps f) (filter-rises keeps fs h.1)
  where
    by_test : (b : Bool) → Rises (filter keeps fs) → Rises (cond b (f ∷ filter keeps fs) (filter keeps fs))
    by_test true others = (filter-from keeps f.name fs h.0, others)
    by_test false others = others

-- ---- by name

pub named-placed : (name : List ℕ) (f : Fact) (gs : List Fact) → fact_named name (placed f gs) ≡ cond (bytes_eq f.name name) (Some f) (fact_named name gs)
named-placed name f [] = refl
named-placed name f (g ∷ gs) = by_test (name_lt g.name f.name) refl (named-placed name f gs)
  where
    by_names : (a b : Bool) → bytes_eq f.name name ≡ a → bytes_eq g.name name ≡ b → name_lt g.name f.name ≡ true
        → cond b (Some g) (cond a (Some f) (fact_named name gs)) ≡ cond a (Some f) (cond b (Some g) (fact_named name gs))
    by_names true true e h l =
        let same : g.name ≡ f.name = (bytes_eq-Decides g.name name).0 h ∙ sym ((bytes_eq-Decides f.name name).0 e) in
        let none = sym l ∙ no_name g.name f.name ((bytes_eq-Decides g.name f.name).1 same) in
        cc
    by_names true false e h l = refl
    by_names false true e h l = refl
    by_names false false e h l = refl

    by_test : (b : Bool) → name_lt g.name f.name ≡ b → fact_named name (placed f gs) ≡ cond (bytes_eq f.name name) (Some f) (fact_named name gs)
        → fact_named name (cond b (g ∷ placed f gs) (f ∷ g ∷ gs)) ≡ cond (bytes_eq f.name name) (Some f) (fact_named name (g ∷ gs))
    by_test true l others = ap (cond (bytes_eq g.name name) (Some g)) others ∙ by_names (bytes_eq f.name name) (bytes_eq g.name name) refl refl l
    by_test false l others = refl

-- ---- the first that fails a test

module _ (skips : List ℕ → Bool) where
  abbrev pub kept : List ℕ → Option (List ℕ)
  kept name = cond (skips name) None (Some name)

  abbrev pub first_kept : List Fact → Option (List ℕ)
  first_kept [] = None
  first_kept (g ∷ gs) = cond (skips g.name) (first_kept gs) (Some g.name)

  above : (m : List ℕ) (gs : List Fact) → AllFrom m gs → lesser (Some m) (first_kept gs) ≡ Some m
  above m [] h = refl
  above m (g ∷ gs) h = by_test (skips g.name) (above m gs h.1)
    where
      by_test : (b : Bool) → lesser (Some m) (first_kept gs) ≡ Some m → lesser (Some m) (cond b (first_kept gs) (Some g.name)) ≡ Some m
      by_test true others = others
      by_test false others = ap (λ b. cond b (Some g.name) (Some m)) h.0

  pub first_kept-placed : (f : Fact) (gs : List Fact) → Rises gs → first_kept (placed f gs) ≡ lesser (kept f.name) (first_kept gs)
  first_kept-placed f [] h = sym (lesser-none (kept f.name))
  first_kept-placed f (g ∷ gs) h = by_test (name_lt g.name f.name) refl (first_kept-placed f gs h.1)
    where
      behind : (a b : Bool) → name_lt g.name f.name ≡ true → first_kept (placed f gs) ≡ lesser (cond a None (Some f.name)) (first_kept gs)
          → cond b (first_kept (placed f gs)) (Some g.name) ≡ lesser (cond a None (Some f.name)) (cond b (first_kept gs) (Some g.name))
      behind a true l others = others
      behind true false l others = refl
      behind false false l others = sym (ap (λ b. cond b (Some g.name) (Some f.name)) l)

      before : (a : Bool) → AllFrom f.name (g ∷ gs) → cond a (first_kept (g ∷ gs)) (Some f.name) ≡ lesser (cond a None (Some f.name)) (first_kept (g ∷ gs))
      before true all = refl
      before false all = sym (above f.name (g ∷ gs) all)

      by_test : (b : Bool) → name_lt g.name f.name ≡ b → first_kept (placed f gs) ≡ lesser (kept f.name) (first_kept gs)
          → first_kept (cond b (g ∷ placed f gs) (f ∷ g ∷ gs)) ≡ lesser (kept f.name) (first_kept (g ∷ gs))
      by_test true l others = behind (skips f.name) (skips g.name) l others
      by_test false l others = before (skips f.name) (l, from_less f.name g.name gs l h.0)

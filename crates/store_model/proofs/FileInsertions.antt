-- What a file in its place among others leaves true.
use Rattle.std.proofs.Common.{◌≡◌, ℕ, ◌+◌, Bool, true, false, cond, ◌&&◌, length, List, [], ◌∷◌, ◌++◌, Some, None, refl, sym, ap, ◌∙◌, arith}
use Rattle.std.proofs.lemmas.Bool.{and_parts, and_from, cond_both, or_parts}
use Rattle.std.proofs.lemmas.Cmp.{nat_list_cmp_total}
use Rattle.std.proofs.lemmas.List.Elements.{All-nil, All-cons, All-head, All-tail, All-append, All-weaker}
use Rattle.std.proofs.lemmas.Map.Text.{is_eq-slice_cmp}
use Rattle.std.proofs.lemmas.Slice.Eq.{bytes_eq-Decides}
use Rattle.std.specs.List.{All, flat_map, list_any}
use Rattle.std.specs.Ordering.{is_eq, is_lt}
use Rattle.std.specs.Str.{bytes_eq}
use Rattle.std.specs.declared.cmp.Ordering.{Ordering}
use Rattle.std.specs.declared.cmp.Ordering.TheVariants.{Less, Equal, Greater}
use Rattle.store_types.specs.Names.{text_cmp, name_lt}
use Rattle.store_files.specs.Archive.{File, file_named}
use Rattle.store_model.specs.Store.{insert_file}
use Rattle.store_model.specs.Stands.{names_rise}
use Rattle.store_model.proofs.Insertions.{lt_back}

pub All-insert_file : (P : File → Type 0) (new : File) (fs : List File) → P new → All P fs → All P (insert_file new fs)
All-insert_file P new [] p h = All-cons P new [] p h
All-insert_file P new (f ∷ fs) p h =
    cond_both (name_lt new.name f.name) (new ∷ f ∷ fs) (f ∷ insert_file new fs) (All P)
    (λ _. All-cons P new (f ∷ fs) p h)
    (λ _. All-cons P f (insert_file new fs) (All-head P f fs h) (All-insert_file P new fs p (All-tail P f fs h)))

pub length-insert_file : (new : File) (fs : List File) → length (insert_file new fs) ≡ length fs + 1
length-insert_file new [] = omega arith
length-insert_file new (f ∷ fs) =
    cond_both (name_lt new.name f.name) (new ∷ f ∷ fs) (f ∷ insert_file new fs) (λ l. length l ≡ length (f ∷ fs) + 1)
    (λ _. omega arith)
    (λ _. omega (arith, length-insert_file new fs))

-- what holds of all that one file gives, and of all that the others give
pub All-flat_map-insert_file : {A : Type 0} (P : A → Type 0) (g : File → List A) (new : File) (fs : List File) → All P (g new) → All P (flat_map g fs) → All P (flat_map g (insert_file new fs))
All-flat_map-insert_file P g new [] p h = All-append P (g new) [] p h
All-flat_map-insert_file {A} P g new (f ∷ fs) p h =
    cond_both (name_lt new.name f.name) (new ∷ f ∷ fs) (f ∷ insert_file new fs) (λ l. All P (flat_map g l))
    (λ _. All-append P (g new) (flat_map g (f ∷ fs)) p h)
    (λ _. All-append P (g f) (flat_map g (insert_file new fs)) (front (g f) (flat_map g fs) h)
    (All-flat_map-insert_file P g new fs p (back (g f) (flat_map g fs) h)))
  where
    front : (xs ys : List A) → All P (xs ++ ys) → All P xs
    front [] ys h = All-nil P
    front (x ∷ xs) ys h = All-cons P x xs (All-head P x (xs ++ ys) h) (front xs ys (All-tail P x (xs ++ ys) h))

    back : (xs ys : List A) → All P (xs ++ ys) → All P ys
    back [] ys h = h
    back (x ∷ xs) ys h = back xs ys (All-tail P x (xs ++ ys) h)

-- ---- names

true_false : true ≡ false → ⊥
true_false e = cc

some_same : {A : Type 0} (x y : A) → Some x ≡ Some y → x ≡ y
some_same x y e = cc

none_some : {A : Type 0} (x : A) → None ≡ Some x → ⊥
none_some x e = cc

-- no file has the name
abbrev pub is_free : List ℕ → List File → Type 0
is_free name fs = list_any (λ f. bytes_eq f.name name) fs ≡ false

pub file_named-insert_other : (name : List ℕ) (new : File) (fs : List File) → bytes_eq new.name name ≡ false → file_named name (insert_file new fs) ≡ file_named name fs
file_named-insert_other name new [] e = ap (λ b. cond b (Some new) None) e
file_named-insert_other name new (f ∷ fs) e =
    cond_both (name_lt new.name f.name) (new ∷ f ∷ fs) (f ∷ insert_file new fs) (λ l. file_named name l ≡ file_named name (f ∷ fs))
    (λ _. ap (λ b. cond b (Some new) (file_named name (f ∷ fs))) e)
    (λ _. ap (λ o. cond (bytes_eq f.name name) (Some f) o) (file_named-insert_other name new fs e))

pub file_named-insert_new : (name : List ℕ) (new : File) (fs : List File) → bytes_eq new.name name ≡ true → is_free name fs → file_named name (insert_file new fs) ≡ Some new
file_named-insert_new name new [] e free = ap (λ b. cond b (Some new) None) e
file_named-insert_new name new (f ∷ fs) e free =
    let both = or_parts (bytes_eq f.name name) (list_any (λ g. bytes_eq g.name name) fs) free in
    cond_both (name_lt new.name f.name) (new ∷ f ∷ fs) (f ∷ insert_file new fs) (λ l. file_named name l ≡ Some new)
    (λ _. ap (λ b. cond b (Some new) (file_named name (f ∷ fs))) e)
    (λ _. ap (λ b. cond b (Some f) (file_named name (insert_file new fs))) both.0 ∙ file_named-insert_new name new fs e both.1)

-- ---- order

abbrev rises_from : List ℕ → List File → Bool
rises_from name [] = true
rises_from name (f ∷ fs) = name_lt name f.name && names_rise (f ∷ fs)

rises_from_is : (f : File) (fs : List File) → names_rise (f ∷ fs) ≡ rises_from f.name fs
rises_from_is f [] = refl
rises_from_is f (g ∷ fs) = refl

pub names_rise-tail : (f : File) (fs : List File) → names_rise (f ∷ fs) ≡ true → names_rise fs ≡ true
names_rise-tail f [] h = refl
names_rise-tail f (g ∷ fs) h = (and_parts (name_lt f.name g.name) (names_rise (g ∷ fs)) h).1

rises_from-insert : (name : List ℕ) (new : File) (fs : List File) → name_lt name new.name ≡ true → rises_from name fs ≡ true → names_rise (insert_file new fs) ≡ true → rises_from name (insert_file new fs) ≡ true
rises_from-insert name new [] lt h rise = and_from (name_lt name new.name) true lt refl
rises_from-insert name new (f ∷ fs) lt h rise = by_test (name_lt new.name f.name) rise
  where
    by_test : (b : Bool) → names_rise (cond b (new ∷ f ∷ fs) (f ∷ insert_file new fs)) ≡ true → rises_from name (cond b (new ∷ f ∷ fs) (f ∷ insert_file new fs)) ≡ true
    by_test true r = and_from (name_lt name new.name) (names_rise (new ∷ f ∷ fs)) lt r
    by_test false r = and_from (name_lt name f.name) (names_rise (f ∷ insert_file new fs)) (and_parts (name_lt name f.name) (names_rise (f ∷ fs)) h).0 r

pub names_rise-insert : (new : File) (fs : List File) → is_free new.name fs → names_rise fs ≡ true → names_rise (insert_file new fs) ≡ true
names_rise-insert new [] free h = refl
names_rise-insert new (f ∷ fs) free h =
    let both = or_parts (bytes_eq f.name new.name) (list_any (λ g. bytes_eq g.name new.name) fs) free in
    by_test (name_lt new.name f.name) refl both.0 (names_rise-insert new fs both.1 (names_rise-tail f fs h))
  where
    by_test : (b : Bool) → name_lt new.name f.name ≡ b → bytes_eq f.name new.name ≡ false → names_rise (insert_file new fs) ≡ true → names_rise (cond b (new ∷ f ∷ fs) (f ∷ insert_file new fs)) ≡ true
    by_test true e other later = and_from (name_lt new.name f.name) (names_rise (f ∷ fs)) e h
    by_test false e other later =
        rises_from_is f (insert_file new fs)
        ∙ rises_from-insert f.name new fs (lt_back text_cmp nat_list_cmp_total new.name f.name e (is_eq-slice_cmp f.name new.name ∙ other)) (sym (rises_from_is f fs) ∙ h) later

-- ---- one file of a name

is_less : (o : Ordering) → is_lt o ≡ true → o ≡ Less
is_less Less e = refl
is_less Equal e = cc
is_less Greater e = cc

less_than : (a b c : List ℕ) → name_lt a b ≡ true → name_lt b c ≡ true → name_lt a c ≡ true
less_than a b c one two = ap is_lt (nat_list_cmp_total.trans a b c (is_less (text_cmp a b) one) (is_less (text_cmp b c) two))

above : (f : File) (fs : List File) → names_rise (f ∷ fs) ≡ true → All (λ g. name_lt f.name g.name ≡ true) fs
above f [] h = All-nil (λ g. name_lt f.name g.name ≡ true)
above f (g ∷ fs) h =
    let both = and_parts (name_lt f.name g.name) (names_rise (g ∷ fs)) h in
    All-cons (λ x. name_lt f.name x.name ≡ true) g fs both.0
    (All-weaker (λ x. name_lt g.name x.name ≡ true) (λ x. name_lt f.name x.name ≡ true) (λ x lt. less_than f.name g.name x.name both.0 lt) fs (above g fs both.1))

less_itself : (o : Ordering) → is_lt o ≡ true → is_eq o ≡ true → ⊥
less_itself Less e f = cc
less_itself Equal e f = cc
less_itself Greater e f = cc

not_less : (a b : List ℕ) → name_lt a b ≡ true → a ≡ b → ⊥
not_less a b lt e = less_itself (text_cmp a b) lt (is_eq-slice_cmp a b ∙ (bytes_eq-Decides a b).1 e)

-- what has the name is what is found
abbrev pub IsOnly : List ℕ → File → File → Type 0
IsOnly name g f = f.name ≡ name → f ≡ g

pub only_named : (name : List ℕ) (fs : List File) (g : File) → names_rise fs ≡ true → file_named name fs ≡ Some g → All (IsOnly name g) fs
only_named name [] g h found = All-nil (IsOnly name g)
only_named name (f ∷ fs) g h found =
    by_test (bytes_eq f.name name) refl found (above f fs h) (λ later. only_named name fs g (names_rise-tail f fs h) later)
  where
    by_test : (b : Bool) → bytes_eq f.name name ≡ b → cond b (Some f) (file_named name fs) ≡ Some g → All (λ x. name_lt f.name x.name ≡ true) fs
        → (file_named name fs ≡ Some g → All (IsOnly name g) fs) → All (IsOnly name g) (f ∷ fs)
    by_test true e is high go =
        All-cons (IsOnly name g) f fs (λ _. some_same f g is)
        (All-weaker (λ x. name_lt f.name x.name ≡ true) (IsOnly name g) (λ x lt same. absurd (not_less f.name x.name lt ((bytes_eq-Decides f.name name).0 e ∙ sym same))) fs high)
    by_test false e is high go =
        All-cons (IsOnly name g) f fs (λ same. absurd (true_false (sym ((bytes_eq-Decides f.name name).1 same) ∙ e))) (go is)

-- Lists one behind another.
use Rattle.std.proofs.Common.{◌≡◌, List, [], ◌∷◌, ◌++◌, map, Option, Some, None, refl, sym, ap, ◌∙◌}
use Rattle.std.specs.List.{cons_option}
use Rattle.std.proofs.lemmas.List.{append-nil}

map_append : {A B : Type 0} (f : A → B) (xs ys : List A) → map f (xs ++ ys) ≡ map f xs ++ map f ys
map_append f [] ys = refl
map_append f (x ∷ xs) ys = ap (λ l. f x ∷ l) (map_append f xs ys)

-- three lists one behind another
pub three : {A B : Type 0} (f : A → B) (xs ys zs two all : List A) (p q r : List B) → two ≡ xs ++ ys → all ≡ two ++ zs → map f xs ≡ p → map f ys ≡ q → map f zs ≡ r → map f all ≡ p ++ q ++ r
three f xs ys zs two all p q r a b x y z =
    ap (map f) (b ∙ ap (λ l. l ++ zs) a) ∙ map_append f (xs ++ ys) zs ∙ ap (λ l. l ++ map f zs) (map_append f xs ys)
    ∙ ap (λ l. (l ++ map f ys) ++ map f zs) x ∙ ap (λ l. (p ++ l) ++ map f zs) y ∙ ap (λ l. (p ++ q) ++ l) z

pub none_behind : {A : Type 0} (xs : List A) (o : Option A) → o ≡ None → xs ≡ xs ++ cons_option o []
none_behind xs o e = sym (ap (λ p. xs ++ cons_option p []) e ∙ append-nil xs)

pub one_behind : {A : Type 0} (xs ys : List A) (o : Option A) (x : A) → o ≡ Some x → ys ≡ xs ++ x ∷ [] → ys ≡ xs ++ cons_option o []
one_behind xs ys o x e is = is ∙ sym (ap (λ p. xs ++ cons_option p []) e)

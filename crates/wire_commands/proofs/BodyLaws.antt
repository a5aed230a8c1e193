-- What is read of a whole body.
use Rattle.std.proofs.Common.{◌≡◌, ℕ, List, [], ◌∷◌, ◌++◌, length, cond, eqb, Bool, true, false, Option, Some, None, refl, sym, ap, subst, ◌∙◌, append-nil}
use Rattle.store_types.specs.Chain.Reading.{◌>>=◌}
use Rattle.wire_frames.specs.Frames.{AreBytes}
use Rattle.wire_commands.specs.Fields.{Read, whole}
use Rattle.wire_commands.proofs.FieldLaws.{found, both, both_field, IsField, bind_some, if_some, nothing_left, whole_some, again_alone}

-- What the fields behind a number make is spelled so.
abbrev pub Spells : {A : Type 0} → (A → List ℕ) → (A → Type 0) → List ℕ → ℕ → Option A → Type 0
Spells {A} spelled Fits bytes n made = (x : A) → made ≡ Some x → Fits x × (n ∷ bytes ≡ spelled x)

abbrev pub some : {A : Type 0} → A → Option A
some x = Some x

pub some_is : {A : Type 0} (x y : A) → some x ≡ some y → x ≡ y
some_is x y e = cc

pub value_spells : {A : Type 0} (spelled : A → List ℕ) (Fits : A → Type 0) (bytes : List ℕ) (n : ℕ) (x : A) → Fits x → n ∷ bytes ≡ spelled x → Spells spelled Fits bytes n (Some x)
value_spells spelled Fits bytes n x fits e y is =
    let same = some_is x y is in
    (subst Fits same fits, e ∙ ap spelled same)

pub none_spells : {A : Type 0} (spelled : A → List ℕ) (Fits : A → Type 0) (bytes : List ℕ) (n : ℕ) → Spells spelled Fits bytes n None
none_spells spelled Fits bytes n y is = absurd cc

-- a field that is the whole rest of a body
pub whole_is : {A : Type 0} {read : List ℕ → Read A} {part : A → List ℕ} {PartFits : A → Type 0} → IsField read part PartFits → (bytes : List ℕ) → AreBytes bytes
    → (x : A) → whole (read bytes) ≡ Some x → (bytes ≡ part x) × PartFits x
whole_is {A} {read} {part} field bytes fits x e =
    let taken = field.takes bytes fits x [] (whole_some (read bytes) x e) in
    (taken.0 ∙ append-nil (part x), taken.2)

pub whole_again : {A : Type 0} {read : List ℕ → Read A} {part : A → List ℕ} {PartFits : A → Type 0} → IsField read part PartFits → (x : A) → PartFits x → whole (read (part x)) ≡ Some x
whole_again field x fits = rw (again_alone field x fits) refl

pub one_spells : {A B : Type 0} {read : List ℕ → Read A} {part : A → List ℕ} {PartFits : A → Type 0} (spelled : B → List ℕ) (Fits : B → Type 0) → IsField read part PartFits
    → (make : A → B) (bytes : List ℕ) (n : ℕ) → AreBytes bytes → ((x : A) → n ∷ part x ≡ spelled (make x)) → ((x : A) → PartFits x → Fits (make x))
    → Spells spelled Fits bytes n (whole (read bytes) >>= (λ x. Some (make x)))
one_spells {A} {B} {read} spelled Fits field make bytes n bytes_fit same fits y e =
    let x = bind_some (whole (read bytes)) (λ x. some (make x)) y e in
    let is = whole_is field bytes bytes_fit x.0 x.1 in
    value_spells spelled Fits bytes n (make x.0) (fits x.0 is.1) (ap (λ (t : List ℕ). n ∷ t) is.0 ∙ same x.0) y x.2

pub one_again : {A B : Type 0} {read : List ℕ → Read A} {part : A → List ℕ} {PartFits : A → Type 0} → IsField read part PartFits
    → (make : A → B) (x : A) → PartFits x → (whole (read (part x)) >>= (λ y. Some (make y))) ≡ Some (make x)
one_again field make x fits = rw (whole_again field x fits) refl

pub nothing_spells : {A : Type 0} (spelled : A → List ℕ) (Fits : A → Type 0) (bytes : List ℕ) (n : ℕ) (x : A) → Fits x → n ∷ [] ≡ spelled x
    → Spells spelled Fits bytes n (cond (eqb (length bytes) 0) (Some x) None)
nothing_spells spelled Fits bytes n x fits e y is =
    let held = if_some (eqb (length bytes) 0) x y is in
    let no_more : bytes ≡ [] = nothing_left bytes held.0 in
    value_spells spelled Fits bytes n x fits (ap (λ (t : List ℕ). n ∷ t) no_more ∙ e) y (ap some held.1)

-- ---- two fields

both_whole : {A B C : Type 0} (r : Read A) (second : List ℕ → Read B) (make : A → B → C)
    → (r >>= (λ x. whole (second x.1) >>= (λ y. Some (make x.0 y)))) ≡ (whole (r >>= (λ x. second x.1 >>= (λ y. found (x.0, y.0) y.1))) >>= (λ (p : A × B). Some (make p.0 p.1)))
both_whole None second make = refl
both_whole {A} {B} {C} (Some x) second make = inner (second x.1)
  where
    inner : (r : Read B) → (whole r >>= (λ y. Some (make x.0 y))) ≡ (whole (r >>= (λ y. found (x.0, y.0) y.1)) >>= (λ (p : A × B). Some (make p.0 p.1)))
    inner None = refl
    inner (Some y) = left (eqb (length y.1) 0)
      where
        left : (b : Bool) → (cond b (Some y.0) None >>= (λ z. Some (make x.0 z))) ≡ (cond b (Some (x.0, y.0)) None >>= (λ (p : A × B). Some (make p.0 p.1)))
        left true = refl
        left false = refl

pub two_spells : {A B C : Type 0} {first : List ℕ → Read A} {second : List ℕ → Read B} {front : A → List ℕ} {back : B → List ℕ} {FrontFits : A → Type 0} {BackFits : B → Type 0}
    (spelled : C → List ℕ) (Fits : C → Type 0) → IsField first front FrontFits → IsField second back BackFits
    → (make : A → B → C) (bytes : List ℕ) (n : ℕ) → AreBytes bytes
    → ((p : A × B) → n ∷ front p.0 ++ back p.1 ≡ spelled (make p.0 p.1)) → ((p : A × B) → FrontFits p.0 × BackFits p.1 → Fits (make p.0 p.1))
    → Spells spelled Fits bytes n (first bytes >>= (λ x. whole (second x.1) >>= (λ y. Some (make x.0 y))))
two_spells {A} {B} {C} {first} {second} spelled Fits f s make bytes n bytes_fit same fits =
    subst (Spells spelled Fits bytes n) (sym (both_whole (first bytes) second make))
    (one_spells spelled Fits (both_field f s) (λ (p : A × B). make p.0 p.1) bytes n bytes_fit same fits)

pub two_again : {A B C : Type 0} {first : List ℕ → Read A} {second : List ℕ → Read B} {front : A → List ℕ} {back : B → List ℕ} {FrontFits : A → Type 0} {BackFits : B → Type 0}
    → IsField first front FrontFits → IsField second back BackFits
    → (make : A → B → C) (x : A) (y : B) → FrontFits x → BackFits y
    → (first (front x ++ back y) >>= (λ p. whole (second p.1) >>= (λ q. Some (make p.0 q)))) ≡ Some (make x y)
two_again {A} {B} {C} {first} {second} {front} {back} f s make x y x_fits y_fits =
    both_whole (first (front x ++ back y)) second make ∙ one_again (both_field f s) (λ (p : A × B). make p.0 p.1) (x, y) (x_fits, y_fits)

-- fields in a row, as a field that has both of the first two
pub two_first : {A B C : Type 0} (first : List ℕ → Read A) (second : List ℕ → Read B) (go_on : A → B → List ℕ → Option C) (bytes : List ℕ)
    → (first bytes >>= (λ x. second x.1 >>= (λ y. go_on x.0 y.0 y.1))) ≡ (both first second bytes >>= (λ p. go_on (p.0).0 (p.0).1 p.1))
two_first {A} {B} {C} first second go_on bytes = outer (first bytes)
  where
    inner : (x : A) (r : Read B) → (r >>= (λ y. go_on x y.0 y.1)) ≡ ((r >>= (λ y. found {A = A × B} (x, y.0) y.1)) >>= (λ p. go_on (p.0).0 (p.0).1 p.1))
    inner x None = refl
    inner x (Some y) = refl

    outer : (r : Read A) → (r >>= (λ x. second x.1 >>= (λ y. go_on x.0 y.0 y.1))) ≡ ((r >>= (λ x. second x.1 >>= (λ y. found {A = A × B} (x.0, y.0) y.1))) >>= (λ p. go_on (p.0).0 (p.0).1 p.1))
    outer None = refl
    outer (Some x) = inner x.0 (second x.1)

-- a field, and all that follows it
pub rest_spells : {A C : Type 0} {read : List ℕ → Read A} {part : A → List ℕ} {PartFits : A → Type 0} (spelled : C → List ℕ) (Fits : C → Type 0) → IsField read part PartFits
    → (make : A → List ℕ → C) (bytes : List ℕ) (n : ℕ) → AreBytes bytes → ((x : A) (rest : List ℕ) → n ∷ part x ++ rest ≡ spelled (make x rest)) → ((x : A) (rest : List ℕ) → PartFits x → Fits (make x rest))
    → Spells spelled Fits bytes n (read bytes >>= (λ x. Some (make x.0 x.1)))
rest_spells {A} {C} {read} spelled Fits field make bytes n bytes_fit same fits y e =
    let x = bind_some (read bytes) (λ x. some (make x.0 x.1)) y e in
    let taken = field.takes bytes bytes_fit x.0.0 x.0.1 x.1 in
    value_spells spelled Fits bytes n (make x.0.0 x.0.1) (fits x.0.0 x.0.1 taken.2) (ap (λ (t : List ℕ). n ∷ t) taken.0 ∙ same x.0.0 x.0.1) y x.2

pub rest_again : {A C : Type 0} {read : List ℕ → Read A} {part : A → List ℕ} {PartFits : A → Type 0} → IsField read part PartFits
    → (make : A → List ℕ → C) (x : A) (rest : List ℕ) → PartFits x → (read (part x ++ rest) >>= (λ p. Some (make p.0 p.1))) ≡ Some (make x rest)
rest_again field make x rest fits = rw (field.again x rest fits) refl

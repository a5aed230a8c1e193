-- Which lane's collector is open, after what may open, cut or close it.
use Rattle.std.proofs.Common.{◌≡◌, ◌≢◌, ℕ, Bool, true, false, Option, Some, None, Result, Ok, Err, is_some, refl, sym, ap, ◌∙◌, if◌then◌else◌, ◌==◌}
use Rattle.std.proofs.lemmas.Bool.{eq-eqb, eqb-true}
use Rattle.store_types.specs.declared.refusal.Refusal.{Refusal}
use Rattle.store_types.specs.declared.refusal.Refusal.TheVariants.{CollectorBusy}
use Rattle.store_types.specs.Chain.Refusing.{◌>>=◌, if_none}
use Rattle.store_model.specs.Heads.{idle_in}
use Rattle.store_model.specs.Lanes.{Collecting, collects}
use Rattle.store_model.specs.Weave.{want_collector}
use Rattle.store_history.specs.Acts.{Class, sweeping}
use Rattle.store_history.specs.History.{World, open_on, new_collecting, cut_on, closed_on, halted_on}
use Rattle.store_history.specs.Legal.{may_open}

pub some_none : (b : Bool) → ◌≡◌ {A = Option Bool} (Some b) None → ⊥
some_none b h = cc

not_eq : (a b : ℕ) → a ≢ b → (a == b) ≡ false
not_eq a b ne = by_test (a == b) refl
  where
    by_test : (t : Bool) → (a == b) ≡ t → (a == b) ≡ false
    by_test true is = absurd (ne (eqb-true a b is))
    by_test false is = is

-- ---- the lane's own

pub collects_is : (k : ℕ) (c : Option Collecting) → collects k c ≡ is_some (open_on k c)
collects_is k None = refl
collects_is k (Some c) = by_test (c.lane == k)
  where
    by_test : (t : Bool) → t ≡ is_some (if t then Some c.is_out_of_memory else None)
    by_test true = refl
    by_test false = refl

pub open_new : (k : ℕ) (b : Bool) → open_on k (new_collecting k b) ≡ Some b
open_new k b = ap (λ t. if t then Some b else None) (eq-eqb k k refl)

pub cut_none : (k : ℕ) (c : Option Collecting) → open_on k c ≡ None → cut_on k c ≡ c
cut_none k None h = refl
cut_none k (Some c) h = by_test (c.lane == k) h
  where
    by_test : (t : Bool) → (if t then Some c.is_out_of_memory else None) ≡ None → (if t then new_collecting k true else Some c) ≡ Some c
    by_test true h = absurd (some_none c.is_out_of_memory h)
    by_test false h = refl

pub cut_some : (k : ℕ) (c : Option Collecting) (b : Bool) → open_on k c ≡ Some b → cut_on k c ≡ new_collecting k true
cut_some k None b h = absurd (some_none b (sym h))
cut_some k (Some c) b h = by_test (c.lane == k) h
  where
    by_test : (t : Bool) → (if t then Some c.is_out_of_memory else None) ≡ Some b → (if t then new_collecting k true else Some c) ≡ new_collecting k true
    by_test true h = refl
    by_test false h = absurd (some_none b (sym h))

pub closed_none : (k : ℕ) (c : Option Collecting) → open_on k c ≡ None → closed_on k c ≡ c
closed_none k None h = refl
closed_none k (Some c) h = by_test (c.lane == k) h
  where
    by_test : (t : Bool) → (if t then Some c.is_out_of_memory else None) ≡ None → (if t then None else Some c) ≡ Some c
    by_test true h = absurd (some_none c.is_out_of_memory h)
    by_test false h = refl

pub closed_some : (k : ℕ) (c : Option Collecting) (b : Bool) → open_on k c ≡ Some b → closed_on k c ≡ None
closed_some k None b h = refl
closed_some k (Some c) b h = by_test (c.lane == k) h
  where
    by_test : (t : Bool) → (if t then Some c.is_out_of_memory else None) ≡ Some b → (if t then None else Some c) ≡ None
    by_test true h = refl
    by_test false h = absurd (some_none b (sym h))

pub halted_none : (k : ℕ) (n : Class) (c : Option Collecting) → open_on k c ≡ None → halted_on k n c ≡ c
halted_none k sweeping c h = closed_none k c h
halted_none k n c h = refl

-- ---- another lane's

pub other_none : (j k : ℕ) (c : Option Collecting) (b : Bool) → j ≢ k → open_on k c ≡ Some b → open_on j c ≡ None
other_none j k None b ne h = refl
other_none j k (Some c) b ne h = by_test (c.lane == k) refl h
  where
    by_test : (t : Bool) → (c.lane == k) ≡ t → (if t then Some c.is_out_of_memory else None) ≡ Some b → (if c.lane == j then Some c.is_out_of_memory else None) ≡ None
    by_test true is h = ap (λ t. if t then Some c.is_out_of_memory else None) (not_eq c.lane j (λ e. ne (sym e ∙ eqb-true c.lane k is)))
    by_test false is h = absurd (some_none b (sym h))

pub new_other : (j k : ℕ) (b : Bool) → j ≢ k → open_on j (new_collecting k b) ≡ None
new_other j k b ne = other_none j k (new_collecting k b) b ne (open_new k b)

pub cut_other : (j k : ℕ) (c : Option Collecting) → j ≢ k → open_on j (cut_on k c) ≡ open_on j c
cut_other j k c ne = by_own (open_on k c) refl
  where
    by_own : (o : Option Bool) → open_on k c ≡ o → open_on j (cut_on k c) ≡ open_on j c
    by_own None is = ap (λ x. open_on j x) (cut_none k c is)
    by_own (Some b) is = ap (λ x. open_on j x) (cut_some k c b is) ∙ new_other j k true ne ∙ sym (other_none j k c b ne is)

pub closed_other : (j k : ℕ) (c : Option Collecting) → j ≢ k → open_on j (closed_on k c) ≡ open_on j c
closed_other j k c ne = by_own (open_on k c) refl
  where
    by_own : (o : Option Bool) → open_on k c ≡ o → open_on j (closed_on k c) ≡ open_on j c
    by_own None is = ap (λ x. open_on j x) (closed_none k c is)
    by_own (Some b) is = ap (λ x. open_on j x) (closed_some k c b is) ∙ sym (other_none j k c b ne is)

pub halted_other : (j k : ℕ) (n : Class) (c : Option Collecting) → j ≢ k → open_on j (halted_on k n c) ≡ open_on j c
halted_other j k sweeping c ne = closed_other j k c ne
halted_other j k n c ne = refl

-- ---- where one may open, none is

none_open : (idle : Result (Unit {0}) Refusal) (c : Option Collecting) → (idle >>= (λ t. if_none (λ c. CollectorBusy c.lane) c)) ≡ Ok tt → c ≡ None
none_open (Ok t) None h = refl
none_open (Ok t) (Some c) h = cc
none_open (Err refusal) c h = cc

pub may_open_none : (w : World) (k : ℕ) → may_open w k ≡ Ok tt → w.collecting ≡ None
unfolding want_collector
may_open_none w k h = none_open (idle_in w.store k) w.collecting h

-- An order, entry by entry.
use Rattle.std.proofs.Common.{◌≡◌, ℕ, zero, suc, ◌+◌, ◌-◌, ◌<◌, ◌≤◌, Bool, true, ◌&&◌, List, [], ◌∷◌, length, get_or, take, drop, Option, None, Some, Ok, Err, ◌++◌, append_assoc, append-nil, refl, sym, ap, ◌∙◌, arith, drop-cons, add-one}
use Rattle.std.proofs.Math.Seq.{drop-length}
use Rattle.std.specs.Prelude.{IsTrue, nat_lt, nat_le}
use Rattle.std.specs.List.{list_all, range_with_len, cons_option}
use Rattle.std.proofs.lemmas.Bool.{and_parts, ltb-true, leb-true}
use Rattle.std.proofs.lemmas.List.{take_all, length-drop}
use Rattle.store_types.specs.declared.order.Entry.{Entry}
use Rattle.store_types.specs.Times.{last_moment}
use Rattle.store_files.specs.Archive.{Snapshot}
use Rattle.store_files.specs.Order.{fits_entry, moments_rise, of_lane, ends_once, keeps_rules}
use Rattle.store_model.specs.declared.ending.Ending.{Ending}
use Rattle.store_model.specs.declared.ending.Ending.TheVariants.{Clean}
use Rattle.store_model.specs.Lanes.{Run, new_run, next_of}
use Rattle.store_model.specs.Weave.{Endings, Misfit, entered, misfit, run_from, known, woven_of, woven, weave}
use Rattle.plain_store.specs.declared.frees.Free.{Free}
use Rattle.plain_store.specs.Frees.{freed, frees_from}

module _ (E : Endings) (r : Run) (place : ℕ) (e : Entry) (later : List Entry) where
  pub goes_on : (after : Run) → entered E r place e later ≡ Some after → run_from E r place (e ∷ later) ≡ run_from E after (place + 1) later
  unfolding run_from
  goes_on after h = rw (run_from, h) refl

  pub stops : entered E r place e later ≡ None → run_from E r place (e ∷ later) ≡ Err (misfit r place e)
  unfolding run_from
  stops h = rw (run_from, h) refl

-- the same of what the replies leave free
module _ (E : Endings) (r : Run) (place : ℕ) (e : Entry) (later : List Entry) where
  pub frees_on : (after : Run) → entered E r place e later ≡ Some after → frees_from E r place (e ∷ later) ≡ cons_option (freed r e) (frees_from E after (place + 1) later)
  unfolding frees_from
  frees_on after h = rw (frees_from, h) refl

pub no_frees : (E : Endings) (r : Run) (place : ℕ) → frees_from E r place [] ≡ []
unfolding frees_from
no_frees E r place = refl

one_more : (before : List Free) (o : Option Free) (later : List Free) → (before ++ cons_option o []) ++ later ≡ before ++ cons_option o later
one_more before None later = ap (λ l. l ++ later) (append-nil before)
one_more before (Some x) later = append_assoc before (x ∷ []) later

pub at_end : (E : Endings) (r : Run) (place : ℕ) → run_from E r place [] ≡ Ok r
unfolding run_from
at_end E r place = refl

-- the entries from a place on
pub from_place : (order : List Entry) (i : ℕ) (e : Entry) → i < length order → e ≡ get_or order i e → drop i order ≡ e ∷ drop (i + 1) order
from_place order i e below is =
    drop-cons order i e below ∙ ap (λ x. x ∷ drop (suc i) order) (sym is) ∙ ap (λ k. e ∷ drop k order) (sym (add-one i))

-- an entry fits by one ending what it fits by all
pub one_ending : (E : Endings) (r : Run) (place : ℕ) (e : Entry) (later : List Entry) (ending : Ending) → E e.lane (next_of r e.lane) ≡ ending
    → entered E r place e later ≡ entered (λ _ _. ending) r place e later
unfolding entered
one_ending E r place e later ending h = rw h refl

list_all-at : (p : Entry → Bool) (xs : List Entry) (i : ℕ) (x : Entry) → list_all p xs ≡ true → i < length xs → x ≡ get_or xs i x → p x ≡ true
list_all-at p [] i x h lt is = absurd (omega arith)
list_all-at p (y ∷ ys) zero x h lt is = ap p is ∙ (and_parts (p y) (list_all p ys) h).0
list_all-at p (y ∷ ys) (suc i) x h lt is = list_all-at p ys i x (and_parts (p y) (list_all p ys) h).1 (omega arith) is

-- what the rules say of the entry at a place
pub entry_fits : (n : ℕ) (order : List Entry) (i : ℕ) (e : Entry) → IsTrue (keeps_rules n order) → i < length order → e ≡ get_or order i e
    → (e.lane < n) × (e.moment ≤ last_moment)
unfolding keeps_rules
entry_fits n order i e h below is =
    let rules = and_parts (list_all (fits_entry n) order && moments_rise order) (list_all (λ k. ends_once (of_lane k order)) (range_with_len 0 n)) h in
    let all = and_parts (list_all (fits_entry n) order) (moments_rise order) rules.0 in
    let one = list_all-at (fits_entry n) order i e all.0 below is in
    let two = and_parts (nat_lt e.lane n && nat_le e.moment last_moment) (nat_lt e.kind 8) one in
    let parts = and_parts (nat_lt e.lane n) (nat_le e.moment last_moment) two.0 in
    (ltb-true e.lane n parts.0, leb-true e.moment last_moment parts.1)

module _ (es : List Ending) (order : List Entry) (place : ℕ) (r new : Run) (e : Entry) (ending : Ending) (below : place < length order) (is_at : e ≡ get_or order place e)
    (ends : ending ≡ get_or es e.lane Clean) where
  abbrev behind : Unit {0} → List Entry
  behind _ = take (length order - (place + 1)) (drop (place + 1) order)

  enters : entered (known es) r place e (drop (place + 1) order) ≡ entered (λ _ _. ending) r place e (behind tt)
  enters =
      one_ending (known es) r place e (drop (place + 1) order) ending (sym ends)
      ∙ ap (λ l. entered (λ _ _. ending) r place e l) (sym (take_all (length order - (place + 1)) (drop (place + 1) order) (omega (arith, length-drop (place + 1) order))))

  pub turn_taken : entered (λ _ _. ending) r place e (behind tt) ≡ Some new
      → run_from (known es) r place (drop place order) ≡ run_from (known es) new (place + 1) (drop (place + 1) order)
  turn_taken h = ap (run_from (known es) r place) (from_place order place e below is_at) ∙ goes_on (known es) r place e (drop (place + 1) order) new (enters ∙ h)

  pub turn_noted : (before noted : List Free) → entered (λ _ _. ending) r place e (behind tt) ≡ Some new → noted ≡ before ++ cons_option (freed r e) []
      → noted ++ frees_from (known es) new (place + 1) (drop (place + 1) order) ≡ before ++ frees_from (known es) r place (drop place order)
  turn_noted before noted h is =
      let rest = frees_from (known es) new (place + 1) (drop (place + 1) order) in
      ap (λ l. l ++ rest) is ∙ one_more before (freed r e) rest
      ∙ ap (λ l. before ++ l) (sym (frees_on (known es) r place e (drop (place + 1) order) new (enters ∙ h)) ∙ sym (ap (frees_from (known es) r place) (from_place order place e below is_at)))

  pub turn_stopped : entered (λ _ _. ending) r place e (behind tt) ≡ None → run_from (known es) r place (drop place order) ≡ Err (misfit r place e)
  turn_stopped h = ap (run_from (known es) r place) (from_place order place e below is_at) ∙ stops (known es) r place e (drop (place + 1) order) (enters ∙ h)

-- ---- the whole order

module _ (es : List Ending) (snapshots : List Snapshot) (remote : Option (List Snapshot)) (order : List Entry) (inputs : List (List ℕ)) where
  pub woven_ok : (r : Run) → run_from (known es) (new_run snapshots remote inputs) 0 order ≡ Ok r → Ok (woven_of r) ≡ weave snapshots remote order inputs es
  unfolding weave woven
  woven_ok r h = rw h refl

  pub woven_err : (m : Misfit) → run_from (known es) (new_run snapshots remote inputs) 0 order ≡ Err m → Err m ≡ weave snapshots remote order inputs es
  unfolding weave woven
  woven_err m h = rw h refl

pub over : (E : Endings) (r : Run) (order : List Entry) (place : ℕ) → place ≡ length order → run_from E r place (drop place order) ≡ Ok r
over E r order place is =
    let none : drop place order ≡ [] = ap (λ n. drop n order) is ∙ drop-length order in
    ap (run_from E r place) none ∙ at_end E r place

pub all_noted : (E : Endings) (r : Run) (order : List Entry) (place : ℕ) (noted all : List Free) → place ≡ length order
    → noted ++ frees_from E r place (drop place order) ≡ all → noted ≡ all
all_noted E r order place noted all is h =
    let none : drop place order ≡ [] = ap (λ n. drop n order) is ∙ drop-length order in
    sym (append-nil noted) ∙ sym (ap (λ l. noted ++ frees_from E r place l) none ∙ ap (λ l. noted ++ l) (no_frees E r place)) ∙ h

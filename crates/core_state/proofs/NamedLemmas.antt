-- What has a text, and keeps it.
use Rattle.std.proofs.Common.{◌≡◌, ◌<◌, ◌∙◌, ℕ, zero, suc, Bool, true, false, not, ◌&&◌, Option, Some, None, length, get_or, set, List, [], ◌∷◌, refl, ap, arith}
use Rattle.std.proofs.lemmas.Bool.{and_parts, and_from, leb-true, le-leb}
use Rattle.std.specs.Prelude.{nat_le, is_some}
use Rattle.std.specs.List.{list_all}
use Rattle.store_types.specs.declared.names.SnapshotKey.{SnapshotKey}
use Rattle.store_types.specs.FileNames.{is_id}
use Rattle.store_types.specs.Names.{IsKey}
use Rattle.store_types.specs.Times.{last_moment}
use Rattle.core_state.specs.declared.kept.Writing.{Writing}
use Rattle.core_state.specs.declared.kept.Session.TheVariants.{Writer}
use Rattle.core_state.specs.Named.{has_text, is_named}

pub is_key : (k : SnapshotKey) → has_text k ≡ true → IsKey k
is_key k h = let both = and_parts (is_id k.id) (nat_le k.time last_moment) h in (both.0, leb-true k.time last_moment both.1)

pub key_text_is : (k : SnapshotKey) → IsKey k → has_text k ≡ true
key_text_is k h = and_from (is_id k.id) (nat_le k.time last_moment) h.0 (le-leb k.time last_moment h.1)

-- of a snapshot that nothing makes damaged
pub whole_named : (k : SnapshotKey) → IsKey k → (has_text k && true) ≡ true
whole_named k h = and_from (has_text k) true (key_text_is k h) refl

pub list_all-set : {A : Type 0} (p : A → Bool) (xs : List A) (i : ℕ) (x : A) → list_all p xs ≡ true → p x ≡ true → list_all p (set xs i x) ≡ true
list_all-set p [] i x h is = refl
list_all-set p (y ∷ ys) zero x h is = and_from (p x) (list_all p ys) is (and_parts (p y) (list_all p ys) h).1
list_all-set p (y ∷ ys) (suc i) x h is = let both = and_parts (p y) (list_all p ys) h in and_from (p y) (list_all p (set ys i x)) both.0 (list_all-set p ys i x both.1 is)

pub list_all-at : {A : Type 0} (p : A → Bool) (xs : List A) (i : ℕ) (x : A) → list_all p xs ≡ true → i < length xs → x ≡ get_or xs i x → p x ≡ true
list_all-at p [] i x h lt is = absurd (omega arith)
list_all-at p (y ∷ ys) zero x h lt is = ap p is ∙ (and_parts (p y) (list_all p ys) h).0
list_all-at p (y ∷ ys) (suc i) x h lt is = list_all-at p ys i x (and_parts (p y) (list_all p ys) h).1 (omega arith) is

none_is : {A : Type 0} (o : Option A) → not (is_some o) ≡ true → o ≡ None
none_is None h = refl
none_is (Some x) h = absurd (false_true h)
  where
    false_true : false ≡ true → ⊥
    false_true e = cc

-- a writer's key has a text, and no file of it is pending
pub writer_named : (w : Writing) → is_named (Writer w) ≡ true → IsKey ((w.session).writer).key × ((w.session).pending ≡ None)
writer_named w h =
    let both = and_parts (has_text ((w.session).writer).key) (not (is_some (w.session).pending)) h in (is_key ((w.session).writer).key both.0, none_is (w.session).pending both.1)

pub writer_stays_named : (w : Writing) → IsKey ((w.session).writer).key → (w.session).pending ≡ None → is_named (Writer w) ≡ true
writer_stays_named w key none =
    and_from (has_text ((w.session).writer).key) (not (is_some (w.session).pending)) (key_text_is ((w.session).writer).key key) (ap (λ o. not (is_some o)) none)

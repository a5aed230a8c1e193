-- From what is kept to the session.
use Rattle.std.proofs.Common.{◌≡◌, ℕ, ◌<◌, ◌≤◌, Bool, true, false, cond, List, [], ◌∷◌, ◌++◌, drop, length, get_or, zero, suc, map, Some, None, Ok, Err, refl, sym, ap, ap₂, subst, ◌∙◌, arith}
use Rattle.std.specs.Prelude.{Option, Result, IsErrAnd, OnOk, OnErr}
use Rattle.std.specs.FinMap.{empty, entries, insert}
use Rattle.known_chunks.specs.Lengths.{Lengths, joined, with_lengths}
use Rattle.std.specs.List.{AllByRecursion}
use Rattle.sha2.specs.Sha256.{sha256}
use Rattle.store_types.specs.declared.names.SnapshotKey.{SnapshotKey}
use Rattle.store_types.specs.declared.refusal.Refusal.{Refusal}
use Rattle.store_model.specs.Store.{Writer}
use Rattle.store_model.specs.WriterSteps.{new_writer, with_pool}
use Rattle.store_model.specs.WriterCalls as plain
use Rattle.backup_session.specs.declared.state.Pending.{Pending}
use Rattle.backup_session.specs.Session.{Pool, IsLength, Writing, Session, StopsBy, settled, held}
use Rattle.backup_session.specs.Steps as steps
use Rattle.backup_session.specs.Shown.{known_of, lengths_of, shown, Shows}
use Rattle.backup_session.specs.Answers.{Leaves, Does}
use Rattle.backup_session.specs.Kept.{before, after, session_of, text_of, HasLengths, LeavesPending}
use Rattle.backup_session.proofs.Stops.{does_stop, stops_by}
use Rattle.backup_session.proofs.Pools.{entries-empty, entries_listed, has_lengths-insert, has_lengths-joined, pool_of-more, pool_of-all}

pub not_pending : (p : Option Pending) (w : Writing) → (session_of p w).pending ≡ None → p ≡ None
not_pending None w e = refl
not_pending (Some p) w e = cc

module _ {A B : Type 0} (show : A → B) (step : Writing → Result (Writing × B) Refusal) (old new : Writing) where
  settles : (result : Result A Refusal) → Does show (λ w. w) old new result (step old) → Does show settled (settled old) (settled new) result (step old)
  settles (Err r) does = (does.0, ap settled does.1)
  settles (Ok a) does = record { after = does.after; stepped = does.stepped; left = ap settled does.left }

  at_none : (p : Option Pending) (result : Result A Refusal) → p ≡ None → Does show (λ w. w) old new result (step old)
      → Does show settled (session_of p old) (session_of p new) result (step (session_of p old).writer)
  at_none None result e does = settles result does
  at_none (Some p) result e does = cc

  -- what is done to what is kept is done to the session
  pub lifted : (p : Option Pending) (s : Session) → session_of p old ≡ s → s.pending ≡ None → (result : Result A Refusal)
      → Does show (λ w. w) old new result (step old) → Does show settled s (session_of p new) result (step s.writer)
  lifted p s is none result does =
      let free = not_pending p old (ap (λ (t : Session). t.pending) is ∙ none) in
      subst (λ t. Does show settled t (session_of p new) result (step t.writer)) is (at_none p result free does)

-- ---- what needs no answer

pub chunk_shown : (v : Writing) (w : Writer) (piece digest : List ℕ) (len : ℕ) → Shows v w → digest ≡ sha256 piece → len ≡ length piece → Shows (steps.chunk v digest len) (plain.chunk w piece)
unfolding shown
chunk_shown v w piece digest len shows e f = record {
  same =
      ap (λ u. steps.chunk u digest len) shows.same ∙ ap₂ (λ d n. steps.chunk (shown w) d n) e f
      ∙ ap (λ p. record (shown w) { pool = p }) (sym (pool_of-more w.pool piece));
  begun = shows.begun;
}

pub previous_shown : (v : Writing) (w : Writer) (m : Lengths) (ps : List (List ℕ)) → Shows v w → m ≡ with_lengths empty (map known_of ps) → Shows (steps.previous v m) (with_pool ps w)
unfolding shown
previous_shown v w m ps shows e = record {
  same =
      ap (λ u. steps.previous u m) shows.same ∙ ap (steps.previous (shown w)) e
      ∙ ap (λ (p : Pool). record (shown w) { pool = p }) (entries_listed (lengths_of w.pool) (map known_of ps) ∙ sym (pool_of-all w.pool ps));
  begun = shows.begun;
}

pub opened_shown : (key : SnapshotKey) (start : ℕ) (base : Option SnapshotKey) → Shows (steps.opened key start base) (new_writer key start base)
unfolding shown
opened_shown key start base = record {
  same = ap (λ (p : Pool). record (steps.opened key start base) { pool = p }) (sym entries-empty);
  begun = tt;
}

-- an element is the one at its place, whatever stands for none
pub own_default : {A : Type 0} (xs : List A) (i : ℕ) (d : A) → i < length xs → get_or xs i (get_or xs i d) ≡ get_or xs i d
own_default [] i d below = absurd (omega (arith, below))
own_default (x ∷ xs) zero d below = refl
own_default (x ∷ xs) (suc i) d below = own_default xs i d (omega (arith, below))

pub other_default : {A : Type 0} (xs : List A) (i : ℕ) (d e : A) → i < length xs → get_or xs i d ≡ get_or xs i e
other_default [] i d e below = absurd (omega (arith, below))
other_default (x ∷ xs) zero d e below = refl
other_default (x ∷ xs) (suc i) d e below = other_default xs i d e (omega (arith, below))

pub drop_end : {A : Type 0} (xs : List A) (i : ℕ) → length xs ≤ i → drop i xs ≡ []
drop_end [] zero le = refl
drop_end [] (suc i) le = refl
drop_end (x ∷ xs) zero le = absurd (omega (arith, le))
drop_end (x ∷ xs) (suc i) le = drop_end xs i (omega (arith, le))

pub nothing_more : {A : Type 0} (xs : List A) → xs ++ [] ≡ xs
nothing_more [] = refl
nothing_more {A} (x ∷ xs) = ap (λ (l : List A). x ∷ l) (nothing_more xs)

-- ---- a pending file

pub writer_is : (p : Option Pending) (old : Writing) (s : Session) → session_of p old ≡ s → s.pending ≡ None → old ≡ s.writer
writer_is p old s is none = sym (by_pending p (not_pending p old (ap (λ (t : Session). t.pending) is ∙ none))) ∙ ap (λ (t : Session). t.writer) is
  where
    by_pending : (q : Option Pending) → q ≡ None → (session_of q old).writer ≡ old
    by_pending None e = refl
    by_pending (Some x) e = cc

free_writer : (p : Option Pending) (v : Writing) → p ≡ None → (session_of p v).writer ≡ v
free_writer None v e = refl
free_writer (Some p) v e = cc

-- what a chunk's call leaves shows the plain writer with the piece
pub chunk_leaves : {T E : Type 0} (p : Option Pending) (old new : Writing) (s : Session) (digest : List ℕ) (len : ℕ) → session_of p old ≡ s → s.pending ≡ None → (r : Result T E)
    → OnOk r (new ≡ steps.chunk old digest len)
    → OnOk r ((w : Writer) (piece : List ℕ) → Shows s.writer w → digest ≡ sha256 piece → len ≡ length piece → Shows (session_of p new).writer (plain.chunk w piece))
chunk_leaves p old new s digest len is none (Err e) ok = tt
chunk_leaves p old new s digest len is none (Ok u) ok = λ w piece shows e f.
    let free = not_pending p old (ap (λ (t : Session). t.pending) is ∙ none) in
    let left = free_writer p new free ∙ ok ∙ ap (λ v. steps.chunk v digest len) (writer_is p old s is none) in
    subst (λ v. Shows v (plain.chunk w piece)) (sym left) (chunk_shown s.writer w piece digest len shows e f)

-- what the call of PREVIOUS leaves shows the plain writer with the pieces
pub previous_leaves : {T E : Type 0} (p : Option Pending) (old new : Writing) (s : Session) (m : Lengths) → session_of p old ≡ s → s.pending ≡ None → (r : Result T E)
    → OnOk r (new ≡ steps.previous old m)
    → OnOk r ((w : Writer) (ps : List (List ℕ)) → Shows s.writer w → m ≡ with_lengths empty (map known_of ps) → Shows (session_of p new).writer (with_pool ps w))
previous_leaves p old new s m is none (Err e) ok = tt
previous_leaves p old new s m is none (Ok u) ok = λ w ps shows e.
    let free = not_pending p old (ap (λ (t : Session). t.pending) is ∙ none) in
    let left = free_writer p new free ∙ ok ∙ ap (λ v. steps.previous v m) (writer_is p old s is none) in
    subst (λ v. Shows v (with_pool ps w)) (sym left) (previous_shown s.writer w m ps shows e)

pub held_leaves : {B : Type 0} (step : Writing → Result (Writing × B) Refusal) (p : Option Pending) (old new : Writing) (s : Session) (q : Pending) (b : B)
    → session_of p old ≡ s → s.pending ≡ None → LeavesPending old new q (step old) b → Leaves (held s.writer) (held (before q new) (after q new)) (step s.writer) b
held_leaves step p old new s q b is none told =
    let same = writer_is p old s is none in
    record { after = after q new; stepped = ap step (sym same) ∙ told.stepped; left = ap (λ v. held v (after q new)) (told.back ∙ same) }

-- what the call stops by, the session's call stops by
pub session_stop : {A B : Type 0} (show : A → B) (step : Writing → Result (Writing × B) Refusal) (p : Option Pending) (old new : Writing) (s : Session) (result : Result A Refusal) (stop : Refusal)
    → session_of p old ≡ s → s.pending ≡ None → IsErrAnd result (λ e. e ≡ stop) → StopsBy old new (step old) stop → Does show (held s.writer) s (session_of p new) result (step s.writer)
session_stop show step p old new s result stop is none same by =
    does_stop show (held s.writer) s (session_of p new) result (step s.writer) stop same
    (stops_by (λ refusal. step old ≡ Err refusal) s (session_of p new) (step s.writer) stop (ap (session_of p) by.1 ∙ is)
    (λ refusal told. ap step (sym (writer_is p old s is none)) ∙ told) by.0)

pub text_kept : (b : Bool) (text : List ℕ) (old : Option (List ℕ)) → cond b (Some text) old ≡ text_of (cond b (Some text) None) old
text_kept true text old = refl
text_kept false text old = refl

pub added_lengths : {T E : Type 0} (m n : Lengths) (digest : List ℕ) (len : ℕ) → HasLengths (entries m) → (1 ≤ len) × (len ≤ 16_777_216) → (r : Result T E)
    → OnOk r (n ≡ insert m digest len) → OnErr r (n ≡ m) → HasLengths (entries n)
added_lengths m n digest len has fits (Ok u) ok err = subst (λ x. HasLengths (entries x)) (sym ok) (has_lengths-insert m digest len has fits)
added_lengths m n digest len has fits (Err e) ok err = subst (λ x. HasLengths (entries x)) (sym err) has

pub all_joined : {T E : Type 0} (m n more : Lengths) → HasLengths (entries m) → HasLengths (entries more) → (r : Result T E)
    → OnOk r (n ≡ joined m more) → OnErr r (n ≡ m) → HasLengths (entries n)
all_joined m n more has fits (Ok u) ok err = subst (λ x. HasLengths (entries x)) (sym ok) (has_lengths-joined m more has fits)
all_joined m n more has fits (Err e) ok err = subst (λ x. HasLengths (entries x)) (sym err) has

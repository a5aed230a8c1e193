-- What is asked of a writer is what stands in its state, whether a file is pending or not.
use Rattle.std.proofs.Common.{◌≡◌, ℕ, List, Option, Some, None, refl, ap, ◌∙◌}
use Rattle.std.specs.Prelude.{is_some, option_map}
use Rattle.backup_session.specs.declared.state.Pending.{Pending}
use Rattle.backup_session.specs.Session.{Pool, Writing, Session, IsPool, length_at, without_length, settled}
use Rattle.backup_session.specs.Steps.{begun_at, chunk}
use Rattle.backup_session.specs.Kept.{session_of}
use Rattle.backup_session.proofs.Pools.{forgotten}

pub key_is : (p : Option Pending) (w : Writing) → w.key ≡ ((session_of p w).writer).key
key_is None w = refl
key_is (Some p) w = refl

pub start_is : (p : Option Pending) (w : Writing) → w.start ≡ ((session_of p w).writer).start
start_is None w = refl
start_is (Some p) w = refl

pub base_is : (p : Option Pending) (w : Writing) → w.base ≡ ((session_of p w).writer).base
base_is None w = refl
base_is (Some p) w = refl

pub pool_is : (digest : List ℕ) (p : Option Pending) (w : Writing) → is_some (length_at w.pool digest) ≡ is_some (length_at ((session_of p w).writer).pool digest)
pool_is digest None w = refl
pool_is digest (Some p) w = refl

pub is_pool : (p : Option Pending) (w : Writing) → IsPool w.pool → IsPool ((session_of p w).writer).pool
is_pool None w h = h
is_pool (Some p) w h = h

pub index_is : (number : ℕ) (p : Option Pending) (w : Writing)
    → option_map (λ b. b.name) (begun_at number w) ≡ option_map (λ b. b.name) (begun_at number (session_of p w).writer)
index_is number None w = refl
index_is number (Some p) w = refl

pub manifest_is : (p : Option Pending) (w : Writing) → w.manifest ≡ ((session_of p w).writer).manifest
manifest_is None w = refl
manifest_is (Some p) w = refl

-- a digest that is forgotten again, once it was noted
pub forgets : (p : Option Pending) (old new : Writing) (s : Session) (digest : List ℕ) (before : Writing) (len : ℕ) → session_of p old ≡ s → s.pending ≡ None
    → new ≡ record old { pool = without_length old.pool digest } → IsPool before.pool → length_at before.pool digest ≡ None → s ≡ settled (chunk before digest len)
    → session_of p new ≡ settled before
forgets None old new s digest before len is none made pool absent noted =
    let was : old ≡ chunk before digest len = ap (λ (t : Session). t.writer) (is ∙ noted) in
    ap settled (made ∙ ap (λ (w : Writing). record w { pool = without_length w.pool digest }) was ∙ ap (λ (l : Pool). record before { pool = l }) (forgotten before.pool digest len pool absent))
forgets (Some p) old new s digest before len is none made pool absent noted = absurd (some_none _ (ap (λ (t : Session). t.pending) is ∙ none))
  where
    some_none : (w : Writing) → Some w ≡ None → ⊥
    some_none w e = cc

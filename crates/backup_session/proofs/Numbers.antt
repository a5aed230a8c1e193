-- Numbers and names of open indexes.
use Rattle.std.proofs.Common.{◌≡◌, ℕ, suc, ◌+◌, ◌≤◌, Bool, true, false, cond, ◌||◌, List, [], ◌∷◌, refl, ap, ◌∙◌, arith}
use Rattle.std.specs.Prelude.{◌==◌, nat_le, Ok}
use Rattle.std.specs.List.{list_any}
use Rattle.std.specs.Str.{bytes_eq}
use Rattle.std.proofs.lemmas.Bool.{eqb-true, leb-true}
use Rattle.std.proofs.lemmas.Slice.Eq.{bytes_eq-Decides}
use Rattle.store_types.specs.declared.names.Digest32.{Digest32}
use Rattle.store_types.specs.declared.refusal.CloseFault.TheVariants.{Count, Size, Csum, Rest}
use Rattle.store_types.specs.declared.refusal.Refusal.TheVariants.{BadClose}
use Rattle.store_types.specs.Chain.Refusing.{◌>>=◌, unless}
use Rattle.store_files.specs.Archive.{Layout}
use Rattle.store_model.specs.Archives.{free_from, want_facts, want_size}
use Rattle.backup_session.specs.declared.index.OpenIndex.{OpenIndex}
use Rattle.backup_session.specs.declared.index.OpenIndex.TheVariants.{Dynamic, Fixed}
use Rattle.backup_session.specs.Indexes.{layout_of, count_of, end_of, size_of, csum_of, IsFull}
use Rattle.backup_session.specs.declared.state.Begun.{Begun}
use Rattle.backup_session.specs.Steps.{numbers, want_close}
use Rattle.backup_session.specs.Kept.{opens_of}

pub number_taken : (n : ℕ) (begun : List Begun) → list_any (λ k. k == n) (numbers (opens_of begun)) ≡ list_any (λ b. b.number == n) begun
number_taken n [] = refl
number_taken n (b ∷ bs) = ap (λ t. (b.number == n) || t) (number_taken n bs)

pub name_open : (name : List ℕ) (begun : List Begun) → list_any (λ b. bytes_eq b.name name) (opens_of begun) ≡ list_any (λ b. bytes_eq b.name name) begun
name_open name [] = refl
name_open name (b ∷ bs) = ap (λ t. bytes_eq b.name name || t) (name_open name bs)

-- the search for a free number goes on, or ends
pub free_more : (taken : List ℕ) (k m n : ℕ) → k ≡ suc m → list_any (λ j. j == n) taken ≡ true → free_from k n taken ≡ free_from m (n + 1) taken
unfolding free_from
free_more taken k m n is has = ap (λ j. free_from j n taken) is ∙ ap (λ b. cond b (free_from m (n + 1) taken) n) has

pub free_here : (taken : List ℕ) (k m n : ℕ) → k ≡ suc m → list_any (λ j. j == n) taken ≡ false → free_from k n taken ≡ n
unfolding free_from
free_here taken k m n is has = ap (λ j. free_from j n taken) is ∙ ap (λ b. cond b (free_from m (n + 1) taken) n) has

pub free_end : (taken : List ℕ) (k n : ℕ) → k ≡ 0 → free_from k n taken ≡ n
unfolding free_from
free_end taken k n is = ap (λ j. free_from j n taken) is

-- where the tests of CLOSE_INDEX pass, size and csum are those that were given, and the size is reached
facts_given : (layout : Layout) (pieces end : ℕ) (found : Digest32) (count size : ℕ) (csum : Digest32) (u : Unit {0}) → want_facts layout pieces end found count size csum ≡ Ok u
    → (size ≡ end) × (csum.0 ≡ found.0) × (want_size layout end ≡ Ok u)
facts_given layout pieces end found count size csum u is = by_tests (count == pieces) (size == end) (bytes_eq csum.0 found.0) refl refl is
  where
    by_tests : (a b d : Bool) → (size == end) ≡ b → bytes_eq csum.0 found.0 ≡ d
        → (unless (BadClose (Count pieces)) a >>= λ _. unless (BadClose (Size end)) b >>= λ _. unless (BadClose (Csum found)) d >>= λ _. want_size layout end) ≡ Ok u
        → (size ≡ end) × (csum.0 ≡ found.0) × (want_size layout end ≡ Ok u)
    by_tests false b d e f go = cc
    by_tests true false d e f go = cc
    by_tests true true false e f go = cc
    by_tests true true true e f go = (eqb-true size end e, (bytes_eq-Decides csum.0 found.0).0 f, go)

reached : (size end : ℕ) (u : Unit {0}) → unless (BadClose (Rest size)) (nat_le size end) ≡ Ok u → size ≤ end
reached size end u is = by_test (nat_le size end) refl is
  where
    by_test : (b : Bool) → nat_le size end ≡ b → unless (BadClose (Rest size)) b ≡ Ok u → size ≤ end
    by_test true e go = leb-true size end e
    by_test false e go = cc

full : (x : OpenIndex) (u : Unit {0}) → want_size (layout_of x) (end_of x) ≡ Ok u → IsFull x × (end_of x ≡ size_of x)
full (Dynamic x) u is = (tt, refl)
full (Fixed x) u is =
    let le = reached x.size (end_of (Fixed x)) u is in
    let all : end_of (Fixed x) ≡ x.size = omega (arith, le) in
    (all, all)

pub close_given : (x : OpenIndex) (count size : ℕ) (csum : Digest32) (u : Unit {0}) → want_close x count size csum ≡ Ok u → (size ≡ size_of x) × (csum.0 ≡ (csum_of x).0) × IsFull x
close_given x count size csum u is =
    let given = facts_given (layout_of x) (count_of x) (end_of x) (csum_of x) count size csum u is in
    let all = full x u given.2 in
    (given.0 ∙ all.1, given.1, all.0)

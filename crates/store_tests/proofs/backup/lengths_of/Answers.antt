use Rattle.std.proofs.Common.{◌≡◌, ℕ, ◌≤◌, List, sym, subst, rules}
use Rattle.std.specs.FinMap.{entries}
use Rattle.known_chunks.specs.Lengths.{Lengths, with_length}
use Rattle.backup_session.specs.Kept.{HasLengths}
use Rattle.backup_session.proofs.Pools.{no_lengths, has_lengths-one}
use Rattle.store_tests.proofs.backup.lengths_of.Goals as goal

more : (m new : Lengths) (digest : List ℕ) (n : ℕ) → new ≡ with_length m (digest, n) → HasLengths (entries m) → (1 ≤ n) × (n ≤ 16_777_216) → HasLengths (entries new)
more m new digest n is has fits = subst (λ x. HasLengths (entries x)) (sym is) (has_lengths-one m (digest, n) has fits)

pub loop-piece-init : goal.loop-piece-init
loop-piece-init g c = subst (λ m. HasLengths (entries m)) (sym c.new-known.ensures) no_lengths

pub loop-piece-preserved : goal.loop-piece-preserved
loop-piece-preserved g c =
    let e = rw c.must.ensures at c.add_new.ensures.ok in
    more _ _ _ _ e c.loop-piece.invariant (search rules)

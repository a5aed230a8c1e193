use Rattle.std.proofs.Common.{◌≡◌, ◌≤◌, ◌+◌, ◌*◌, ◌++◌, drop, Ok, vec_len}
use Rattle.std.specs.FinMap.{entries}
use Rattle.store_types.specs.Chain.Refusing.{◌>>=◌}
use Rattle.store_model.specs.Archives.{pieces_named}
use Rattle.backup_session.specs.Indexes.{layout_view}
use Rattle.backup_session.specs.Steps.{known_in}
use Rattle.backup_session.proofs.entries.pieces_named.Given as goal

abbrev pub invariant-loop-entry : goal.invariant-loop-entry
invariant-loop-entry l = record {
  so_far : pieces_named (known_in (entries l.pool)) (λ p. p.length) (layout_view l.layout) 0 l.fn.start l.entries
      ≡ (pieces_named (known_in (entries l.pool)) (λ p. p.length) (layout_view l.layout) l.entry-index l.end (drop l.entry-index l.entries) >>= λ rest. Ok (l.pieces.items ++ rest));
  count : vec_len l.pieces ≡ l.entry-index;
  limit : l.end ≤ l.fn.start + l.entry-index * 16_777_216;
}

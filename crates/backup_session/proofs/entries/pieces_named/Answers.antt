use Rattle.std.proofs.Common.{◌≡◌, ◌+◌, ◌<◌, ◌++◌, Ok, length, drop, sym, ap, ap₂, ◌∙◌, arith}
use Rattle.std.specs.FinMap.{entries}
use Rattle.store_types.specs.Chain.Refusing.{◌>>=◌}
use Rattle.store_stops.proofs.OutcomeLemmas.{refused}
use Rattle.store_model.specs.Archives.{pieces_named}
use Rattle.backup_session.specs.Indexes.{layout_view}
use Rattle.backup_session.specs.Answers.{TellsPieces}
use Rattle.backup_session.specs.Steps.{known_in, pieces_in}
use Rattle.backup_session.proofs.Naming.{named_more, named_refused, named_none, behind_more}
use Rattle.backup_session.proofs.Lifting.{own_default, drop_end, nothing_more}
use Rattle.backup_session.proofs.entries.pieces_named.Goals as goal

pub returns-in_err-piece-clause-exact : goal.returns-in_err-piece-clause-exact
returns-in_err-piece-clause-exact c =
    let i = c.loop-entry.entry-index in
    let es = c.args.entries.now in
    let find = known_in (entries c.args.pool.now) in
    let layout = layout_view c.args.layout in
    let before = c.loop-entry.pieces.items in
    let below : i < length es = omega arith in
    let place : c.len-place.result ≡ i = c.len-place.ensures ∙ c.loop-entry.invariant.count in
    let refusal = c.in_err-piece.field-0.0 in
    refused (TellsPieces (pieces_in c.args.pool.now c.args.layout c.args.start es)) c.from_residual.result refusal c.from_residual.ensures.1
    (c.loop-entry.invariant.so_far
    ∙ ap (λ p. pieces_named find (λ p. p.length) layout p c.loop-entry.end (drop i es) >>= λ rest. Ok (before ++ rest)) (sym place)
    ∙ ap (λ r. r >>= λ rest. Ok (before ++ rest))
    (named_refused find (λ p. p.length) layout c.len-place.result c.loop-entry.end i es _ refusal below (own_default es i _ below) (sym c.in_err-piece.ensures.exact)))

pub loop-entry-preserved : goal.loop-entry-preserved
loop-entry-preserved c =
    let i = c.loop-entry.entry-index in
    let es = c.args.entries.now in
    let find = known_in (entries c.args.pool.now) in
    let layout = layout_view c.args.layout in
    let before = c.loop-entry.pieces.items in
    let below : i < length es = omega arith in
    let place : c.len-place.result ≡ i = c.len-place.ensures ∙ c.loop-entry.invariant.count in
    let pushed = c.in_ok-push.ensures.items in
    record {
      so_far =
          c.loop-entry.invariant.so_far
          ∙ ap (λ p. pieces_named find (λ p. p.length) layout p c.loop-entry.end (drop i es) >>= λ rest. Ok (before ++ rest)) (sym place)
          ∙ ap (λ r. r >>= λ rest. Ok (before ++ rest))
          (named_more find (λ p. p.length) layout c.len-place.result c.loop-entry.end i es _ _ below (own_default es i _ below) (sym c.in_ok-piece.ensures.exact))
          ∙ behind_more before _ (pieces_named find (λ p. p.length) layout (c.len-place.result + 1) (c.loop-entry.end + c.in_ok-piece.piece.length) (drop (i + 1) es))
          ∙ ap₂ (λ p bs. pieces_named find (λ p. p.length) layout p (c.loop-entry.end + c.in_ok-piece.piece.length) (drop (i + 1) es) >>= λ rest. Ok (bs ++ rest))
          (ap (λ p. p + 1) place) (sym pushed);
      count = omega (arith, c.in_ok-push.ensures.len);
      limit = omega (arith, c.in_ok-piece.ensures.short);
    }

pub returns-clause-exact : goal.returns-clause-exact
returns-clause-exact c =
    let es = c.args.entries.now in
    let find = known_in (entries c.args.pool.now) in
    let layout = layout_view c.args.layout in
    let before = c.loop-entry.pieces.items in
    c.loop-entry.invariant.so_far
    ∙ ap (λ rest. pieces_named find (λ p. p.length) layout c.loop-entry.entry-index c.loop-entry.end rest >>= λ others. Ok (before ++ others))
    (drop_end es c.loop-entry.entry-index c.loop-entry-test.false)
    ∙ ap (λ r. r >>= λ others. Ok (before ++ others)) (named_none find (λ p. p.length) layout c.loop-entry.entry-index c.loop-entry.end)
    ∙ ap (λ ks. Ok ks) (nothing_more before)

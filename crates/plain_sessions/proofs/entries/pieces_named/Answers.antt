use Rattle.std.proofs.Common.{◌≡◌, ◌+◌, ◌<◌, ◌++◌, [], ◌∷◌, Err, length, map, drop, sym, ap, ◌∙◌, arith, rules}
use Rattle.store_model.specs.ArchiveSteps.{named}
use Rattle.plain_snapshots.specs.Shown.{shown_layout}
use Rattle.plain_sessions.specs.declared.stop.Stop.TheVariants.{Refused}
use Rattle.plain_sessions.proofs.Naming.{own_default, behind, behind_more, behind_refused, behind_all}
use Rattle.plain_sessions.proofs.Stopping.{gives_refusal}
use Rattle.plain_sessions.proofs.entries.pieces_named.Goals as goal

pub returns-in_err-piece-clause-gives : goal.returns-in_err-piece-clause-gives
returns-in_err-piece-clause-gives c =
    let pool = c.args.pool.now in
    let layout = shown_layout c.args.layout in
    let i = c.loop-entry.entry-index in
    let es = c.args.entries.now in
    let before = c.loop-entry.pieces.items in
    let r = c.in_err-piece.field-0.0 in
    let below : i < length es = omega arith in
    let place : c.len-place.result ≡ i = c.len-place.ensures ∙ c.loop-entry.invariant.count in
    let is : c.from_residual.result ≡ Err (Refused r) = search rules in
    gives_refusal (λ pieces. pieces.items) _ r _ is
    (c.loop-entry.invariant.so_far ∙ ap (λ p. behind pool layout before p c.loop-entry.end (drop i (map named es))) (sym place)
    ∙ behind_refused pool layout before c.len-place.result c.loop-entry.end i es _ r below (own_default es i _ below) c.in_err-piece.ensures.test)

pub loop-entry-preserved : goal.loop-entry-preserved
loop-entry-preserved c =
    let pool = c.args.pool.now in
    let layout = shown_layout c.args.layout in
    let i = c.loop-entry.entry-index in
    let es = c.args.entries.now in
    let before = c.loop-entry.pieces.items in
    let now = c.push.new.self.items in
    let end = c.loop-entry.end in
    let piece = c.in_ok-piece.piece.now in
    let rest = drop (i + 1) (map named es) in
    let below : i < length es = omega arith in
    let place : c.len-place.result ≡ i = c.len-place.ensures ∙ c.loop-entry.invariant.count in
    let same : c.in_ok-clone.field-0 ≡ piece = search rules in
    let pushed = c.in_ok-push.ensures.items ∙ ap (λ q. before ++ q ∷ []) same in
    let ended : c.in_ok-end.end ≡ end + length piece = search (rules, arith) in
    record {
      so_far =
          c.loop-entry.invariant.so_far ∙ ap (λ p. behind pool layout before p end (drop i (map named es))) (sym place)
          ∙ behind_more pool layout before c.len-place.result end i es _ piece below (own_default es i _ below) c.in_ok-piece.ensures.test
          ∙ ap (λ bs. behind pool layout bs (c.len-place.result + 1) (end + length piece) rest) (sym pushed)
          ∙ ap (λ k. behind pool layout now (k + 1) (end + length piece) rest) place
          ∙ ap (λ e. behind pool layout now (i + 1) e rest) (sym ended);
      count = omega (arith, c.in_ok-push.ensures.len, c.loop-entry.invariant.count);
    }

pub returns-clause-gives : goal.returns-clause-gives
returns-clause-gives c =
    c.loop-entry.invariant.so_far
    ∙ behind_all c.args.pool.now (shown_layout c.args.layout) c.loop-entry.pieces.items c.loop-entry.entry-index c.loop-entry.end c.loop-entry.entry-index c.args.entries.now (omega arith)

use Rattle.std.proofs.Common.{ℕ, ◌≡◌, ◌+◌, ◌<◌, ap, subst, ◌∙◌, arith}
use Rattle.dynamic_index.specs.Pieces.{start_of}
use Rattle.dynamic_index.proofs.Steps.{start_of-next}
use Rattle.dynamic_index.proofs.view.DynamicView.chunk_at.Goals as goal

pub returns-clause-held : goal.returns-clause-held
returns-clause-held c =
    let x = c.args.self.now in
    let low = c.loop-high.low in
    let is = c.loop-high.invariant in
    let next : c.loop-high.high ≡ low + 1 = omega (arith, is.0, c.loop-high-test.false) in
    let P : ℕ → Type 0 = λ n. c.args.offset < n in
    record {
      place = omega (arith, is.0, is.1);
      starts = is.2;
      stops = subst P (ap (start_of x) next ∙ start_of-next x low (omega (arith, is.0, is.1))) is.3;
    }

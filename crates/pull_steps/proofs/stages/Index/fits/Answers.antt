use Rattle.std.proofs.Common.{◌≡◌, ◌<◌, ◌-◌, length, ap, ◌∙◌, arith}
use Rattle.std.proofs.lemmas.Bool.{lt-leb}
use Rattle.pull_steps.specs.Indexes.{end_at}
use Rattle.pull_steps.proofs.Sizes.{fits_less, fits_more}
use Rattle.pull_steps.proofs.stages.Index.fits.Goals as goal

pub returns-then-size : goal.returns-then-size
returns-then-size c =
    let x = c.args.self.now in
    let e = c.index.result.now in
    let lt : c.args.place < length x.entries.items = omega (arith, c.requires, x.entries.ok.0) in
    let len = c.saturating_sub-length.result in
    let is : len ≡ end_at x c.args.place - e.offset = c.saturating_sub-length.ensures ∙ ap (λ n. n - e.offset) c.end.ensures in
    fits_more x c.args.place e lt c.index.ensures c.args.size len (omega arith) is

pub returns-else-size : goal.returns-else-size
returns-else-size c =
    let x = c.args.self.now in
    let lt : c.args.place < length x.entries.items = omega (arith, c.requires, x.entries.ok.0) in
    let short : c.args.size < 12 = omega arith in
    lt-leb 12 c.args.size short ∙ fits_less x c.args.place c.index.result.now lt c.index.ensures c.args.size short

use Rattle.std.proofs.Common.{◌+◌, ◌*◌, ◌<◌, length, min, ap, ap₂, ◌∙◌, arith}
use Rattle.store_files.specs.FixedIndex.{FixedIndex, fields_of}
use Rattle.fixed_index.specs.Viewing.{start_of}
use Rattle.fixed_index.proofs.Cells.{count_is}
use Rattle.fixed_index.proofs.Cutting.{end_small}
use Rattle.fixed_index.proofs.view.FixedView.span.Goals as goal

pub u64_at-chunk_size-requires : goal.u64_at-chunk_size-requires
u64_at-chunk_size-requires c = omega (arith, c.self.invariant.long)

pub overflow_mul-start : goal.overflow_mul-start
overflow_mul-start c =
    let counts = count_is c.self.inside.bytes.now ∙ ap (λ x. length x.digests) c.self.view_is in
    let below : c.args.i < 1_048_576 = omega (arith, counts, c.self.invariant.limit) in
    omega (arith, end_small (fields_of c.self.inside.bytes.now) c.args.i c.u64_at-chunk_size.result c.u64_at-chunk_size.ensures c.self.invariant.sizes below)

pub overflow_add-start : goal.overflow_add-start
overflow_add-start c =
    let counts = count_is c.self.inside.bytes.now ∙ ap (λ x. length x.digests) c.self.view_is in
    let below : c.args.i < 1_048_576 = omega (arith, counts, c.self.invariant.limit) in
    omega (arith, end_small (fields_of c.self.inside.bytes.now) c.args.i c.u64_at-chunk_size.result c.u64_at-chunk_size.ensures c.self.invariant.sizes below)

pub returns-clause-start : goal.returns-clause-start
returns-clause-start c =
    ap (λ n. c.args.i * n) c.u64_at-chunk_size.ensures ∙ ap (λ (x : FixedIndex). start_of x c.args.i) c.self.view_is

pub returns-clause-end : goal.returns-clause-end
returns-clause-end c =
    c.min.ensures ∙ ap₂ min (ap (λ n. c.args.i * n + n) c.u64_at-chunk_size.ensures ∙ ap (λ (x : FixedIndex). c.args.i * x.chunk_size + x.chunk_size) c.self.view_is) c.size.ensures

use Rattle.std.proofs.Common.{◌≡◌, true, ap₂, subst, sym, ◌∙◌, arith}
use Rattle.store_files.specs.FixedIndex.{is_chunk_size, piece_count, fields_of}
use Rattle.fixed_index.proofs.Cells.{count_is, sizes_agree}
use Rattle.fixed_index.proofs.Cutting.{chunk_size_bounds}
use Rattle.fixed_index.proofs.view.has_sizes.Goals as goal

pub piece_count-requires : goal.piece_count-requires
piece_count-requires c =
    let allowed : is_chunk_size c.u64_at-chunk_size.result ≡ true = sym c.if-not-is_chunk_size.ensures in
    omega (arith, (chunk_size_bounds c.u64_at-chunk_size.result allowed).0)

pub returns : goal.returns
returns c =
    let x = fields_of c.args.bytes.now in
    let allowed : is_chunk_size x.chunk_size ≡ true =
    subst (λ n. is_chunk_size n ≡ true) c.u64_at-chunk_size.ensures (sym c.if-not-is_chunk_size.ensures) in
    let count = c.piece_count.ensures ∙ ap₂ piece_count c.u64_at.ensures c.u64_at-chunk_size.ensures in
    sizes_agree _ _ _ _ _ allowed (count_is c.args.bytes.now) count

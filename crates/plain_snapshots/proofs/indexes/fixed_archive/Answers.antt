use Rattle.std.proofs.Common.{◌≡◌, ◌∙◌, List, ℕ, ℤ, arith, rules, ap, sym}
use Rattle.std.specs.Int.{w64, cast_signed}
use Rattle.std.specs.Prelude.{FitsSigned}
use Rattle.std.proofs.lemmas.Int.{to_z-of_z}
use Rattle.store_files.specs.Archive.{Archive, fixed}
use Rattle.store_files.specs.FixedIndex.{FixedIndex}
use Rattle.plain_snapshots.proofs.Headers.{fixed_fields}
use Rattle.plain_snapshots.proofs.indexes.fixed_archive.Goals as goal

pub u64_at-requires : goal.u64_at-requires
u64_at-requires c = omega (arith, (fixed_fields _ _ c.requires).0)

pub slice_bounds-from_slice-end : goal.slice_bounds-from_slice-end
slice_bounds-from_slice-end c = omega (arith, (fixed_fields _ _ c.requires).0)

pub slice_bounds-from_slice-end-2 : goal.slice_bounds-from_slice-end-2
slice_bounds-from_slice-end-2 c = omega (arith, (fixed_fields _ _ c.requires).0)

-- an archive by its parts
made : {size size' chunk chunk' : ℕ} {uuid uuid' reserved reserved' : List ℕ} {ctime ctime' : ℤ} {pieces pieces' : List (List ℕ)}
    → size ≡ size' → chunk ≡ chunk' → uuid ≡ uuid' → ctime ≡ ctime' → reserved ≡ reserved' → pieces ≡ pieces'
    → let a : Archive = record { layout = fixed size chunk; uuid = uuid; ctime = ctime; reserved = reserved; pieces = pieces } in
    let b : Archive = record { layout = fixed size' chunk'; uuid = uuid'; ctime = ctime'; reserved = reserved'; pieces = pieces' } in a ≡ b
made a b c d e f = cc

pub returns : goal.returns
returns c =
    let x = c.args.view.now in
    let fits : FitsSigned w64 c.cast_signed.result = search rules in
    let is = (fixed_fields c.args.bytes.now x c.requires).1 in
    made c.size.ensures c.chunk_size.ensures
    (c.in_ok-from_slice.ensures ∙ ap (λ (y : FixedIndex). y.uuid) (sym is))
    (to_z-of_z w64 c.cast_signed.result fits ∙ c.cast_signed.ensures ∙ ap (cast_signed w64) c.u64_at.ensures ∙ ap (λ (y : FixedIndex). y.ctime) (sym is))
    (c.in_ok-from_slice-2.ensures ∙ ap (λ (y : FixedIndex). y.reserved) (sym is)) c.in_ok-fixed_pieces.ensures

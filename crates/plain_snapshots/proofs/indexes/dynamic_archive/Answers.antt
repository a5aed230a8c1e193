use Rattle.std.proofs.Common.{◌≡◌, ◌∙◌, List, ℕ, ℤ, arith, rules, ap, sym}
use Rattle.std.specs.Int.{w64, cast_signed}
use Rattle.std.specs.Prelude.{FitsSigned}
use Rattle.std.proofs.lemmas.Int.{to_z-of_z}
use Rattle.store_files.specs.Archive.{Archive, dynamic}
use Rattle.store_files.specs.DynamicIndex.{DynamicIndex}
use Rattle.dynamic_index.proofs.Reading.{dynamic_of-ok}
use Rattle.plain_snapshots.proofs.indexes.dynamic_archive.Goals as goal

pub u64_at-requires : goal.u64_at-requires
u64_at-requires c = omega (arith, (dynamic_of-ok _ _ c.requires).1.long)

pub slice_bounds-from_slice-end : goal.slice_bounds-from_slice-end
slice_bounds-from_slice-end c = omega (arith, (dynamic_of-ok _ _ c.requires).1.long)

pub slice_bounds-from_slice-end-2 : goal.slice_bounds-from_slice-end-2
slice_bounds-from_slice-end-2 c = omega (arith, (dynamic_of-ok _ _ c.requires).1.long)

-- an archive by its parts
made : {uuid uuid' reserved reserved' : List ℕ} {ctime ctime' : ℤ} {pieces pieces' : List (List ℕ)}
    → uuid ≡ uuid' → ctime ≡ ctime' → reserved ≡ reserved' → pieces ≡ pieces'
    → let a : Archive = record { layout = dynamic; uuid = uuid; ctime = ctime; reserved = reserved; pieces = pieces } in
    let b : Archive = record { layout = dynamic; uuid = uuid'; ctime = ctime'; reserved = reserved'; pieces = pieces' } in a ≡ b
made c d e f = cc

pub returns : goal.returns
returns c =
    let x = c.args.view.now in
    let fits : FitsSigned w64 c.cast_signed.result = search rules in
    let is = (dynamic_of-ok c.args.bytes.now x c.requires).0 in
    made (c.in_ok-from_slice.ensures ∙ ap (λ (y : DynamicIndex). y.uuid) (sym is))
    (to_z-of_z w64 c.cast_signed.result fits ∙ c.cast_signed.ensures ∙ ap (cast_signed w64) c.u64_at.ensures ∙ ap (λ (y : DynamicIndex). y.ctime) (sym is))
    (c.in_ok-from_slice-2.ensures ∙ ap (λ (y : DynamicIndex). y.reserved) (sym is)) c.in_ok-dynamic_pieces.ensures

use Rattle.std.proofs.Common.{◌≡◌, ◌∙◌, Option, String, take, string_bytes, arith, ap, sym, subst}
use Rattle.std.specs.List.{filter_map}
use Rattle.std.specs.declared.alloc.Global.{Global}
use Rattle.std.proofs.lemmas.Grind.{common_steps}
use Rattle.std.proofs.lemmas.List.{take_all}
use Rattle.std.proofs.lemmas.List.Elements.{filter_map-append}
use Rattle.store_types.specs.declared.names.Digest32.{Digest32}
use Rattle.chunk_store.specs.Listed.{Lists, digest_named}
use Rattle.chunk_store.proofs.Scanning.{lists_all, filter_map-map}
use Rattle.chunk_store.proofs.listing.digests_named.Goals as goal

pub loop-name-preserved : goal.loop-name-preserved
loop-name-preserved c = grind (arith, common_steps, filter_map-append)

pub returns-clause-digests : goal.returns-clause-digests
returns-clause-digests c =
    let xs = c.args.names.now in
    let named : String Global → Option Digest32 = λ n. digest_named (string_bytes n) in
    let all : take c.loop-name.name-index xs ≡ xs = take_all _ _ c.loop-name-test.false in
    λ files are.
    subst (Lists files)
    (sym (c.loop-name.invariant ∙ ap (filter_map named) all ∙ filter_map-map digest_named string_bytes xs ∙ ap (filter_map digest_named) are))
    (lists_all files)

use Rattle.std.proofs.Common.{subst, ap, sym, ◌∙◌, string_bytes}
use Rattle.std.specs.List.{filter_map}
use Rattle.chunk_store.specs.Listed.{Lists, digest_named}
use Rattle.chunk_store.proofs.Scanning.{lists, filter_map-map}
use Rattle.chunk_store.proofs.listing.scan.Goals as goal

pub returns-clause-digests : goal.returns-clause-digests
returns-clause-digests g c =
    let d = g.D.Disk in
    λ honest.
    subst (Lists (d.content c.args.disk.now))
    (sym (c.in_ok-digests.ensures.value ∙ ap (λ x. filter_map (λ n. digest_named (string_bytes n)) x) c.deref.ensures.value ∙ filter_map-map digest_named string_bytes c.in_ok-names.names.items ∙ ap (filter_map digest_named) (c.in_ok-names.ensures.names honest)))
    (lists (d.content c.args.disk.now))

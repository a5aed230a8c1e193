use Rattle.std.proofs.Common.{ap, subst}
use Rattle.snapshot_files.specs.Scanned.{FoundSnapshot}
use Rattle.core_opening.specs.Opening.{ListsNames}
use Rattle.core_opening.proofs.Keeping.{is_kept}
use Rattle.core_opening.proofs.cataloguing.kept_of.Goals as goal

pub returns : goal.returns
returns c =
    is_kept c.args.found c.found.inside.key c.found.inside.unreadable c.in_ok-names.names.keys c.in_ok-files.files.items c.from_vec.result
    (ap (λ (f : FoundSnapshot). f.key) c.found.view_is) (ap (λ (f : FoundSnapshot). f.unreadable) c.found.view_is) c.from_vec.ensures c.in_ok-files.ensures.files c.in_ok-files.ensures.order
    (subst (λ o. ListsNames o c.in_ok-names.names.keys) (ap (λ (f : FoundSnapshot). f.manifest) c.found.view_is) c.in_ok-names.ensures)

use Rattle.std.proofs.Common.{List, ℕ, sym, subst}
use Rattle.index_pages.specs.Paged.{FitsPaged, paged_by}
use Rattle.index_pages.proofs.Standing.{sums_count}
use Rattle.index_pages.proofs.pages.Pages.of.Goals as goal

pub invariant_of-result : goal.invariant_of-result
invariant_of-result c =
    let width = c.args.width in
    let count = c.args.count in
    let sums = c.args.sums.items in
    let bytes = c.requires.bytes in
    subst (λ (name : List ℕ). FitsPaged (paged_by name width count sums)) (sym c.in_ok-name.ensures.ok)
    (record { width = c.requires.width; limit = c.requires.count; sums = sums_count (paged_by c.args.name.now width count sums) bytes; bytes = bytes })

use Rattle.std.proofs.Common.{◌≡◌, ◌≤◌, ◌+◌, ◌∙◌, IsTrue, IfErr, OnOk, length, sym, ap, subst}
use Rattle.store_files.specs.DynamicIndex.{steps_fit}
use Rattle.restore_reader.specs.Cutting.{total_of}
use Rattle.restore_reader.specs.Plan.{ends_of, parts_in}
use Rattle.core_reader.specs.Chunks.{HoldsParts, ReadsParts, StopsAmong, digests_of}
use Rattle.core_reader.specs.Ranges.{parts_on}
use Rattle.core_reader.proofs.Loads.{short_unrefused}
use Rattle.core_reader.proofs.paging.read_pieces.Goals as goal

pub parts_of_page-requires : goal.parts_of_page-requires
parts_of_page-requires g c =
    let page = c.args.page.now in
    subst (λ es. IsTrue (steps_fit page.start (ends_of es))) (sym c.deref.ensures.value) page.steps

pub returns-in_err-parts-clause-held : goal.returns-in_err-parts-clause-held
returns-in_err-parts-clause-held g c = λ h holds. short_unrefused _ c.from_residual.ensures.1

pub returns-clause-value : goal.returns-clause-value
returns-clause-value g c = λ h.
    let page = c.args.page.now in
    let parts : c.deref-2.result.now ≡ parts_on c.args.from c.args.to page = c.deref-2.ensures.value ∙ c.in_ok-parts.ensures.value ∙ ap (λ es. parts_in c.args.from c.args.to page.start (ends_of es)) c.deref.ensures.value in
    subst (λ ps. ReadsParts (g.D.Disk.content c.args.disk.now) ps c.args.bytes.now.items c.read_parts.new.bytes.items c.read_parts.result) parts (c.read_parts.ensures.value h)

pub returns-clause-held : goal.returns-clause-held
returns-clause-held g c = λ h holds.
    let page = c.args.page.now in
    let parts : c.deref-2.result.now ≡ parts_on c.args.from c.args.to page = c.deref-2.ensures.value ∙ c.in_ok-parts.ensures.value ∙ ap (λ es. parts_in c.args.from c.args.to page.start (ends_of es)) c.deref.ensures.value in
    c.read_parts.ensures.held h (subst (HoldsParts (g.D.Disk.content c.args.disk.now)) (sym parts) holds)

pub returns-clause-size : goal.returns-clause-size
returns-clause-size g c =
    let page = c.args.page.now in
    let parts : c.deref-2.result.now ≡ parts_on c.args.from c.args.to page = c.deref-2.ensures.value ∙ c.in_ok-parts.ensures.value ∙ ap (λ es. parts_in c.args.from c.args.to page.start (ends_of es)) c.deref.ensures.value in
    subst (λ ps. OnOk c.read_parts.result (length c.read_parts.new.bytes.items ≤ length c.args.bytes.now.items + total_of ps)) parts c.read_parts.ensures.size

pub returns-clause-damage : goal.returns-clause-damage
returns-clause-damage g c =
    let page = c.args.page.now in
    let parts : c.deref-2.result.now ≡ parts_on c.args.from c.args.to page = c.deref-2.ensures.value ∙ c.in_ok-parts.ensures.value ∙ ap (λ es. parts_in c.args.from c.args.to page.start (ends_of es)) c.deref.ensures.value in
    subst (λ ps. IfErr c.read_parts.result (StopsAmong (digests_of ps))) parts c.read_parts.ensures.damage

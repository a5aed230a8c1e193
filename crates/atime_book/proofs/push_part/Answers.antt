use Rattle.std.proofs.Common.{◌≡◌, [], ◌∷◌, ◌++◌, length, get_or, take, ap, ◌∙◌, arith}
use Rattle.std.proofs.lemmas.List.{take_more}
use Rattle.atime_book.specs.declared.parts.Touched.{Touched}
use Rattle.atime_book.proofs.Writing.{text_more, widths_more, text_one, width_one}
use Rattle.atime_book.proofs.push_part.Goals as goal

pub loop-touched-preserved : goal.loop-touched-preserved
loop-touched-preserved c =
    let i = c.loop-touched.touched-index in
    let ts = c.args.part.now in
    let none : Touched = record { digest = record { 0 = [] }; moment = 0 } in
    let t = get_or ts i none in
    let more = take_more ts i none c.loop-touched-test.true in
    let wide : length t.digest.0 ≡ 32 = omega arith in
    let made = text_one c.loop-touched.text.items t c.extend_from_slice.new.self.items c.extend_from_slice-in-loop-touched.new.self.items
    c.in_ok-extend_from_slice.ensures.items
    (c.in_ok-extend_from_slice-2.ensures.items ∙ ap (λ w. c.extend_from_slice.new.self.items ++ w) c.to_le_bytes.ensures) in
    record {
      text = text_more c.args.text.now.items (take i ts) (t ∷ []) _ c.loop-touched.text.items _ more c.loop-touched.invariant.text made;
      digests = widths_more (take i ts) (t ∷ []) _ more c.loop-touched.invariant.digests (width_one t wide);
    }

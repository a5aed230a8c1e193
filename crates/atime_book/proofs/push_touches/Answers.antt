use Rattle.std.proofs.Common.{◌≡◌, ◌++◌, take, ap, subst, sym, ◌∙◌, Vec, Global}
use Rattle.atime_book.specs.declared.parts.Touched.{Touched}
use Rattle.atime_book.specs.Parts.{joined, touches_of}
use Rattle.atime_book.specs.Touches.{HaveDigests, AddsTouches}
use Rattle.atime_book.proofs.Writing.{joined_more, text_more, widths_more}
use Rattle.atime_book.proofs.push_touches.Goals as goal

pub loop-part-preserved : goal.loop-part-preserved
loop-part-preserved c =
    let i = c.loop-part.part-index in
    let parts = c.args.parts.now in
    let part = c.part-item.result in
    let more = joined_more parts i part c.loop-part-test.true ∙ ap (λ (p : Vec Touched Global). joined (take i parts) ++ p.items) (sym c.part-item.is) in
    let slice : c.deref.result.now ≡ part.items = c.deref.ensures.value in
    record {
      text = text_more c.args.text.now.items (joined (take i parts)) part.items _ c.loop-part.text.items _ more c.loop-part.invariant.text
          (subst (λ ts. AddsTouches ts c.loop-part.text.items c.push_part.new.text.items) slice c.in_ok-push_part.ensures.text);
      digests = widths_more (joined (take i parts)) part.items _ more c.loop-part.invariant.digests
          (subst (λ ts. HaveDigests (touches_of ts)) slice c.in_ok-push_part.ensures.digests);
    }

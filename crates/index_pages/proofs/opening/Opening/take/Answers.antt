use Rattle.std.proofs.Common.{◌≡◌, ◌+◌, ◌*◌, length, drop, refl, ap, subst, ◌∙◌, arith}
use Rattle.std.proofs.lemmas.List.{length-drop}
use Rattle.index_pages.specs.Opening.{AreBytes, NotesPage, page_of}
use Rattle.index_pages.proofs.Cutting.{pages_more}
use Rattle.index_pages.proofs.Filled.{page_read}
use Rattle.index_pages.proofs.opening.Opening.take.Goals as goal

pub returns-clause-takes : goal.returns-clause-takes
returns-clause-takes g c = λ honest text there len.
    let width = c.args.width in
    let count = c.args.count in
    let i = c.args.i in
    let body = drop 4096 text in
    let page = page_of width count i body in
    let size : length body ≡ count * width = omega (arith, len, length-drop 4096 text) in
    let start : 4096 + c.from.result * (1024 * width) ≡ 4096 + i * (1024 * width) = ap (λ n. 4096 + n * (1024 * width)) c.from.ensures in
    let read : c.fill.new.self ≡ page =
    page_read _ text c.fill.new.self width count i _ _ _ there (c.in_ok-fill.ensures.exact honest) start (ap (λ n. n * width) c.entries_in.ensures) in
    let bytes = c.as_slice.ensures.value ∙ read in
    record {
      bytes = read;
      noted = pages_more width count i body c.args.self.now c.note.new.self page c.requires.width size refl (subst AreBytes bytes c.note.ensures.bytes)
          (subst (NotesPage c.args.self.now c.note.new.self) bytes c.in_ok-note.ensures.notes);
    }

pub returns-clause-bytes : goal.returns-clause-bytes
returns-clause-bytes g c = subst AreBytes c.as_slice.ensures.value c.note.ensures.bytes

pub returns-clause-notes : goal.returns-clause-notes
returns-clause-notes g c = subst (NotesPage c.args.self.now c.note.new.self) c.as_slice.ensures.value c.in_ok-note.ensures.notes

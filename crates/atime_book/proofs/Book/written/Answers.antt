use Rattle.std.proofs.Common.{◌++◌, ap, ap₂, ◌∙◌}
use Rattle.sha2.specs.Sha256.{sha256}
use Rattle.store_files.specs.Book.{book_text}
use Rattle.atime_book.proofs.Book.written.Goals as goal

pub returns-clause-text : goal.returns-clause-text
unfolding book_text
returns-clause-text c =
    c.in_ok-extend_from_slice.ensures.items
    ∙ ap₂ (λ a b. a ++ b) c.in_ok-text.ensures.text
    (c.digest-csum.ensures ∙ ap sha256 (c.as_slice.ensures.value ∙ c.in_ok-text.ensures.text))

-- Reading and writing books are inverse to each other.
use Rattle.std.specs.Prelude.{◌≡◌, ℕ, List, Some}
use Rattle.store_files.specs.Book.{Book, FitsBook, book_text, book_of}

-- a book in range is read from its text
abbrev pub WhatIsWrittenIsRead : Type 0
WhatIsWrittenIsRead = (b : Book) → FitsBook b → book_of (book_text b) ≡ Some b

-- what is read is a book in range, and the bytes are its text
abbrev pub WhatIsReadHasOneSpelling : Type 0
WhatIsReadHasOneSpelling = (bytes : List ℕ) (b : Book) → book_of bytes ≡ Some b → (bytes ≡ book_text b) × FitsBook b

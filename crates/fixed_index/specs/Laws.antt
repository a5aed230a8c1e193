-- Reading and writing fixed indexes are inverse to each other.
use Rattle.std.specs.Prelude.{◌≡◌, ℕ, ◌<◌, List, All, Ok}
use Rattle.store_files.specs.FixedIndex.{FixedIndex, FitsFixed, fixed_text, fixed_of}

abbrev pub AreBytes : List ℕ → Type 0
AreBytes = All (λ b. b < 256)

-- an index in range, its reserved bytes being any, is read from its text
abbrev pub WhatIsWrittenIsRead : Type 0
WhatIsWrittenIsRead = (x : FixedIndex) → FitsFixed x → fixed_of (fixed_text x) ≡ Ok x

-- what is read is an index in range, and the bytes are its text with its reserved bytes
abbrev pub WhatIsReadHasOneSpelling : Type 0
WhatIsReadHasOneSpelling = (bytes : List ℕ) (x : FixedIndex) → AreBytes bytes → fixed_of bytes ≡ Ok x →
    (bytes ≡ fixed_text x) × FitsFixed x

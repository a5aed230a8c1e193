-- Reading and writing blobs are inverse to each other.
use Rattle.std.specs.Prelude.{◌≡◌, ℕ, ◌<◌, List, All, Ok}
use Rattle.blob_codec.specs.Blob.{blob, data_of, FitsBlob}

abbrev pub AreBytes : List ℕ → Type 0
AreBytes = All (λ b. b < 256)

-- what is encoded decodes to itself
abbrev pub WhatIsEncodedDecodes : Type 0
WhatIsEncodedDecodes = (p : List ℕ) → AreBytes p → FitsBlob p → data_of (blob p) ≡ Ok p

-- what decodes is what encoding the data gives
abbrev pub WhatDecodesHasOneSpelling : Type 0
WhatDecodesHasOneSpelling = (bytes p : List ℕ) → AreBytes bytes → data_of bytes ≡ Ok p → (bytes ≡ blob p) × FitsBlob p

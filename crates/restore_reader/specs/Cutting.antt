-- Parts as they are read from pieces.
use Rattle.std.specs.Prelude.{◌≡◌, ℕ, ◌+◌, ◌≤◌, List, [], ◌∷◌, ◌++◌, length, take, drop, ⊤}
use Rattle.store_files.specs.Archive.{digest_of}
use Rattle.restore_reader.specs.declared.ranges.Part.{Part}

-- it has the piece's digest and length, lies within the piece and is not empty
pub record IsPartOf (part : Part) (piece : List ℕ) : Type 0 where
  pub digest : part.digest ≡ digest_of piece
  pub whole : part.chunk_length ≡ length piece
  pub within : part.from + part.length ≤ length piece
  pub not_empty : 1 ≤ part.length

-- the part's bytes
abbrev pub cut : Part → List ℕ → List ℕ
cut part piece = take part.length (drop part.from piece)

-- each is a part of the piece at its place
abbrev pub ArePartsOf : List Part → List (List ℕ) → Type 0
ArePartsOf [] pieces = ⊤
ArePartsOf (x ∷ xs) [] = ⊥
ArePartsOf (x ∷ xs) (p ∷ ps) = IsPartOf x p × ArePartsOf xs ps

-- how many bytes they have
abbrev pub total_of : List Part → ℕ
total_of [] = 0
total_of (x ∷ xs) = x.length + total_of xs

-- their bytes, one after another
abbrev pub joined : List Part → List (List ℕ) → List ℕ
joined [] pieces = []
joined (x ∷ xs) [] = []
joined (x ∷ xs) (p ∷ ps) = cut x p ++ joined xs ps

-- the parts are of pieces that follow one another from a place on, one of each, and have these bytes
pub record Reads (parts : List Part) (pieces : List (List ℕ)) (bytes : List ℕ) : Type 0 where
  pub first : ℕ
  pub each : ArePartsOf parts (drop first pieces)
  pub same : joined parts (drop first pieces) ≡ bytes

-- Reading and writing blobs are inverse to each other.
use Rattle.std.proofs.Common.{◌≡◌, ℕ, zero, suc, ◌<◌, List, [], ◌∷◌, ◌++◌, length, take, drop, slice_index, ◌==◌, if◌then◌else◌, Ok, Err, sym, ap, ap₂, ◌∙◌, lit<, arith, eq-eqb}
use Rattle.std.specs.Int.{w32, to_le_bytes, from_le_bytes}
use Rattle.std.proofs.lemmas.Bool.{le-ltb}
use Rattle.std.proofs.lemmas.Nat.{le_bytes_4, from_le_bytes-to_le_bytes_4}
use Rattle.std.proofs.lemmas.List.{take-append-drop, length-take-le, length-drop}
use Rattle.std.proofs.lemmas.List.Elements.{All-take, All-drop}
use Rattle.crc_core.specs.Crc.{crc}
use Rattle.crc_core.proofs.Bounds.{crc-lt}
use Rattle.store_types.specs.declared.refusal.BadBlob.TheVariants.{TooLong, WrongCrc}
use Rattle.blob_codec.specs.Blob.{data_limit, FitsBlob, blob, data_behind}
use Rattle.blob_codec.specs.Laws.{AreBytes, WhatIsEncodedDecodes, WhatDecodesHasOneSpelling}
use Rattle.blob_codec.proofs.Reading.{data_of-under, HasParts-from_data_of}

small_at : (bytes : List ℕ) → AreBytes bytes → (i : ℕ) → slice_index bytes i < 256
small_at [] are i = lit< tt
small_at (b ∷ bytes) are zero = are 0 0 (omega arith)
small_at (b ∷ bytes) are (suc i) = small_at bytes (λ k d within. are (suc k) d (omega arith)) i

-- the true CRC passes
data_behind-crc : (kept : ℕ) (p : List ℕ) → kept ≡ crc p → FitsBlob p → data_behind kept p ≡ Ok p
data_behind-crc kept p is fits =
    ap (λ t. if t then Err TooLong else (if kept == crc p then Ok p else Err (WrongCrc kept (crc p)))) (le-ltb data_limit (length p) fits)
    ∙ ap (λ t. if t then Ok p else Err (WrongCrc kept (crc p))) (eq-eqb kept (crc p) is)

pub data_of-blob : WhatIsEncodedDecodes
unfolding blob
data_of-blob p are fits =
    data_of-under (blob p) (omega arith)
    ∙ data_behind-crc (from_le_bytes w32 (to_le_bytes w32 (crc p))) p (from_le_bytes-to_le_bytes_4 (crc p) (crc-lt p are)) fits

pub blob-from_data_of : WhatDecodesHasOneSpelling
unfolding blob
blob-from_data_of bytes p are is =
    let parts = HasParts-from_data_of bytes p is in
    let four = length-take-le 4 (drop 8 bytes) (omega (arith, parts.long, length-drop 8 bytes)) in
    let kept = le_bytes_4 (take 4 (drop 8 bytes)) (crc p) four
    (small_at (take 4 (drop 8 bytes)) (All-take (λ b. b < 256) 4 (drop 8 bytes) (All-drop (λ b. b < 256) 8 bytes are)))
    (sym parts.kept) in (
      sym (take-append-drop 8 bytes)
          ∙ ap₂ (λ x y. x ++ y) parts.begins (sym (take-append-drop 4 (drop 8 bytes)) ∙ ap₂ (λ x y. x ++ y) (sym kept) parts.rest),
      parts.fits,
    )

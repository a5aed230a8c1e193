use Rattle.std.proofs.Common.{◌≡◌, ◌<◌, ◌≤◌, ◌∙◌, ℕ, List, length, ap, rules, arith}
use Rattle.wire_frames.specs.Frames.{body_limit}
use Rattle.wire_commands.specs.HasText.{FitsChunkFault}
use Rattle.blob_codec.specs.Blob.{blob}
use Rattle.core_state.proofs.Texts.{damaged_has_text, data_has_text}
use Rattle.core_remote.proofs.reading.chunk.Goals as goal

blob_short : (p bytes : List ℕ) → bytes ≡ blob p → length p ≤ 16_777_216 → length bytes < body_limit
unfolding blob
blob_short p bytes is le = omega (arith, ap length is, le)

pub returns-in-Ok-clause-text : goal.returns-in-Ok-clause-text
returns-in-Ok-clause-text g c =
    let is : c.from_vec.result ≡ blob c.in-Ok.chunk = c.from_vec.ensures ∙ c.into_blob.ensures in
    let size : length c.in-Ok.chunk ≤ 16_777_216 = omega (arith, c.in-Ok.ensures.checked.0.1) in
    data_has_text c.from_vec.result (blob_short c.in-Ok.chunk c.from_vec.result is size)

pub returns-in-Err-Damaged-clause-text : goal.returns-in-Err-Damaged-clause-text
returns-in-Err-Damaged-clause-text g c =
    let is : length c.in-Err-Damaged.digest.0 ≡ 32 = search rules in
    let fits : FitsChunkFault c.in-Err-Damaged.found = search rules in
    damaged_has_text c.in-Err-Damaged.digest c.in-Err-Damaged.found is fits

pub returns-in-Ok-clause-tested : goal.returns-in-Ok-clause-tested
returns-in-Ok-clause-tested g c =
    let is : c.from_vec.result ≡ blob c.in-Ok.chunk = c.from_vec.ensures ∙ c.into_blob.ensures in
    (c.in-Ok.chunk, c.in-Ok.ensures.checked.0, is, c.in-Ok.ensures.checked.1)

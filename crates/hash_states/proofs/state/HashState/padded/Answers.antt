use Rattle.std.proofs.Common.{◌≡◌, ℕ, ◌+◌, ◌-◌, ◌*◌, ◌%◌, ◌^◌, ◌<◌, List, ◌∷◌, ◌++◌, length, set, suc, take, drop, replicate, refl, sym, ap, ap₂, ◌∙◌, append_assoc, length-append, arith}
use Rattle.std.proofs.lemmas.List.{drop-replicate, length-replicate, length-take-le, set_split, take-replicate}
use Rattle.std.proofs.lemmas.Slice.{take-put_mid}
use Rattle.std.proofs.Math.Seq.{drop-append-add, take-append-add, take-append_seam}
use Rattle.std.specs.Int.{w64, to_be_bytes}
use Rattle.sha2.specs.Sha256.{padding}
use Rattle.hash_states.specs.States.{State}
use Rattle.hash_states.proofs.state.HashState.padded.Goals as goal
use Rattle.hash_states.proofs.state.HashState.padded.Goals.{then-held-lt56, else-held-lt56}
use borrow.Rule.Slice.PartMut.{put_mid}

-- a byte over the first of the zeros behind some bytes
set-seam : (front : List ℕ) (n x : ℕ) → 0 < n
    → set (front ++ replicate n 0) (length front) x ≡ front ++ x ∷ replicate (n - 1) 0
set-seam front n x some =
    let zeros : List ℕ = replicate n 0 in
    let zeros_len : length zeros ≡ n = length-replicate n 0 in
    let next : suc (length front) ≡ length front + 1 = omega arith in
    set_split (front ++ zeros) (length front) x (omega (arith, length-append front zeros))
    ∙ ap₂ (λ a b. a ++ x ∷ b) (take-append_seam front zeros)
    (ap (λ k. drop k (front ++ zeros)) next ∙ drop-append-add front zeros 1 ∙ drop-replicate 1 n 0)

-- the padding as three writes into zeros leave it
three_writes : (left zeros front back : List ℕ) (total used len k : ℕ) → used ≡ total % 64 → length left ≡ 64
    → front ≡ take used left → zeros ≡ replicate 128 0 → back ≡ to_be_bytes w64 (total * 8 % 2 ^ 64)
    → len ≡ used + 1 + (119 - used) % 64 + 8
    → take len (put_mid (len - 8) k (set (front ++ drop used zeros) used 0x80) back)
    ≡ take (total % 64) left ++ padding total
three_writes left zeros front back total used len k at size ef ez eb fits =
    let gap : ℕ = (119 - used) % 64 in
    let behind : List ℕ = replicate (128 - used - 1) 0 in
    let count : List ℕ = to_be_bytes w64 (total * 8 % 2 ^ 64) in
    let two : List ℕ = set (front ++ drop used zeros) used 0x80 in
    let front_len : length front ≡ used = ap length ef ∙ length-take-le used left (omega arith) in
    let behind_len : length behind ≡ 128 - used - 1 = length-replicate (128 - used - 1) 0 in
    let back_len : length back ≡ 8 = ap length eb in
    let marked : two ≡ front ++ 0x80 ∷ behind =
    ap₂ (λ z n. set (front ++ z) n 0x80) (ap (drop used) ez ∙ drop-replicate used 128 0) (sym front_len)
    ∙ set-seam front (128 - used) 0x80 (omega arith) in
    let two_len : length two ≡ 128 = ap length marked ∙ omega (arith, length-append front (0x80 ∷ behind)) in
    let place : len - 8 ≡ length front + suc gap = omega arith in
    let cut : take (len - 8) (front ++ 0x80 ∷ behind) ≡ front ++ 0x80 ∷ replicate gap 0 =
    ap (λ n. take n (front ++ 0x80 ∷ behind)) place ∙ take-append-add front (0x80 ∷ behind) (suc gap)
    ∙ ap (λ l. front ++ 0x80 ∷ l) (take-replicate gap (128 - used - 1) 0 (omega arith)) in
    let parts : take len (put_mid (len - 8) k two back) ≡ front ++ 0x80 ∷ (replicate gap 0 ++ count) =
    take-put_mid (len - 8) k two back len (omega arith) (omega arith)
    ∙ ap₂ (λ l b. take (len - 8) l ++ b) marked eb
    ∙ ap (λ l. l ++ count) cut
    ∙ append_assoc front (0x80 ∷ replicate gap 0) count in
    parts
    ∙ ap₂ (λ f n. f ++ 0x80 ∷ (replicate ((119 - n) % 64) 0 ++ count)) (ef ∙ ap (λ n. take n left) at) at

pub returns-clause-value : goal.returns-clause-value
returns-clause-value c =
    let inside = c.self.inside in
    let used : ℕ = inside.total % 64 in
    let len : ℕ = c.if-held-lt56.len in
    let fits : len ≡ used + 1 + (119 - used) % 64 + 8 =
    elim c.if-held-lt56.branch [
      | then-held-lt56 w ↦ omega (arith, w.len-is)
      | else-held-lt56 w ↦ omega (arith, w.len-is)
    ] in
    three_writes inside.left _ _ _ inside.total used len _ refl c.self.told.1 c.copy_from_slice.ensures.after refl
    (c.copy_from_slice-2.ensures.after ∙ c.to_be_bytes.ensures) fits
    ∙ ap (λ (s : State). s.left ++ padding s.total) c.self.view_is

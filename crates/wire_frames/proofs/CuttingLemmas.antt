-- A cutter's fields as it moves past a frame.
use Rattle.std.proofs.Common.{◌≡◌, ℕ, ◌+◌, ◌≤◌, List, length, drop, Option, Some, Ok, sym, ap, ◌∙◌, arith, length-drop, drop-drop}
use Rattle.std.specs.Borrow.{Bor}
use Rattle.wire_frames.specs.Cutting.{IsFrontBody}
use Rattle.wire_frames.specs.Frames.{Tail, cut, whole, advanced, advanced_by}
use Rattle.wire_frames.proofs.FramesLemmas.{cut-length, cut-rest}

-- where the frame at the front of the items from a place on ends
pub record IsPlaced (t : Tail) (items : List ℕ) (offset start : ℕ) (body : List ℕ) : Type 0 where
  pub within : start + (4 + length body) ≤ length items
  pub behind : record { offset = offset + (4 + length body); bytes = drop (start + (4 + length body)) items } ≡ advanced t

pub placed : {t : Tail} {held : List ℕ} {offset : ℕ} {found : Option (Bor (List ℕ))} {body : Bor (List ℕ)} (items : List ℕ) (start : ℕ) → record { offset = offset; bytes = drop start items } ≡ t → start ≤ length items → held ≡ t.bytes → found ≡ Some body → IsFrontBody held (Ok found) → IsPlaced t items offset start body.now
placed {t} {held} {offset} {found} {body} items start view there held_is found_is front =
    let here : IsFrontBody held (Ok (Some body)) = rw found_is at front in
    let in_t : cut t.bytes ≡ whole body.now here.0 = rw held_is at here.1 in
    let bytes_is : drop start items ≡ t.bytes = ap (λ (s : Tail). s.bytes) view in
    let offset_is : offset ≡ t.offset = ap (λ (s : Tail). s.offset) view in
    let long : length t.bytes ≡ (4 + length body.now) + length here.0 = cut-length t.bytes body.now here.0 in_t in
    let behind : here.0 ≡ drop (4 + length body.now) (drop start items) = cut-rest t.bytes body.now here.0 in_t ∙ ap (drop (4 + length body.now)) (sym bytes_is) in
    let rest_is : here.0 ≡ drop (start + (4 + length body.now)) items = behind ∙ drop-drop (4 + length body.now) start items in
    let past : advanced t ≡ advanced_by t (whole body.now here.0) = ap (advanced_by t) in_t in
    record {
      within = omega (arith, long, ap length bytes_is, length-drop start items);
      behind = sym (past ∙ rw (rest_is, ← offset_is));
    }

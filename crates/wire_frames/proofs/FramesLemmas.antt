-- What stands at the front of some bytes, and the frames of a stream however it is cut.
use Rattle.std.proofs.Common.{◌≡◌, ℕ, zero, suc, ◌+◌, ◌-◌, ◌≤◌, ◌<◌, ◌⊎◌, inl, inr, List, [], ◌∷◌, ◌++◌, length, take, drop, get_or, Bool, true, false, cond, refl, sym, ap, ◌∙◌, subst, arith, append_assoc, length-append, length-drop, drop-drop}
use Rattle.std.proofs.Math.Nat.{add-zero}
use Rattle.std.proofs.Math.Dec.{ltb}
use Rattle.std.proofs.Math.Seq.{take-append_seam, drop-append_seam}
use Rattle.std.proofs.lemmas.Bool.{ltb-false, le-ltb, lt-ltb}
use Rattle.std.proofs.lemmas.List.{take-append-le, drop-append-le, take-append-drop, append-nil, length-take-le}
use Rattle.std.proofs.lemmas.Grind.{common_steps}
use Rattle.std.proofs.lemmas.Nat.{from_le_bytes-to_le_bytes_4, le_bytes_4}
use Rattle.std.specs.List.{concat, AllByRecursion}
use Rattle.std.specs.Int.{w32, to_le_bytes, from_le_bytes}
use Rattle.wire_frames.specs.Frames.{body_limit, frame, Front, short, too_long, whole, cut_body, cut, Tail, fed, advanced_by, FrameAt, Frames, preceded, frames_from, first_frames, frames_of, frames_by_pieces, frames_at, stream_of}

-- which way a test went
chosen : {A : Type 0} (b : Bool) (x y z : A) → cond b x y ≡ z → ((b ≡ true) × (x ≡ z)) ⊎ ((b ≡ false) × (y ≡ z))
chosen true x y z e = inl (refl, e)
chosen false x y z e = inr (refl, e)

-- fewer than four bytes
pub cut-few : (bytes : List ℕ) → length bytes < 4 → cut bytes ≡ short
unfolding cut
cut-few bytes few = rw (lt-ltb (length bytes) 4 few)

-- at least four bytes
pub cut-enough : (bytes : List ℕ) → 4 ≤ length bytes → cut bytes ≡ cut_body (from_le_bytes w32 (take 4 bytes)) (drop 4 bytes)
unfolding cut
cut-enough bytes enough = rw (le-ltb (length bytes) 4 enough)

-- behind four bytes
pub cut-header : (header bytes : List ℕ) → length header ≡ 4 → cut (header ++ bytes) ≡ cut_body (from_le_bytes w32 header) bytes
unfolding cut
cut-header header bytes four =
    let long : 4 ≤ length (header ++ bytes) = omega (arith, length-append header bytes) in
    let front : take 4 (header ++ bytes) ≡ header = subst (λ (n : ℕ). take n (header ++ bytes) ≡ header) four (take-append_seam header bytes) in
    let rest : drop 4 (header ++ bytes) ≡ bytes = subst (λ (n : ℕ). drop n (header ++ bytes) ≡ bytes) four (drop-append_seam header bytes) in
    rw (le-ltb (length (header ++ bytes)) 4 long, front, rest)

-- a length within the limit, and at least so many bytes
pub cut_body-within : (n : ℕ) (bytes : List ℕ) → n ≤ body_limit → n ≤ length bytes → cut_body n bytes ≡ whole (take n bytes) (drop n bytes)
cut_body-within n bytes within there = rw (le-ltb body_limit n within, le-ltb (length bytes) n there)

-- a length above the limit
pub cut_body-above : (n : ℕ) (bytes : List ℕ) → body_limit < n → cut_body n bytes ≡ too_long n
cut_body-above n bytes above = rw (lt-ltb body_limit n above)

-- a frame at the front
pub cut-frame : (body rest : List ℕ) → length body ≤ body_limit → cut (frame body ++ rest) ≡ whole body rest
cut-frame body rest within =
    let read : from_le_bytes w32 (to_le_bytes w32 (length body)) ≡ length body = from_le_bytes-to_le_bytes_4 (length body) (omega arith) in
    let there : length body ≤ length (body ++ rest) = omega (arith, length-append body rest) in
    cut-header (to_le_bytes w32 (length body)) (body ++ rest) refl
    ∙ ap (λ (n : ℕ). cut_body n (body ++ rest)) read
    ∙ cut_body-within (length body) (body ++ rest) within there
    ∙ rw (take-append_seam body rest, drop-append_seam body rest)

-- what a whole frame behind a length tells
pub record WholeBody (n : ℕ) (bytes body rest : List ℕ) : Type 0 where
  pub within : n ≤ body_limit
  pub there : n ≤ length bytes
  pub body_is : take n bytes ≡ body
  pub rest_is : drop n bytes ≡ rest

pub cut_body-whole : (n : ℕ) (bytes body rest : List ℕ) → cut_body n bytes ≡ whole body rest → WholeBody n bytes body rest
cut_body-whole n bytes body rest e =
    elim (chosen (ltb body_limit n) (too_long n) (cond (ltb (length bytes) n) short (whole (take n bytes) (drop n bytes))) (whole body rest) e) [
      | inl p ↦ absurd (cc (p.1))
      | inr p ↦ elim (chosen (ltb (length bytes) n) short (whole (take n bytes) (drop n bytes)) (whole body rest) p.1) [
        | inl q ↦ absurd (cc (q.1))
        | inr q ↦ record {
          within = ltb-false body_limit n p.0;
          there = ltb-false (length bytes) n q.0;
          body_is = cc (q.1);
          rest_is = cc (q.1);
        }
      ]
    ]

-- what a whole frame at the front tells
pub record WholeFront (bytes body rest : List ℕ) : Type 0 where
  pub enough : 4 ≤ length bytes
  pub behind : WholeBody (from_le_bytes w32 (take 4 bytes)) (drop 4 bytes) body rest

pub cut-whole : (bytes body rest : List ℕ) → cut bytes ≡ whole body rest → WholeFront bytes body rest
unfolding cut
cut-whole bytes body rest e =
    elim (chosen (ltb (length bytes) 4) short (cut_body (from_le_bytes w32 (take 4 bytes)) (drop 4 bytes)) (whole body rest) e) [
      | inl p ↦ absurd (cc (p.1))
      | inr p ↦ record {
        enough = ltb-false (length bytes) 4 p.0;
        behind = cut_body-whole (from_le_bytes w32 (take 4 bytes)) (drop 4 bytes) body rest p.1;
      }
    ]

-- how long the parts of a whole frame are
pub cut-length : (bytes body rest : List ℕ) → cut bytes ≡ whole body rest → length bytes ≡ (4 + length body) + length rest
cut-length bytes body rest e =
    let w : WholeFront bytes body rest = cut-whole bytes body rest e in
    let n : ℕ = from_le_bytes w32 (take 4 bytes) in
    let body_length : length body ≡ n = ap length (sym w.behind.body_is) ∙ length-take-le n (drop 4 bytes) w.behind.there in
    let rest_length : length rest ≡ length (drop 4 bytes) - n = ap length (sym w.behind.rest_is) ∙ length-drop n (drop 4 bytes) in
    omega (arith, w.enough, w.behind.there, body_length, rest_length, length-drop 4 bytes)

-- bytes behind at least four others
pub cut-append : (bytes more : List ℕ) → 4 ≤ length bytes → cut (bytes ++ more) ≡ cut_body (from_le_bytes w32 (take 4 bytes)) (drop 4 bytes ++ more)
cut-append bytes more enough =
    ap (λ (xs : List ℕ). cut (xs ++ more)) (sym (take-append-drop 4 bytes))
    ∙ ap cut (append_assoc (take 4 bytes) (drop 4 bytes) more)
    ∙ cut-header (take 4 bytes) (drop 4 bytes ++ more) (length-take-le 4 bytes enough)

-- a whole frame stays at the front as bytes are added
pub cut-append_whole : (bytes more body rest : List ℕ) → cut bytes ≡ whole body rest → cut (bytes ++ more) ≡ whole body (rest ++ more)
cut-append_whole bytes more body rest e =
    let w : WholeFront bytes body rest = cut-whole bytes body rest e in
    let n : ℕ = from_le_bytes w32 (take 4 bytes) in
    let there : n ≤ length (drop 4 bytes ++ more) = omega (arith, w.behind.there, length-append (drop 4 bytes) more) in
    cut-append bytes more w.enough
    ∙ cut_body-within n (drop 4 bytes ++ more) w.behind.within there
    ∙ rw (take-append-le n (drop 4 bytes) more w.behind.there, drop-append-le n (drop 4 bytes) more w.behind.there, w.behind.body_is, w.behind.rest_is)

-- what is cut off was a frame
pub cut-was_frame : (bytes body rest : List ℕ) → ((i : ℕ) → get_or bytes i 0 < 256) → cut bytes ≡ whole body rest → (bytes ≡ frame body ++ rest) × (length body ≤ body_limit)
cut-was_frame bytes body rest fits e =
    let w : WholeFront bytes body rest = cut-whole bytes body rest e in
    let n : ℕ = from_le_bytes w32 (take 4 bytes) in
    let long : length body ≡ n = ap length (sym w.behind.body_is) ∙ length-take-le n (drop 4 bytes) w.behind.there in
    let front_fits : (i : ℕ) → get_or (take 4 bytes) i 0 < 256 = λ i. grind (arith, common_steps, fits i) in
    let header : to_le_bytes w32 (length body) ≡ take 4 bytes = ap (to_le_bytes w32) long ∙ le_bytes_4 (take 4 bytes) n (length-take-le 4 bytes w.enough) front_fits refl in
    let behind : drop 4 bytes ≡ body ++ rest = sym (take-append-drop n (drop 4 bytes)) ∙ rw (w.behind.body_is, w.behind.rest_is) in
    (sym (take-append-drop 4 bytes) ∙ rw (behind, ← header, append_assoc), omega (arith, w.behind.within, long))

-- one step of two ways to go on
frames_from-same : (t : Tail) (f : Front) (g h : Tail → Frames) → ((body rest : List ℕ) → f ≡ whole body rest → g (advanced_by t (whole body rest)) ≡ h (advanced_by t (whole body rest))) → frames_from t f g ≡ frames_from t f h
frames_from-same t short g h same = refl
frames_from-same t (too_long n) g h same = refl
frames_from-same t (whole body rest) g h same = ap (preceded (record { offset = t.offset; body = body } ∷ [])) (same body rest refl)

-- so many steps as there are bytes are enough
pub first_frames-enough : (n m : ℕ) (t : Tail) → length t.bytes ≤ n → length t.bytes ≤ m → first_frames n t ≡ first_frames m t
unfolding first_frames
first_frames-enough zero zero t in_n in_m = refl
first_frames-enough zero (suc m) t in_n in_m = rw (cut-few t.bytes (omega arith))
first_frames-enough (suc n) zero t in_n in_m = rw (cut-few t.bytes (omega arith))
first_frames-enough (suc n) (suc m) t in_n in_m =
    frames_from-same t (cut t.bytes) (first_frames n) (first_frames m) (λ body rest e.
    let long : length t.bytes ≡ (4 + length body) + length rest = cut-length t.bytes body rest e in
    first_frames-enough n m (advanced_by t (whole body rest)) (omega arith) (omega arith))

-- the frame at the front, and those behind it
pub frames_of-next : (t : Tail) → frames_of t ≡ frames_from t (cut t.bytes) frames_of
unfolding frames_of first_frames
frames_of-next t =
    first_frames-enough (length t.bytes) (suc (length t.bytes)) t (omega arith) (omega arith)
    ∙ frames_from-same t (cut t.bytes) (first_frames (length t.bytes)) frames_of (λ body rest e.
    let long : length t.bytes ≡ (4 + length body) + length rest = cut-length t.bytes body rest e in
    first_frames-enough (length t.bytes) (length rest) (advanced_by t (whole body rest)) (omega arith) (omega arith))

-- where no whole frame stands there are no frames
pub frames_of-short : (t : Tail) → cut t.bytes ≡ short → frames_of t ≡ record { list = []; tail = t }
frames_of-short t e = frames_of-next t ∙ ap (λ (f : Front). frames_from t f frames_of) e

pub frames_of-too_long : (t : Tail) (n : ℕ) → cut t.bytes ≡ too_long n → frames_of t ≡ record { list = []; tail = t }
frames_of-too_long t n e = frames_of-next t ∙ ap (λ (f : Front). frames_from t f frames_of) e

-- a whole frame comes first
pub frames_of-whole : (t : Tail) (body rest : List ℕ) → cut t.bytes ≡ whole body rest → frames_of t ≡ preceded (record { offset = t.offset; body = body } ∷ []) (frames_of (advanced_by t (whole body rest)))
frames_of-whole t body rest e = frames_of-next t ∙ ap (λ (f : Front). frames_from t f frames_of) e

-- by the front, for at most n bytes
frames_of-fed_at : (n : ℕ) (t : Tail) (more : List ℕ) (f : Front) → cut t.bytes ≡ f → length t.bytes ≤ n → frames_of (fed t more) ≡ preceded (frames_of t).list (frames_of (fed (frames_of t).tail more))
frames_of-fed_at n t more short e within = rw (frames_of-short t e)
frames_of-fed_at n t more (too_long m) e within = rw (frames_of-too_long t m e)
frames_of-fed_at zero t more (whole body rest) e within = absurd (omega (arith, cut-length t.bytes body rest e))
frames_of-fed_at (suc n) t more (whole body rest) e within =
    let next : Tail = advanced_by t (whole body rest) in
    let first : List FrameAt = record { offset = t.offset; body = body } ∷ [] in
    let go_on : frames_of (fed next more) ≡ preceded (frames_of next).list (frames_of (fed (frames_of next).tail more)) =
    frames_of-fed_at n next more (cut rest) refl (omega (arith, cut-length t.bytes body rest e)) in
    frames_of-whole (fed t more) body (rest ++ more) (cut-append_whole t.bytes more body rest e)
    ∙ ap (preceded first) go_on
    ∙ rw (frames_of-whole t body rest e)

-- more bytes: the frames so far, and those of the tail with the bytes
pub frames_of-fed : (t : Tail) (more : List ℕ) → frames_of (fed t more) ≡ preceded (frames_of t).list (frames_of (fed (frames_of t).tail more))
frames_of-fed t more = frames_of-fed_at (length t.bytes) t more (cut t.bytes) refl (omega arith)

-- pieces give the frames of all their bytes
pub frames_by_pieces-all : (t : Tail) (pieces : List (List ℕ)) → frames_by_pieces t pieces ≡ frames_of (fed t (concat pieces))
unfolding frames_by_pieces
frames_by_pieces-all t [] = rw (append-nil t.bytes)
frames_by_pieces-all t (piece ∷ pieces) =
    let tail : Tail = (frames_of t).tail in
    ap (preceded (frames_of t).list) (frames_by_pieces-all (fed tail piece) pieces)
    ∙ (rw (append_assoc tail.bytes piece (concat pieces)))
    ∙ sym (frames_of-fed t (piece ++ concat pieces))

-- frames that were written are found, and nothing else
pub frames_of-written : (offset : ℕ) (bodies : List (List ℕ)) → AllByRecursion (λ body. length body ≤ body_limit) bodies → frames_of (record { offset = offset; bytes = stream_of bodies }) ≡ record { list = frames_at offset bodies; tail = record { offset = offset + length (stream_of bodies); bytes = [] } }
frames_of-written offset [] within = frames_of-short (record { offset = offset; bytes = [] }) (cut-few [] (omega arith)) ∙ rw (add-zero offset)
frames_of-written offset (body ∷ bodies) within =
    let rest : List ℕ = stream_of bodies in
    let first : List FrameAt = record { offset = offset; body = body } ∷ [] in
    let next : ℕ = offset + (4 + length body) in
    let end : next + length rest ≡ offset + length (frame body ++ rest) = omega (arith, length-append body rest) in
    frames_of-whole (record { offset = offset; bytes = frame body ++ rest }) body rest (cut-frame body rest within.0)
    ∙ ap (preceded first) (frames_of-written next bodies within.1)
    ∙ ap (λ (n : ℕ). record { list = first ++ frames_at next bodies; tail = record { offset = n; bytes = [] } }) end

-- a length above the limit, as it is read
pub cut-is_too_long : (bytes header : List ℕ) (n : ℕ) → 4 ≤ length bytes → header ≡ take 4 bytes → n ≡ from_le_bytes w32 header → body_limit < n → cut bytes ≡ too_long n
cut-is_too_long bytes header n enough front read above =
    let e : n ≡ from_le_bytes w32 (take 4 bytes) = read ∙ ap (from_le_bytes w32) front in
    cut-enough bytes enough ∙ ap (λ (k : ℕ). cut_body k (drop 4 bytes)) (sym e) ∙ cut_body-above n (drop 4 bytes) above

-- too few bytes behind a length
pub cut-is_short : (bytes header rest : List ℕ) (n : ℕ) → 4 ≤ length bytes → header ≡ take 4 bytes → rest ≡ drop 4 bytes → n ≡ from_le_bytes w32 header → n ≤ body_limit → length rest < n → cut bytes ≡ short
cut-is_short bytes header rest n enough front behind read within few =
    let e : n ≡ from_le_bytes w32 (take 4 bytes) = read ∙ ap (from_le_bytes w32) front in
    let few_behind : length (drop 4 bytes) < n = omega (arith, ap length behind, few) in
    cut-enough bytes enough ∙ ap (λ (k : ℕ). cut_body k (drop 4 bytes)) (sym e) ∙ rw (le-ltb body_limit n within, lt-ltb (length (drop 4 bytes)) n few_behind)

-- enough of them
pub cut-is_whole : (bytes header rest : List ℕ) (n : ℕ) → 4 ≤ length bytes → header ≡ take 4 bytes → rest ≡ drop 4 bytes → n ≡ from_le_bytes w32 header → n ≤ body_limit → n ≤ length rest → cut bytes ≡ whole (take n rest) (drop n rest)
cut-is_whole bytes header rest n enough front behind read within there =
    let e : n ≡ from_le_bytes w32 (take 4 bytes) = read ∙ ap (from_le_bytes w32) front in
    cut-enough bytes enough
    ∙ ap (λ (k : ℕ). cut_body k (drop 4 bytes)) (sym e)
    ∙ ap (cut_body n) (sym behind)
    ∙ cut_body-within n rest within there

-- what stands behind a whole frame
pub cut-rest : (bytes body rest : List ℕ) → cut bytes ≡ whole body rest → rest ≡ drop (4 + length body) bytes
cut-rest bytes body rest e =
    let w : WholeFront bytes body rest = cut-whole bytes body rest e in
    let n : ℕ = from_le_bytes w32 (take 4 bytes) in
    let body_length : length body ≡ n = ap length (sym w.behind.body_is) ∙ length-take-le n (drop 4 bytes) w.behind.there in
    sym w.behind.rest_is ∙ drop-drop n 4 bytes ∙ ap (λ (k : ℕ). drop (4 + k) bytes) (sym body_length)

-- The texts of chunks, one after another.
use Rattle.std.proofs.Common.{◌≡◌, ℕ, ◌+◌, ◌<◌, List, [], ◌∷◌, ◌++◌, length, get_or, take, All, sym, ap, subst, ◌∙◌, append_assoc, Vec, Global}
use Rattle.std.specs.Int.{w64, to_le_bytes}
use Rattle.std.specs.List.{flat_map}
use Rattle.std.proofs.lemmas.Grind.{flat_map-append}
use Rattle.std.proofs.lemmas.List.{append-nil, map-append, take_more}
use Rattle.std.proofs.lemmas.List.Elements.{All-append, All-cons, All-nil}
use Rattle.store_files.specs.Book.{Touch, touch_text}
use Rattle.atime_book.specs.declared.parts.Touched.{Touched}
use Rattle.atime_book.specs.Parts.{as_touch, touches_of, joined}
use Rattle.atime_book.specs.Touches.{HaveDigests, touches_text}

abbrev HasWidth : Touch → Type 0
HasWidth t = length t.digest ≡ 32

pub touches_of-append : (xs ys : List Touched) → touches_of (xs ++ ys) ≡ touches_of xs ++ touches_of ys
touches_of-append xs ys = map-append as_touch xs ys

touches_text-append : (xs ys : List Touched) → touches_text (xs ++ ys) ≡ touches_text xs ++ touches_text ys
touches_text-append xs ys = ap (flat_map touch_text) (touches_of-append xs ys) ∙ flat_map-append touch_text (touches_of xs) (touches_of ys)

pub joined_more : (parts : List (Vec Touched Global)) (i : ℕ) (d : Vec Touched Global) → i < length parts → joined (take (i + 1) parts) ≡ joined (take i parts) ++ (get_or parts i d).items
joined_more parts i d within =
    ap joined (take_more parts i d within) ∙ flat_map-append (λ (p : Vec Touched Global). p.items) (take i parts) (get_or parts i d ∷ [])
    ∙ ap (λ ts. joined (take i parts) ++ ts) (append-nil (get_or parts i d).items)

-- what was written, and more
pub text_more : (text : List ℕ) (xs ys zs : List Touched) (read new : List ℕ) → zs ≡ xs ++ ys → read ≡ text ++ touches_text xs → new ≡ read ++ touches_text ys →
    new ≡ text ++ touches_text zs
text_more text xs ys zs read new more is made =
    made ∙ ap (λ r. r ++ touches_text ys) is ∙ append_assoc text (touches_text xs) (touches_text ys)
    ∙ ap (λ ts. text ++ ts) (sym (touches_text-append xs ys) ∙ ap touches_text (sym more))

pub widths_more : (xs ys zs : List Touched) → zs ≡ xs ++ ys → HaveDigests (touches_of xs) → HaveDigests (touches_of ys) → HaveDigests (touches_of zs)
widths_more xs ys zs more front back =
    subst (All HasWidth) (sym (ap touches_of more ∙ touches_of-append xs ys)) (All-append HasWidth (touches_of xs) (touches_of ys) front back)

-- one chunk
pub text_one : (text : List ℕ) (t : Touched) (read new : List ℕ) → read ≡ text ++ t.digest.0 → new ≡ read ++ to_le_bytes w64 t.moment → new ≡ text ++ touches_text (t ∷ [])
text_one text t read new is made =
    made ∙ ap (λ r. r ++ to_le_bytes w64 t.moment) is ∙ append_assoc text t.digest.0 (to_le_bytes w64 t.moment)
    ∙ ap (λ ts. text ++ ts) (sym (append-nil (touch_text (as_touch t))))

pub width_one : (t : Touched) → length t.digest.0 ≡ 32 → HaveDigests (touches_of (t ∷ []))
width_one t wide = All-cons HasWidth (as_touch t) [] wide (All-nil HasWidth)

-- What was read of a file, and why nothing was.
use Rattle.std.proofs.Common.{◌≡◌, ℕ, zero, suc, ◌+◌, ◌-◌, ◌*◌, ◌<◌, ◌≤◌, Bool, true, false, ◌&&◌, cond, List, [], ◌∷◌, length, take, drop, get_or, nat_lt, Option, Some, None, Result, Ok, Err, refl, sym, ap, ap₂, ◌∙◌, eq-eqb, arith}
use Rattle.std.proofs.lemmas.Bool.{and_parts, eqb-true, ltb-true, ltb-false, le-ltb, ne_eqb}
use Rattle.std.proofs.lemmas.List.{drop-drop, length-drop, length-take}
use Rattle.std.specs.Prelude.{◌==◌}
use Rattle.std.specs.FinMap.{get}
use Rattle.disk_trait.specs.Files.{Files}
use Rattle.index_pages.specs.declared.fault.PageFault.{PageFault}
use Rattle.index_pages.specs.declared.fault.PageFault.TheVariants.{Missing, BadIndex, Changed, Failed, NoMemory}
use Rattle.index_pages.specs.Gives.{Gives, part_in}
use Rattle.index_pages.specs.Opening.{page_of}
use Rattle.index_pages.specs.Paged.{Paged, entries_at, has_sum, is_kept, page_in, page_len, page_size, page_start, page_text, sum_at}

-- by a Bool and what it is
pub by_bool : (b : Bool) (P : Type 0) → (b ≡ true → P) → (b ≡ false → P) → P
by_bool true P t f = t refl
by_bool false P t f = f refl

ok_is : (a b : List ℕ) → ◌≡◌ {A = Result (List ℕ) PageFault} (Ok a) (Ok b) → a ≡ b
ok_is a b e = cc

-- ---- a part

part_some : (text : List ℕ) (offset len : ℕ) (fewer : PageFault) (b : Bool) → nat_lt (length text - offset) len ≡ b
    → part_in offset len fewer (Some text) ≡ cond b (Err fewer) (Ok (take len (drop offset text)))
part_some text offset len fewer b e = ap (λ c. cond c (Err fewer) (Ok (take len (drop offset text)))) e

-- it has all its bytes
pub part_inside : (o : Option (List ℕ)) (text : List ℕ) (offset len : ℕ) (fewer : PageFault) → o ≡ Some text → len ≤ length text - offset
    → part_in offset len fewer o ≡ Ok (take len (drop offset text))
part_inside o text offset len fewer there within =
    ap (part_in offset len fewer) there ∙ part_some text offset len fewer false (le-ltb (length text - offset) len within)

-- where it was read it is the file's
pub part_read : (o : Option (List ℕ)) (text into : List ℕ) (offset len : ℕ) (fewer : PageFault) → o ≡ Some text → part_in offset len fewer o ≡ Ok into
    → (into ≡ take len (drop offset text)) × (len ≤ length text - offset)
part_read o text into offset len fewer there read =
    let found = sym (ap (part_in offset len fewer) there) ∙ read in
    by_bool (nat_lt (length text - offset) len) ((into ≡ take len (drop offset text)) × (len ≤ length text - offset))
    (λ t. absurd (short (sym (part_some text offset len fewer true t) ∙ found)))
    (λ f. (sym (ok_is (take len (drop offset text)) into (sym (part_some text offset len fewer false f) ∙ found)), ltb-false _ _ f))
  where
    short : ◌≡◌ {A = Result (List ℕ) PageFault} (Err fewer) (Ok into) → ⊥
    short e = cc

-- of an index behind its header: the page
pub page_read : (o : Option (List ℕ)) (text into : List ℕ) (width count i offset len : ℕ) (fewer : PageFault) → o ≡ Some text → part_in offset len fewer o ≡ Ok into
    → offset ≡ 4096 + i * page_size width → len ≡ entries_at count i * width → into ≡ page_of width count i (drop 4096 text)
page_read o text into width count i offset len fewer there read at size =
    (part_read o text into offset len fewer there read).0
    ∙ ap₂ (λ n k. take n (drop k text)) size at
    ∙ ap (take (entries_at count i * width)) (sym (drop-drop (i * page_size width) 4096 text))

-- ---- faults

pub gives_err : {A B C E : Type 0} (f : A → B) (g : C → E) (fault : PageFault) (w : Result B PageFault) (v : Result E PageFault)
    → Gives f (Err fault) w → (w ≡ Err fault → v ≡ Err fault) → Gives g (Err fault) v
gives_err f g Missing w v h k = k h
gives_err f g (BadIndex cause) w v h k = k h
gives_err f g (Changed page) w v h k = k h
gives_err f g Failed w v h k = tt
gives_err f g NoMemory w v h k = tt

pub gives_told : {A B : Type 0} (f : A → B) (fault : PageFault) (v : Result B PageFault) → v ≡ Err fault → Gives f (Err fault) v
gives_told f Missing v e = e
gives_told f (BadIndex cause) v e = e
gives_told f (Changed page) v e = e
gives_told f Failed v e = tt
gives_told f NoMemory v e = tt

-- the same part, by other words for where it stands
pub same_part : (m : Files) (n k : List ℕ) (s t l r : ℕ) (fewer : PageFault) → n ≡ k → s ≡ t → l ≡ r → part_in s l fewer (get m n) ≡ part_in t r fewer (get m k)
same_part m n k s t l r fewer name start len =
    ap (λ x. part_in s l fewer (get m x)) name ∙ ap₂ (λ x y. part_in x y fewer (get m k)) start len

-- ---- a page that is read again

-- an element that is there, whatever stands for none
pub other_default : {A : Type 0} (xs : List A) (i : ℕ) (a b : A) → i < length xs → get_or xs i a ≡ get_or xs i b
other_default [] i a b below = absurd (omega arith)
other_default (x ∷ xs) zero a b below = refl
other_default (x ∷ xs) (suc i) a b below = other_default xs i a b (omega arith)

not_kept : (p : Paged) (i : ℕ) (bytes : List ℕ) → length bytes < page_len p i → is_kept p i bytes ≡ false
not_kept p i bytes short =
    ap (λ b. b && has_sum (sum_at p i) bytes) (ne_eqb (length bytes) (page_len p i) (λ e. lower e))
  where
    lower : length bytes ≡ page_len p i → ⊥
    lower e = omega (arith, short, e)

pub kept_is : (p : Paged) (i : ℕ) (bytes : List ℕ) (b : Bool) → length bytes ≡ page_len p i → has_sum (sum_at p i) bytes ≡ b → is_kept p i bytes ≡ b
kept_is p i bytes b len sum =
    ap₂ (λ x y. x && y) (eq-eqb (length bytes) (page_len p i) len) sum

pub is_kept_len : (p : Paged) (i : ℕ) (bytes : List ℕ) → is_kept p i bytes ≡ true → length bytes ≡ page_len p i
is_kept_len p i bytes is = eqb-true (length bytes) (page_len p i) (and_parts (length bytes == page_len p i) (has_sum (sum_at p i) bytes) is).0

page_some : (p : Paged) (i : ℕ) (text : List ℕ) (b : Bool) → is_kept p i (page_text p i text) ≡ b
    → page_in p i (Some text) ≡ cond b (Ok (page_text p i text)) (Err (Changed i))
page_some p i text b e = ap (λ c. cond c (Ok (page_text p i text)) (Err (Changed i))) e

-- nothing is there, or fewer bytes
pub page_err : (p : Paged) (i : ℕ) (o : Option (List ℕ)) (fault : PageFault) → part_in (page_start p i) (page_len p i) (Changed i) o ≡ Err fault → page_in p i o ≡ Err fault
page_err p i None fault e = e
page_err p i (Some text) fault e =
    let start = page_start p i in
    let len = page_len p i in
    by_bool (nat_lt (length text - start) len) (page_in p i (Some text) ≡ Err fault)
    (λ t.
    let short : length (page_text p i text) < len = omega (arith, ltb-true (length text - start) len t, length-take len (drop start text), length-drop start text) in
    page_some p i text false (not_kept p i (page_text p i text) short) ∙ sym (part_some text start len (Changed i) true t) ∙ e)
    (λ f. absurd (long (sym (part_some text start len (Changed i) false f) ∙ e)))
  where
    long : ◌≡◌ {A = Result (List ℕ) PageFault} (Ok (take (page_len p i) (drop (page_start p i) text))) (Err fault) → ⊥
    long e = cc

-- the bytes are there, and are those of the opening or not
pub page_tried : (p : Paged) (i : ℕ) (o : Option (List ℕ)) (into : List ℕ) (b : Bool) → part_in (page_start p i) (page_len p i) (Changed i) o ≡ Ok into
    → is_kept p i into ≡ b → page_in p i o ≡ cond b (Ok into) (Err (Changed i))
page_tried p i None into b e k = absurd (none e)
  where
    none : ◌≡◌ {A = Result (List ℕ) PageFault} (Err Missing) (Ok into) → ⊥
    none e = cc
page_tried p i (Some text) into b e k =
    let same = (part_read (Some text) text into (page_start p i) (page_len p i) (Changed i) refl e).0 in
    page_some p i text b (ap (is_kept p i) (sym same) ∙ k) ∙ ap (λ x. cond b (Ok x) (Err (Changed i))) (sym same)

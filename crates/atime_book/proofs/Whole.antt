-- When bytes are a book.
use Rattle.std.proofs.Common.{◌≡◌, ℕ, ◌<◌, ◌≤◌, Bool, true, false, not, ◌&&◌, cond, List, [], ◌∷◌, length, Option, Some, None, refl, sym, ap, ◌∙◌}
use Rattle.std.specs.Prelude.{nat_le, option_map}
use Rattle.std.specs.List.{list_all}
use Rattle.std.specs.Str.{bytes_eq}
use Rattle.std.proofs.lemmas.Bool.{lt-ltb, le-ltb}
use Rattle.store_types.specs.Names.{name_lt}
use Rattle.store_types.specs.Times.{last_moment}
use Rattle.store_files.specs.Book.{Book, Touch, book_text, book_of, fields_of, digests_rise, is_book}
use Rattle.atime_book.specs.Reading.{pass_from, passed}

swap : (l a r m : Bool) → (l && a && (r && m)) ≡ ((a && r) && (l && m))
swap true true r m = refl
swap true false r m = refl
swap false true true m = refl
swap false true false m = refl
swap false false r m = refl

abbrev pub within : ℕ → List Touch → Bool
within moment ts = list_all (λ t. nat_le t.moment moment) ts

pass_after : (moment : ℕ) (b : Touch) (ts : List Touch) → pass_from moment (Some b.digest) ts ≡ (digests_rise (b ∷ ts) && within moment ts)
pass_after moment b [] = refl
pass_after moment b (t ∷ ts) =
    ap (λ x. nat_le t.moment moment && name_lt b.digest t.digest && x) (pass_after moment t ts)
    ∙ swap (nat_le t.moment moment) (name_lt b.digest t.digest) (digests_rise (t ∷ ts)) (within moment ts)

pub pass_is : (moment : ℕ) (ts : List Touch) → pass_from moment None ts ≡ (digests_rise ts && within moment ts)
pass_is moment [] = refl
pass_is moment (t ∷ ts) =
    ap (λ x. nat_le t.moment moment && true && x) (pass_after moment t ts)
    ∙ swap (nat_le t.moment moment) true (digests_rise (t ∷ ts)) (within moment ts)

regroup : (x r l : Bool) → (x && r && l) ≡ (x && (r && l))
regroup true r l = refl
regroup false r l = refl

pub short_is_none : (bytes : List ℕ) → length bytes < 56 → None ≡ book_of bytes
unfolding book_of
short_is_none bytes short =
    sym (ap (λ b. cond b None (cond (is_book bytes (fields_of bytes)) (Some (fields_of bytes)) None)) (lt-ltb _ _ short))

pub tests : (bytes : List ℕ) → 56 ≤ length bytes → (a m p : Bool) → bytes_eq bytes (book_text (fields_of bytes)) ≡ a →
    nat_le (fields_of bytes).moment last_moment ≡ m → pass_from (fields_of bytes).moment None (fields_of bytes).touches ≡ p →
    book_of bytes ≡ cond (a && m && p) (Some (fields_of bytes)) None
unfolding book_of
tests bytes long a m p same early passes =
    let x = fields_of bytes in
    let rest = sym (pass_is x.moment x.touches) ∙ passes in
    ap (λ b. cond b None (cond (is_book bytes x) (Some x) None)) (le-ltb _ _ long)
    ∙ ap (λ b. cond b (Some x) None) (regroup (bytes_eq bytes (book_text x) && nat_le x.moment last_moment) (digests_rise x.touches) (within x.moment x.touches)
    ∙ (λ i. same i && early i && rest i))

last_false : (x : Bool) (b : Book) → cond (x && false) (Some b) None ≡ None
last_false true b = refl
last_false false b = refl

middle_false : (a p : Bool) (b : Book) → cond (a && false && p) (Some b) None ≡ None
middle_false true p b = refl
middle_false false p b = refl

no_pass : (p : Bool) (ts : List Touch) → None ≡ cond p (Some ts) None → p ≡ false
no_pass true ts e = cc
no_pass false ts e = refl

abbrev pub book_with : ℕ → List Touch → Book
book_with moment touches = record { moment = moment; touches = touches }

none_of : (moment : ℕ) (o : Option (List Touch)) → None ≡ option_map (book_with moment) o → None ≡ o
none_of moment None e = refl
none_of moment (Some ts) e = cc

pub not_passed : (bytes : List ℕ) (moment : ℕ) → 56 ≤ length bytes → moment ≡ (fields_of bytes).moment →
    None ≡ option_map (book_with moment) (passed moment (fields_of bytes).touches) → None ≡ book_of bytes
not_passed bytes moment long is none =
    let failed = none_of moment _ none ∙ ap (λ m. passed m (fields_of bytes).touches) is in
    sym (tests bytes long _ _ false refl refl (no_pass _ _ failed) ∙ last_false _ (fields_of bytes))

pub too_late : (bytes : List ℕ) → 56 ≤ length bytes → nat_le (fields_of bytes).moment last_moment ≡ false → None ≡ book_of bytes
too_late bytes long late = sym (tests bytes long _ false _ refl late refl ∙ middle_false _ _ (fields_of bytes))

-- the book that was read from the bytes
pub record IsRead (bytes : List ℕ) (moment : ℕ) (book : Book) : Type 0 where
  pub same : book ≡ fields_of bytes
  pub written : record book { moment = moment } ≡ fields_of bytes
  pub passes : pass_from (fields_of bytes).moment None (fields_of bytes).touches ≡ true

some_passed : (p : Bool) (moment : ℕ) (book : Book) (ts : List Touch) → Some book ≡ option_map (book_with moment) (cond p (Some ts) None) →
    (p ≡ true) × (book ≡ book_with moment ts)
some_passed true moment book ts e = (refl, cc)
some_passed false moment book ts e = cc

pub is_read : (bytes : List ℕ) (moment : ℕ) (book : Book) → moment ≡ (fields_of bytes).moment →
    Some book ≡ option_map (book_with moment) (passed moment (fields_of bytes).touches) → IsRead bytes moment book
is_read bytes moment book is found =
    let x = fields_of bytes in
    let both = some_passed (pass_from moment None x.touches) moment book x.touches found in
    let fields = ap (λ m. book_with m x.touches) is in
    record {
      same = both.1 ∙ fields;
      written = ap (λ (b : Book). record b { moment = moment }) both.1 ∙ fields;
      passes = ap (λ m. pass_from m None x.touches) (sym is) ∙ both.0;
    }

of_not : (b c : Bool) → c ≡ not b → b ≡ not c
of_not true c e = sym (ap not e)
of_not false c e = sym (ap not e)

pub other_text : (bytes : List ℕ) (moment : ℕ) (book : Book) (text : List ℕ) → 56 ≤ length bytes → IsRead bytes moment book →
    text ≡ book_text (record book { moment = moment }) → true ≡ not (bytes_eq bytes text) → None ≡ book_of bytes
other_text bytes moment book text long is written differs =
    let whole = written ∙ ap book_text is.written in
    sym (tests bytes long false _ _ (ap (bytes_eq bytes) (sym whole) ∙ of_not _ _ differs) refl refl)

pub same_text : (bytes : List ℕ) (moment : ℕ) (book : Book) (text : List ℕ) → 56 ≤ length bytes → IsRead bytes moment book →
    text ≡ book_text (record book { moment = moment }) → false ≡ not (bytes_eq bytes text) →
    nat_le (fields_of bytes).moment last_moment ≡ true → Some book ≡ book_of bytes
same_text bytes moment book text long is written same early =
    let whole = written ∙ ap book_text is.written in
    ap Some is.same
    ∙ sym (tests bytes long true true true (ap (bytes_eq bytes) (sym whole) ∙ of_not _ _ same) early is.passes)

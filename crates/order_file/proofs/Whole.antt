-- When bytes are an order file.
use Rattle.std.proofs.Common.{◌≡◌, ℕ, ◌-◌, ◌%◌, ◌^◌, ◌<◌, ◌≤◌, Bool, true, false, ◌&&◌, cond, List, [], ◌∷◌, ◌++◌, length, take, drop, All, Some, None, refl, sym, ap, subst, ◌∙◌, append_assoc, arith}
use Rattle.std.specs.Prelude.{codes, IsTrue, nat_le, nat_lt}
use Rattle.std.specs.List.{flat_map, list_all}
use Rattle.std.specs.Str.{bytes_eq}
use Rattle.std.proofs.lemmas.Bool.{and_parts, ltb-true, leb-true, false_from_ne_true}
use Rattle.std.proofs.lemmas.List.{append-nil, length-drop}
use Rattle.std.proofs.lemmas.List.Elements.{All-nil, All-cons}
use Rattle.std.proofs.lemmas.Slice.Eq.{bytes_eq-Decides}
use Rattle.store_types.specs.declared.order.Entry.{Entry}
use Rattle.store_types.specs.Times.{last_moment}
use Rattle.store_files.specs.Order.{entry_text, order_text, entry_of, order_of, fits_entry, keeps_rules}
use Rattle.order_file.specs.Progress.{Progress, begun, is_next, after, is_over, may_follow, entries_at, joined}
use Rattle.order_file.proofs.Texts.{HasText, AreSmall, small_rest, length-order_text, entries_more, entries_none, order_again, texts_again}
use Rattle.order_file.proofs.Tests.{tests_are_rules}

-- ---- what is read

pub is_text_of_read : (lanes : ℕ) (bytes : List ℕ) (order : List Entry) → order_of lanes bytes ≡ Some order →
    (bytes ≡ order_text order) × IsTrue (keeps_rules lanes order)
unfolding order_of
is_text_of_read lanes bytes order read = by_test _ refl read
  where
    by_test : (t : Bool) → (bytes_eq bytes (order_text (entries_at (drop 8 bytes))) && keeps_rules lanes (entries_at (drop 8 bytes))) ≡ t →
        cond t (Some (entries_at (drop 8 bytes))) None ≡ Some order → (bytes ≡ order_text order) × IsTrue (keeps_rules lanes order)
    by_test true passes same =
        let both = and_parts _ _ passes in
        let is : entries_at (drop 8 bytes) ≡ order = cc same in
        ((bytes_eq-Decides bytes (order_text (entries_at (drop 8 bytes)))).0 both.0 ∙ ap order_text is, subst (λ es. IsTrue (keeps_rules lanes es)) is both.1)
    by_test false passes same = cc

-- ---- what is written

has_texts : (lanes : ℕ) (es : List Entry) → lanes ≤ 2 ^ 32 → list_all (fits_entry lanes) es ≡ true → All HasText es
has_texts lanes [] few fit = All-nil HasText
has_texts lanes (e ∷ es) few fit =
    let both = and_parts (fits_entry lanes e) (list_all (fits_entry lanes) es) fit in
    let parts = and_parts (nat_lt e.lane lanes && nat_le e.moment last_moment) (nat_lt e.kind 8) both.0 in
    let ranges = and_parts (nat_lt e.lane lanes) (nat_le e.moment last_moment) parts.0 in
    let lane : e.lane < lanes = ltb-true e.lane lanes ranges.0 in
    let moment : e.moment ≤ last_moment = leb-true e.moment last_moment ranges.1 in
    All-cons HasText e es (record { lane = omega (arith, lane, few); moment = omega (arith, moment) }) (has_texts lanes es few both.1)

pub read_again : (lanes : ℕ) (order : List Entry) → lanes ≤ 2 ^ 32 → IsTrue (keeps_rules lanes order) →
    order_of lanes (order_text order) ≡ Some order
unfolding order_of keeps_rules
read_again lanes order few keeps =
    let rules = and_parts _ _ keeps in
    let fit = (and_parts _ _ rules.0).0 in
    let again = order_again order (has_texts lanes order few fit) in
    let same = (bytes_eq-Decides (order_text order) (order_text order)).1 refl in
    (λ i. cond (bytes_eq (order_text order) (order_text (again i)) && keeps_rules lanes (again i)) (Some (again i)) None)
    ∙ (λ i. cond (same i && keeps i) (Some order) None)

-- ---- the tests of a text

-- the magic number, and whole entries behind it
pub is_text : (bytes : List ℕ) → bytes ≡ codes "PBSORDER" ++ drop 8 bytes → (length bytes - 8) % 13 ≡ 0 → AreSmall bytes →
    bytes_eq bytes (order_text (entries_at (drop 8 bytes))) ≡ true
unfolding order_text
is_text bytes begins whole small =
    let rest : length (drop 8 bytes) % 13 ≡ 0 = ap (λ n. n % 13) (length-drop 8 bytes) ∙ whole in
    let spelled = texts_again (drop 8 bytes) rest (small_rest 8 bytes small) in
    (bytes_eq-Decides bytes (order_text (entries_at (drop 8 bytes)))).1 (begins ∙ ap (λ z. codes "PBSORDER" ++ z) (sym spelled))

pub not_magic : (bytes : List ℕ) (order : List Entry) → ((rest : List ℕ) → bytes ≡ codes "PBSORDER" ++ rest → ⊥) →
    bytes_eq bytes (order_text order) ≡ false
unfolding order_text
not_magic bytes order other =
    false_from_ne_true _ (λ same. other (flat_map entry_text order) ((bytes_eq-Decides bytes (order_text order)).0 same))

pub not_whole : (bytes : List ℕ) (order : List Entry) → ((length bytes - 8) % 13 ≡ 0 → ⊥) → bytes_eq bytes (order_text order) ≡ false
not_whole bytes order part =
    false_from_ne_true _ (λ same.
    let size = ap length ((bytes_eq-Decides bytes (order_text order)).0 same) in
    part (omega (arith, size, length-order_text order)))

-- ---- entry by entry

module _ (p : Progress) (first : List Entry) (bytes : List ℕ) where
  pub goes_on : (e : Entry) (behind : List ℕ) → 13 ≤ length bytes → e ≡ entry_of (take 13 bytes) → behind ≡ drop 13 bytes → is_next p e ≡ true →
      joined (after p e) (first ++ e ∷ []) (entries_at behind) ≡ joined p first (entries_at bytes)
  goes_on e behind long reads cut is =
      (λ i. cond (sym is i && may_follow (after p e) (entries_at (cut i))) (Some (append_assoc first (e ∷ []) (entries_at (cut i)) i)) None)
      ∙ ap (λ x. joined p first (x ∷ entries_at (drop 13 bytes))) reads ∙ ap (joined p first) (sym (entries_more bytes long))

  pub stops : (e : Entry) → 13 ≤ length bytes → e ≡ entry_of (take 13 bytes) → is_next p e ≡ false → None ≡ joined p first (entries_at bytes)
  stops e long reads is =
      (λ i. cond (sym is i && may_follow (after p e) (entries_at (drop 13 bytes))) (Some (first ++ e ∷ entries_at (drop 13 bytes))) None)
      ∙ ap (λ x. joined p first (x ∷ entries_at (drop 13 bytes))) reads ∙ ap (joined p first) (sym (entries_more bytes long))

  pub is_whole : length bytes < 13 → is_over p ≡ true → Some first ≡ joined p first (entries_at bytes)
  is_whole short is =
      (λ i. cond (sym is i) (Some (sym (append-nil first) i)) None) ∙ ap (joined p first) (sym (entries_none bytes short))

  pub lacks_end : length bytes < 13 → is_over p ≡ false → None ≡ joined p first (entries_at bytes)
  lacks_end short is = (λ i. cond (sym is i) (Some (first ++ [])) None) ∙ ap (joined p first) (sym (entries_none bytes short))

-- ---- the whole

pub order_is : (lanes : ℕ) (bytes : List ℕ) → bytes_eq bytes (order_text (entries_at (drop 8 bytes))) ≡ true →
    joined (begun lanes) [] (entries_at (drop 8 bytes)) ≡ order_of lanes bytes
unfolding order_of
order_is lanes bytes is =
    λ i. cond (sym is i && tests_are_rules lanes (entries_at (drop 8 bytes)) i) (Some (entries_at (drop 8 bytes))) None

pub no_order : (lanes : ℕ) (bytes : List ℕ) → bytes_eq bytes (order_text (entries_at (drop 8 bytes))) ≡ false → None ≡ order_of lanes bytes
unfolding order_of
no_order lanes bytes is =
    λ i. cond (sym is i && keeps_rules lanes (entries_at (drop 8 bytes))) (Some (entries_at (drop 8 bytes))) None

-- Entries that are handed on, page by page.
use Rattle.std.proofs.Common.{◌≡◌, ℕ, ◌+◌, ◌*◌, ◌≤◌, true, List, [], ◌++◌, length, take, drop, nat_lt, nat_le, Some, sym, ap, subst, ◌∙◌, append-nil, append_assoc, arith}
use Rattle.std.proofs.lemmas.Bool.{and_from, and_parts, le-leb, leb-true, lt-ltb, ltb-true}
use Rattle.std.proofs.lemmas.List.{drop-drop, take-append-drop}
use Rattle.std.proofs.Math.ListN.{drop_of_length-le}
use Rattle.store_files.specs.DynamicIndex.{Ended}
use Rattle.dynamic_index.specs.Pieces.{last_end}
use Rattle.index_pages.specs.Paged.{page_count}
use Rattle.paged_indexes.specs.Handing.{HandsOn, IsStep}
use Rattle.paged_indexes.specs.Steps.{is_step}
use Rattle.paged_indexes.proofs.Stepping.{last_end-append}

pub same_some : {A : Type 0} (x y : A) → Some x ≡ Some y → x ≡ y
same_some x y e = cc

pub step_is : (start end : ℕ) → is_step start end ≡ true → IsStep start end
step_is start end is =
    let both = and_parts (nat_lt start end) (nat_le end (start + 16_777_216)) is in
    (ltb-true start end both.0, leb-true end (start + 16_777_216) both.1)

pub is_step_by : (start end : ℕ) → IsStep start end → is_step start end ≡ true
is_step_by start end is =
    and_from (nat_lt start end) (nat_le end (start + 16_777_216)) (lt-ltb start end is.0) (le-leb end (start + 16_777_216) is.1)

-- behind a page the next one begins
pub behind : {A : Type 0} (i : ℕ) (xs : List A) → drop 1024 (drop (i * 1024) xs) ≡ drop ((i + 1) * 1024) xs
behind i xs =
    let at : i * 1024 + 1024 ≡ (i + 1) * 1024 = omega arith in
    drop-drop 1024 (i * 1024) xs ∙ ap (λ n. drop n xs) at

pub page_and_rest : {A : Type 0} (i : ℕ) (xs : List A) → drop (i * 1024) xs ≡ take 1024 (drop (i * 1024) xs) ++ drop ((i + 1) * 1024) xs
page_and_rest i xs =
    sym (take-append-drop 1024 (drop (i * 1024) xs)) ∙ ap (λ ys. take 1024 (drop (i * 1024) xs) ++ ys) (behind i xs)

-- behind the last page nothing is left
pub no_rest : {A : Type 0} (count i : ℕ) (xs : List A) → length xs ≡ count → page_count count ≤ i → drop (i * 1024) xs ≡ []
no_rest count i xs len past = drop_of_length-le xs (omega (arith, len, past))

module _ {T : Type 0} (taken : T → ℕ → List Ended → Type 0) where
  -- once the rest is taken, all are
  pub HandsRest : (first : ℕ) (all : List Ended) (initial : T) (start : ℕ) (rest : List Ended) (now : T) → Type 0
  HandsRest first all initial start rest now = (final : T) → HandsOn taken start rest now final → HandsOn taken first all initial final

  pub hands_none : (start : ℕ) (none : List Ended) (now : T) → none ≡ [] → HandsOn taken start none now now
  hands_none start none now is base before had at = subst (taken now base) (sym (append-nil before) ∙ ap (λ xs. before ++ xs) (sym is)) had

  pub hands_both : (start next : ℕ) (all xs ys : List Ended) (a b c : T) → all ≡ xs ++ ys → last_end start xs ≡ next
      → HandsOn taken start xs a b → HandsOn taken next ys b c → HandsOn taken start all a c
  hands_both start next all xs ys a b c is end one two base before had at =
      subst (taken c base) (append_assoc before xs ys ∙ ap (λ zs. before ++ zs) (sym is))
      (two base (before ++ xs) (one base before had at) (last_end-append base before xs ∙ ap (λ n. last_end n xs) at ∙ end))

  -- all, before the first
  pub rest_whole : (first : ℕ) (all : List Ended) (initial : T) → HandsRest first all initial first all initial
  unfolding HandsRest
  rest_whole first all initial final h = h

  pub rest_less : (first : ℕ) (all : List Ended) (initial : T) (start next : ℕ) (rest xs ys : List Ended) (now new : T) → rest ≡ xs ++ ys → last_end start xs ≡ next
      → HandsRest first all initial start rest now → HandsOn taken start xs now new → HandsRest first all initial next ys new
  unfolding HandsRest
  rest_less first all initial start next rest xs ys now new is end before one final h = before final (hands_both start next rest xs ys now new final is end one h)

  pub rest_none : (first : ℕ) (all : List Ended) (initial : T) (start : ℕ) (rest : List Ended) (now : T) → rest ≡ []
      → HandsRest first all initial start rest now → HandsOn taken first all initial now
  unfolding HandsRest
  rest_none first all initial start rest now is before = before now (hands_none start rest now is)

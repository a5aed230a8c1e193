-- The page that a range reads last.
use Rattle.std.proofs.Common.{◌≡◌, ℕ, ◌+◌, ◌<◌, ◌≤◌, Option, Some, None, sym, ap, subst, ◌∙◌, arith}
use Rattle.index_pages.specs.Paged.{page_count}
use Rattle.paged_indexes.specs.declared.index.IndexPages.{IndexPages}
use Rattle.paged_indexes.specs.Index.{page_with, pages_by, start_by}
use Rattle.core_state.specs.declared.pages.ReadPage.{ReadPage}
use Rattle.core_reader.specs.Ranges.{HasNoPage, IsLast, IsPageRead}

-- it is the one before page i, and the range reaches it
pub record BehindPage (p : IndexPages) (to first i : ℕ) (x : ReadPage) : Type 0 where
  pub next : x.number + 1 ≡ i
  pub low : first ≤ x.number
  pub below : x.number < page_count (pages_by p).count
  pub reached : start_by p x.number < to
  pub is : IsPageRead p x.number x

-- before page i is read
abbrev pub LastBefore : IndexPages → ℕ → ℕ → ℕ → Option ReadPage → Type 0
LastBefore p to first i None = i ≡ first
LastBefore p to first i (Some x) = BehindPage p to first i x

last_low : (p : IndexPages) (to first i : ℕ) (last : Option ReadPage) → LastBefore p to first i last → first ≤ i
last_low p to first i None so = omega (arith, so)
last_low p to first i (Some x) so = omega (arith, so.low, so.next)

-- page i is read
pub last_next : (p : IndexPages) (to first i : ℕ) (last : Option ReadPage) (x : ReadPage) → LastBefore p to first i last → i < page_count (pages_by p).count → start_by p i < to → IsPageRead p i x
    → BehindPage p to first (i + 1) x
last_next p to first i last x so below reached is = record {
  next = ap (λ n. n + 1) is.number;
  low = omega (arith, is.number, last_low p to first i last so);
  below = subst (λ n. n < page_count (pages_by p).count) (sym is.number) below;
  reached = subst (λ n. start_by p n < to) (sym is.number) reached;
  is = subst (λ n. IsPageRead p n x) (sym is.number) is;
}

-- page i is not reached, or there is none
pub last_is : (p : IndexPages) (from to first i : ℕ) (last : Option ReadPage) → from < to → page_with p from ≡ Some first → LastBefore p to first i last → (i < page_count (pages_by p).count → to ≤ start_by p i)
    → IsLast p from to last
last_is p from to first i None some begun so past = λ j lt at below.
    let same : j ≡ i = firsts j (sym at ∙ begun) ∙ sym so in
    subst (λ n. to ≤ start_by p n) (sym same) (past (omega (arith, below, same)))
  where
    firsts : (j : ℕ) → Some j ≡ Some first → j ≡ first
    firsts j e = cc
last_is p from to first i (Some x) some begun so past = record {
  some = some;
  first = first;
  begun = begun;
  low = so.low;
  below = so.below;
  reached = so.reached;
  last = λ more. subst (λ n. to ≤ start_by p n) (sym so.next) (past (omega (arith, more, so.next)));
  is = so.is;
}

-- a range of no bytes
pub none_last : (p : IndexPages) (from to : ℕ) → to ≤ from → HasNoPage p from to
none_last p from to none = λ i lt at below. absurd (omega (arith, none, lt))

-- or behind all pages
pub past_last : (p : IndexPages) (from to : ℕ) → page_with p from ≡ None → HasNoPage p from to
past_last p from to none = λ i lt at below. absurd (none_some i (sym none ∙ at))
  where
    none_some : (i : ℕ) → None ≡ Some i → ⊥
    none_some i e = cc

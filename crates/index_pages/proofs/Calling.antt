-- Bounds of how often an honest disk is called.
use Rattle.std.proofs.Common.{◌≡◌, ℕ, ◌+◌, ◌≤◌, List, Option, Some, None, sym, subst, arith}
use Rattle.disk_trait.specs.Disk.{TicksOnce}
use Rattle.disk_trait.specs.declared.disk.Disk.{Ghosts}
use Rattle.index_pages.specs.Calls.{CallsAtMost, head_calls, opening_calls}
use Rattle.index_pages.specs.Paged.{count_of, page_count}

module _ {D : Type 0} (d : Ghosts D) where
  -- it was not called
  pub calls_none : (a : D) (n : ℕ) → CallsAtMost d a a n
  calls_none a n h = omega arith

  -- it was called once
  pub calls_once : (a b : D) → TicksOnce d.honest d.calls a b → CallsAtMost d a b 1
  calls_once a b tick h = omega (arith, tick h)

  -- more is allowed
  pub calls_more : (a b : D) (m n : ℕ) → m ≤ n → CallsAtMost d a b m → CallsAtMost d a b n
  calls_more a b m n fewer one h = omega (arith, fewer, one h)

  -- one behind another, of a disk that stays honest
  pub calls_then : (a b c : D) (m n : ℕ) → (d.honest a → d.honest b) → CallsAtMost d a b m → CallsAtMost d b c n → CallsAtMost d a c (m + n)
  calls_then a b c m n kept one two h = omega (arith, one h, two (kept h))

  -- an opening that goes no further than the front
  pub calls_head : (a b : D) (width : ℕ) (o : Option (List ℕ)) → CallsAtMost d a b (head_calls o) → CallsAtMost d a b (opening_calls width o)
  calls_head a b width None head = head
  calls_head a b width (Some text) head = more (page_count (count_of width text))
    where
      more : (n : ℕ) → CallsAtMost d a b (2 + n)
      more n h = omega (arith, head h)

  -- the front, and then the pages of so many entries
  pub calls_open : (a b c : D) (width count : ℕ) (o : Option (List ℕ)) (text : List ℕ) → o ≡ Some text → count_of width text ≡ count
      → (d.honest a → d.honest b) → CallsAtMost d a b (head_calls o) → CallsAtMost d b c (page_count count) → CallsAtMost d a c (opening_calls width o)
  calls_open a b c width count o text there counted kept head pages =
      let front = subst (λ x. CallsAtMost d a b (head_calls x)) there head in
      let all = calls_then a b c 2 (page_count count) kept front pages in
      subst (λ x. CallsAtMost d a c (opening_calls width x)) (sym there) (subst (λ n. CallsAtMost d a c (2 + page_count n)) (sym counted) all)

-- The steps of a PRUNE.
use denote.Enum.Bare.{sameb}
use Rattle.std.proofs.Common.{◌≡◌, ℕ, ◌*◌, ◌≤◌, Bool, true, false, List, [], ◌∷◌, ◌++◌, length, map, reverse, Some, None, refl, sym, ap, ◌∙◌, arith, length-append}
use Rattle.std.specs.Prelude.{All}
use Rattle.std.specs.List.{flat_map, zip}
use Rattle.std.proofs.lemmas.List.{length-reverse}
use Rattle.std.proofs.lemmas.List.Sorted.{IsPermutation-reverse, All-permutation}
use Rattle.store_types.specs.declared.names.Keep.{Keep}
use Rattle.store_types.specs.declared.refusal.Refusal.TheVariants.{SnapshotBusy, NoSnapshot}
use Rattle.std.proofs.lemmas.List.Elements.{All-nil, All-cons, All-head, All-tail, All-same}
use Rattle.prune_rules.specs.declared.Item.{Item}
use Rattle.prune_rules.specs.declared.Mark.{Mark}
use Rattle.prune_rules.specs.Prune.{marks}
use Rattle.wire_commands.specs.contracts.rows.PruneMark.{the_type}
use Rattle.wire_commands.specs.declared.rows.PruneMark.{PruneMark}
use Rattle.wire_commands.specs.declared.rows.PruneMark.TheVariants.{Removed, Kept, Held, Gone}
use Rattle.wire_commands.specs.declared.rows.PruneRow.{PruneRow}
use Rattle.wire_commands.specs.declared.reply.Reply.{Reply}
use Rattle.wire_commands.specs.declared.reply.Reply.TheVariants.{Done, Marks, Refused}
use Rattle.wire_commands.specs.ReplyText.{prune_row_text, reply_text}
use Rattle.wire_commands.specs.HasText.{IsText, FitsPruneRow, ReplyHasText}
use Rattle.store_model.specs.Job.{over, asking, forgetting}
use Rattle.store_model.specs.PruneJob.{row, item_of, meant, rows_meant, is_to_go, go_on, forgot}
use Rattle.plain_lanes.specs.Jobs.{mark_told}

-- ---- a list of marks

rows_short : (rows : List PruneRow) → All FitsPruneRow rows → length (flat_map prune_row_text rows) ≤ 257 * length rows
rows_short [] fit = omega arith
rows_short (r ∷ rs) fit =
    let first = All-head FitsPruneRow r rs fit in
    let rest = rows_short rs (All-tail FitsPruneRow r rs fit) in
    simp length-append (omega (arith, first, rest))

pub marks_spelled : (rows : List PruneRow) → length rows ≤ 4096 → All FitsPruneRow rows → ReplyHasText (Marks rows)
unfolding reply_text
marks_spelled rows few fit = ((omega arith, fit), simp length-append (omega (arith, rows_short rows fit)))

-- ---- on to the next that is to go

by_mark : (mark : PruneMark) (snapshot : List ℕ) → sameb the_type mark Removed ≡ is_to_go (row mark snapshot)
by_mark Removed snapshot = refl
by_mark Kept snapshot = refl
by_mark Held snapshot = refl
by_mark Gone snapshot = refl

-- the test of a row's mark
pub tested : (r : PruneRow) (test t : Bool) → test ≡ sameb the_type r.mark Removed → test ≡ t → is_to_go r ≡ t
tested r test t says is = sym (by_mark r.mark r.snapshot) ∙ sym says ∙ is

pub at_end : (before : List PruneRow) → go_on before [] ≡ over (Marks before)
unfolding go_on
at_end before = refl

pub to_go : (before : List PruneRow) (r : PruneRow) (later : List PruneRow) → is_to_go r ≡ true → go_on before (r ∷ later) ≡ asking (forgetting before r.snapshot later)
unfolding go_on
to_go before r later h = rw h refl

pub to_stay : (before : List PruneRow) (r : PruneRow) (later : List PruneRow) → is_to_go r ≡ false → go_on before (r ∷ later) ≡ go_on (before ++ r ∷ []) later
unfolding go_on
to_stay before r later h = rw (go_on, h) refl

-- by the first of the rows to come
module _ (before later rest : List PruneRow) (r : PruneRow) (popped : later ≡ r ∷ rest) where
  pub popped_fit : All FitsPruneRow later → All FitsPruneRow (r ∷ rest)
  popped_fit fit = All-same FitsPruneRow (r ∷ rest) later (sym popped) fit

  pub popped_goes : is_to_go r ≡ true → go_on before later ≡ asking (forgetting before r.snapshot rest)
  popped_goes h = ap (go_on before) popped ∙ to_go before r rest h

  pub popped_stays : is_to_go r ≡ false → go_on before later ≡ go_on (before ++ r ∷ []) rest
  popped_stays h = ap (go_on before) popped ∙ to_stay before r rest h

pub none_left : (before later : List PruneRow) → length later ≡ 0 → go_on before later ≡ over (Marks before)
none_left before [] h = at_end before
none_left before (r ∷ rs) h = absurd (omega arith)

-- ---- the rows that are meant, as they are made

abbrev pub row_of : List ℕ × Mark → PruneRow
row_of p = row (meant p.1) p.0

meant_fit : (snapshots : List (List ℕ)) (ms : List Mark) → All IsText snapshots → All FitsPruneRow (map row_of (zip snapshots ms))
meant_fit [] ms fit = All-nil FitsPruneRow
meant_fit (x ∷ xs) [] fit = All-nil FitsPruneRow
meant_fit (x ∷ xs) (m ∷ ms) fit = All-cons FitsPruneRow (row_of (x, m)) (map row_of (zip xs ms)) (All-head IsText x xs fit) (meant_fit xs ms (All-tail IsText x xs fit))

meant_few : (snapshots : List (List ℕ)) (ms : List Mark) → length (map row_of (zip snapshots ms)) ≤ length snapshots
meant_few [] ms = omega arith
meant_few (x ∷ xs) [] = omega arith
meant_few (x ∷ xs) (m ∷ ms) = omega (arith, meant_few xs ms)

module _ (keep : Keep) (oldest_first : List (List ℕ)) where
  pub meant_is : (snapshots : List (List ℕ)) (items : List Item) (marked : List Mark) → snapshots ≡ reverse oldest_first → items ≡ map item_of snapshots
      → marked ≡ marks items keep → map row_of (zip snapshots marked) ≡ rows_meant keep oldest_first
  unfolding rows_meant
  meant_is snapshots items marked turned timed is =
      ap (λ ms. map row_of (zip snapshots ms)) (is ∙ ap (λ xs. marks xs keep) timed)
      ∙ ap (λ xs. map row_of (zip xs (marks (map item_of xs) keep))) turned

  pub rows_few : length (rows_meant keep oldest_first) ≤ length oldest_first
  unfolding rows_meant
  rows_few = omega (arith, meant_few (reverse oldest_first) (marks (map item_of (reverse oldest_first)) keep), length-reverse oldest_first)

  pub rows_fit : All IsText oldest_first → All FitsPruneRow (rows_meant keep oldest_first)
  unfolding rows_meant
  rows_fit fit =
      meant_fit (reverse oldest_first) (marks (map item_of (reverse oldest_first)) keep)
      (All-permutation IsText oldest_first (reverse oldest_first) (IsPermutation-reverse oldest_first) fit)

-- ---- the reply to a FORGET

module _ (before : List PruneRow) (snapshot : List ℕ) (later : List PruneRow) where
  pub forgot_over : (reply : Reply) → mark_told reply ≡ None → forgot before snapshot later reply ≡ over reply
  unfolding forgot
  forgot_over Done h = cc
  forgot_over (Refused (SnapshotBusy lane)) h = cc
  forgot_over (Refused NoSnapshot) h = cc
  forgot_over reply h = refl

  pub forgot_marked : (reply : Reply) (mark : PruneMark) → mark_told reply ≡ Some mark → forgot before snapshot later reply ≡ go_on (before ++ row mark snapshot ∷ []) later
  unfolding forgot
  forgot_marked Done mark h = let is : Removed ≡ mark = cc in ap (λ m. go_on (before ++ row m snapshot ∷ []) later) is
  forgot_marked (Refused (SnapshotBusy lane)) mark h = let is : Held ≡ mark = cc in ap (λ m. go_on (before ++ row m snapshot ∷ []) later) is
  forgot_marked (Refused NoSnapshot) mark h = let is : Gone ≡ mark = cc in ap (λ m. go_on (before ++ row m snapshot ∷ []) later) is
  forgot_marked reply mark h = cc

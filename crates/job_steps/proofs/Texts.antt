-- Where the replies have texts, so has the report.
use Rattle.std.proofs.Common.{ℕ, ◌+◌, ◌*◌, ◌≤◌, Bool, true, false, List, [], ◌∷◌, ◌++◌, length, map, reverse, arith, length-append}
use Rattle.std.specs.Prelude.{All, if◌then◌else◌}
use Rattle.std.specs.List.{flat_map, zip}
use Rattle.std.proofs.lemmas.List.{length-reverse}
use Rattle.std.proofs.lemmas.List.Elements.{All-nil, All-cons, All-head, All-tail, All-push}
use Rattle.std.proofs.lemmas.List.Sorted.{IsPermutation-reverse, All-permutation}
use Rattle.store_types.specs.declared.names.Keep.{Keep}
use Rattle.store_types.specs.declared.refusal.Refusal.TheVariants.{SnapshotBusy, NoSnapshot}
use Rattle.prune_rules.specs.declared.Mark.{Mark}
use Rattle.prune_rules.specs.Prune.{marks}
use Rattle.wire_commands.specs.declared.rows.PruneMark.{PruneMark}
use Rattle.wire_commands.specs.declared.rows.PruneMark.TheVariants.{Removed, Held, Gone}
use Rattle.wire_commands.specs.declared.rows.PruneRow.{PruneRow}
use Rattle.wire_commands.specs.declared.reply.Reply.{Reply}
use Rattle.wire_commands.specs.declared.reply.Reply.TheVariants.{Done, Keys, Marks, Refused}
use Rattle.wire_commands.specs.ReplyText.{prune_row_text, reply_text}
use Rattle.wire_commands.specs.HasText.{FitsPruneRow, IsText, ReplyHasText}
use Rattle.store_model.specs.Job.{asking, forgetting}
use Rattle.store_model.specs.PruneJob.{row, item_of, rows_meant, is_to_go, go_on, grouped, forgot}
use Rattle.store_model.specs.JobReplies.{IsWithinGroup}
use Rattle.job_steps.specs.Rows.{row_of}
use Rattle.job_steps.specs.Replies.{EndsInText}

-- ---- a list of marks

rows_short : (rows : List PruneRow) → All FitsPruneRow rows → length (flat_map prune_row_text rows) ≤ 257 * length rows
rows_short [] fit = omega arith
rows_short (r ∷ rs) fit =
    let first = All-head FitsPruneRow r rs fit in
    let rest = rows_short rs (All-tail FitsPruneRow r rs fit) in
    simp length-append (omega (arith, first, rest))

marks_have_text : (rows : List PruneRow) → length rows ≤ 4096 → All FitsPruneRow rows → ReplyHasText (Marks rows)
unfolding reply_text
marks_have_text rows few fit = ((omega arith, fit), simp length-append (omega (arith, rows_short rows fit)))

-- ---- from row to row

at_row : (t : Bool) (before : List PruneRow) (r : PruneRow) (later : List PruneRow) → EndsInText (asking (forgetting before r.snapshot later))
    → EndsInText (go_on (before ++ r ∷ []) later) → EndsInText (if t then asking (forgetting before r.snapshot later) else go_on (before ++ r ∷ []) later)
at_row true before r later stops goes = stops
at_row false before r later stops goes = goes

goes_in_text : (before later : List PruneRow) → length before + length later ≤ 4096 → All FitsPruneRow before → All FitsPruneRow later → EndsInText (go_on before later)
unfolding go_on
goes_in_text before [] few done to_come = marks_have_text before (omega arith) done
goes_in_text before (r ∷ later) few done to_come =
    let first = All-head FitsPruneRow r later to_come in
    let rest = All-tail FitsPruneRow r later to_come in
    at_row (is_to_go r) before r later (omega arith, done, first, rest)
    (goes_in_text (before ++ r ∷ []) later (simp length-append (omega arith)) (All-push FitsPruneRow before r done first) rest)

-- ---- what is meant

meant_fit : (snapshots : List (List ℕ)) (ms : List Mark) → All IsText snapshots → All FitsPruneRow (map row_of (zip snapshots ms))
meant_fit [] ms fit = All-nil FitsPruneRow
meant_fit (x ∷ xs) [] fit = All-nil FitsPruneRow
meant_fit (x ∷ xs) (m ∷ ms) fit = All-cons FitsPruneRow (row_of (x, m)) (map row_of (zip xs ms)) (All-head IsText x xs fit) (meant_fit xs ms (All-tail IsText x xs fit))

meant_few : (snapshots : List (List ℕ)) (ms : List Mark) → length (map row_of (zip snapshots ms)) ≤ length snapshots
meant_few [] ms = omega arith
meant_few (x ∷ xs) [] = omega arith
meant_few (x ∷ xs) (m ∷ ms) = omega (arith, meant_few xs ms)

rows_few : (keep : Keep) (snapshots : List (List ℕ)) → length snapshots ≤ 4096 → length (rows_meant keep snapshots) ≤ 4096
unfolding rows_meant
rows_few keep snapshots few = omega (arith, meant_few (reverse snapshots) (marks (map item_of (reverse snapshots)) keep), length-reverse snapshots)

rows_fit : (keep : Keep) (snapshots : List (List ℕ)) → All IsText snapshots → All FitsPruneRow (rows_meant keep snapshots)
unfolding rows_meant
rows_fit keep snapshots fit =
    meant_fit (reverse snapshots) (marks (map item_of (reverse snapshots)) keep)
    (All-permutation IsText snapshots (reverse snapshots) (IsPermutation-reverse snapshots) fit)

-- ---- after a reply

pub grouped_in_text : (keep : Keep) (dry : Bool) (reply : Reply) → IsWithinGroup reply → ReplyHasText reply → EndsInText (grouped keep dry reply)
unfolding grouped
grouped_in_text keep true (Keys snapshots) few spelled =
    marks_have_text (rows_meant keep snapshots) (rows_few keep snapshots few) (rows_fit keep snapshots (spelled.0).1)
grouped_in_text keep false (Keys snapshots) few spelled =
    goes_in_text [] (rows_meant keep snapshots) (omega (arith, rows_few keep snapshots few)) (All-nil FitsPruneRow) (rows_fit keep snapshots (spelled.0).1)
grouped_in_text keep dry reply few spelled = spelled

one_done : (before : List PruneRow) (mark : PruneMark) (snapshot : List ℕ) (later : List PruneRow) → EndsInText (asking (forgetting before snapshot later))
    → EndsInText (go_on (before ++ row mark snapshot ∷ []) later)
one_done before mark snapshot later ends =
    goes_in_text (before ++ row mark snapshot ∷ []) later (simp length-append (omega (arith, ends.0)))
    (All-push FitsPruneRow before (row mark snapshot) ends.1 ends.2) ends.3

pub forgot_in_text : (before : List PruneRow) (snapshot : List ℕ) (later : List PruneRow) (reply : Reply)
    → EndsInText (asking (forgetting before snapshot later)) → ReplyHasText reply → EndsInText (forgot before snapshot later reply)
unfolding forgot
forgot_in_text before snapshot later Done ends spelled = one_done before Removed snapshot later ends
forgot_in_text before snapshot later (Refused (SnapshotBusy lane)) ends spelled = one_done before Held snapshot later ends
forgot_in_text before snapshot later (Refused NoSnapshot) ends spelled = one_done before Gone snapshot later ends
forgot_in_text before snapshot later reply ends spelled = spelled

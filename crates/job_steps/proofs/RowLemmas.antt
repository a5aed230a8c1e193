-- A prune goes from row to row, and its reports have texts.
use denote.Enum.Bare.{sameb}
use Rattle.std.proofs.Common.{◌≡◌, ℕ, suc, ◌+◌, ◌<◌, Bool, true, false, add-one, List, [], ◌∷◌, ◌++◌, length, get_or, take, drop, Some, None, refl, sym, ap, ◌∙◌, arith}
use Rattle.std.proofs.Math.ListN.{set}
use Rattle.std.proofs.Math.Seq.{take-suc, drop-cons, take-length, drop-length, take-suc-set}
use Rattle.std.proofs.lemmas.List.{drop-set-lt, get_or_read}
use Rattle.wire_commands.specs.contracts.rows.PruneMark.{the_type}
use Rattle.store_types.specs.declared.refusal.Refusal.TheVariants.{SnapshotBusy, NoSnapshot}
use Rattle.wire_commands.specs.declared.rows.PruneMark.{PruneMark}
use Rattle.wire_commands.specs.declared.rows.PruneMark.TheVariants.{Removed, Kept, Held, Gone}
use Rattle.wire_commands.specs.declared.rows.PruneRow.{PruneRow}
use Rattle.wire_commands.specs.declared.reply.Reply.{Reply}
use Rattle.wire_commands.specs.declared.reply.Reply.TheVariants.{Done, Marks, Refused}
use Rattle.store_model.specs.Job.{over, asking, forgetting}
use Rattle.store_model.specs.PruneJob.{row, is_to_go, go_on, forgot}
use Rattle.job_steps.specs.Rows.{row_at, asked_at, mark_told}

abbrev nothing : PruneRow
nothing = row Removed []

-- ---- which rows are to go

by_mark : (mark : PruneMark) (snapshot : List ℕ) → sameb the_type mark Removed ≡ is_to_go (row mark snapshot)
by_mark Removed snapshot = refl
by_mark Kept snapshot = refl
by_mark Held snapshot = refl
by_mark Gone snapshot = refl

-- the test of a mark, of the row that stands at a place
pub tested_at : (rows : List PruneRow) (place : ℕ) (r : PruneRow) (test t : Bool) → place < length rows → r ≡ get_or rows place r
    → test ≡ sameb the_type (get_or rows place r).mark Removed → test ≡ t → is_to_go (row_at rows place) ≡ t
tested_at rows place r test t lt is says e =
    let same : get_or rows place r ≡ row_at rows place = sym is ∙ get_or_read rows place r lt is nothing in
    ap is_to_go (sym same) ∙ sym (by_mark (get_or rows place r).mark (get_or rows place r).snapshot) ∙ sym says ∙ e

-- ---- on to the next

past : (before : List PruneRow) (r : PruneRow) (later : List PruneRow) → is_to_go r ≡ false → go_on before (r ∷ later) ≡ go_on (before ++ r ∷ []) later
unfolding go_on
past before r later e = rw e refl

stop : (before : List PruneRow) (r : PruneRow) (later : List PruneRow) → is_to_go r ≡ true → go_on before (r ∷ later) ≡ asking (forgetting before r.snapshot later)
unfolding go_on
stop before r later e = rw e refl

end : (before : List PruneRow) → go_on before [] ≡ over (Marks before)
unfolding go_on
end before = refl

pub goes_past : (rows : List PruneRow) (place : ℕ) → place < length rows → is_to_go (row_at rows place) ≡ false
    → go_on (take place rows) (drop place rows) ≡ go_on (take (place + 1) rows) (drop (place + 1) rows)
goes_past rows place lt e =
    rw add-one
    (ap (go_on (take place rows)) (drop-cons rows place nothing lt) ∙ past (take place rows) (row_at rows place) (drop (suc place) rows) e
    ∙ ap (λ xs. go_on xs (drop (suc place) rows)) (sym (take-suc rows place nothing lt)))

pub stops : (rows : List PruneRow) (place : ℕ) → place < length rows → is_to_go (row_at rows place) ≡ true
    → asked_at rows place ≡ go_on (take place rows) (drop place rows)
stops rows place lt e =
    rw add-one
    (sym (ap (go_on (take place rows)) (drop-cons rows place nothing lt) ∙ stop (take place rows) (row_at rows place) (drop (suc place) rows) e))

pub ends : (rows : List PruneRow) (place : ℕ) → length rows ≡ place → over (Marks rows) ≡ go_on (take place rows) (drop place rows)
ends rows place last =
    sym (ap (λ n. go_on (take n rows) (drop n rows)) (sym last) ∙ ap (λ xs. go_on xs (drop (length rows) rows)) (take-length rows)
    ∙ ap (go_on rows) (drop-length rows) ∙ end rows)

-- ---- after a FORGET

goes_on_marked : (before : List PruneRow) (snapshot : List ℕ) (later : List PruneRow) (reply : Reply) (mark : PruneMark) → mark_told reply ≡ Some mark
    → forgot before snapshot later reply ≡ go_on (before ++ row mark snapshot ∷ []) later
unfolding forgot
goes_on_marked before snapshot later Done mark e = let same : Removed ≡ mark = cc in ap (λ m. go_on (before ++ row m snapshot ∷ []) later) same
goes_on_marked before snapshot later (Refused (SnapshotBusy lane)) mark e = let same : Held ≡ mark = cc in ap (λ m. go_on (before ++ row m snapshot ∷ []) later) same
goes_on_marked before snapshot later (Refused NoSnapshot) mark e = let same : Gone ≡ mark = cc in ap (λ m. go_on (before ++ row m snapshot ∷ []) later) same
goes_on_marked before snapshot later reply mark e = cc

pub ends_unmarked : (before : List PruneRow) (snapshot : List ℕ) (later : List PruneRow) (reply : Reply) → mark_told reply ≡ None
    → forgot before snapshot later reply ≡ over reply
unfolding forgot
ends_unmarked before snapshot later Done e = cc
ends_unmarked before snapshot later (Refused (SnapshotBusy lane)) e = cc
ends_unmarked before snapshot later (Refused NoSnapshot) e = cc
ends_unmarked before snapshot later reply e = refl

-- the rows with one marked, on both sides of the place behind it
marked_before : (rows : List PruneRow) (place : ℕ) (r : PruneRow) → place < length rows → take (place + 1) (set rows place r) ≡ take place rows ++ r ∷ []
marked_before rows place r lt = rw add-one (take-suc-set rows place r lt)

marked_behind : (rows : List PruneRow) (place : ℕ) (r : PruneRow) → drop (place + 1) (set rows place r) ≡ drop (place + 1) rows
marked_behind rows place r = drop-set-lt (place + 1) rows place r (omega arith)

-- The row at a place is marked by the reply to its FORGET.
pub goes_on_behind : (rows : List PruneRow) (place : ℕ) (r : PruneRow) (mark : PruneMark) (reply : Reply) → place < length rows → r ≡ get_or rows place r
    → mark_told reply ≡ Some mark
    → go_on (take (place + 1) (set rows place (row mark r.snapshot))) (drop (place + 1) (set rows place (row mark r.snapshot)))
    ≡ forgot (take place rows) (row_at rows place).snapshot (drop (place + 1) rows) reply
goes_on_behind rows place r mark reply lt is told =
    let marked = row mark r.snapshot in
    let same : r ≡ row_at rows place = get_or_read rows place r lt is nothing in
    ap (λ xs. go_on xs (drop (place + 1) (set rows place marked))) (marked_before rows place marked lt)
    ∙ ap (go_on (take place rows ++ marked ∷ [])) (marked_behind rows place marked)
    ∙ ap (λ (x : PruneRow). go_on (take place rows ++ row mark x.snapshot ∷ []) (drop (place + 1) rows)) same
    ∙ sym (goes_on_marked (take place rows) (row_at rows place).snapshot (drop (place + 1) rows) reply mark told)

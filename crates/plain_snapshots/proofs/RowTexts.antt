-- The rows that a reply lists have a text together.
use Rattle.std.proofs.Common.{◌≡◌, ℕ, ◌*◌, ◌≤◌, Bool, true, false, List, length, refl, arith, length-append}
use Rattle.std.specs.Prelude.{All}
use Rattle.std.specs.List.{flat_map}
use Rattle.std.proofs.lemmas.List.Concat.{length-flat_map}
use Rattle.std.proofs.lemmas.List.Sums.{sum_by-le}
use Rattle.wire_commands.specs.declared.rows.ListRow.{ListRow}
use Rattle.wire_commands.specs.declared.rows.FileRow.{FileRow}
use Rattle.wire_commands.specs.declared.rows.PruneRow.{PruneRow}
use Rattle.wire_commands.specs.declared.reply.Reply.TheVariants.{Listing, Files, Keys, Marks}
use Rattle.wire_commands.specs.Fields.{text, flag}
use Rattle.wire_commands.specs.ReplyText.{list_row_text, file_row_text, prune_row_text, reply_text}
use Rattle.wire_commands.specs.HasText.{IsText, FitsListRow, FitsFileRow, FitsPruneRow, ReplyHasText}

-- rows of so many bytes at most
rows_short : {A : Type 0} (spelled : A → List ℕ) (most : ℕ) (xs : List A) → All (λ x. length (spelled x) ≤ most) xs → length (flat_map spelled xs) ≤ length xs * most
rows_short spelled most xs all = rw (length-flat_map spelled xs) (sum_by-le (λ x. length (spelled x)) most xs all)

flag_short : (b : Bool) → length (flag b) ≡ 1
flag_short false = refl
flag_short true = refl

list_row_short : (r : ListRow) → FitsListRow r → length (list_row_text r) ≤ 258
list_row_short r fits = simp length-append (omega (arith, flag_short r.damaged, fits.0))

file_row_short : (r : FileRow) → FitsFileRow r → length (file_row_text r) ≤ 296
file_row_short r fits = simp length-append (omega (arith, fits.0, fits.2))

prune_row_short : (r : PruneRow) → FitsPruneRow r → length (prune_row_text r) ≤ 257
prune_row_short r fits = simp length-append (omega (arith, fits))

pub listing_spelled : (rows : List ListRow) → length rows ≤ 1024 → All FitsListRow rows → ReplyHasText (Listing rows)
unfolding reply_text
listing_spelled rows few fits =
    let short = rows_short list_row_text 258 rows (λ k d h. list_row_short _ (fits k d h)) in
    ((omega arith, fits), simp length-append (omega (arith, short)))

pub files_spelled : (rows : List FileRow) → length rows ≤ 64 → All FitsFileRow rows → ReplyHasText (Files rows)
unfolding reply_text
files_spelled rows few fits =
    let short = rows_short file_row_text 296 rows (λ k d h. file_row_short _ (fits k d h)) in
    ((omega arith, fits), omega (arith, short))

pub keys_spelled : (texts : List (List ℕ)) → length texts ≤ 4096 → All IsText texts → ReplyHasText (Keys texts)
unfolding reply_text
keys_spelled texts few fits =
    let short = rows_short text 256 texts (λ k d h. let one : IsText _ = fits k d h in omega (arith, one)) in
    ((omega arith, fits), simp length-append (omega (arith, short)))

pub marks_spelled : (rows : List PruneRow) → length rows ≤ 4096 → All FitsPruneRow rows → ReplyHasText (Marks rows)
unfolding reply_text
marks_spelled rows few fits =
    let short = rows_short prune_row_text 257 rows (λ k d h. prune_row_short _ (fits k d h)) in
    ((omega arith, fits), simp length-append (omega (arith, short)))

-- Listings have a spelling.
use Rattle.std.proofs.Common.{◌≡◌, ◌≤◌, Bool, true, false, length, List, [], ◌∷◌, ◌++◌, refl, arith, length-append}
use Rattle.std.specs.List.{All}
use Rattle.wire_commands.specs.declared.rows.ListRow.{ListRow}
use Rattle.wire_commands.specs.declared.rows.FileRow.{FileRow}
use Rattle.wire_commands.specs.declared.reply.Reply.TheVariants.{Listing, Files}
use Rattle.wire_commands.specs.Fields.{flag, u64}
use Rattle.wire_commands.specs.HasText.{ReplyHasText}
use Rattle.wire_commands.specs.ReplyText.{reply_text, list_row_text, file_row_text}
use Rattle.core_state.proofs.Texts.{rows_short}
use Rattle.core_admin.specs.FilesTold.{IsFileRow}
use Rattle.core_admin.specs.Listings.{IsListable}

flag_one : (b : Bool) → length (flag b) ≡ 1
flag_one true = refl
flag_one false = refl

-- ---- snapshots

list_row_short : (r : ListRow) → IsListable r → length (list_row_text r) ≤ 93
list_row_short r h =
    let short = h.0 in
    omega (arith, short, flag_one r.damaged, length-append r.snapshot (flag r.damaged), length-append (r.snapshot ++ flag r.damaged) (r.files ∷ []))

pub listing_has_text : (rows : List ListRow) → length rows ≤ 1024 → All IsListable rows → ReplyHasText (Listing rows)
unfolding reply_text
listing_has_text rows few all =
    let short = rows_short list_row_text 93 rows (λ i d lt. list_row_short _ (all i d lt)) in
    ((omega (arith, few), λ i d lt. let h = all i d lt in let text = h.0 in (omega (arith, text), h.1, h.2)), omega (arith, few, short))

-- ---- files

file_row_short : (r : FileRow) → IsFileRow r → length (file_row_text r) ≤ 105
file_row_short r h =
    let name = h.0 in
    let csum = h.2 in
    omega (arith, name, csum, length-append r.file (u64 r.size), length-append (r.file ++ u64 r.size) r.csum.0)

pub files_has_text : (rows : List FileRow) → length rows ≤ 64 → All IsFileRow rows → ReplyHasText (Files rows)
unfolding reply_text
files_has_text rows few all =
    let short = rows_short file_row_text 105 rows (λ i d lt. file_row_short _ (all i d lt)) in
    ((omega (arith, few), λ i d lt. let h = all i d lt in let name = h.0 in (omega (arith, name), h.1, h.2)), omega (arith, few, short))

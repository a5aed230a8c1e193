use Rattle.std.proofs.Common.{◌≡◌, ◌≤◌, ◌∙◌, ap, ap₂, length, arith}
use Rattle.std.specs.Prelude.{position, unwrap_or}
use Rattle.std.specs.List.{insert, remove}
use Rattle.std.proofs.lemmas.List.Edits.{length-insert}
use Rattle.backup_session.proofs.Places.{place_is, place_within, remove-insert}
use Rattle.backup_session.proofs.FileLemmas.{is_after, insert_fact-is}
use Rattle.backup_session.proofs.files.insert.Goals as goal

pub returns-clause-ok : goal.returns-clause-ok
returns-clause-ok c =
    let x = c.args.file in
    let xs = c.args.files.now.items in
    let len : c.len.result ≡ length xs = omega (arith, c.len.ensures, c.args.files.now.ok.0) in
    let place : c.unwrap_or-place.result ≡ unwrap_or (position (is_after x) xs) (length xs) =
    c.unwrap_or-place.ensures ∙ ap₂ unwrap_or (c.first_after-after.ensures ∙ ap (position (is_after x)) c.deref.ensures.value) len in
    c.in_ok-insert.ensures.items ∙ ap (λ i. insert xs i x) (place ∙ place_is (is_after x) xs) ∙ insert_fact-is x xs

pub returns-clause-place : goal.returns-clause-place
returns-clause-place c =
    let x = c.args.file in
    let xs = c.args.files.now.items in
    let len : c.len.result ≡ length xs = omega (arith, c.len.ensures, c.args.files.now.ok.0) in
    let place : c.unwrap_or-place.result ≡ unwrap_or (position (is_after x) xs) (length xs) =
    c.unwrap_or-place.ensures ∙ ap₂ unwrap_or (c.first_after-after.ensures ∙ ap (position (is_after x)) c.deref.ensures.value) len in
    let le : c.unwrap_or-place.result ≤ length xs = omega (arith, place, place_is (is_after x) xs, place_within (is_after x) xs) in
    let items = c.in_ok-insert.ensures.items in (
      omega (arith, ap length items, length-insert xs c.unwrap_or-place.result x le, le),
      ap (λ l. remove l c.unwrap_or-place.result) items ∙ remove-insert xs c.unwrap_or-place.result x le,
    )

use Rattle.std.proofs.Common.{◌≡◌, ◌≤◌, ◌∙◌, ap, length, arith}
use Rattle.std.specs.Prelude.{position, unwrap_or}
use Rattle.std.specs.List.{insert}
use Rattle.core_state.proofs.Places.{place_is, place_within, taken_in}
use Rattle.core_writer.proofs.UploadLemmas.{is_after, insert_stored-is}
use Rattle.core_writer.proofs.files.insert.Goals as goal

pub returns-clause-ok : goal.returns-clause-ok
returns-clause-ok c =
    let x = c.args.file in
    let xs = c.args.files.now in
    let place : c.unwrap_or-place.result ≡ unwrap_or (position (is_after x) xs) (length xs) =
    c.unwrap_or-place.ensures ∙ ap (λ o. unwrap_or o (length c.as_slice-2.result.now)) (c.first_after-after.ensures ∙ ap (position (is_after x)) c.as_slice.ensures)
    ∙ ap (λ l. unwrap_or (position (is_after x) xs) (length l)) c.as_slice-2.ensures in
    c.in_ok-insert.ensures.ok ∙ ap (λ i. insert xs i x) (place ∙ place_is (is_after x) xs) ∙ insert_stored-is x xs

pub returns-clause-place : goal.returns-clause-place
returns-clause-place c =
    let x = c.args.file in
    let xs = c.args.files.now in
    let place : c.unwrap_or-place.result ≡ unwrap_or (position (is_after x) xs) (length xs) =
    c.unwrap_or-place.ensures ∙ ap (λ o. unwrap_or o (length c.as_slice-2.result.now)) (c.first_after-after.ensures ∙ ap (position (is_after x)) c.as_slice.ensures)
    ∙ ap (λ l. unwrap_or (position (is_after x) xs) (length l)) c.as_slice-2.ensures in
    let le : c.unwrap_or-place.result ≤ length xs = omega (arith, place, place_is (is_after x) xs, place_within (is_after x) xs) in
    let t = taken_in xs c.insert.new.self c.unwrap_or-place.result x le c.in_ok-insert.ensures.ok in
    (t.within, t.there, t.back)

use Rattle.std.proofs.Common.{◌≡◌, ◌∙◌, ap, true, false, Ok, length, rules}
use Rattle.store_types.specs.FileNames.{is_file_name, is_dynamic_name}
use Rattle.store_files.specs.Archive.{dynamic}
use Rattle.store_model.specs.Store.{Writer}
use Rattle.store_model.specs.Uploads.{want_room}
use Rattle.store_model.specs.Archives.{new_archive, want_number, free_number}
use Rattle.store_model.specs.WriterCalls.{numbers}
use Rattle.plain_sessions.proofs.NewParts.{no_archive_name, begun_is}
use Rattle.plain_sessions.proofs.writer.Writer.begin_dynamic.Goals as goal

pub returns-in_default-clause-gives : goal.returns-in_default-clause-gives
returns-in_default-clause-gives c =
    let bad : is_file_name c.args.name.now ≡ false = search rules in
    no_archive_name c.args.self.now c.args.name.now c.args.moment bad

pub returns-clause-gives : goal.returns-clause-gives
returns-clause-gives c =
    let w = c.args.self.now in
    let name = c.args.name.now in
    let same : c.in-Ok.name ≡ name = search rules in
    let good : is_dynamic_name name ≡ true = search rules in
    let room : want_room name w ≡ Ok tt = search rules in
    let few : want_number (length w.begun) ≡ Ok tt = search rules in
    let free : c.free_number-number.result ≡ free_number (numbers w) = search rules in
    let new = c.in_ok-archive.ensures ∙ ap (λ (x : Writer). new_archive dynamic 4032 x.key c.in-Ok.name c.args.moment) c.self.view_is in
    begun_is w name c.in-Ok.name c.args.moment c.free_number-number.result c.in_ok-archive.archive room few free same good new

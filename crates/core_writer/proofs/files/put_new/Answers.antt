use Rattle.std.proofs.Common.{◌≡◌, ◌∙◌, false, Ok, Err, ap, rules}
use Rattle.std.specs.Prelude.{slice_get}
use Rattle.std.specs.Str.{bytes_eq}
use Rattle.store_types.specs.FileNames.{manifest_name}
use Rattle.core_writer.proofs.PendingLemmas.{put_puts}
use Rattle.core_writer.proofs.files.put_new.Goals as goal

pub returns-in-Ok-clause-puts : goal.returns-in-Ok-clause-puts
returns-in-Ok-clause-puts g c =
    let plain : bytes_eq c.args.file.name manifest_name ≡ false = search rules in
    let path : c.path_at-path.result.now ≡ c.args.file.path = c.path_at-path.ensures c.args.file (ap (λ fs. slice_get fs c.in_ok-place.place) c.as_slice.ensures ∙ c.in_ok-place.ensures.place.1) in
    put_puts g.D.Disk c.args.disk.now c.put_file.new.disk c.args.file c.args.text.now c.path_at-path.result.now (Ok tt) plain path c.in-Ok.ensures.serves c.in-Ok.ensures.crash c.in-Ok.ensures.installed c.in-Ok.ensures.unchanged

pub returns-in-Err-clause-puts : goal.returns-in-Err-clause-puts
returns-in-Err-clause-puts g c =
    let plain : bytes_eq c.args.file.name manifest_name ≡ false = search rules in
    let path : c.path_at-path.result.now ≡ c.args.file.path = c.path_at-path.ensures c.args.file (ap (λ fs. slice_get fs c.in_ok-place.place) c.as_slice.ensures ∙ c.in_ok-place.ensures.place.1) in
    put_puts g.D.Disk c.args.disk.now c.put_file.new.disk c.args.file c.args.text.now c.path_at-path.result.now (Err c.in-Err.cause) plain path c.in-Err.ensures.serves c.in-Err.ensures.crash c.in-Err.ensures.installed c.in-Err.ensures.unchanged

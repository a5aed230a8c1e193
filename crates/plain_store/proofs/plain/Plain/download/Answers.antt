use Rattle.std.proofs.Common.{◌≡◌, ◌∙◌, ap, refl, sym, true, false, rules}
use Rattle.store_types.specs.FileNames.{is_file_name}
use Rattle.store_files.specs.Archive.{File}
use Rattle.store_model.specs.Store.{with_session, reader}
use Rattle.store_model.specs.ReaderSteps.{note}
use Rattle.plain_snapshots.specs.Contents.{shown_content}
use Rattle.wire_commands.specs.declared.reply.Reply.{Reply}
use Rattle.plain_store.specs.Parts.{file_part}
use Rattle.plain_store.proofs.Stopping.{does_refuse, refusal_fits, does_stop, stop_fits}
use Rattle.plain_store.proofs.ReaderLemmas.{not_reader, no_name, no_part, downloads}
use Rattle.plain_store.proofs.plain.Plain.download.Goals as goal

pub returns-in_err-r-clause-does : goal.returns-in_err-r-clause-does
returns-in_err-r-clause-does c =
    let r = c.in_err-r.field-0.0 in
    does_refuse _ c.from_residual.result r _ c.from_residual.ensures.1 (not_reader c.args.self.now c.args.lane c.args.name.now c.args.offset r (c.in_err-r.ensures.test))

pub returns-in_err-r-clause-spelled : goal.returns-in_err-r-clause-spelled
returns-in_err-r-clause-spelled c =
    refusal_fits c.from_residual.result c.in_err-r.field-0.0 c.from_residual.ensures.1 c.in_err-r.ensures.fits

pub returns-in_default-clause-does : goal.returns-in_default-clause-does
returns-in_default-clause-does c =
    let reads = c.in_ok-r.ensures.test in
    let bad : is_file_name c.args.name.now ≡ false = search rules in
    (no_name c.args.self.now c.args.lane c.args.name.now c.args.offset c.in_ok-r.r.now reads bad, refl)

pub returns-in_default-clause-spelled : goal.returns-in_default-clause-spelled
returns-in_default-clause-spelled c = tt

pub returns-in_err-file-clause-does : goal.returns-in_err-file-clause-does
returns-in_err-file-clause-does c =
    let s = c.args.self.now in
    let x = c.in_ok-r.r.now in
    let name = c.args.name.now in
    let reads = c.in_ok-r.ensures.test in
    let good : is_file_name name ≡ true = search rules in
    let same : c.in-Ok.name ≡ name = search rules in
    does_stop {A = File × Reply} (λ x. x) _ c.from_residual-in_err-file.result c.in_err-file.field-0.0 (file_part c.reader_files.result.now c.in-Ok.name c.args.offset) _ c.from_residual-in_err-file.ensures.1 c.in_err-file.ensures.gives
    (λ r h. no_part s c.args.lane name c.args.offset x reads good r
    (ap (λ fs. file_part fs name c.args.offset) (sym c.reader_files.ensures) ∙ ap (λ n. file_part c.reader_files.result.now n c.args.offset) (sym same) ∙ h))

pub returns-in_err-file-clause-spelled : goal.returns-in_err-file-clause-spelled
returns-in_err-file-clause-spelled c =
    stop_fits c.from_residual-in_err-file.result c.in_err-file.field-0.0 c.from_residual-in_err-file.ensures.1 c.in_err-file.ensures.fits

pub returns-clause-does : goal.returns-clause-does
returns-clause-does c =
    let s = c.args.self.now in
    let x = c.in_ok-r.r.now in
    let name = c.args.name.now in
    let reads = c.in_ok-r.ensures.test in
    let good : is_file_name name ≡ true = search rules in
    let same : c.in-Ok.name ≡ name = search rules in
    let found = ap (λ fs. file_part fs name c.args.offset) (sym c.reader_files.ensures) ∙ ap (λ n. file_part c.reader_files.result.now n c.args.offset) (sym same) ∙ c.in_ok-file.ensures.gives in
    let noted = c.in_ok-after.ensures ∙ ap (λ n. note n (shown_content c.file.inside.content) x) same ∙ ap (λ (g : File). note name g.content x) c.file.view_is in
    downloads s c.args.lane name c.args.offset x reads good _ _ c.set_held.new.self found (c.set_held.ensures ∙ ap (λ y. with_session s c.args.lane (reader y)) noted)

pub returns-clause-spelled : goal.returns-clause-spelled
returns-clause-spelled c = c.in_ok-file.ensures.spelled

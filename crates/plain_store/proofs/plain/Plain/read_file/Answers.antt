use Rattle.std.proofs.Common.{◌≡◌, ◌∙◌, ap, sym, true, rules}
use Rattle.store_types.specs.FileNames.{is_file_name}
use Rattle.store_files.specs.Archive.{File}
use Rattle.wire_commands.specs.declared.reply.Reply.{Reply}
use Rattle.plain_store.specs.Parts.{file_part}
use Rattle.plain_store.proofs.Stopping.{does_refuse, refusal_fits, does_stop, stop_fits}
use Rattle.plain_store.proofs.ReaderLemmas.{file_not_reader, file_refused, file_given}
use Rattle.plain_store.proofs.plain.Plain.read_file.Goals as goal

pub returns-in_err-r-clause-does : goal.returns-in_err-r-clause-does
returns-in_err-r-clause-does c =
    let r = c.in_err-r.field-0.0 in
    does_refuse _ c.from_residual.result r _ c.from_residual.ensures.1 (file_not_reader c.args.self.now c.args.lane c.args.name.now c.args.offset r (c.in_err-r.ensures.test))

pub returns-in_err-r-clause-spelled : goal.returns-in_err-r-clause-spelled
returns-in_err-r-clause-spelled c =
    refusal_fits c.from_residual.result c.in_err-r.field-0.0 c.from_residual.ensures.1 c.in_err-r.ensures.fits

pub returns-in_err-read-clause-does : goal.returns-in_err-read-clause-does
returns-in_err-read-clause-does c =
    let s = c.args.self.now in
    let x = c.in_ok-r.r.now in
    let name = c.args.name.now in
    let reads = c.in_ok-r.ensures.test in
    let good : is_file_name name ≡ true = search rules in
    does_stop {A = File × Reply} (λ x. x) _ c.from_residual-in_err-read.result c.in_err-read.field-0.0 (file_part c.reader_files.result.now name c.args.offset) _ c.from_residual-in_err-read.ensures.1 c.in_err-read.ensures.gives
    (λ r h. file_refused s c.args.lane name c.args.offset x reads good r (ap (λ fs. file_part fs name c.args.offset) (sym c.reader_files.ensures) ∙ h))

pub returns-in_err-read-clause-spelled : goal.returns-in_err-read-clause-spelled
returns-in_err-read-clause-spelled c =
    stop_fits c.from_residual-in_err-read.result c.in_err-read.field-0.0 c.from_residual-in_err-read.ensures.1 c.in_err-read.ensures.fits

pub returns-clause-does : goal.returns-clause-does
returns-clause-does c =
    let s = c.args.self.now in
    let x = c.in_ok-r.r.now in
    let name = c.args.name.now in
    let reads = c.in_ok-r.ensures.test in
    let good : is_file_name name ≡ true = search rules in
    file_given s c.args.lane name c.args.offset x reads good _ _ (ap (λ fs. file_part fs name c.args.offset) (sym c.reader_files.ensures) ∙ c.in_ok-read.ensures.gives)

pub returns-clause-spelled : goal.returns-clause-spelled
returns-clause-spelled c = c.in_ok-read.ensures.spelled

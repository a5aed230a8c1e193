use Rattle.std.proofs.Common.{◌≡◌, ◌∙◌, ap, refl, sym, true, false, None, rules}
use Rattle.std.specs.Prelude.{option_map}
use Rattle.store_types.specs.FileNames.{is_file_name}
use Rattle.store_files.specs.Archive.{File, Snapshot, pieces_of}
use Rattle.store_model.specs.Store.{session}
use Rattle.store_model.specs.WriterSteps.{base_of}
use Rattle.plain_sessions.specs.declared.changes.Change.TheVariants.{Pool}
use Rattle.wire_commands.specs.declared.reply.Reply.{Reply}
use Rattle.plain_store.specs.Parts.{file_part}
use Rattle.plain_store.proofs.Stopping.{does_refuse, refusal_fits, does_stop, stop_fits}
use Rattle.plain_store.proofs.WriterLemmas.{previous_not_writer, previous_no_name, previous_no_base, previous_refused, previous_goes}
use Rattle.plain_store.proofs.ArchiveLemmas.{fits_anyway, writer_changed}
use Rattle.plain_store.proofs.plain.Plain.previous.Goals as goal

pub returns-in_err-w-clause-does : goal.returns-in_err-w-clause-does
returns-in_err-w-clause-does c =
    let r = c.in_err-w.field-0.0 in
    does_refuse _ c.from_residual.result r _ c.from_residual.ensures.1 (previous_not_writer c.args.self.now c.args.lane c.args.name.now c.args.offset r (c.in_err-w.ensures.test))

pub returns-in_err-w-clause-spelled : goal.returns-in_err-w-clause-spelled
returns-in_err-w-clause-spelled c =
    refusal_fits c.from_residual.result c.in_err-w.field-0.0 c.from_residual.ensures.1 c.in_err-w.ensures.fits

pub returns-in_default-clause-does : goal.returns-in_default-clause-does
returns-in_default-clause-does c =
    let writes = c.in_ok-w.ensures.test in
    let bad : is_file_name c.args.name.now ≡ false = search rules in
    (previous_no_name c.args.self.now c.args.lane c.args.name.now c.args.offset c.in_ok-w.w.now writes bad, refl)

pub returns-in_default-clause-spelled : goal.returns-in_default-clause-spelled
returns-in_default-clause-spelled c = tt

pub returns-in_default-base_snapshot-clause-does : goal.returns-in_default-base_snapshot-clause-does
returns-in_default-base_snapshot-clause-does c =
    let s = c.args.self.now in
    let w = c.in_ok-w.w.now in
    let writes = c.in_ok-w.ensures.test in
    let good : is_file_name c.args.name.now ≡ true = search rules in
    let none : base_of s w ≡ None = sym c.base_snapshot.ensures ∙ ap (option_map (λ x. x.now)) c.in_default-base_snapshot.is in
    (previous_no_base s c.args.lane c.args.name.now c.args.offset w writes good none, refl)

pub returns-in_default-base_snapshot-clause-spelled : goal.returns-in_default-base_snapshot-clause-spelled
returns-in_default-base_snapshot-clause-spelled c = tt

pub returns-in_err-file-clause-does : goal.returns-in_err-file-clause-does
returns-in_err-file-clause-does c =
    let s = c.args.self.now in
    let w = c.in_ok-w.w.now in
    let name = c.args.name.now in
    let base = c.in-Some.base.now in
    let writes = c.in_ok-w.ensures.test in
    let good : is_file_name name ≡ true = search rules in
    let same : c.in-Ok.name ≡ name = search rules in
    let there = sym c.base_snapshot.ensures ∙ ap (option_map (λ x. x.now)) c.in-Some.is in
    let files = c.deref.ensures.value ∙ ap (λ (x : Snapshot). x.files) c.base.view_is in
    does_stop {A = File × Reply} (λ x. x) _ c.from_residual-in_err-file.result c.in_err-file.field-0.0 (file_part c.deref.result.now c.in-Ok.name c.args.offset) _ c.from_residual-in_err-file.ensures.1 c.in_err-file.ensures.gives
    (λ r h. previous_refused s c.args.lane name c.args.offset w writes good base there r
    (ap (λ fs. file_part fs name c.args.offset) (sym files) ∙ ap (λ n. file_part c.deref.result.now n c.args.offset) (sym same) ∙ h))

pub returns-in_err-file-clause-spelled : goal.returns-in_err-file-clause-spelled
returns-in_err-file-clause-spelled c =
    stop_fits c.from_residual-in_err-file.result c.in_err-file.field-0.0 c.from_residual-in_err-file.ensures.1 c.in_err-file.ensures.fits

pub change-requires-clause-fits : goal.change-requires-clause-fits
change-requires-clause-fits c = fits_anyway (Pool c.in_ok-pieces.pieces) (session c.args.self.now c.args.lane) (λ w. tt)

pub returns-clause-does : goal.returns-clause-does
returns-clause-does c =
    let s = c.args.self.now in
    let w = c.in_ok-w.w.now in
    let name = c.args.name.now in
    let base = c.in-Some.base.now in
    let writes = c.in_ok-w.ensures.test in
    let good : is_file_name name ≡ true = search rules in
    let same : c.in-Ok.name ≡ name = search rules in
    let there = sym c.base_snapshot.ensures ∙ ap (option_map (λ x. x.now)) c.in-Some.is in
    let files = c.deref.ensures.value ∙ ap (λ (x : Snapshot). x.files) c.base.view_is in
    let found = ap (λ fs. file_part fs name c.args.offset) (sym files) ∙ ap (λ n. file_part c.deref.result.now n c.args.offset) (sym same) ∙ c.in_ok-file.ensures.gives in
    let same = c.in_ok-pieces.ensures.items_if_clones_equal (λ x y e. e) ∙ c.pieces.ensures ∙ ap (λ (g : File). pieces_of g.content) c.file.view_is in
    previous_goes s c.args.lane name c.args.offset w writes good base there _ _ c.in_ok-pieces.pieces.items c.change.new.self found same
    (c.in_ok-change.ensures.ok ∙ writer_changed s c.args.lane w writes (Pool c.in_ok-pieces.pieces))

pub returns-clause-spelled : goal.returns-clause-spelled
returns-clause-spelled c = c.in_ok-file.ensures.spelled

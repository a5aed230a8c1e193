use Rattle.std.proofs.Common.{◌≡◌, ◌∙◌, ap, refl, sym, true, false, rules, arith}
use Rattle.std.specs.Prelude.{option_map}
use Rattle.store_types.specs.FileNames.{is_index_name, is_file_name}
use Rattle.store_files.specs.Archive.{file_named}
use Rattle.store_model.specs.ReaderSteps.{range_of}
use Rattle.plain_store.proofs.Spelled.{data_spelled}
use Rattle.plain_store.proofs.Stopping.{does_refuse, refusal_fits, does_stop, stop_fits}
use Rattle.plain_store.proofs.WriterLemmas.{is_there, is_absent}
use Rattle.plain_store.proofs.ReaderLemmas.{range_not_reader, range_no_name, range_no_file, range_refused, range_given, no_index_name}
use Rattle.plain_store.proofs.plain.Plain.range.Goals as goal

pub returns-in_err-r-clause-does : goal.returns-in_err-r-clause-does
returns-in_err-r-clause-does c =
    let r = c.in_err-r.field-0.0 in
    does_refuse _ c.from_residual.result r _ c.from_residual.ensures.1 (range_not_reader c.args.self.now c.args.lane c.args.name.now c.args.offset c.args.length r (c.in_err-r.ensures.test))

pub returns-in_err-r-clause-spelled : goal.returns-in_err-r-clause-spelled
returns-in_err-r-clause-spelled c =
    refusal_fits c.from_residual.result c.in_err-r.field-0.0 c.from_residual.ensures.1 c.in_err-r.ensures.fits

pub returns-in_default-clause-does : goal.returns-in_default-clause-does
returns-in_default-clause-does c =
    let reads = c.in_ok-r.ensures.test in
    let bad : is_file_name c.args.name.now ≡ false = search rules in
    (range_no_name c.args.self.now c.args.lane c.args.name.now c.args.offset c.args.length c.in_ok-r.r.now reads (no_index_name c.args.name.now bad), refl)

pub returns-in_default-clause-spelled : goal.returns-in_default-clause-spelled
returns-in_default-clause-spelled c = tt

pub returns-then-not-is_index-clause-does : goal.returns-then-not-is_index-clause-does
returns-then-not-is_index-clause-does c =
    let reads = c.in_ok-r.ensures.test in
    let bad : is_index_name c.args.name.now ≡ false = search rules in
    (range_no_name c.args.self.now c.args.lane c.args.name.now c.args.offset c.args.length c.in_ok-r.r.now reads bad, refl)

pub returns-then-not-is_index-clause-spelled : goal.returns-then-not-is_index-clause-spelled
returns-then-not-is_index-clause-spelled c = tt

pub returns-then-is_none-clause-does : goal.returns-then-is_none-clause-does
returns-then-is_none-clause-does c =
    let s = c.args.self.now in
    let name = c.args.name.now in
    let reads = c.in_ok-r.ensures.test in
    let good : is_index_name name ≡ true = search rules in
    let same : c.in-Ok.name ≡ name = search rules in
    let asked = c.file_named.ensures ∙ ap (λ n. file_named n c.reader_files-files.result.now) (c.as_slice.ensures.value ∙ same) ∙ ap (file_named name) c.reader_files-files.ensures in
    let none = sym asked ∙ ap (option_map (λ f. f.now)) (is_absent c.file_named.result c.if-is_none.ensures) in
    (range_no_file s c.args.lane name c.args.offset c.args.length c.in_ok-r.r.now reads good none, refl)

pub returns-then-is_none-clause-spelled : goal.returns-then-is_none-clause-spelled
returns-then-is_none-clause-spelled c = tt

pub returns-in_err-bytes-clause-does : goal.returns-in_err-bytes-clause-does
returns-in_err-bytes-clause-does c =
    let s = c.args.self.now in
    let x = c.in_ok-r.r.now in
    let name = c.args.name.now in
    let reads = c.in_ok-r.ensures.test in
    let good : is_index_name name ≡ true = search rules in
    let same : c.in-Ok.name ≡ name = search rules in
    let asked = c.file_named.ensures ∙ ap (λ n. file_named n c.reader_files-files.result.now) (c.as_slice.ensures.value ∙ same) ∙ ap (file_named name) c.reader_files-files.ensures in
    let there = is_there c.file_named.result c.if-is_none.ensures in
    let found = sym asked ∙ ap (option_map (λ f. f.now)) there.1 in
    does_stop (λ b. b) _ c.from_residual-in_err-bytes.result c.in_err-bytes.field-0.0 (range_of c.reader_files-files.result.now x c.in-Ok.name c.args.offset c.args.length) _ c.from_residual-in_err-bytes.ensures.1 c.in_err-bytes.ensures.gives
    (λ r h. range_refused s c.args.lane name c.args.offset c.args.length x reads there.0.now good found r
    (ap (λ fs. range_of fs x name c.args.offset c.args.length) (sym c.reader_files-files.ensures)
    ∙ ap (λ n. range_of c.reader_files-files.result.now x n c.args.offset c.args.length) (sym same) ∙ h))

pub returns-in_err-bytes-clause-spelled : goal.returns-in_err-bytes-clause-spelled
returns-in_err-bytes-clause-spelled c =
    stop_fits c.from_residual-in_err-bytes.result c.in_err-bytes.field-0.0 c.from_residual-in_err-bytes.ensures.1 c.in_err-bytes.ensures.fits

pub returns-clause-does : goal.returns-clause-does
returns-clause-does c =
    let s = c.args.self.now in
    let x = c.in_ok-r.r.now in
    let name = c.args.name.now in
    let reads = c.in_ok-r.ensures.test in
    let good : is_index_name name ≡ true = search rules in
    let same : c.in-Ok.name ≡ name = search rules in
    let asked = c.file_named.ensures ∙ ap (λ n. file_named n c.reader_files-files.result.now) (c.as_slice.ensures.value ∙ same) ∙ ap (file_named name) c.reader_files-files.ensures in
    let there = is_there c.file_named.result c.if-is_none.ensures in
    let found = sym asked ∙ ap (option_map (λ f. f.now)) there.1 in
    range_given s c.args.lane name c.args.offset c.args.length x reads there.0.now good found c.in_ok-bytes.bytes
    (ap (λ fs. range_of fs x name c.args.offset c.args.length) (sym c.reader_files-files.ensures)
    ∙ ap (λ n. range_of c.reader_files-files.result.now x n c.args.offset c.args.length) (sym same) ∙ c.in_ok-bytes.ensures.gives)

pub returns-clause-spelled : goal.returns-clause-spelled
returns-clause-spelled c = data_spelled c.in_ok-bytes.bytes (let few = c.in_ok-bytes.ensures.short in omega (arith, few))

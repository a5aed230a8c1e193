use Rattle.std.proofs.Common.{◌≡◌, ◌∙◌, Some, None, ap, rules, sym}
use Rattle.std.specs.Option.{option_map}
use Rattle.store_files.specs.Folder.{file_path}
use Rattle.store_types.specs.declared.refusal.Refusal.TheVariants.{NoFile}
use Rattle.backup_session.specs.Steps.{begun_at}
use Rattle.core_state.specs.Named.{is_named}
use Rattle.core_state.proofs.NamedLemmas.{writer_named}
use Rattle.core_writer.proofs.CloseLemmas.{index_done, index_none, index_short, index_stopped}
use Rattle.core_writer.proofs.archives.take_index.Goals as goal

pub returns-in_err-name-in-Writer : goal.returns-in_err-name-in-Writer
returns-in_err-name-in-Writer c = λ moment.
    let none : option_map (λ b. b.name) (begun_at c.args.number ((c.in-Writer.w).session).writer) ≡ None = search rules in
    let refused : c.in_err-name-in-Writer.field-0.0 ≡ NoFile = search rules in
    index_none moment c.args.number c.args.count c.args.size c.args.csum.now c.args.session.now c.in-Writer.w c.requires.named c.in-Writer.is c.in_err-name-in-Writer.field-0.0 _ c.from_residual.ensures.1 refused none

pub returns-in_err-file-in-Writer : goal.returns-in_err-file-in-Writer
returns-in_err-file-in-Writer c = λ moment.
    index_short moment c.args.number c.args.count c.args.size c.args.csum.now c.args.session.now c.in-Writer.w c.requires.named c.in-Writer.is _ c.from_residual-in_err-file-in-Writer.ensures.1

pub close-requires : goal.close-requires
close-requires c = (writer_named c.in-Writer.w (sym (ap is_named c.in-Writer.is) ∙ c.requires.named)).1

pub returns-in_err-text-in-Writer : goal.returns-in_err-text-in-Writer
returns-in_err-text-in-Writer c = λ moment.
    index_stopped moment c.args.number c.args.count c.args.size c.args.csum.now c.args.session.now c.in-Writer.w c.requires.named c.in-Writer.is (λ text. text.items) c.close.new.session c.close.result
    c.close.ensures.does c.close.ensures.plain _ _ c.from_residual-in_err-text-in-Writer.ensures.1 c.in_err-text-in-Writer.was c.in_err-text-in-Writer.ensures.text c.close.ensures.uncalled

pub returns : goal.returns
returns c = λ moment.
    let name : Some c.in_ok-file-in-Writer.file.name ≡ option_map (λ b. b.name) (begun_at c.args.number ((c.in-Writer.w).session).writer) = search rules in
    index_done moment c.args.number c.args.count c.args.size c.args.csum.now c.args.session.now c.in-Writer.w c.requires.named c.in-Writer.is (λ text. text.items) c.close.new.session c.close.result
    c.close.ensures.does c.close.ensures.plain c.in_ok-text-in-Writer.text c.in_ok-file-in-Writer.file c.from_vec.result c.in_ok-text-in-Writer.was c.from_vec.ensures name
    (c.in_ok-file-in-Writer.ensures.path ∙ ap (λ k. file_path k c.in_ok-name-in-Writer.name.now) c.key.ensures.key ∙ ap (file_path ((c.in-Writer.w).session).writer.key) (sym c.in_ok-file-in-Writer.ensures.name))

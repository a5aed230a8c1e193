use Rattle.std.proofs.Common.{◌≡◌, ◌∙◌, ap, sym}
use Rattle.store_model.specs.Heads.{idle_key}
use Rattle.plain_store.specs.Writers.{base_of}
use Rattle.plain_store.proofs.Spelled.{base_spelled}
use Rattle.plain_store.proofs.Stopping.{does_refuse, does_stop, refusal_fits, stop_fits}
use Rattle.plain_store.proofs.WriterLemmas.{open_not_begun, open_refused, open_goes}
use Rattle.plain_store.proofs.plain.Plain.open_writer.Goals as goal

pub returns-in_err-key-clause-does : goal.returns-in_err-key-clause-does
returns-in_err-key-clause-does c =
    let s = c.args.self.now in
    does_stop (λ key. key) s c.from_residual.result c.in_err-key.field-0.0 (idle_key s c.args.lane c.args.snapshot.now) _ c.from_residual.ensures.1 c.in_err-key.ensures.gives
    (open_not_begun s c.args.lane c.args.moment c.args.snapshot.now)

pub returns-in_err-key-clause-spelled : goal.returns-in_err-key-clause-spelled
returns-in_err-key-clause-spelled c =
    stop_fits c.from_residual.result c.in_err-key.field-0.0 c.from_residual.ensures.1 c.in_err-key.ensures.fits

pub returns-in_err-base-clause-does : goal.returns-in_err-base-clause-does
returns-in_err-base-clause-does c =
    let r = c.in_err-base.field-0.0 in
    let tested = ap (base_of c.args.self.now) (sym c.as_key.ensures) ∙ c.in_err-base.ensures.test in
    does_refuse _ c.from_residual-in_err-base.result r _ c.from_residual-in_err-base.ensures.1
    (open_refused _ _ c.args.moment c.args.snapshot.now c.in_ok-key.key c.in_ok-key.ensures.gives r tested)

pub returns-in_err-base-clause-spelled : goal.returns-in_err-base-clause-spelled
returns-in_err-base-clause-spelled c =
    refusal_fits c.from_residual-in_err-base.result c.in_err-base.field-0.0 c.from_residual-in_err-base.ensures.1 c.in_err-base.ensures.fits

pub returns-clause-does : goal.returns-clause-does
returns-clause-does c =
    let s = c.args.self.now in
    let tested = ap (base_of s) (sym c.as_key.ensures) ∙ c.in_ok-base.ensures.test in
    open_goes s c.args.lane c.args.moment c.args.snapshot.now c.in_ok-key.key c.in_ok-key.ensures.gives _ c.in_ok-base-2.base c.in_ok-text.text c.new-w.result c.set_held.new.self
    tested c.in_ok-base-2.ensures c.in_ok-text.ensures.text c.new-w.ensures c.set_held.ensures

pub returns-clause-spelled : goal.returns-clause-spelled
returns-clause-spelled c = base_spelled c.in_ok-text.text c.in_ok-text.ensures.short

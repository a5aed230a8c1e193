use Rattle.std.proofs.Common.{◌≡◌, Ok, refl, sym, ap, ap₂, ◌∙◌}
use Rattle.store_types.specs.declared.refusal.Refusal.TheVariants.{NoMemory}
use Rattle.backup_session.specs.Steps as steps
use Rattle.backup_session.proofs.StateSteps.{fixed_refused, fixed_done, fixed_passed}
use Rattle.backup_session.proofs.Stops.{does_stop, refuses}
use Rattle.backup_session.proofs.state.State.new_fixed.Goals as goal

pub returns-in_err-want_fixed : goal.returns-in_err-want_fixed
returns-in_err-want_fixed c =
    let w = c.args.self.now in
    let refusal = c.in_err-want_fixed.field-0.0 in
    does_stop (λ n. n) (λ v. v) w w c.from_residual.result (steps.new_fixed w c.args.name c.args.size c.args.chunk_size c.args.ctime) refusal c.from_residual.ensures.1
    (refuses w w (steps.new_fixed w c.args.name c.args.size c.args.chunk_size c.args.ctime) refusal
    (fixed_refused w c.args.name c.args.size c.args.chunk_size c.args.ctime refusal (sym c.want_fixed.ensures ∙ c.in_err-want_fixed.was)) refl)

pub returns-in_err-index : goal.returns-in_err-index
returns-in_err-index c =
    let w = c.args.self.now in
    does_stop (λ n. n) (λ v. v) w w c.from_residual-in_err-index.result (steps.new_fixed w c.args.name c.args.size c.args.chunk_size c.args.ctime) NoMemory c.from_residual-in_err-index.ensures.1 (tt, refl)

pub returns-in_err-number : goal.returns-in_err-number
returns-in_err-number c =
    let w = c.args.self.now in
    does_stop (λ n. n) (λ v. v) w c.begin.new.self c.from_residual-in_err-number.result (steps.new_fixed w c.args.name c.args.size c.args.chunk_size c.args.ctime) NoMemory c.from_residual-in_err-number.ensures.1 (tt, c.in_err-number.ensures.err)

pub fixed_at-requires-clause-sizes : goal.fixed_at-requires-clause-sizes
fixed_at-requires-clause-sizes c =
    let passed : steps.want_fixed c.args.name c.args.size c.args.chunk_size c.args.self.now ≡ Ok tt = sym c.want_fixed.ensures ∙ c.in_ok-want_fixed.was in
    (fixed_passed c.args.self.now c.args.name c.args.size c.args.chunk_size tt passed).1

pub begin-requires : goal.begin-requires
begin-requires c =
    let passed : steps.want_fixed c.args.name c.args.size c.args.chunk_size c.args.self.now ≡ Ok tt = sym c.want_fixed.ensures ∙ c.in_ok-want_fixed.was in
    (fixed_passed c.args.self.now c.args.name c.args.size c.args.chunk_size tt passed).0

pub returns : goal.returns
returns c =
    let passed : steps.want_fixed c.args.name c.args.size c.args.chunk_size c.args.self.now ≡ Ok tt = sym c.want_fixed.ensures ∙ c.in_ok-want_fixed.was in
    record {
      after = c.begin.new.self;
      stepped =
          fixed_done c.args.self.now c.args.name c.args.size c.args.chunk_size c.args.ctime tt passed
          ∙ ap₂ (λ w n. Ok (w, n)) (sym (c.in_ok-number.ensures.ok ∙ ap (steps.begin c.args.self.now c.args.name) c.in_ok-index.ensures)) (sym c.in_ok-number.ensures.number);
      left = refl;
    }

use Rattle.std.proofs.Common.{◌<◌, length, None, sym, ◌∙◌, arith}
use Rattle.std.proofs.lemmas.List.{at_drop_all}
use Rattle.job_steps.specs.Waits.{fault_with}
use Rattle.job_steps.proofs.BatchLemmas.{damaged_at, whole_at}
use Rattle.job_steps.proofs.VerifyLemmas.{damaged_fits}
use Rattle.job_steps.proofs.testing.first_fault.Goals as goal

pub returns-then-not-one-clause-first : goal.returns-then-not-one-clause-first
returns-then-not-one-clause-first c =
    let ws = c.args.waiting.now in
    let i = c.loop-one.one-index in
    let lt : i < length ws = omega arith in
    sym (damaged_at ws i c.one-item.result lt c.one-item.is c.requires c.if-not-one.true) ∙ c.loop-one.invariant

pub returns-then-not-one-clause-fits : goal.returns-then-not-one-clause-fits
returns-then-not-one-clause-fits c =
    let w = c.one-item.result in
    damaged_fits w.piece.digest w.fits

pub loop-one-preserved : goal.loop-one-preserved
loop-one-preserved c =
    let ws = c.args.waiting.now in
    let i = c.loop-one.one-index in
    let lt : i < length ws = omega arith in
    sym (whole_at ws i c.one-item.result lt c.one-item.is c.requires c.if-not-one.false) ∙ c.loop-one.invariant

pub returns-clause-first : goal.returns-clause-first
returns-clause-first c =
    let ws = c.args.waiting.now in
    sym (at_drop_all (fault_with None) ws c.loop-one.one-index (omega arith)) ∙ c.loop-one.invariant

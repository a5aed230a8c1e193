use Rattle.std.proofs.Common.{sym}
use Rattle.manifest.specs.Views.{manifest_view}
use Rattle.core_writer.proofs.FinishLemmas.{check_stops, check_tells}
use Rattle.core_writer.proofs.finishing.check.Goals as goal

pub returns-in_err-answered-clause-stop : goal.returns-in_err-answered-clause-stop
returns-in_err-answered-clause-stop c =
    check_stops ((c.args.w.now).session).writer manifest_view c.finish_check.result _ _ (sym c.in_err-answered.ensures) c.finish_check.ensures.does c.finish_check.ensures.fits c.from_residual.ensures.1

pub returns-in_err-answered-clause-plain : goal.returns-in_err-answered-clause-plain
returns-in_err-answered-clause-plain c = λ v shows.
    check_tells _ manifest_view c.finish_check.result _ _ (sym c.in_err-answered.ensures) (c.finish_check.ensures.plain v shows) c.from_residual.ensures.1

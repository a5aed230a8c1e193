use Rattle.std.proofs.Common.{subst, sym}
use Rattle.store_history.specs.Acts.{IsChecked}
use Rattle.store_history.proofs.Ending.{is_checked}
use Rattle.server_tests.proofs.unlisted.blob_act.Goals as goal

pub returns : goal.returns
returns c = subst IsChecked (sym c.check-checked.ensures) (is_checked c.args.blob)

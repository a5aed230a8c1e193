use Rattle.std.proofs.Common.{[]}
use Rattle.shared_store.proofs.shared.Shared.make_with_views.Given as goal

abbrev pub ghost-make : goal.ghost-make
ghost-make g a = []

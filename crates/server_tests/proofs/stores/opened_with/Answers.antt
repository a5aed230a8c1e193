use Rattle.std.proofs.Common.{rules}
use Rattle.pbs_server.proofs.Running.{opened_fresh}
use Rattle.server_tests.proofs.stores.opened_with.Goals as goal

pub make_with_views-requires : goal.make_with_views-requires
make_with_views-requires g c = record { origin = tt; fresh = opened_fresh _ c.over-clock.result _ c.in-Ok.ensures.records; views = search rules }

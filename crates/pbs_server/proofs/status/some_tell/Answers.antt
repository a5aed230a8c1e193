use Rattle.std.proofs.Common.{◌≡◌, ◌∙◌, rules, tests}
use Rattle.std.specs.List.{list_any}
use Rattle.std.proofs.lemmas.Iterator.{YieldsList-from_slice}
use Rattle.std.proofs.lemmas.Iterator.Search.{any_from_yields_List}
use Rattle.store_history.specs.declared.port.LaneReport.{LaneReport}
use Rattle.pbs_server.specs.Statuses.{tells}
use Rattle.pbs_server.proofs.Statuses.{tells_of}
use Rattle.pbs_server.proofs.status.some_tell.Goals as goal

pub returns : goal.returns
returns c =
    let some : c.any.result ≡ list_any (λ (r : LaneReport). tells c.args.status r.ending) c.args.lanes.now =
    any_from_yields_List (λ (r : LaneReport). tells c.args.status r.ending) _ _ c.any.result c.any.ensures.ran (YieldsList-from_slice c.args.lanes.now cc) (λ x b q k. search (rules, tests)) in
    some ∙ tells_of c.args.status c.args.lanes.now

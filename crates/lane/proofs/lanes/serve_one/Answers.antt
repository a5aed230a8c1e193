use Rattle.std.proofs.Common.{rules, ◌≡◌, sym, subst, ◌∷◌, []}
use Rattle.lane.specs.Served.{AreServed}
use Rattle.lane.proofs.Halves.{one_served}
use Rattle.lane.proofs.lanes.serve_one.Goals as goal

pub returns : goal.returns
returns g c =
    let report = c.serve-report.result in
    let is : c.push.new.self.items ≡ report ∷ [] = search rules in
    record {
      served = subst (λ rs. AreServed g.C.Serves.runs c.args.lane (c.args.port.now ∷ []) (c.serve-report.new.port ∷ []) rs (g.C.Serves.state c.args.seat.now) (g.C.Serves.state c.serve-report.new.seat)) (sym is)
          (one_served g.C.Serves.runs c.args.lane _ _ report _ _ c.requires.can.none c.serve-report.ensures.ran);
    }

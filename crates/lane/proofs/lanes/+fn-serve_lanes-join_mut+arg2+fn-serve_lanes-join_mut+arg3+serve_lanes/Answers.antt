use Rattle.std.proofs.Common.{◌≡◌, ◌+◌, ◌-◌, ◌/◌, ◌++◌, length, rules, arith, sym, ap, subst}
use Rattle.lane.specs.Served.{CanServe, AreServed}
use Rattle.lane.proofs.Halves.{can_left, can_right, both_served}
use Rattle.lane.proofs.Halves.{each_counts}
use Rattle.lane.proofs.lanes.+fn-serve_lanes-join_mut+arg2+fn-serve_lanes-join_mut+arg3+serve_lanes.Goals as goal

pub join_mut-reports-requires-after_bounds : goal.join_mut-reports-requires-after_bounds
join_mut-reports-requires-after_bounds g t c κs within =
    let turn = g.C.Serves.turn c.args.on.now in
    let seat = g.C.Serves.state c.args.seat.now in
    let xs = c.split_at_mut-front.result.0.now in
    let ys = c.split_at_mut-front.result.1.now in
    let n = length c.args.ports.now in
    let some = c.requires.can.some in
    let many = c.if-ports-eq1.false in
    let below = c.decreases in
    let front : length xs ≡ n - n / 2 = search rules in
    let back : length ys ≡ n / 2 = search rules in
    let left : CanServe turn (g.C.Serves.state c.split_off-other.new.seat) c.args.first (length xs) =
    can_left turn seat _ c.args.first n (length xs) c.requires.can c.split_off-other.ensures.left c.if-ports-eq1.false front in
    let right : CanServe turn (g.C.Serves.state c.split_off-other.result) (c.args.first + (n - n / 2)) (length ys) =
    can_right turn seat _ c.args.first n (length ys) c.requires.can c.split_off-other.ensures.right c.if-ports-eq1.false back in (
      (omega (arith, front, below, some, many), (search rules, (search rules, (search rules, (search rules, ((search rules, search rules, left), search rules)))))),
      (omega (arith, back, below, some, many), (search rules, (search rules, (search rules, (search rules, ((search rules, search rules, right), search rules)))))),
    )

pub joined-requires : goal.joined-requires
joined-requires g t c =
    let xs = c.split_at_mut-front.result.0.now in
    let ys = c.split_at_mut-front.result.1.now in
    let n = length c.args.ports.now in
    let front : length xs ≡ n - n / 2 = search rules in
    let back : length ys ≡ n / 2 = search rules in
    let one : AreServed g.C.Serves.runs c.args.first xs c.front-1.given.0 c.join_mut-reports.result.0.items (g.C.Serves.state c.split_off-other.new.seat) (g.C.Serves.state c.seat-1.given.0) = search rules in
    let two : AreServed g.C.Serves.runs (c.args.first + (n - n / 2)) ys c.back-1.given.0 c.join_mut-reports.result.1.items (g.C.Serves.state c.split_off-other.result) (g.C.Serves.state c.other-2-1.given.0) = search rules in
    let a = (each_counts g.C.Serves.runs _ _ _ _ _ _ one.each).0 in
    let b = (each_counts g.C.Serves.runs _ _ _ _ _ _ two.each).0 in
    let lanes = c.requires.can.lanes in
    omega (arith, a, b, lanes, front, back)

pub returns : goal.returns
returns g t c =
    let xs = c.split_at_mut-front.result.0.now in
    let ys = c.split_at_mut-front.result.1.now in
    let n = length c.args.ports.now in
    let seat = g.C.Serves.state c.args.seat.now in
    let mid = g.C.Serves.state c.split_off-other.new.seat in
    let other = g.C.Serves.state c.split_off-other.result in
    let front : length xs ≡ n - n / 2 = search rules in
    let all : xs ++ ys ≡ c.args.ports.now = search rules in
    let one : AreServed g.C.Serves.runs c.args.first xs c.front-1.given.0 c.join_mut-reports.result.0.items mid (g.C.Serves.state c.seat-1.given.0) = search rules in
    let two : AreServed g.C.Serves.runs (c.args.first + (n - n / 2)) ys c.back-1.given.0 c.join_mut-reports.result.1.items other (g.C.Serves.state c.other-2-1.given.0) = search rules in
    let left = c.split_off-other.ensures.left in
    let right = c.split_off-other.ensures.right in
    let reports : c.joined.result.items ≡ c.join_mut-reports.result.0.items ++ c.join_mut-reports.result.1.items = c.joined.ensures in
    record {
      served = subst (λ l. AreServed g.C.Serves.runs c.args.first l (c.front-1.given.0 ++ c.back-1.given.0) c.joined.result.items seat (g.C.Serves.state c.absorb.new.seat)) all
          (subst (λ rs. AreServed g.C.Serves.runs c.args.first (xs ++ ys) (c.front-1.given.0 ++ c.back-1.given.0) rs seat (g.C.Serves.state c.absorb.new.seat)) (sym reports)
          (both_served g.C.Serves.runs c.args.first (n - n / 2) xs c.front-1.given.0 _ ys c.back-1.given.0 _ seat mid (g.C.Serves.state c.seat-1.given.0) other (g.C.Serves.state c.other-2-1.given.0) (g.C.Serves.state c.absorb.new.seat)
          front (ap (λ s. s.turn) left) (ap (λ s. s.holding) left) (let p = ap (λ s. s.reach) left in let q = ap (λ s. s.reach) right in omega (arith, p, q))
          one two c.absorb.ensures.seat c.absorb.ensures.left c.absorb.ensures.right c.absorb.ensures.rises));
    }

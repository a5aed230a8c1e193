use Rattle.std.proofs.Common.{◌≡◌, true, None, Some, refl, sym, ap, ◌∙◌}
use Rattle.store_model.specs.Lanes.{Run}
use Rattle.store_model.specs.Weave.{may_leave_unread, end_session}
use Rattle.plain_store.proofs.RunLemmas.{unread_may, unread_not}
use Rattle.plain_store.proofs.run.Run.end_open.Goals as goal

pub returns-then-not-may_leave_unread-clause-enters : goal.returns-then-not-may_leave_unread-clause-enters
returns-then-not-may_leave_unread-clause-enters c =
    let r : Run = record c.args.self.now { collecting = None } in
    (unread_not r c.args.lane c.args.ending (sym c.may_leave_unread.ensures ∙ c.if-not-may_leave_unread.true), refl)

pub returns-clause-enters : goal.returns-clause-enters
returns-clause-enters c =
    let k = c.args.lane in
    let r : Run = record c.args.self.now { collecting = None } in
    let may : may_leave_unread c.args.ending ≡ true = sym c.may_leave_unread.ensures ∙ c.if-not-may_leave_unread.false in
    let ended = c.end_session.ensures.ended ∙ ap (λ (x : Run). end_session (let y : Run = record x { collecting = None } in y) k) c.self.view_is in
    unread_may r k c.args.ending may ∙ ap (λ (x : Run). Some x) (sym ended)

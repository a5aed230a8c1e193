-- What a lane's loop needs of its collector: where its acts lead.
use Rattle.std.proofs.Common.{◌≡◌, ℕ, ◌-◌, Bool, true, false, ◌||◌, List, [], ◌∷◌, ◌++◌, length, Option, Some, None, sym, ap, subst, ◌∙◌, ◌==◌, if◌then◌else◌}
use Rattle.store_types.specs.declared.order.TheConstants.{MEMORY_KIND, START_KIND}
use Rattle.wire_commands.specs.declared.reply.Reply.{Reply}
use Rattle.store_model.specs.Lanes.{collect, collecting}
use Rattle.store_history.specs.declared.act.Act.TheVariants as acts
use Rattle.store_history.specs.declared.act.Answer.{Answer}
use Rattle.store_history.specs.declared.act.Event.{Event}
use Rattle.store_history.specs.Acts.{class_of}
use Rattle.store_history.specs.History.{kind, reply}
use Rattle.store_history.specs.LaneRun.{Task, sweeps, ahead, ahead_by, Position, next_at, tells, heard_at, heard, Asks}
use Rattle.store_history.specs.SoFar.{Follows, Leads}
use Rattle.store_history.proofs.Growing.{leads_more}
use Rattle.store_history.proofs.Unheld.{flagged}

-- ---- what an answer leaves

-- a GC whose collector opens
pub heard_start : (p : Position) (left : List ℕ) (a : Answer) → next_at p ≡ ahead (collect left) → a.reply ≡ None → (a.entry).kind ≡ START_KIND
    → heard p a ≡ record p { left = left; task = Some (sweeps false); is_unheld = false; is_spent = a.last || p.is_spent }
unfolding heard heard_at
heard_start p left a is none three =
    ap (λ x. flagged a (heard_at p (a.entry).kind a.reply x)) is
    ∙ ap (λ (x : Option Reply). flagged a (heard_at p (a.entry).kind x (ahead (collect left)))) none
    ∙ ap (λ n. flagged a (heard_at p n None (ahead (collect left)))) three

-- one that is refused, or for which memory was wanting
pub heard_gc : (p : Position) (left : List ℕ) (a : Answer) (r : Reply) → next_at p ≡ ahead (collect left) → a.reply ≡ Some r
    → heard p a ≡ record p { left = left; task = None; is_unheld = false; is_spent = a.last || p.is_spent; told = p.told ++ r ∷ [] }
unfolding heard heard_at
heard_gc p left a r is says =
    ap (λ x. flagged a (heard_at p (a.entry).kind a.reply x)) is ∙ ap (λ (x : Option Reply). flagged a (heard_at p (a.entry).kind x (ahead (collect left)))) says

pub next_collecting : (p : Position) (b : Bool) → p.task ≡ Some (sweeps b) → next_at p ≡ ahead (collecting b)
unfolding next_at
next_collecting p b is = ap (λ (t : Option Task). ahead_by t (p.size - length p.left) p.left) is

-- the collector's end, also by a fault
pub heard_close : (p : Position) (b : Bool) (a : Answer) (r : Reply) → p.task ≡ Some (sweeps b) → a.reply ≡ Some r → ((a.entry).kind == MEMORY_KIND) ≡ false
    → heard p a ≡ record p { task = None; is_unheld = false; is_spent = a.last || p.is_spent; told = p.told ++ r ∷ [] }
unfolding heard heard_at
heard_close p b a r on says other =
    ap (λ x. flagged a (heard_at p (a.entry).kind a.reply x)) (next_collecting p b on)
    ∙ ap (λ (x : Option Reply). flagged a (heard_at p (a.entry).kind x (ahead (collecting b)))) says
    ∙ ap (λ t. flagged a (if t then record p { task = Some (sweeps true) } else tells p p.left r)) other

-- ---- one more act

pub follows_start : (p : Position) (left : List ℕ) (v : Event) → p.is_spent ≡ false → next_at p ≡ ahead (collect left) → v.act ≡ acts.Start → Follows (class_of v.act) p v
follows_start p left v on is asks = subst (λ c. Follows c p v) (sym (ap class_of asks)) (on, subst (λ x. Asks x v.act) (sym is) asks)

pub follows_step : (p : Position) (b : Bool) (v : Event) → p.task ≡ Some (sweeps b) → v.act ≡ acts.Step → Follows (class_of v.act) p v
follows_step p b v on asks = subst (λ c. Follows c p v) (sym (ap class_of asks)) (subst (λ x. Asks x v.act) (sym (next_collecting p b on)) asks)

-- the lane's GC opened its collector
pub leads_start : (vs : List Event) (p q : Position) (left : List ℕ) (v : Event) → Leads p vs q → q.is_spent ≡ false → next_at q ≡ ahead (collect left)
    → v.act ≡ acts.Start → reply v ≡ None → kind v ≡ START_KIND
    → Leads p (vs ++ v ∷ []) (record q { left = left; task = Some (sweeps false); is_unheld = false; is_spent = (v.answer).last || q.is_spent })
leads_start vs p q left v led on is asks none three =
    subst (λ x. Leads p (vs ++ v ∷ []) x) (heard_start q left v.answer is none three) (leads_more vs p q v led (follows_start q left v on is asks))

-- or was told something
pub leads_gc : (vs : List Event) (p q : Position) (left : List ℕ) (v : Event) (r : Reply) → Leads p vs q → q.is_spent ≡ false → next_at q ≡ ahead (collect left)
    → v.act ≡ acts.Start → reply v ≡ Some r
    → Leads p (vs ++ v ∷ []) (record q { left = left; task = None; is_unheld = false; is_spent = (v.answer).last || q.is_spent; told = q.told ++ r ∷ [] })
leads_gc vs p q left v r led on is asks says =
    subst (λ x. Leads p (vs ++ v ∷ []) x) (heard_gc q left v.answer r is says) (leads_more vs p q v led (follows_start q left v on is asks))

-- the collector's end
pub leads_close : (vs : List Event) (p q : Position) (b : Bool) (v : Event) (r : Reply) → Leads p vs q → q.task ≡ Some (sweeps b) → v.act ≡ acts.Step → reply v ≡ Some r
    → (kind v == MEMORY_KIND) ≡ false
    → Leads p (vs ++ v ∷ []) (record q { task = None; is_unheld = false; is_spent = (v.answer).last || q.is_spent; told = q.told ++ r ∷ [] })
leads_close vs p q b v r led on asks says other =
    subst (λ x. Leads p (vs ++ v ∷ []) x) (heard_close q b v.answer r on says other) (leads_more vs p q v led (follows_step q b v on asks))

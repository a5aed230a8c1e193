-- What an act of a SYNC does, and where it leads.
use Rattle.std.proofs.Common.{◌≡◌, ◌⊎◌, inl, inr, ℕ, Bool, true, false, not, ◌-◌, length, ◌||◌, ◌==◌, List, [], ◌∷◌, ◌++◌, Option, Some, None, IsTrue, if◌then◌else◌, refl, sym, ap, subst, ◌∙◌}
use Rattle.std.proofs.lemmas.Bool.{eqb-true, eqb-false}
use Rattle.store_types.specs.declared.order.TheConstants.{PART_KIND}
use Rattle.store_files.specs.Archive.{Layout, dynamic, fixed}
use Rattle.wire_commands.specs.Inputs.{front}
use Rattle.wire_commands.specs.declared.reply.Reply.{Reply}
use Rattle.wire_commands.specs.declared.reply.Reply.TheVariants as replies
use Rattle.store_model.specs.Lanes.{Next, sync, end, front_next}
use Rattle.store_model.specs.SyncJob.{new_index}
use Rattle.store_history.specs.declared.act.Act.{Act}
use Rattle.store_history.specs.declared.act.Answer.{Answer}
use Rattle.store_history.specs.declared.act.Event.{Event}
use Rattle.store_history.specs.Acts.{stepping, reaching, act_of_command, class_of}
use Rattle.store_history.specs.History.{kind, reply}
use Rattle.store_history.specs.LaneRun as lane_run
use Rattle.store_history.specs.LaneRun.{Task, Ahead, ahead, pull, pull_ahead, ahead_by, Position, next_at, tells, pulls_on, heard_at, heard, Asks, may_want_at}
use Rattle.store_history.specs.Pulling.{Pulling, seeking, comparing, starting, reading_manifest, reading_file, opening, reading_chunk, sending_chunk, appending, closing_index, sending_blob, sending_manifest, finishing, rejecting, aborting, SyncJob, reports, asks, act_of, sought, take, is_ending}
use Rattle.store_history.specs.SoFar.{goes_further, Follows, Leads}
use Rattle.store_history.proofs.Growing.{leads_more, pulls_on_spent}
use Rattle.store_history.proofs.Unheld.{flagged}
use Rattle.store_history.proofs.Wanting.{wants_pulling}
use Rattle.store_history.specs.Replies.{may_answer, may_give}
use Rattle.core_state.specs.History.{History}
use Rattle.lane.specs.declared.acts.Told.{Told}
use Rattle.lane.specs.Acting.{Did, IsRefused}
use Rattle.lane.specs.Doing.{IsNext, answered}
use Rattle.lane.specs.Tasks.{pulls, pull_stage, IsActOf, IsAt, IsSyncNext, MayGoOn, StepsOn, pulling_at}
use Rattle.lane.proofs.Doing.{read_on}
use Rattle.lane.proofs.Formed.{IsOn, IsOpen, take_on}

false_true : false ≡ true → ⊥
false_true e = cc

next_in : Ahead → Next
next_in (ahead n) = n
next_in a = end

-- a SYNC that is next stands at the front
front_sync : (t : Option Task) (offset : ℕ) (left group behind : List ℕ) → ahead_by t offset left ≡ ahead (sync group behind) → ahead_by None offset left ≡ ahead (sync group behind)
front_sync None offset left group behind e = e
front_sync (Some (lane_run.steps j)) offset left group behind e = cc
front_sync (Some (lane_run.sweeps b)) offset left group behind e = cc
front_sync (Some (lane_run.pulls x)) offset left group behind e = absurd (by_pull x (front_next offset (front left)) e)
  where
    by_pull : (x : Pulling) (y : Next) → pull_ahead x left y ≡ ahead (sync group behind) → ⊥
    by_pull (comparing g r) (sync name later) e = cc
    by_pull (comparing g r) y e = cc
    by_pull x y e = cc

-- ---- a SYNC that was refused, or for which memory was wanting

pub heard_refused : (p : Position) (group left : List ℕ) (a : Answer) (r : Reply) → next_at p ≡ ahead (sync group left) → a.reply ≡ Some r → ((a.entry).kind == PART_KIND) ≡ false
    → heard p a ≡ record p { left = left; task = None; is_unheld = false; is_spent = a.last || p.is_spent; told = p.told ++ r ∷ [] }
unfolding heard heard_at
heard_refused p group left a r is says other =
    ap (λ x. flagged a (heard_at p (a.entry).kind a.reply x)) is
    ∙ ap (λ (x : Option Reply). flagged a (heard_at p (a.entry).kind x (ahead (sync group left)))) says
    ∙ ap (λ b. flagged a (if b then pulls_on p p.left (sought group r) else tells p left r)) other

-- the remote gave what it has of the group
heard_keys : (p : Position) (group left : List ℕ) (a : Answer) (r : Reply) → next_at p ≡ ahead (sync group left) → a.reply ≡ Some r → ((a.entry).kind == PART_KIND) ≡ true
    → heard p a ≡ record (pulls_on p p.left (sought group r)) { is_unheld = false; is_spent = a.last || p.is_spent }
unfolding heard heard_at
heard_keys p group left a r is says one =
    ap (λ x. flagged a (heard_at p (a.entry).kind a.reply x)) is
    ∙ ap (λ (x : Option Reply). flagged a (heard_at p (a.entry).kind x (ahead (sync group left)))) says
    ∙ ap (λ b. flagged a (if b then pulls_on p p.left (sought group r) else tells p left r)) one
    ∙ ap (λ b. record (pulls_on p p.left (sought group r)) { is_unheld = false; is_spent = a.last || b }) (pulls_on_spent p p.left (sought group r))

-- ---- one that is begun

heard_open : (p : Position) (left : List ℕ) (x : Pulling) (a : Answer) (r : Reply) → next_at p ≡ pull x left → a.reply ≡ Some r
    → heard p a ≡ record (pulls_on p left (take x r)) { is_unheld = false; is_spent = a.last || p.is_spent }
unfolding heard heard_at
heard_open p left x a r next says =
    ap (λ y. flagged a (heard_at p (a.entry).kind a.reply y)) next
    ∙ ap (λ (o : Option Reply). flagged a (heard_at p (a.entry).kind o (pull x left))) says
    ∙ ap (λ b. record (pulls_on p left (take x r)) { is_unheld = false; is_spent = a.last || b }) (pulls_on_spent p left (take x r))

-- where its command was next, it is next behind this
next_open : (p : Position) (left name : List ℕ) (x : Pulling) (b : Bool) → IsOpen x → next_at p ≡ ahead (sync name left) → next_at (pulling_at p left x b) ≡ pull x left
unfolding next_at front_next next_in
next_open p left name (seeking group) b begun is = absurd begun
next_open p left name (comparing group remote) b begun is =
    ap (λ a. pull_ahead (comparing group remote) p.left (next_in a)) (front_sync p.task (p.size - length p.left) p.left name left is)
next_open p left name x b begun is = refl

-- where it goes on from there
open_at : (p : Position) (left : List ℕ) (x : Pulling) (b c : Bool) (job : SyncJob) → IsOn job → IsSyncNext p left
    → IsAt p left (pull_stage job) c (record (pulls_on (pulling_at p left x b) left job) { is_unheld = false; is_spent = c })
unfolding pulls_on
open_at p left x b c (reports report) on next = refl
open_at p left x b c (asks (seeking group)) on next = absurd on
open_at p left x b c (asks (comparing group remote)) on next = absurd on
open_at p left x b c (asks y) on next = (refl, next)

index_steps : (l : Layout) (name : List ℕ) → class_of (act_of_command (new_index l name)) ≡ stepping
index_steps dynamic name = refl
index_steps (fixed size chunk_size) name = refl

-- each of its acts is a step, or a read, behind which its writer does not end
class_by : (x : Pulling) → (class_of (act_of x) ≡ stepping) ⊎ ((class_of (act_of x) ≡ reaching) × (is_ending x ≡ false))
class_by (seeking group) = inr (refl, refl)
class_by (comparing group remote) = inl refl
class_by (starting c) = inl refl
class_by (reading_manifest c bytes) = inr (refl, refl)
class_by (reading_file c s name bytes) = inr (refl, refl)
class_by (opening c s x) = inl (index_steps x.layout x.name)
class_by (reading_chunk c s x e later) = inr (refl, refl)
class_by (sending_chunk c s x e later blob) = inl refl
class_by (appending c s x e later) = inl refl
class_by (closing_index c s x) = inl refl
class_by (sending_blob c s name bytes) = inl refl
class_by (sending_manifest c s) = inl refl
class_by (finishing c) = inl refl
class_by (rejecting path) = inl refl
class_by (aborting first) = inl refl

not_last : (x : Pulling) (was : Bool) → (was ≡ true → is_ending x ≡ true) → is_ending x ≡ false → was ≡ false
not_last x false stops goes = refl
not_last x true stops goes = absurd (false_true (sym goes ∙ stops refl))

may_on : (b e : Bool) → (b ≡ true → e ≡ true) → (not b || e) ≡ true
may_on false e stops = refl
may_on true e stops = stops refl

open_follows : (p : Position) (left name : List ℕ) (x : Pulling) (was : Bool) (v : Event) (act : Act) → IsOpen x → next_at p ≡ ahead (sync name left)
    → (was ≡ true → is_ending x ≡ true) → IsActOf (pulls x) act → v.act ≡ act → Follows (class_of v.act) (pulling_at p left x was) v
open_follows p left name x was v act begun is stops (inl of) asks_is = by_class (class_by x)
  where
    asked : v.act ≡ act_of x
    asked = asks_is ∙ of

    asks_it : Asks (next_at (pulling_at p left x was)) v.act
    asks_it = subst (λ a. Asks a v.act) (sym (next_open p left name x was begun is)) asked

    by_class : (class_of (act_of x) ≡ stepping) ⊎ ((class_of (act_of x) ≡ reaching) × (is_ending x ≡ false)) → Follows (class_of v.act) (pulling_at p left x was) v
    by_class (inl step) = subst (λ c. Follows c (pulling_at p left x was) v) (sym (ap class_of asked ∙ step))
        (may_on was (is_ending x) stops, asks_it)
    by_class (inr reach) = subst (λ c. Follows c (pulling_at p left x was) v) (sym (ap class_of asked ∙ reach.0))
        (not_last x was stops reach.1, asks_it)
open_follows p left name x was v act begun is stops (inr want) asks_is =
    subst (λ c. Follows c (pulling_at p left x was) v) (sym (ap class_of (asks_is ∙ want.0)))
    (not_last x was stops want.1, wants_pulling (pulling_at p left x was) x refl want.1, ap goes_further (next_open p left name x was begun is))

open_led : (p : Position) (left name : List ℕ) (x : Pulling) (was : Bool) (v : Event) (r : Reply) → IsOpen x → next_at p ≡ ahead (sync name left)
    → Follows (class_of v.act) (pulling_at p left x was) v → reply v ≡ Some r
    → Leads (pulling_at p left x was) (v ∷ []) (record (pulls_on (pulling_at p left x was) left (take x r)) { is_unheld = false; is_spent = (v.answer).last || was })
open_led p left name x was v r begun is follows says =
    subst (λ q. Leads (pulling_at p left x was) (v ∷ []) q)
    (heard_open (pulling_at p left x was) left x v.answer r (next_open p left name x was begun is) says)
    (leads_more [] (pulling_at p left x was) (pulling_at p left x was) v refl follows)

open_is : (p q : Position) (left : List ℕ) (x : Pulling) (was : Bool) → IsOpen x → IsAt p left (pulls x) was q → (q ≡ pulling_at p left x was) × IsSyncNext p left
open_is p q left (seeking group) was begun at = absurd begun
open_is p q left x was begun at = at

-- one act of it
open_once : (before after : History → Type 0) (k : ℕ) (x : Pulling) (was : Bool) (act : Act) (told : Told) → IsOpen x → IsActOf (pulls x) act → Did before after k act told
    → (was ≡ true → is_ending x ≡ true) → IsOn (take x told.reply) → StepsOn before after k (pulls x) (pull_stage (take x told.reply)) was (told.last || was)
open_once before after k x was act told begun of d stops on = record {
  events = d.event ∷ [];
  history = d.history;
  lanes = (d.lane_is, tt);
  leads = λ p q left at. let o = open_is p q left x was begun at in led p q left o.0 o.1;
}
  where
    led : (p q : Position) (left : List ℕ) → q ≡ pulling_at p left x was → IsSyncNext p left
        → (r : Position) × (Leads q (d.event ∷ []) r × IsAt p left (pull_stage (take x told.reply)) (told.last || was) r)
    led p q left at next =
        let group = next.0 in
        let follows = open_follows p left group x was d.event act begun (next.1).next stops of d.asks in
        let r : Bool → Position = λ b. record (pulls_on (pulling_at p left x was) left (take x told.reply)) { is_unheld = false; is_spent = b } in (
          r (told.last || was),
          (
            subst (λ b. Leads q (d.event ∷ []) (r b)) (ap (λ b. b || was) d.last)
                (subst (λ y. Leads y (d.event ∷ []) (r (((d.event).answer).last || was))) (sym at) (open_led p left group x was d.event told.reply begun (next.1).next follows d.tells)),
            open_at p left x was (told.last || was) (take x told.reply) on next,
          ),
        )

-- ---- its first act

first_follows : (p : Position) (group left : List ℕ) (v : Event) (act : Act) → p.is_spent ≡ false → next_at p ≡ ahead (sync group left) → may_want_at p ≡ true
    → IsActOf (pulls (seeking group)) act → v.act ≡ act → Follows (class_of v.act) p v
first_follows p group left v act on is may (inl of) asks_is =
    subst (λ c. Follows c p v) (sym (ap class_of (asks_is ∙ of))) (on, subst (λ n. Asks n v.act) (sym is) (asks_is ∙ of))
first_follows p group left v act on is may (inr want) asks_is =
    subst (λ c. Follows c p v) (sym (ap class_of (asks_is ∙ want.0))) (on, may, ap goes_further is)

-- what is no read's reply is refused
first_refused : (group : List ℕ) (act : Act) (r : Reply) → IsActOf (pulls (seeking group)) act → IsTrue (may_answer act r) ⊎ IsRefused r → IsRefused r
first_refused group act r of (inr refused) = refused
first_refused group act (replies.Refused refusal) of (inl may) = tt
first_refused group act r (inl is) (inl may) = absurd (false_true (subst (λ a. IsTrue (may_answer a r)) is may))
first_refused group act r (inr is) (inl may) = absurd (false_true (subst (λ a. IsTrue (may_answer a r)) is.0 may))

refused_reports : (group : List ℕ) (r : Reply) → IsRefused r → sought group r ≡ reports r
unfolding sought
refused_reports group (replies.Refused refusal) refused = refl
refused_reports group r refused = absurd refused

-- what a read's reply is, is no refusal
first_keys : (group : List ℕ) (act : Act) (r : Reply) → IsActOf (pulls (seeking group)) act → IsTrue (may_give act r) → (remote : List (List ℕ)) × (r ≡ replies.Keys remote)
first_keys group act (replies.Keys remote) of may = (remote, refl)
first_keys group act r (inl is) may = absurd (false_true (subst (λ a. IsTrue (may_give a r)) is may))
first_keys group act r (inr is) may = absurd (false_true (subst (λ a. IsTrue (may_give a r)) is.0 may))

keys_at : (p : Position) (group left : List ℕ) (r : Reply) (c : Bool) → IsNext (sync group left) p → (remote : List (List ℕ)) × (r ≡ replies.Keys remote)
    → IsAt p left (pull_stage (sought group r)) c (record (pulls_on p p.left (sought group r)) { is_unheld = false; is_spent = c })
unfolding sought pulls_on
keys_at p group left r c next (remote, is) =
    subst (λ x. IsAt p left (pull_stage (sought group x)) c (record (pulls_on p p.left (sought group x)) { is_unheld = false; is_spent = c })) (sym is) (refl, (group, next))

first_once : (before after : History → Type 0) (k : ℕ) (group : List ℕ) (was : Bool) (act : Act) (told : Told) → IsActOf (pulls (seeking group)) act → Did before after k act told
    → StepsOn before after k (pulls (seeking group)) (pull_stage (take (seeking group) told.reply)) was (told.last || was)
unfolding take
first_once before after k group was act told of d = record {
  events = d.event ∷ [];
  history = d.history;
  lanes = (d.lane_is, tt);
  leads = λ p q left at. led p q left at.0 at.1 at.2;
}
  where
    led : (p q : Position) (left : List ℕ) → q ≡ p → was ≡ false → IsNext (sync group left) p
        → (r : Position) × (Leads q (d.event ∷ []) r × IsAt p left (pull_stage (sought group told.reply)) (told.last || was) r)
    led p q left same none next = by_kind (kind d.event == 1) refl
      where
        on : p.is_spent ≡ false
        on = read_on p (sync group left) next.next refl next.on

        follows : Follows (class_of (d.event).act) p d.event
        follows = first_follows p group left d.event act on next.next (next.wants tt refl) of d.asks

        flag : ((d.event).answer).last || p.is_spent ≡ told.last || was
        flag = ap (λ b. b || p.is_spent) d.last ∙ ap (λ b. told.last || b) (on ∙ sym none)

        heard_led : Leads q (d.event ∷ []) (heard p (d.event).answer)
        heard_led = subst (λ y. Leads y (d.event ∷ []) (heard p (d.event).answer)) (sym same) (leads_more [] p p d.event refl follows)

        by_kind : (b : Bool) → (kind d.event == 1) ≡ b
            → (r : Position) × (Leads q (d.event ∷ []) r × IsAt p left (pull_stage (sought group told.reply)) (told.last || was) r)
        by_kind true one =
            let keys = first_keys group act told.reply of (d.gave (eqb-true (kind d.event) 1 one)) in
            let r : Bool → Position = λ b. record (pulls_on p p.left (sought group told.reply)) { is_unheld = false; is_spent = b } in (
              r (told.last || was),
              (
                subst (λ b. Leads q (d.event ∷ []) (r b)) flag
                    (subst (λ y. Leads q (d.event ∷ []) y) (heard_keys p group left (d.event).answer told.reply next.next d.tells one) heard_led),
                keys_at p group left told.reply (told.last || was) next keys,
              ),
            )
        by_kind false other =
            let refused = first_refused group act told.reply of (d.other (eqb-false (kind d.event) 1 other)) in (
              answered p left told.reply (told.last || was),
              (
                subst (λ b. Leads q (d.event ∷ []) (answered p left told.reply b)) flag
                    (subst (λ y. Leads q (d.event ∷ []) y) (heard_refused p group left (d.event).answer told.reply next.next d.tells other) heard_led),
                subst (λ job. IsAt p left (pull_stage job) (told.last || was) (answered p left told.reply (told.last || was)))
                    (sym (refused_reports group told.reply refused)) refl,
              ),
            )

-- ---- any of its acts

pub pulls_once : (before after : History → Type 0) (k : ℕ) (x : Pulling) (was : Bool) (act : Act) (told : Told) → IsActOf (pulls x) act → Did before after k act told
    → MayGoOn (pulls x) was → StepsOn before after k (pulls x) (pull_stage (take x told.reply)) was (told.last || was)
pulls_once before after k (seeking name) was act told of d on = first_once before after k name was act told of d
pulls_once before after k x was act told of d on = open_once before after k x was act told tt of d on.stops (take_on x told.reply tt on.sound)

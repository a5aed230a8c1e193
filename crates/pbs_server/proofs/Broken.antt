-- A place without a command is what a session is told of that did not fail.
use Rattle.std.proofs.Common.{◌≡◌, ℕ, Bool, true, false, List, [], ◌∷◌, ◌++◌, Option, sym, ap, subst, ◌∙◌, refl}
use Rattle.store_types.specs.declared.refusal.Refusal.{Refusal}
use Rattle.wire_commands.specs.declared.reply.Reply.{Reply}
use Rattle.store_model.specs.declared.ending.Ending.{Ending}
use Rattle.store_model.specs.declared.ending.Ending.TheVariants as endings
use Rattle.store_model.specs.Lanes.{job_step, plain, sync, collect, collecting, bye, broken, end}
use Rattle.store_history.specs.declared.act.Event.{Event}
use Rattle.store_history.specs.Acts.{ending, class_of}
use Rattle.store_history.specs.LaneRun.{Ahead, ahead, pull, Position, begin, next_at, heard, position_after, EndsSo, Does, Runs, LaneRan}
use Rattle.store_history.specs.SoFar.{Leads}
use Rattle.store_history.proofs.Rules.{goes_on}
use Rattle.store_history.proofs.Unheld.{unheld, follows_heard}
use Rattle.lane.specs.AtOnce.{AreEnds}
use Rattle.lane.specs.Ran.{EndsRead, IsReadOut}
use Rattle.pbs_server.specs.Causes.{ReachesNoCommand}

clash : false ≡ true → ⊥
clash e = cc

-- what a run does from where it was led
pub record RunsOn (e : Ending) (q : Position) (ends : List Event) (told : List Reply) : Type 0 where
  pub on : q.is_over ≡ false
  pub runs : Runs e q ends told

-- there, but that a frame could not be held
pub leads_back : (b : Bool) (e : Ending) (before ends : List Event) (p q : Position) (told : List Reply) → Leads p before q → p.is_over ≡ false → Runs e (unheld b p) (before ++ ends) told
    → (t : Bool) × RunsOn e (unheld t q) ends told
unfolding position_after
leads_back b e [] ends p q told leads on runs = subst (λ x. (t : Bool) × RunsOn e (unheld t x) ends told) leads (b, record { on = on; runs = runs })
leads_back b e (v ∷ vs) ends p q told leads on runs =
    let one = follows_heard b (class_of v.act) e p v leads.0 in
    leads_back one.0 e vs ends (heard p v.answer) q told leads.1 (goes_on p v on) (subst (λ x. Runs e x (vs ++ ends) told) one.1 runs.2)

-- how it ends there
pub ends_so : (b : Bool) (e : Ending) (q : Position) (ends : List Event) (told : List Reply) → AreEnds ends → RunsOn e (unheld b q) ends told → EndsSo e (unheld b q) (next_at q)
unfolding next_at
ends_so b e q [] told are r = absurd (clash (sym r.on ∙ (r.runs).0))
ends_so b e q (v ∷ vs) told are r = (subst (λ c. Does c e (unheld b q) v vs) (ap class_of are.0) (r.runs).1).0

pub so_broken : (place : ℕ) (q : Position) (n : Ahead) → EndsSo (endings.Broken place) q n → (r : Refusal) × (n ≡ ahead (broken r))
so_broken place q (ahead (broken r)) so = (r, refl)
so_broken place q (ahead (plain c left)) so = absurd so
so_broken place q (ahead (job_step j left)) so = absurd so
so_broken place q (ahead (sync group left)) so = absurd so
so_broken place q (ahead (collect left)) so = absurd so
so_broken place q (ahead (collecting is_out_of_memory)) so = absurd so
so_broken place q (ahead bye) so = absurd so
so_broken place q (ahead end) so = absurd so
so_broken place q (pull x left) so = absurd so

-- the ending is a place without a command
abbrev pub IsBroken : Ending → Type 0
IsBroken (endings.Broken place) = Unit {0}
IsBroken e = ⊥

reached_at : (place : ℕ) (input : List ℕ) (events : List Event) (told : List Reply) (left : Option (List ℕ))
    → LaneRan input (endings.Broken place) events told → EndsRead (endings.Broken place) input events left → ReachesNoCommand input events
reached_at place input events told left ran read =
    let out : IsReadOut input read.before read.ends left = read.read in
    let on = leads_back false (endings.Broken place) read.before read.ends (begin input) out.last told out.leads refl
    (subst (λ es. Runs (endings.Broken place) (begin input) es told) read.split ran) in
    let at = so_broken place (unheld on.0 out.last) (next_at out.last) (ends_so on.0 (endings.Broken place) out.last read.ends told out.ended on.1) in
    record { before = read.before; ends = read.ends; split = read.split; ended = out.ended; last = out.last; leads = out.leads; refusal = at.0; next = at.1 }

pub reached : (e : Ending) (input : List ℕ) (events : List Event) (told : List Reply) (left : Option (List ℕ))
    → LaneRan input e events told → EndsRead e input events left → IsBroken e → ReachesNoCommand input events
reached (endings.Broken place) input events told left ran read is = reached_at place input events told left ran read
reached endings.Clean input events told left ran read is = absurd is
reached endings.SourceFault input events told left ran read is = absurd is
reached endings.SinkFault input events told left ran read is = absurd is
reached endings.SourceTooLong input events told left ran read is = absurd is
reached endings.NoMemory input events told left ran read is = absurd is

-- where no command stands, a lane does not end cleanly
pub not_clean : (e : Ending) (input : List ℕ) (events : List Event) (told : List Reply) → LaneRan input e events told → ReachesNoCommand input events → e ≡ endings.Clean → ⊥
not_clean e input events told ran reaches clean =
    let on = leads_back false e reaches.before reaches.ends (begin input) reaches.last told reaches.leads refl (subst (λ es. Runs e (begin input) es told) reaches.split ran) in
    subst (λ n. EndsSo endings.Clean (unheld on.0 reaches.last) n) reaches.next
    (subst (λ f. EndsSo f (unheld on.0 reaches.last) (next_at reaches.last)) clean (ends_so on.0 e reaches.last reaches.ends told reaches.ended on.1))

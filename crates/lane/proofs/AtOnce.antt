-- A lane whose sink failed made no act more but its end.
use Rattle.std.proofs.Common.{◌≡◌, ◌==◌, ◌≤◌, ℕ, ◌-◌, ◌^◌, ◌&&◌, min, Bool, true, false, is_none, List, [], ◌∷◌, ◌++◌, length, Option, Some, None, refl, sym, ap, ◌∙◌, arith, append-nil}
use Rattle.store_types.specs.declared.order.TheConstants.{MEMORY_KIND}
use Rattle.port_traits.specs.Bytes.{WritesCounted}
use Rattle.wire_commands.specs.declared.reply.Reply.{Reply}
use Rattle.store_model.specs.declared.ending.Ending.{Ending}
use Rattle.store_model.specs.declared.ending.Ending.TheVariants as endings
use Rattle.store_history.specs.declared.act.Act.TheVariants as acts
use Rattle.store_history.specs.declared.act.Event.{Event}
use Rattle.store_history.specs.Acts.{class_of}
use Rattle.store_history.specs.History.{kind}
use Rattle.store_history.specs.LaneRun.{Task, Position, heard, leaves_unheld, heard_as, position_after, text}
use Rattle.store_history.specs.SoFar.{Leads}
use Rattle.store_history.proofs.Unheld.{unheld, heard_unheld, follows_heard}
use Rattle.lane.specs.AtOnce.{gave_all, GaveAllButOne, GaveSo, position_by}

-- ---- where events lead to

-- there, but that a frame could not be held
pub leads_to : (b : Bool) (e : Ending) (vs : List Event) (p q : Position) → Leads p vs q → (t : Bool) × (position_by e (unheld b p) vs ≡ unheld t q)
unfolding position_after
leads_to b e [] p q led = (b, ap (unheld b) led)
leads_to b e (v ∷ vs) p q led =
    let one = follows_heard b (class_of v.act) e p v led.0 in
    let more = leads_to one.0 e vs (heard p v.answer) q led.1 in
    (more.0, ap (λ x. position_by e x vs) one.1 ∙ more.1)

pub leads_then_one : (e : Ending) (vs : List Event) (v : Event) (p q : Position) → position_by e p vs ≡ q → position_by e p (vs ++ v ∷ []) ≡ position_after e q v
leads_then_one e [] v p q led = ap (λ x. position_after e x v) led
leads_then_one e (u ∷ vs) v p q led = leads_then_one e vs v (position_after e p u) q led

-- want of memory for a frame
pub wanted_after : (e : Ending) (b : Bool) (p : Position) (v : Event) → v.act ≡ acts.Short → kind v ≡ MEMORY_KIND → p.task ≡ None
    → position_after e (unheld b p) v ≡ unheld true (heard p v.answer)
unfolding position_after
wanted_after e b p v asks two off =
    ap (λ c. heard_as c e (unheld b p) v.answer) (ap class_of asks) ∙ ap (unheld (leaves_unheld p v.answer)) (heard_unheld b p v.answer)
    ∙ ap (λ (t : Option Task). unheld (is_none t && (kind v == MEMORY_KIND)) (heard p v.answer)) off ∙ ap (λ n. unheld (n == MEMORY_KIND) (heard p v.answer)) two

-- ---- what was given

-- all that was told before, whatever of more was given then
gave_before : (a b c : Option (List ℕ)) (m n : ℕ) (xs ys : List ℕ) (all : Bool) → WritesCounted a b 0 m xs true → WritesCounted b c m n ys all → min (length xs) (2 ^ 64 - 1) ≤ n
gave_before a b c m n xs ys all first second = omega (arith, first.how_many, first.counted, second.counted)

pub given_but_one : (a b c : Option (List ℕ)) (m n : ℕ) (told : List Reply) (r : Reply) (ys : List ℕ) (all : Bool) → WritesCounted a b 0 m (text told) true → WritesCounted b c m n ys all
    → GaveAllButOne (told ++ r ∷ []) n
given_but_one a b c m n told r ys all first second = record { whole = told; last = Some r; told_is = refl; gave = gave_before a b c m n (text told) ys all first second }

-- all was given, and then the sink failed
pub all_before : (a b c : Option (List ℕ)) (m n : ℕ) (told : List Reply) (ys : List ℕ) (all : Bool) → WritesCounted a b 0 m (text told) true → WritesCounted b c m n ys all → GaveAllButOne told n
all_before a b c m n told ys all first second = record { whole = told; last = None; told_is = sym (append-nil told); gave = gave_before a b c m n (text told) ys all first second }

pub gave_so : (e : Ending) (told : List Reply) (given : ℕ) → gave_all e ≡ true → GaveSo e told given
gave_so endings.SinkFault told given all = absurd (apart all)
  where
    apart : false ≡ true → ⊥
    apart h = cc
gave_so endings.Clean told given all = tt
gave_so (endings.Broken place) told given all = tt
gave_so endings.SourceFault told given all = tt
gave_so endings.SourceTooLong told given all = tt
gave_so endings.NoMemory told given all = tt

pub gave_but_one : (e : Ending) (told : List Reply) (given : ℕ) → GaveAllButOne told given → GaveSo e told given
gave_but_one endings.SinkFault told given gave = gave
gave_but_one endings.Clean told given gave = tt
gave_but_one (endings.Broken place) told given gave = tt
gave_but_one endings.SourceFault told given gave = tt
gave_but_one endings.SourceTooLong told given gave = tt
gave_but_one endings.NoMemory told given gave = tt

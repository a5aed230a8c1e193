-- What a lane's loop needs: what is next by the front of its input, what an answer leaves, and how the lane ends.
-- `next_job`, `next_plain`, `next_bye`, `next_no_command`, `next_too_long`, `plain_act` and `leads_short` wait for several lanes: nothing names them yet.
use Rattle.std.specs.Result.{is_ok}
use Rattle.std.proofs.Common.{◌≡◌, ◌≢◌, ℕ, ◌-◌, Bool, true, false, ◌&&◌, ◌||◌, List, [], ◌∷◌, ◌++◌, length, Option, Some, None, Result, Ok, Err, refl, sym, ap, subst, ◌∙◌, arith, ◌==◌, if◌then◌else◌, is_none}
use Rattle.store_types.specs.declared.refusal.Refusal.{Refusal}
use Rattle.store_types.specs.declared.refusal.Refusal.TheVariants.{BadFrame, TooLong}
use Rattle.store_types.specs.declared.refusal.Refusal.TheVariants.{BadBlob as BadBlobOf}
use Rattle.store_types.specs.declared.refusal.BadBlob.{BadBlob}
use Rattle.store_types.specs.declared.order.TheConstants.{MEMORY_KIND, FAULT_KIND, END_KIND}
use Rattle.blob_codec.specs.Blob.{data_of}
use Rattle.wire_frames.specs.Frames.{short, cut}
use Rattle.wire_commands.specs.declared.command.Command.{Command}
use Rattle.wire_commands.specs.declared.command.Command.TheVariants as commands
use Rattle.wire_commands.specs.declared.reply.Reply.{Reply}
use Rattle.wire_commands.specs.Inputs.{InputFront, nothing, next, over_limit, no_command, front, cut_front}
use Rattle.store_model.specs.declared.ending.Ending.{Ending}
use Rattle.store_model.specs.declared.ending.Ending.TheVariants as endings
use Rattle.store_model.specs.Job.{Asking, Job, over, asking}
use Rattle.store_model.specs.Jobs.{job_of, take as job_take}
use Rattle.store_model.specs.Lanes.{Next, job_step, plain, sync, collect, collecting, bye, broken, end, front_next, command_next}
use Rattle.store_history.specs.declared.act.Act.TheVariants as acts
use Rattle.store_history.specs.declared.act.Answer.{Answer}
use Rattle.store_history.specs.declared.act.Event.{Event}
use Rattle.store_history.specs.Acts.{IsPlain, IsChecked, IsWellFormed, check_blob, act_of_command, class_of}
use Rattle.store_history.specs.History.{kind, reply}
use Rattle.store_history.specs.LaneRun.{Task, Ahead, ahead, pull, ahead_by, job_in, Position, next_at, goes_on, heard_at, heard, heard_as, last_words, end_faulted, end_heard, position_after, Asks, may_want, IsShut, EndsSo, Does, Runs}
use Rattle.store_history.specs.SoFar.{goes_further, Follows, Leads}
use Rattle.store_history.proofs.Checking.{is_checked_chunk}
use Rattle.store_history.proofs.Events.{command_class}
use Rattle.store_history.proofs.Growing.{leads_more, heard_at_over}
use Rattle.store_history.proofs.Unheld.{flagged}
use Rattle.store_history.proofs.Wanting.{may_on, wants_frame}

-- ---- what is next

-- where nothing is open
pub next_is : (p : Position) (f : InputFront) → p.task ≡ None → front p.left ≡ f → next_at p ≡ ahead (front_next (p.size - length p.left) f)
unfolding next_at
next_is p f off is = ap (λ (t : Option Task). ahead_by t (p.size - length p.left) p.left) off ∙ ap (λ x. ahead (front_next (p.size - length p.left) x)) is

-- a command that is neither a job's nor the collector's, other than BYE
abbrev pub IsCommand : Command → Type 0
IsCommand (commands.Prune group keep dry) = ⊥
IsCommand (commands.Verify snapshot) = ⊥
IsCommand (commands.Sync group) = ⊥
IsCommand commands.Gc = ⊥
IsCommand commands.Bye = ⊥
IsCommand c = Unit {0}

pub command_is : (c : Command) (left : List ℕ) → IsCommand c → command_next c left ≡ plain c left
unfolding command_next
command_is (commands.Prune group keep dry) left h = absurd h
command_is (commands.Verify snapshot) left h = absurd h
command_is (commands.Sync group) left h = absurd h
command_is commands.Gc left h = absurd h
command_is commands.Bye left h = absurd h
command_is c left h = refl

pub next_command : (p : Position) (c : Command) (left : List ℕ) → p.task ≡ None → front p.left ≡ next c left → IsCommand c → next_at p ≡ ahead (plain c left)
unfolding front_next
next_command p c left off is h = next_is p (next c left) off is ∙ ap ahead (command_is c left h)

-- a job's command
job_is : (c : Command) (j : Asking) (left : List ℕ) → job_of c ≡ Some j → command_next c left ≡ job_step j left
unfolding command_next
job_is (commands.Prune group keep dry) j left some = ap (λ (o : Option Asking). elim o [ None ↦ plain (commands.Prune group keep dry) left | Some i ↦ job_step i left ]) some
job_is (commands.Verify snapshot) j left some = ap (λ (o : Option Asking). elim o [ None ↦ plain (commands.Verify snapshot) left | Some i ↦ job_step i left ]) some
job_is c j left some = cc

pub next_job : (p : Position) (c : Command) (j : Asking) (left : List ℕ) → p.task ≡ None → front p.left ≡ next c left → job_of c ≡ Some j
    → next_at p ≡ ahead (job_step j left)
unfolding front_next
next_job p c j left off is some = next_is p (next c left) off is ∙ ap ahead (job_is c j left some)

pub plain_command : (c : Command) → IsPlain c → IsCommand c
plain_command (commands.Chunk digest blob) h = absurd h
plain_command (commands.Blob file blob) h = absurd h
plain_command (commands.Prune group keep dry) h = absurd h
plain_command (commands.Verify snapshot) h = absurd h
plain_command (commands.Sync group) h = absurd h
plain_command commands.Gc h = absurd h
plain_command commands.Bye h = absurd h
plain_command c h = tt

pub next_plain : (p : Position) (c : Command) (left : List ℕ) → p.task ≡ None → front p.left ≡ next c left → IsPlain c → next_at p ≡ ahead (plain c left)
next_plain p c left off is h = next_command p c left off is (plain_command c h)

pub next_bye : (p : Position) (left : List ℕ) → p.task ≡ None → front p.left ≡ next commands.Bye left → next_at p ≡ ahead bye
unfolding front_next command_next
next_bye p left off is = next_is p (next commands.Bye left) off is

pub next_end : (p : Position) → p.task ≡ None → p.left ≡ [] → next_at p ≡ ahead end
unfolding front_next front
next_end p off is = next_is p nothing off (ap front is)

pub next_no_command : (p : Position) → p.task ≡ None → front p.left ≡ no_command → next_at p ≡ ahead (broken (BadFrame (p.size - length p.left)))
unfolding front_next
next_no_command p off is = next_is p no_command off is

pub next_too_long : (p : Position) (n : ℕ) → p.task ≡ None → front p.left ≡ over_limit n → next_at p ≡ ahead (broken (TooLong n))
unfolding front_next
next_too_long p n off is = next_is p (over_limit n) off is

-- where no job is open and a part of a frame is left, or nothing, no command is next
pub part_next : (p : Position) → p.task ≡ None → cut p.left ≡ short → goes_further (next_at p) ≡ false
unfolding front front_next
part_next p off is = ap goes_further (next_is p (front p.left) off refl) ∙ by_left p.left is
  where
    by_left : (left : List ℕ) → cut left ≡ short → goes_further (ahead (front_next (p.size - length p.left) (front left))) ≡ false
    by_left [] h = refl
    by_left (b ∷ bytes) h = ap (λ c. goes_further (ahead (front_next (p.size - length p.left) (cut_front c)))) h

-- ---- the acts of commands

pub plain_act : (c : Command) → IsPlain c → act_of_command c ≡ acts.Plain c
plain_act (commands.Chunk digest blob) h = absurd h
plain_act (commands.Blob file blob) h = absurd h
plain_act (commands.Prune group keep dry) h = absurd h
plain_act (commands.Verify snapshot) h = absurd h
plain_act (commands.Sync group) h = absurd h
plain_act commands.Gc h = absurd h
plain_act c h = refl

-- what the check of an upload gives is well-formed
pub is_checked : (bytes : List ℕ) → IsChecked (check_blob bytes)
is_checked bytes = by_result (data_of bytes) refl
  where
    by_result : (r : Result (List ℕ) BadBlob) → data_of bytes ≡ r
        → IsChecked (elim r as (λ x. Result (List ℕ) Refusal) [ Ok piece ↦ Ok bytes | Err fault ↦ Err (BadBlobOf fault) ])
    by_result (Ok piece) e = ap is_ok e
    by_result (Err fault) e = tt

pub is_formed : (c : Command) → IsCommand c → IsWellFormed (act_of_command c)
is_formed (commands.Chunk digest blob) h = is_checked_chunk digest blob
is_formed (commands.Blob file blob) h = is_checked blob
is_formed (commands.Prune group keep dry) h = absurd h
is_formed (commands.Verify snapshot) h = absurd h
is_formed (commands.Sync group) h = absurd h
is_formed commands.Gc h = absurd h
is_formed commands.Bye h = absurd h
is_formed c h = tt

-- ---- one more command

pub heard_plain : (p : Position) (c : Command) (left : List ℕ) (a : Answer) (r : Reply) → next_at p ≡ ahead (plain c left) → a.reply ≡ Some r
    → heard p a ≡ record p { left = left; task = None; is_unheld = false; is_spent = a.last || p.is_spent; told = p.told ++ r ∷ [] }
unfolding heard heard_at
heard_plain p c left a r is says =
    ap (λ x. flagged a (heard_at p (a.entry).kind a.reply x)) is ∙ ap (λ (x : Option Reply). flagged a (heard_at p (a.entry).kind x (ahead (plain c left)))) says

-- what is no command is used up
pub heard_broken : (p : Position) (refusal : Refusal) (a : Answer) (r : Reply) → next_at p ≡ ahead (broken refusal) → a.reply ≡ Some r → (a.entry).kind ≡ MEMORY_KIND
    → heard p a ≡ record p { left = []; task = None; is_unheld = false; is_spent = true; told = p.told ++ r ∷ [] }
unfolding heard heard_at
heard_broken p refusal a r is says two =
    ap (λ x. flagged a (heard_at p (a.entry).kind a.reply x)) is
    ∙ ap (λ (x : Option Reply). flagged a (heard_at p (a.entry).kind x (ahead (broken refusal)))) says
    ∙ ap (λ n. flagged a (heard_at p n (Some r) (ahead (broken refusal)))) two
    ∙ ap (λ b. record p { left = []; task = None; is_unheld = false; is_spent = b; told = p.told ++ r ∷ [] }) (or_true a.last)
  where
    or_true : (b : Bool) → (b || true) ≡ true
    or_true true = refl
    or_true false = refl

pub follows_command : (p : Position) (c : Command) (left : List ℕ) (v : Event) → p.is_spent ≡ false → next_at p ≡ ahead (plain c left) → v.act ≡ act_of_command c
    → Follows (class_of v.act) p v
follows_command p c left v on is asks =
    subst (λ x. Follows x p v) (sym (ap class_of asks ∙ command_class c)) (may_on p on, subst (λ x. Asks x v.act) (sym is) asks)

-- the lane went on by a command, which was answered
pub leads_command : (vs : List Event) (p q : Position) (c : Command) (left : List ℕ) (v : Event) (r : Reply) → Leads p vs q → q.is_spent ≡ false
    → next_at q ≡ ahead (plain c left) → v.act ≡ act_of_command c → reply v ≡ Some r
    → Leads p (vs ++ v ∷ []) (record q { left = left; task = None; is_unheld = false; is_spent = (v.answer).last || q.is_spent; told = q.told ++ r ∷ [] })
leads_command vs p q c left v r led on is asks says =
    subst (λ x. Leads p (vs ++ v ∷ []) x) (heard_plain q c left v.answer r is says) (leads_more vs p q v led (follows_command q c left v on is asks))

-- ---- the last of a lane

-- memory was wanting, for a frame that is no command or not yet known
pub short_runs : (e : Ending) (q : Position) (v : Event) (vs : List Event) (told : List Reply) → q.is_over ≡ false → q.is_spent ≡ false → q.task ≡ None → may_want q.left ≡ true
    → v.act ≡ acts.Short → kind v ≡ MEMORY_KIND → Runs e (record (heard q v.answer) { is_unheld = true }) vs told → Runs e q (v ∷ vs) told
unfolding position_after
short_runs e q v vs told off on none may asks two runs =
    subst (λ c. (q.is_over ≡ false) × Does c e q v vs × Runs e (heard_as c e q v.answer) vs told) (sym (ap class_of asks))
    (off, (on, wants_frame q none may), subst (λ b. Runs e (record (heard q v.answer) { is_unheld = b }) vs told) (sym is_unheld) runs)
  where
    is_unheld : (is_none q.task && (kind v == MEMORY_KIND)) ≡ true
    is_unheld = ap (λ (t : Option Task). is_none t && (kind v == MEMORY_KIND)) none ∙ ap (λ n. n == MEMORY_KIND) two

-- the lane's end
pub end_runs : (e : Ending) (q : Position) (v : Event) → q.is_over ≡ false → IsShut q.task → v.act ≡ acts.End → kind v ≡ END_KIND → EndsSo e q (next_at q)
    → Runs e q (v ∷ []) (last_words e q (next_at q)).told
unfolding position_after
end_runs e q v off shut asks six so =
    subst (λ c. (q.is_over ≡ false) × Does c e q v [] × Runs e (heard_as c e q v.answer) [] (last_words e q (next_at q)).told) (sym (ap class_of asks))
    (off, (so, (λ five. let no : ⊥ = omega arith in absurd no), shut), subst (λ n. Runs e (end_heard e q n (reply v)) [] (last_words e q (next_at q)).told) (sym six) (refl, refl))

faulted_over : (e : Ending) (q : Position) (r : Option Reply) → (end_faulted e q r).is_over ≡ q.is_over
faulted_over endings.NoMemory q r = by_test (is_none (job_in q.task))
  where
    by_test : (b : Bool) → (if b then q else heard_at q 5 r (next_at q)).is_over ≡ q.is_over
    by_test true = refl
    by_test false = heard_at_over q 5 r (next_at q)
faulted_over e q r = heard_at_over q 5 r (next_at q)

heard_at_same : (q : Position) (r : Option Reply) (x : Ahead) → goes_further x ≡ false → heard_at q 5 r x ≡ q
unfolding heard_at
heard_at_same q r (ahead (job_step j left)) h = cc
heard_at_same q r (ahead (plain c left)) h = cc
heard_at_same q r (ahead (sync group left)) h = cc
heard_at_same q r (ahead (collect left)) h = cc
heard_at_same q r (ahead (collecting is_out_of_memory)) h = cc
heard_at_same q r (pull x left) h = cc
heard_at_same q (Some r) (ahead n) h = refl
heard_at_same q None (ahead n) h = refl

clean_further : (q : Position) (x : Ahead) → EndsSo endings.Clean q x → goes_further x ≡ false
clean_further q (ahead bye) h = refl
clean_further q (ahead end) h = refl
clean_further q x h = absurd h

broken_further : (place : ℕ) (q : Position) (x : Ahead) → EndsSo (endings.Broken place) q x → goes_further x ≡ false
broken_further place q (ahead (broken refusal)) h = refl
broken_further place q x h = absurd h

-- with nothing open, an end that met a fault left the lane as it was, but where the sink failed
pub faulted_same : (e : Ending) (q : Position) (r : Option Reply) → q.task ≡ None → e ≢ endings.SinkFault → EndsSo e q (next_at q) → end_faulted e q r ≡ q
faulted_same endings.NoMemory q r off ne so = ap (λ (t : Option Task). if is_none (job_in t) then q else heard_at q 5 r (next_at q)) off
faulted_same endings.Clean q r off ne so = heard_at_same q r (next_at q) (clean_further q (next_at q) so)
faulted_same (endings.Broken place) q r off ne so = heard_at_same q r (next_at q) (broken_further place q (next_at q) so)
faulted_same endings.SourceFault q r off ne so = heard_at_same q r (next_at q) (part_next q off so.2)
faulted_same endings.SinkFault q r off ne so = absurd (ne refl)
faulted_same endings.SourceTooLong q r off ne so = heard_at_same q r (next_at q) (part_next q off so.2)

-- and it may end as before
abbrev RestsAlike : Ending → Position → Type 0
RestsAlike e q = EndsSo e q (next_at q) × IsShut q.task

same_ends : (e : Ending) (q : Position) (r : Option Reply) → q.task ≡ None → e ≢ endings.SinkFault → EndsSo e q (next_at q) → RestsAlike e (end_faulted e q r)
same_ends e q r off ne so = subst (λ x. EndsSo e x (next_at x) × IsShut x.task) (sym (faulted_same e q r off ne so)) (so, subst IsShut (sym off) tt)

-- no collector and no SYNC is open then either
heard_shut : (q : Position) (r : Option Reply) (n : Next) → q.task ≡ None → IsShut (heard_at q 5 r (ahead n)).task
unfolding heard_at goes_on
heard_shut q (Some r) (job_step j left) off = by_job (job_take j r)
  where
    by_job : (k : Job) → IsShut (goes_on q left k).task
    by_job (over report) = tt
    by_job (asking i) = tt
heard_shut q (Some r) (plain c left) off = tt
heard_shut q (Some r) (sync group left) off = tt
heard_shut q (Some r) (collect left) off = tt
heard_shut q (Some r) (collecting is_out_of_memory) off = tt
heard_shut q (Some r) n off = subst IsShut (sym off) tt
heard_shut q None (job_step j left) off = subst IsShut (sym off) tt
heard_shut q None n off = subst IsShut (sym off) tt

faulted_ends : (e : Ending) (q : Position) (r : Option Reply) → q.task ≡ None → EndsSo e q (next_at q) → RestsAlike e (end_faulted e q r)
faulted_ends endings.SinkFault q r off so =
    (tt, subst (λ x. IsShut (heard_at q 5 r x).task) (sym (next_is q (front q.left) off refl)) (heard_shut q r (front_next (q.size - length q.left) (front q.left)) off))
faulted_ends endings.NoMemory q r off so = same_ends endings.NoMemory q r off (λ h. cc) so
faulted_ends endings.Clean q r off so = same_ends endings.Clean q r off (λ h. cc) so
faulted_ends (endings.Broken place) q r off so = same_ends (endings.Broken place) q r off (λ h. cc) so
faulted_ends endings.SourceFault q r off so = same_ends endings.SourceFault q r off (λ h. cc) so
faulted_ends endings.SourceTooLong q r off so = same_ends endings.SourceTooLong q r off (λ h. cc) so

-- the end met a fault, and came again
pub end_again_runs : (e : Ending) (q : Position) (v u : Event) → q.task ≡ None → q.is_over ≡ false → v.act ≡ acts.End → kind v ≡ FAULT_KIND → u.act ≡ acts.End → kind u ≡ END_KIND → EndsSo e q (next_at q)
    → Runs e q (v ∷ u ∷ []) (last_words e (end_faulted e q (reply v)) (next_at (end_faulted e q (reply v)))).told
unfolding position_after
end_again_runs e q v u none off asks five again six so =
    let q' = end_faulted e q (reply v) in
    let rests = faulted_ends e q (reply v) none so in
    let rest = end_runs e q' u (faulted_over e q (reply v) ∙ off) rests.1 again six rests.0 in
    subst (λ c. (q.is_over ≡ false) × Does c e q v (u ∷ []) × Runs e (heard_as c e q v.answer) (u ∷ []) (last_words e q' (next_at q')).told) (sym (ap class_of asks))
    (off, (so, (λ h. (ap class_of again, six)), subst IsShut (sym none) tt), subst (λ n. Runs e (end_heard e q n (reply v)) (u ∷ []) (last_words e q' (next_at q')).told) (sym five) rest)

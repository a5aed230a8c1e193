-- What a lane did so far, after one command or job more, or want of memory.
use Rattle.std.proofs.Common.{◌≡◌, ℕ, ◌+◌, ◌-◌, Bool, true, false, ◌||◌, List, [], ◌∷◌, ◌++◌, length, Option, Some, None, inl, refl, sym, ap, subst, ◌∙◌, arith, ◌==◌, append-nil, append_assoc}
use Rattle.std.proofs.lemmas.List.{length-append}
use Rattle.store_types.specs.declared.refusal.Refusal.TheVariants.{NoMemory}
use Rattle.store_types.specs.declared.order.TheConstants.{MEMORY_KIND}
use Rattle.port_traits.specs.Bytes.{TakesFrom, WritesCounted}
use Rattle.wire_frames.specs.Frames.{Tail, frame, short, cut, advanced}
use Rattle.wire_commands.specs.declared.command.Command.{Command}
use Rattle.wire_commands.specs.declared.command.Command.TheVariants as commands
use Rattle.wire_commands.specs.declared.reply.Reply.{Reply}
use Rattle.wire_commands.specs.declared.reply.Reply.TheVariants.{Refused}
use Rattle.wire_commands.specs.ReplyText.{reply_text}
use Rattle.wire_commands.specs.Inputs as inputs
use Rattle.wire_commands.specs.Inputs.{InputFront, front}
use Rattle.store_model.specs.declared.ending.Ending.{Ending}
use Rattle.store_model.specs.declared.ending.Ending.TheVariants as endings
use Rattle.store_model.specs.Job.{Job, over}
use Rattle.store_model.specs.Jobs.{take}
use Rattle.store_model.specs.PruneJob as prune
use Rattle.store_model.specs.VerifyJob as verify
use Rattle.store_model.specs.Lanes.{Next, job_step, plain, sync, collect, collecting, bye, broken, end, front_next, command_next}
use Rattle.store_history.specs.declared.act.Answer.{Answer}
use Rattle.store_history.specs.declared.act.Event.{Event}
use Rattle.store_history.specs.LaneRun.{ahead, Position, begin, text, next_at, heard, stops, may_want, EndsSo, Runs}
use Rattle.store_history.specs.SoFar.{Leads}
use Rattle.store_history.proofs.Collecting.{heard_gc}
use Rattle.store_history.proofs.Ending.{next_is, heard_plain, heard_broken, short_runs}
use Rattle.store_history.proofs.Growing.{leads_runs}
use Rattle.store_history.proofs.Jobs.{at_job, at_job_over, heard_job}
use Rattle.store_history.proofs.Longer.{of_more}
use Rattle.store_history.proofs.Placed.{sweep_in, open_at, open_is}
use Rattle.store_history.proofs.Unheld.{unheld}
use Rattle.store_history.proofs.Wanting.{Goes, want_goes, wants_frame}
use Rattle.core_state.specs.History.{History}
use Rattle.shared_store.specs.Comes.{with_events}
use Rattle.lane.specs.declared.acts.Told.{Told}
use Rattle.lane.specs.declared.input.Input.{Input}
use Rattle.lane.specs.declared.ending.Last.{Last}
use Rattle.lane.specs.Acting.{AnswersShort, Gives, IsEndedBy, went_on, short_ending}
use Rattle.lane.specs.AtOnce.{gave_all, GaveSo}
use Rattle.lane.specs.Doing.{IsNext, Does}
use Rattle.lane.specs.Fronts.{IsCommandAhead}
use Rattle.lane.specs.Progress.{Start, position, HasServed, HasStopped, HasWords}
use Rattle.lane.specs.Ran.{Took, ReadsOut}
use Rattle.lane.specs.Taking.{TakesInVain}
use Rattle.lane.specs.Turns.{HasDone}
use Rattle.lane.proofs.Doing.{of_both, leads_then, step_is_job}
use Rattle.lane.proofs.Pulls.{heard_refused}
use Rattle.lane.proofs.AtOnce.{given_but_one, gave_but_one, leads_then_one, leads_to, wanted_after}
use Rattle.lane.proofs.Entries.{first_true, second_true}
use Rattle.lane.proofs.Fronts.{part_wants}
use Rattle.lane.proofs.Turning.{nothing_taken, at_next, gave_more, taken_on, leads_further, no_words}

-- ---- a command, or a job

-- what is next on a lane that was served so far
at_command : (stands : History → Type 0) (start : Start) (k : ℕ) (left taken : Option (List ℕ)) (tail : Tail) (size given : ℕ) (c : Command)
    → (s : HasServed stands start k left taken tail size given) → IsCommandAhead tail c
    → IsNext (command_next c (advanced tail).bytes) (position s.input tail.bytes s.told)
at_command stands start k left taken tail size given c s seen = let p = position s.input tail.bytes s.told in record {
  on = refl;
  next = at_next stands start k left taken tail size given s ∙ ap ahead seen.next;
  wants = λ step on. wants_frame p refl (seen.wants (step_is_job c (advanced tail).bytes step));
}

-- the position behind it
behind : List ℕ → List ℕ → List Reply → Told → Position
behind input left before told = record (position input left (before ++ told.reply ∷ [])) { is_spent = told.last }

led_on : (before after : History → Type 0) (start : Start) (k : ℕ) (left taken : Option (List ℕ)) (tail : Tail) (size given : ℕ) (c : Command) (told : Told)
    → (s : HasServed before start k left taken tail size given) → IsCommandAhead tail c → (d : Does before after k (command_next c) told)
    → Leads (begin s.input) (s.events ++ d.events) (behind s.input (advanced tail).bytes s.told told)
unfolding behind
led_on before after start k left taken tail size given c told s found d =
    leads_then s.events d.events (begin s.input) (position s.input tail.bytes s.told) (behind s.input (advanced tail).bytes s.told told) s.leads
    (d.leads (position s.input tail.bytes s.told) (advanced tail).bytes (at_command before start k left taken tail size given c s found))

on_spent : (input left : List ℕ) (before : List Reply) (told : Told) → told.last ≡ false
    → behind input left before told ≡ position input left (before ++ told.reply ∷ [])
unfolding behind
on_spent input left before told on = ap (λ b. record (position input left (before ++ told.reply ∷ [])) { is_spent = b }) on

-- it was answered, and the lane goes on
pub command_served : (before after : History → Type 0) (start : Start) (k : ℕ) (left taken taken' : Option (List ℕ)) (tail tail' : Tail) (size size' given given' : ℕ) (c : Command) (told : Told)
    → HasServed before start k left taken tail size given → IsCommandAhead tail c → Does before after k (command_next c) told → Gives told taken taken' given given' None
    → tail' ≡ advanced tail → size' ≡ size
    → HasServed after start k left taken' tail' size' given'
command_served before after start k left taken taken' tail tail' size size' given given' c told s found d g past same = record {
  events = s.events ++ d.events;
  input = s.input;
  told = s.told ++ told.reply ∷ [];
  stands_for = d.history (with_events start.history s.events) s.stands_for;
  lanes = of_both k s.events d.events s.lanes d.lanes;
  leads = subst (λ (t : Tail). Leads (begin s.input) (s.events ++ d.events) (position s.input t.bytes (s.told ++ told.reply ∷ []))) (sym past)
      (subst (λ p. Leads (begin s.input) (s.events ++ d.events) p) (on_spent s.input (advanced tail).bytes s.told told g.ended)
      (led_on before after start k left taken tail size given c told s found d));
  size_is = s.size_is ∙ sym same;
  held = ap (λ (t : Tail). t.offset + length t.bytes) past ∙ found.rest ∙ s.held ∙ sym same;
  took = s.took;
  gave = gave_more start.taken taken taken' given given' s.told told.reply true s.gave g.gave;
}

-- or it is the lane's last
ends_so : (e : Ending) (p : Position) → p.task ≡ None → IsEndedBy p.is_spent (Some e) → EndsSo e p (next_at p)
ends_so endings.NoMemory p off by = (second_true p.is_unheld p.is_spent by, off)
ends_so endings.SinkFault p off by = tt
ends_so endings.Clean p off by = absurd by
ends_so (endings.Broken place) p off by = absurd by
ends_so endings.SourceFault p off by = absurd by
ends_so endings.SourceTooLong p off by = absurd by

-- one of the two endings of want of memory and of a sink
IsShortEnding : Ending → Type 0
IsShortEnding endings.NoMemory = Unit {0}
IsShortEnding endings.SinkFault = Unit {0}
IsShortEnding e = ⊥

ended_one : (e : Ending) (is_last : Bool) → IsEndedBy is_last (Some e) → IsShortEnding e
unfolding IsShortEnding
ended_one endings.NoMemory is_last by = tt
ended_one endings.SinkFault is_last by = tt
ended_one endings.Clean is_last by = absurd by
ended_one (endings.Broken place) is_last by = absurd by
ended_one endings.SourceFault is_last by = absurd by
ended_one endings.SourceTooLong is_last by = absurd by

record IsQuiet (e : Ending) (p : Position) (left left' : Option (List ℕ)) (input : List ℕ) (vs : List Event) : Type 0 where
  pub says : HasWords e p None
  pub took : Took e left left' input
  pub out : ReadsOut e input vs [] left'

quiet : (e : Ending) (p : Position) (left left' : Option (List ℕ)) (input : List ℕ) (vs : List Event) → IsShortEnding e → TakesFrom left left' input → IsQuiet e p left left' input vs
unfolding IsShortEnding
quiet endings.NoMemory p left left' input vs h took = record { says = no_words endings.NoMemory p refl; took = took; out = tt }
quiet endings.SinkFault p left left' input vs h took = record { says = refl; took = took; out = tt }
quiet endings.Clean p left left' input vs h took = absurd h
quiet (endings.Broken place) p left left' input vs h took = absurd h
quiet endings.SourceFault p left left' input vs h took = absurd h
quiet endings.SourceTooLong p left left' input vs h took = absurd h

pub command_stops : (before after : History → Type 0) (start : Start) (k : ℕ) (left taken taken' : Option (List ℕ)) (tail : Tail) (size size' given given' : ℕ) (c : Command) (told : Told) (e : Ending)
    → HasServed before start k left taken tail size given → IsCommandAhead tail c → Does before after k (command_next c) told → Gives told taken taken' given given' (Some e)
    → size' ≡ size
    → HasStopped after start k left taken' size' given' e None
unfolding behind
command_stops before after start k left taken taken' tail size size' given given' c told e s found d g same =
    let p = behind s.input (advanced tail).bytes s.told told in
    let calm = quiet e p start.left left s.input (s.events ++ d.events) (ended_one e told.last g.ended) s.took in
    record {
      events = s.events ++ d.events;
      input = s.input;
      last = p;
      stands_for = d.history (with_events start.history s.events) s.stands_for;
      lanes = of_both k s.events d.events s.lanes d.lanes;
      runs = λ f vs more. leads_runs f (s.events ++ d.events) vs (begin s.input) p more refl (led_on before after start k left taken tail size given c told s found d);
      on = refl;
      off = refl;
      size_is = s.size_is ∙ sym same;
      took = calm.took;
      gave = gave_more start.taken taken taken' given given' s.told told.reply (gave_all e) s.gave g.gave;
      so = ends_so e p refl g.ended;
      says = calm.says;
      read_out = calm.out;
      comes = leads_to false endings.SinkFault (s.events ++ d.events) (begin s.input) p (led_on before after start k left taken tail size given c told s found d);
      all_but_one = gave_but_one e (s.told ++ told.reply ∷ []) given' (given_but_one start.taken taken taken' given given' s.told told.reply (frame (reply_text told.reply)) (gave_all e) s.gave g.gave);
    }

-- ---- want of memory

record IsHeardShort (p q : Position) (r : Reply) : Type 0 where
  pub on : q.is_over ≡ p.is_over
  pub off : q.task ≡ None
  pub told : q.told ≡ p.told ++ r ∷ []

over_told : (p : Position) (left : List ℕ) (job : Job) (r : Reply) (b : Bool) → job ≡ over r → IsHeardShort p (at_job p left job b) r
over_told p left job r b is =
    let h = ap (λ j. at_job p left j b) is ∙ at_job_over p left r b in
    record { on = ap (λ (q : Position). q.is_over) h; off = ap (λ (q : Position). q.task) h; told = ap (λ (q : Position). q.told) h }

-- it was heard as a reply with this left of the input
told_short : (p q : Position) (left : List ℕ) (r : Reply) (b : Bool) → q ≡ record p { left = left; task = None; is_unheld = false; is_spent = b; told = p.told ++ r ∷ [] }
    → IsHeardShort p q r
told_short p q left r b h =
    record { on = ap (λ (x : Position). x.is_over) h; off = ap (λ (x : Position). x.task) h; told = ap (λ (x : Position). x.told) h }

-- the job that a command begins ends by want of memory
abbrev FirstNext : Next → Type 0
FirstNext (job_step j left) = take j (Refused NoMemory) ≡ over (Refused NoMemory)
FirstNext n = Unit {0}

command_first : (c : Command) (left : List ℕ) → FirstNext (command_next c left)
unfolding command_next take prune.grouped verify.opened
command_first (commands.Prune group keep dry) left = refl
command_first (commands.Verify snapshot) left = refl
command_first c left = tt

front_first : (n : ℕ) (f : InputFront) → FirstNext (front_next n f)
unfolding front_next
front_first n inputs.nothing = tt
front_first n (inputs.next c left) = command_first c left
front_first n (inputs.over_limit m) = tt
front_first n inputs.no_command = tt

other_kind : (n : ℕ) → n ≡ 2 → (n == 1) ≡ false
other_kind n two = ap (λ m. m == 1) two

heard_short : (p : Position) (a : Answer) (r : Reply) → p.task ≡ None → Goes (next_at p) → a.reply ≡ Some r → r ≡ Refused NoMemory → (a.entry).kind ≡ MEMORY_KIND → IsHeardShort p (heard p a) r
heard_short p a r off goes says want two =
    let n = front_next (p.size - length p.left) (front p.left) in
    let is = next_is p (front p.left) off refl in
    by_next n is (subst Goes is goes) (front_first (p.size - length p.left) (front p.left)) (ap open_at (sym is) ∙ open_is p ∙ ap sweep_in off)
  where
    by_next : (n : Next) → next_at p ≡ ahead n → Goes (ahead n) → FirstNext n → open_at (ahead n) ≡ None → IsHeardShort p (heard p a) r
    by_next (plain c left) is g first shut = told_short p (heard p a) left r (a.last || p.is_spent) (heard_plain p c left a r is says)
    by_next (sync group left) is g first shut = told_short p (heard p a) left r (a.last || p.is_spent) (heard_refused p group left a r is says (other_kind (a.entry).kind two))
    by_next (collect left) is g first shut = told_short p (heard p a) left r (a.last || p.is_spent) (heard_gc p left a r is says)
    by_next (job_step j left) is g first shut =
        subst (λ q. IsHeardShort p q r) (sym (heard_job p j left a r is says))
        (over_told p left (take j r) r (a.last || p.is_spent) (ap (take j) want ∙ first ∙ ap over (sym want)))
    by_next (broken refusal) is g first shut = told_short p (heard p a) [] r true (heard_broken p refusal a r is says two)
    by_next (collecting b) is g first shut = cc
    by_next bye is g first shut = absurd g
    by_next end is g first shut = absurd g

short_so : (e : Ending) (o : Option Ending) (q : Position) (is_last : Bool) → e ≡ short_ending o → IsEndedBy is_last o → q.is_unheld ≡ true → q.task ≡ None → EndsSo e q (next_at q)
short_so e None q is_last is by short_is off = subst (λ x. EndsSo x q (next_at q)) (sym is) (first_true q.is_unheld q.is_spent short_is, off)
short_so e (Some endings.NoMemory) q is_last is by short_is off = subst (λ x. EndsSo x q (next_at q)) (sym is) (first_true q.is_unheld q.is_spent short_is, off)
short_so e (Some endings.SinkFault) q is_last is by short_is off = subst (λ x. EndsSo x q (next_at q)) (sym is) tt
short_so e (Some endings.Clean) q is_last is by short_is off = absurd by
short_so e (Some (endings.Broken place)) q is_last is by short_is off = absurd by
short_so e (Some endings.SourceFault) q is_last is by short_is off = absurd by
short_so e (Some endings.SourceTooLong) q is_last is by short_is off = absurd by

short_one : (e : Ending) (o : Option Ending) (is_last : Bool) → e ≡ short_ending o → IsEndedBy is_last o → IsShortEnding e × (gave_all e ≡ went_on o)
unfolding IsShortEnding
short_one e None is_last is by = subst (λ x. IsShortEnding x × (gave_all x ≡ true)) (sym is) (tt, refl)
short_one e (Some f) is_last is by = subst (λ x. IsShortEnding x × (gave_all x ≡ gave_all f)) (sym is) (ended_one f is_last by, refl)

-- where memory is wanting, with this more of the input that wasn't held
pub short_stops : (before after : History → Type 0) (start : Start) (k : ℕ) (left left' taken taken' : Option (List ℕ)) (tail : Tail) (size size' given given' : ℕ) (piece : List ℕ) (e : Ending)
    → HasServed before start k left taken tail size given → AnswersShort before after k taken taken' given given' e
    → may_want (tail.bytes ++ piece) ≡ true → TakesFrom left left' piece → size' ≡ size + length piece
    → HasStopped after start k left' taken' size' given' e None
short_stops before after start k left left' taken taken' tail size size' given given' piece e s answers wants took more =
    let d = answers.did in
    let g = answers.gives in
    let r = (answers.told).reply in
    let input = s.input ++ piece in
    let p = position input (tail.bytes ++ piece) s.told in
    let v = d.event in
    let q = unheld true (heard p v.answer) in
    let all = taken_on start.left left left' s.input piece s.took took in
    let h = heard_short p v.answer r refl (want_goes p tt (wants_frame p refl wants)) d.tells ((answers.tells).want (inl refl)) (d.kind_is (inl refl)) in
    let one = short_one e answers.stop (answers.told).last answers.ending_is g.ended in
    let calm = quiet e q start.left left' input (s.events ++ v ∷ []) one.0 all in
    record {
      events = s.events ++ v ∷ [];
      input = input;
      last = q;
      stands_for = d.history (with_events start.history s.events) s.stands_for;
      lanes = of_more k s.events v s.lanes d.lane_is;
      runs = λ f vs told runs. subst (λ es. Runs f (begin input) es told) (sym (append_assoc s.events (v ∷ []) vs))
          (leads_runs f s.events (v ∷ vs) (begin input) p told refl (leads_further s.input tail.bytes piece s.told s.events s.leads)
          (short_runs f p v vs told refl refl refl wants d.asks (d.kind_is (inl refl)) runs));
      on = h.on;
      off = h.off;
      size_is = omega (arith, length-append s.input piece, s.size_is, more);
      took = calm.took;
      gave = subst (λ ts. WritesCounted start.taken taken' 0 given' (text ts) (gave_all e)) (sym h.told)
          (subst (λ b. WritesCounted start.taken taken' 0 given' (text (s.told ++ r ∷ [])) b) (sym one.1)
          (gave_more start.taken taken taken' given given' s.told r (went_on answers.stop) s.gave g.gave));
      so = short_so e answers.stop q (answers.told).last answers.ending_is g.ended refl h.off;
      says = calm.says;
      read_out = calm.out;
      comes =
          let led = leads_to false endings.SinkFault s.events (begin input) p (leads_further s.input tail.bytes piece s.told s.events s.leads) in
          (true, leads_then_one endings.SinkFault s.events v (begin input) (unheld led.0 p) led.1 ∙ wanted_after endings.SinkFault led.0 p v d.asks (d.kind_is (inl refl)) refl);
      all_but_one = subst (λ ts. GaveSo e ts given') (sym h.told)
          (gave_but_one e (s.told ++ r ∷ []) given' (given_but_one start.taken taken taken' given given' s.told r (frame (reply_text r)) (went_on answers.stop) s.gave g.gave));
    }

-- ---- the same by what the code has

-- for a frame that is held
pub short_here : (before after : History → Type 0) (start : Start) (k : ℕ) (left taken taken' : Option (List ℕ)) (tail : Tail) (size given given' : ℕ) (e : Ending)
    → HasServed before start k left taken tail size given → AnswersShort before after k taken taken' given given' e
    → may_want tail.bytes ≡ true → HasStopped after start k left taken' size given' e None
short_here before after start k left taken taken' tail size given given' e s answers wants =
    short_stops before after start k left left taken taken' tail size size given given' [] e s answers
    (ap may_want (append-nil tail.bytes) ∙ wants) (nothing_taken left) (omega arith)

-- for a piece that could not be held
pub short_piece : (before after : History → Type 0) (start : Start) (k : ℕ) (left left' taken taken' : Option (List ℕ)) (old new : Input) (given given' : ℕ) (e : Ending)
    → HasServed before start k left taken old.cutter old.taken given → AnswersShort before after k taken taken' given given' e
    → cut (old.cutter).bytes ≡ short → TakesInVain left left' old new
    → HasStopped after start k left' taken' new.taken given' e None
short_piece before after start k left left' taken taken' old new given given' e s answers part vain =
    short_stops before after start k left left' taken taken' old.cutter old.taken new.taken given given' vain.piece e s answers
    (part_wants (old.cutter).bytes vain.piece (vain.known s.held) part) vain.took (vain.drops).taken

-- as the last of a lane
pub as_last : (stands : History → Type 0) (start : Start) (k : ℕ) (left taken : Option (List ℕ)) (size given : ℕ) (last : Last) (e : Ending) (words : Option Reply)
    → last ≡ record { ending = e; words = words } → HasStopped stands start k left taken size given e words → HasStopped stands start k left taken size given last.ending last.words
as_last stands start k left taken size given last e words is s =
    subst (λ (l : Last). HasStopped stands start k left taken size given l.ending l.words) (sym is) s

-- as a turn's
pub as_going : (stands : History → Type 0) (start : Start) (k : ℕ) (left taken : Option (List ℕ)) (input : Input) (given : ℕ) (outcome : Option Last)
    → outcome ≡ None → HasServed stands start k left taken input.cutter input.taken given → HasDone stands start k left taken input given outcome
as_going stands start k left taken input given outcome is s = subst (λ o. HasDone stands start k left taken input given o) (sym is) s

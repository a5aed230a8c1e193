-- What a lane did stays as it is while more of its input comes, and goes on to a run of its program.
use Rattle.std.proofs.Common.{◌≡◌, ℕ, ◌+◌, ◌-◌, ◌≤◌, Bool, true, false, ◌&&◌, ◌||◌, List, [], ◌∷◌, ◌++◌, length, take, Option, Some, None, refl, sym, ap, subst, ◌∙◌, arith, if◌then◌else◌, ◌==◌, nat_le}
use Rattle.std.specs.Int.{w32, from_le_bytes}
use Rattle.std.proofs.lemmas.List.{take-append-le, length-append}
use Rattle.std.proofs.lemmas.Bool.{eqb-true}
use Rattle.std.proofs.lemmas.Bool.Decides.{nat_tests}
use Rattle.wire_frames.specs.Frames.{Front, short, too_long, whole, cut}
use Rattle.wire_frames.proofs.FramesLemmas.{cut-append_whole}
use Rattle.wire_commands.specs.declared.command.Command.{Command}
use Rattle.wire_commands.specs.declared.command.Command.TheVariants as commands
use Rattle.wire_commands.specs.declared.reply.Reply.{Reply}
use Rattle.wire_commands.specs.CommandText.{command_of}
use Rattle.wire_commands.specs.Inputs.{InputFront, nothing, next, over_limit, no_command, front, cut_front, body_front}
use Rattle.store_model.specs.declared.ending.Ending.{Ending}
use Rattle.store_model.specs.Job.{Job, over, asking}
use Rattle.store_model.specs.Jobs.{take as job_take}
use Rattle.store_model.specs.Lanes.{Next, job_step, plain, sync, collect, collecting, bye, broken, end, front_next, command_next}
use Rattle.store_history.specs.declared.act.Answer.{Answer}
use Rattle.store_history.specs.declared.act.Event.{Event}
use Rattle.store_history.specs.Acts.{Class, stepping, reaching, starting, sweeping, wanting, ending, class_of}
use Rattle.store_history.specs.LaneRun.{Task, steps, pulls, sweeps, Ahead, ahead, pull, pull_ahead, ahead_by, Position, next_at, tells, wants_by, heard_at, heard, goes_on, pulls_on, used_up, position_after, Asks, may_want, may_want_at, Does, Runs}
use Rattle.store_history.specs.Pulling as model
use Rattle.store_history.specs.Pulling.{Pulling, comparing, SyncJob, sought, take as pull_take}
use Rattle.store_history.specs.SoFar.{goes_further, Follows, Leads, grown}
use Rattle.store_history.proofs.Unheld.{flagged, follows_runs}

-- ---- a command stays at the front

pub front_more : (bytes more : List ℕ) (c : Command) (rest : List ℕ) → front bytes ≡ next c rest → front (bytes ++ more) ≡ next c (rest ++ more)
unfolding front
front_more [] more c rest h = cc
front_more (b ∷ bytes) more c rest h = by_cut (cut (b ∷ bytes)) refl h
  where
    by_command : (o : Option Command) (tail : List ℕ) → body_front o tail ≡ next c rest → body_front o (tail ++ more) ≡ next c (rest ++ more)
    by_command None tail h = cc
    by_command (Some d) tail h = cc

    by_cut : (f : Front) → cut (b ∷ bytes) ≡ f → cut_front f ≡ next c rest → cut_front (cut (b ∷ bytes ++ more)) ≡ next c (rest ++ more)
    by_cut short is h = cc
    by_cut (too_long n) is h = cc
    by_cut (whole body tail) is h = ap cut_front (cut-append_whole (b ∷ bytes) more body tail is) ∙ by_command (command_of body) tail h

-- ---- what is next stays next

pub next_grown : List ℕ → Ahead → Ahead
next_grown more (ahead (job_step j left)) = ahead (job_step j (left ++ more))
next_grown more (ahead (plain c left)) = ahead (plain c (left ++ more))
next_grown more (ahead (sync group left)) = ahead (sync group (left ++ more))
next_grown more (ahead (collect left)) = ahead (collect (left ++ more))
next_grown more (pull x left) = pull x (left ++ more)
next_grown more n = n

command_grown : (more : List ℕ) (c : Command) (left : List ℕ) → ahead (command_next c (left ++ more)) ≡ next_grown more (ahead (command_next c left))
unfolding command_next next_grown
command_grown more commands.Bye left = refl
command_grown more c left = refl

front_stays : (more bytes : List ℕ) (m n : ℕ) → goes_further (ahead (front_next n (front bytes))) ≡ true
    → ahead (front_next m (front (bytes ++ more))) ≡ next_grown more (ahead (front_next n (front bytes)))
unfolding front_next
front_stays more bytes m n h = by_front (front bytes) refl h
  where
    by_front : (f : InputFront) → front bytes ≡ f → goes_further (ahead (front_next n f)) ≡ true → ahead (front_next m (front (bytes ++ more))) ≡ next_grown more (ahead (front_next n f))
    by_front nothing is h = cc
    by_front (next c rest) is h = ap (λ f. ahead (front_next m f)) (front_more bytes more c rest is) ∙ command_grown more c rest
    by_front (over_limit k) is h = cc
    by_front no_command is h = cc

next_in : Ahead → Next
next_in (ahead n) = n
next_in a = end

-- what an open SYNC asks, also where its command is next still
pull_stays : (more left : List ℕ) (x : Pulling) (y z : Next) → (goes_further (ahead y) ≡ true → ahead z ≡ next_grown more (ahead y)) → goes_further (pull_ahead x left y) ≡ true
    → pull_ahead x (left ++ more) z ≡ next_grown more (pull_ahead x left y)
unfolding next_grown next_in
pull_stays more left (comparing group remote) (sync name behind) z stays h = ap (λ n. pull_ahead (comparing group remote) (left ++ more) (next_in n)) (stays refl)
pull_stays more left (comparing group remote) y z stays h = cc
pull_stays more left x y z stays h = refl

pub next_stays : (more : List ℕ) (p : Position) → goes_further (next_at p) ≡ true → next_at (grown more p) ≡ next_grown more (next_at p)
unfolding next_at next_grown
next_stays more p h = by_task p.task h
  where
    m : ℕ
    m = p.size + length more - length (p.left ++ more)

    n : ℕ
    n = p.size - length p.left

    by_task : (t : Option Task) → goes_further (ahead_by t n p.left) ≡ true → ahead_by t m (p.left ++ more) ≡ next_grown more (ahead_by t n p.left)
    by_task None h = front_stays more p.left m n h
    by_task (Some (steps j)) h = refl
    by_task (Some (pulls x)) h = pull_stays more p.left x (front_next n (front p.left)) (front_next m (front (p.left ++ more))) (front_stays more p.left m n) h
    by_task (Some (sweeps b)) h = refl

-- ---- and so does what is heard

job_grown : (more : List ℕ) (p : Position) (left : List ℕ) (j : Job) → goes_on (grown more p) (left ++ more) j ≡ grown more (goes_on p left j)
unfolding goes_on
job_grown more p left (over report) = refl
job_grown more p left (asking j) = refl

pulls_grown : (more : List ℕ) (p : Position) (left : List ℕ) (j : SyncJob) → pulls_on (grown more p) (left ++ more) j ≡ grown more (pulls_on p left j)
unfolding pulls_on
pulls_grown more p left (model.reports report) = refl
pulls_grown more p left (model.asks x) = refl

heard_at_grown : (more : List ℕ) (p : Position) (n : ℕ) (r : Option Reply) (x : Ahead) → goes_further x ≡ true
    → heard_at (grown more p) n r (next_grown more x) ≡ grown more (heard_at p n r x)
unfolding heard_at next_grown
heard_at_grown more p n (Some r) (ahead (job_step j left)) h = job_grown more p left (job_take j r)
heard_at_grown more p n None (ahead (job_step j left)) h = refl
heard_at_grown more p n (Some r) (ahead (plain c left)) h = refl
heard_at_grown more p n None (ahead (plain c left)) h = refl
heard_at_grown more p n (Some r) (ahead (sync group left)) h = by_kind (n == 1)
  where
    by_kind : (b : Bool) → (if b then pulls_on (grown more p) (p.left ++ more) (sought group r) else tells (grown more p) (left ++ more) r)
        ≡ grown more (if b then pulls_on p p.left (sought group r) else tells p left r)
    by_kind true = pulls_grown more p p.left (sought group r)
    by_kind false = refl
heard_at_grown more p n None (ahead (sync group left)) h = refl
heard_at_grown more p n (Some r) (ahead (collect left)) h = refl
heard_at_grown more p n None (ahead (collect left)) h = by_kind (n == 3)
  where
    by_kind : (b : Bool) → (if b then record (grown more p) { left = left ++ more; task = Some (sweeps false) } else grown more p)
        ≡ grown more (if b then record p { left = left; task = Some (sweeps false) } else p)
    by_kind true = refl
    by_kind false = refl
heard_at_grown more p n (Some r) (ahead (collecting is_out_of_memory)) h = by_kind (n == 2)
  where
    by_kind : (b : Bool)
        → (if b then record (grown more p) { task = Some (sweeps true) } else tells (grown more p) (p.left ++ more) r)
        ≡ grown more (if b then record p { task = Some (sweeps true) } else tells p p.left r)
    by_kind true = refl
    by_kind false = refl
heard_at_grown more p n None (ahead (collecting is_out_of_memory)) h = refl
heard_at_grown more p n (Some r) (pull x left) h = pulls_grown more p left (pull_take x r)
heard_at_grown more p n None (pull x left) h = refl
heard_at_grown more p n r (ahead bye) h = cc
heard_at_grown more p n r (ahead (broken refusal)) h = cc
heard_at_grown more p n r (ahead end) h = cc

heard_stays : (more : List ℕ) (p : Position) (a : Answer) → goes_further (next_at p) ≡ true → heard (grown more p) a ≡ grown more (heard p a)
unfolding heard
heard_stays more p a h =
    ap (λ x. flagged a (heard_at (grown more p) (a.entry).kind a.reply x)) (next_stays more p h) ∙ ap (flagged a) (heard_at_grown more p (a.entry).kind a.reply (next_at p) h)

asks_grown : (more : List ℕ) (x : Ahead) (v : Event) → Asks x v.act → Asks (next_grown more x) v.act
unfolding next_grown
asks_grown more (ahead (job_step j left)) v h = h
asks_grown more (ahead (plain c left)) v h = h
asks_grown more (ahead (sync group left)) v h = h
asks_grown more (ahead (collect left)) v h = h
asks_grown more (ahead (collecting is_out_of_memory)) v h = h
asks_grown more (pull x left) v h = h
asks_grown more (ahead bye) v h = h
asks_grown more (ahead (broken refusal)) v h = h
asks_grown more (ahead end) v h = h

pub asks_further : (x : Ahead) (v : Event) → Asks x v.act → goes_further x ≡ true
asks_further (ahead (job_step j left)) v h = refl
asks_further (ahead (plain c left)) v h = refl
asks_further (ahead (sync group left)) v h = refl
asks_further (ahead (collect left)) v h = refl
asks_further (ahead (collecting is_out_of_memory)) v h = refl
asks_further (pull x left) v h = refl
asks_further (ahead bye) v h = absurd h
asks_further (ahead (broken refusal)) v h = absurd h
asks_further (ahead end) v h = absurd h

further_grown : (more : List ℕ) (x : Ahead) → goes_further (next_grown more x) ≡ goes_further x
unfolding next_grown
further_grown more (ahead (job_step j left)) = refl
further_grown more (ahead (plain c left)) = refl
further_grown more (ahead (sync group left)) = refl
further_grown more (ahead (collect left)) = refl
further_grown more (ahead (collecting is_out_of_memory)) = refl
further_grown more (pull x left) = refl
further_grown more (ahead bye) = refl
further_grown more (ahead (broken refusal)) = refl
further_grown more (ahead end) = refl

asks_at_grown : (more : List ℕ) (p : Position) (v : Event) → Asks (next_at p) v.act → Asks (next_at (grown more p)) v.act
asks_at_grown more p v h = subst (λ x. Asks x v.act) (sym (next_stays more p (asks_further (next_at p) v h))) (asks_grown more (next_at p) v h)

is_further : (c : Class) (p : Position) (v : Event) → Follows c p v → goes_further (next_at p) ≡ true
is_further stepping p v h = asks_further (next_at p) v h.1
is_further reaching p v h = asks_further (next_at p) v h.1
is_further starting p v h = asks_further (next_at p) v h.1
is_further sweeping p v h = asks_further (next_at p) v h
is_further wanting p v h = h.2
is_further ending p v h = absurd h

want_grown : (more left : List ℕ) → may_want left ≡ true → may_want (left ++ more) ≡ true
unfolding may_want
want_grown more left h = by_test (nat_le 4 (length left)) refl h
  where
    by_test : (t : Bool) → nat_le 4 (length left) ≡ t → (t && nat_le 2 (from_le_bytes w32 (take 4 left))) ≡ true
        → (nat_le 4 (length (left ++ more)) && nat_le 2 (from_le_bytes w32 (take 4 (left ++ more)))) ≡ true
    by_test false is h = cc
    by_test true is h =
        let le : 4 ≤ length left = grind (arith, nat_tests) in
        let longer : nat_le 4 (length (left ++ more)) ≡ true = let l : 4 ≤ length (left ++ more) = omega (arith, length-append left more) in grind (arith, nat_tests) in
        ap (λ t. t && nat_le 2 (from_le_bytes w32 (take 4 (left ++ more)))) longer
        ∙ ap (λ xs. nat_le 2 (from_le_bytes w32 xs)) (take-append-le 4 left more le) ∙ h

want_at_grown : (more : List ℕ) (p : Position) → may_want_at p ≡ true → may_want_at (grown more p) ≡ true
want_at_grown more p h = by_task p.task h
  where
    by_task : (t : Option Task) → wants_by t p.left ≡ true → wants_by t (p.left ++ more) ≡ true
    by_task None h = want_grown more p.left h
    by_task (Some (steps j)) h = h
    by_task (Some (pulls x)) h = h
    by_task (Some (sweeps b)) h = h

follows_grown : (c : Class) (more : List ℕ) (p : Position) (v : Event) → Follows c p v → Follows c (grown more p) v
follows_grown stepping more p v h = (h.0, asks_at_grown more p v h.1)
follows_grown reaching more p v h = (h.0, asks_at_grown more p v h.1)
follows_grown starting more p v h = (h.0, asks_at_grown more p v h.1)
follows_grown sweeping more p v h = asks_at_grown more p v h
follows_grown wanting more p v h = (h.0, want_at_grown more p h.1, ap goes_further (next_stays more p h.2) ∙ further_grown more (next_at p) ∙ h.2)
follows_grown ending more p v h = h

-- what was done so far, where more of the input was taken
pub leads_grown : (more : List ℕ) (vs : List Event) (p q : Position) → Leads p vs q → Leads (grown more p) vs (grown more q)
leads_grown more [] p q h = ap (grown more) h
leads_grown more (v ∷ vs) p q h = (
  follows_grown (class_of v.act) more p v h.0,
  subst (λ x. Leads x vs (grown more q)) (sym (heard_stays more p v.answer (is_further (class_of v.act) p v h.0)))
      (leads_grown more vs (heard p v.answer) q h.1),
)

-- one more event
pub leads_more : (vs : List Event) (p q : Position) (v : Event) → Leads p vs q → Follows (class_of v.act) q v → Leads p (vs ++ v ∷ []) (heard q v.answer)
leads_more [] p q v h f = (subst (λ x. Follows (class_of v.act) x v) (sym h) f, ap (λ x. heard x v.answer) h)
leads_more (u ∷ vs) p q v h f = (h.0, leads_more vs (heard p u.answer) q v h.1 f)

-- ---- and leads to a run

goes_on_over : (p : Position) (left : List ℕ) (j : Job) → (goes_on p left j).is_over ≡ p.is_over
unfolding goes_on
goes_on_over p left (over report) = refl
goes_on_over p left (asking j) = refl

pulls_on_over : (p : Position) (left : List ℕ) (j : SyncJob) → (pulls_on p left j).is_over ≡ p.is_over
unfolding pulls_on
pulls_on_over p left (model.reports report) = refl
pulls_on_over p left (model.asks x) = refl

pub pulls_on_spent : (p : Position) (left : List ℕ) (j : SyncJob) → (pulls_on p left j).is_spent ≡ p.is_spent
unfolding pulls_on
pulls_on_spent p left (model.reports report) = refl
pulls_on_spent p left (model.asks x) = refl

pub goes_on_spent : (p : Position) (left : List ℕ) (j : Job) → (goes_on p left j).is_spent ≡ p.is_spent
unfolding goes_on
goes_on_spent p left (over report) = refl
goes_on_spent p left (asking j) = refl

-- no answer but that of an end makes it over
pub heard_at_over : (p : Position) (n : ℕ) (r : Option Reply) (x : Ahead) → (heard_at p n r x).is_over ≡ p.is_over
unfolding heard_at
heard_at_over p n (Some r) (ahead (job_step j left)) = goes_on_over p left (job_take j r)
heard_at_over p n (Some r) (ahead (plain c left)) = refl
heard_at_over p n (Some r) (ahead (sync group left)) = by_kind (n == 1)
  where
    by_kind : (b : Bool) → (if b then pulls_on p p.left (sought group r) else tells p left r).is_over ≡ p.is_over
    by_kind true = pulls_on_over p p.left (sought group r)
    by_kind false = refl
heard_at_over p n (Some r) (ahead (collect left)) = refl
heard_at_over p n (Some r) (ahead (collecting is_out_of_memory)) = by_kind (n == 2)
  where
    by_kind : (b : Bool) → (if b then record p { task = Some (sweeps true) } else tells p p.left r).is_over ≡ p.is_over
    by_kind true = refl
    by_kind false = refl
heard_at_over p n (Some r) (ahead (broken refusal)) = by_kind (n == 2)
  where
    by_kind : (b : Bool) → (if b then used_up p r else p).is_over ≡ p.is_over
    by_kind true = refl
    by_kind false = refl
heard_at_over p n (Some r) (ahead bye) = refl
heard_at_over p n (Some r) (ahead end) = refl
heard_at_over p n None (ahead (job_step j left)) = refl
heard_at_over p n None (ahead (plain c left)) = refl
heard_at_over p n None (ahead (sync group left)) = refl
heard_at_over p n None (ahead (collect left)) = by_kind (n == 3)
  where
    by_kind : (b : Bool) → (if b then record p { left = left; task = Some (sweeps false) } else p).is_over ≡ p.is_over
    by_kind true = refl
    by_kind false = refl
heard_at_over p n None (ahead (collecting is_out_of_memory)) = refl
heard_at_over p n (Some r) (pull x left) = pulls_on_over p left (pull_take x r)
heard_at_over p n None (pull x left) = refl
heard_at_over p n None (ahead (broken refusal)) = refl
heard_at_over p n None (ahead bye) = refl
heard_at_over p n None (ahead end) = refl

-- none but want of memory for a frame is the last by what it tells
pub heard_at_spent : (p : Position) (n : ℕ) (r : Option Reply) (x : Ahead) → (n ≡ 2 → ⊥) → (heard_at p n r x).is_spent ≡ p.is_spent
unfolding heard_at
heard_at_spent p n (Some r) (ahead (job_step j left)) ne = goes_on_spent p left (job_take j r)
heard_at_spent p n (Some r) (ahead (plain c left)) ne = refl
heard_at_spent p n (Some r) (ahead (sync group left)) ne = by_kind (n == 1)
  where
    by_kind : (b : Bool) → (if b then pulls_on p p.left (sought group r) else tells p left r).is_spent ≡ p.is_spent
    by_kind true = pulls_on_spent p p.left (sought group r)
    by_kind false = refl
heard_at_spent p n (Some r) (ahead (collect left)) ne = refl
heard_at_spent p n (Some r) (ahead (collecting is_out_of_memory)) ne = by_kind (n == 2)
  where
    by_kind : (b : Bool) → (if b then record p { task = Some (sweeps true) } else tells p p.left r).is_spent ≡ p.is_spent
    by_kind true = refl
    by_kind false = refl
heard_at_spent p n (Some r) (ahead (broken refusal)) ne = by_kind (n == 2) refl
  where
    by_kind : (b : Bool) → (n == 2) ≡ b → (if b then used_up p r else p).is_spent ≡ p.is_spent
    by_kind true is = absurd (ne (eqb-true n 2 is))
    by_kind false is = refl
heard_at_spent p n (Some r) (ahead bye) ne = refl
heard_at_spent p n (Some r) (ahead end) ne = refl
heard_at_spent p n None (ahead (job_step j left)) ne = refl
heard_at_spent p n None (ahead (plain c left)) ne = refl
heard_at_spent p n None (ahead (sync group left)) ne = refl
heard_at_spent p n None (ahead (collect left)) ne = by_kind (n == 3)
  where
    by_kind : (b : Bool) → (if b then record p { left = left; task = Some (sweeps false) } else p).is_spent ≡ p.is_spent
    by_kind true = refl
    by_kind false = refl
heard_at_spent p n None (ahead (collecting is_out_of_memory)) ne = refl
heard_at_spent p n (Some r) (pull x left) ne = pulls_on_spent p left (pull_take x r)
heard_at_spent p n None (pull x left) ne = refl
heard_at_spent p n None (ahead (broken refusal)) ne = refl
heard_at_spent p n None (ahead bye) ne = refl
heard_at_spent p n None (ahead end) ne = refl

pub heard_over : (p : Position) (a : Answer) → (heard p a).is_over ≡ p.is_over
unfolding heard
heard_over p a = heard_at_over p (a.entry).kind a.reply (next_at p)

follows_does : (c : Class) (e : Ending) (p : Position) (v : Event) (vs : List Event) → Follows c p v → Does c e p v vs
follows_does stepping e p v vs h = h
follows_does reaching e p v vs h = h
follows_does starting e p v vs h = h
follows_does sweeping e p v vs h = h
follows_does wanting e p v vs h = (h.0, h.1)
follows_does ending e p v vs h = absurd h

-- what was done so far, and a run from there on, are a run
pub leads_runs : (e : Ending) (vs us : List Event) (p q : Position) (told : List Reply) → p.is_over ≡ false → Leads p vs q → Runs e q us told → Runs e p (vs ++ us) told
unfolding position_after
leads_runs e [] us p q told off h runs = subst (λ x. Runs e x us told) (sym h) runs
leads_runs e (v ∷ vs) us p q told off h runs = (
  off,
  follows_does (class_of v.act) e p v (vs ++ us) h.0,
  follows_runs (class_of v.act) e p v (vs ++ us) told h.0 (leads_runs e vs us (heard p v.answer) q told (heard_over p v.answer ∙ off) h.1 runs),
)

-- The last of a lane: its end, and the reply behind it.
use Rattle.std.proofs.Common.{◌≡◌, ◌≢◌, ℕ, Bool, true, false, if◌then◌else◌, List, [], ◌∷◌, ◌++◌, length, Option, Some, None, refl, sym, ap, subst, ◌∙◌, arith, append-nil, append_assoc, option_to_list, ◌⊎◌, inl, inr}
use Rattle.std.proofs.lemmas.List.{length-append}
use Rattle.store_types.specs.declared.order.TheConstants.{END_KIND}
use Rattle.port_traits.specs.Bytes.{TakesFrom, WritesCounted}
use Rattle.port_traits.proofs.BytesLemmas.{WritesCounted-stopped}
use Rattle.wire_frames.specs.Frames.{frame}
use Rattle.wire_commands.specs.declared.reply.Reply.{Reply}
use Rattle.wire_commands.specs.declared.reply.Reply.TheVariants.{Done, Refused}
use Rattle.wire_commands.specs.ReplyText.{reply_text}
use Rattle.store_model.specs.declared.ending.Ending.{Ending}
use Rattle.store_model.specs.declared.ending.Ending.TheVariants as endings
use Rattle.store_model.specs.Job.{Job, over, asking}
use Rattle.store_model.specs.Jobs.{take}
use Rattle.store_model.specs.Lanes.{job_step, plain, sync, collect, collecting, bye, broken}
use Rattle.store_model.specs.Weave.{is_replied}
use Rattle.store_history.specs.declared.act.Act.TheVariants as acts
use Rattle.store_history.specs.declared.act.Event.{Event}
use Rattle.store_history.specs.declared.act.Answer.{Answer}
use Rattle.store_history.specs.History.{reply}
use Rattle.store_history.specs.LaneRun.{Ahead, ahead, pull, Position, text, next_at, tells, goes_on, pulls_on, heard_at, last_words, end_faulted, EndsSo, IsShut, Runs}
use Rattle.store_history.specs.Pulling.{SyncJob, reports, asks, take as pull_take}
use Rattle.store_history.specs.Seats.{AreOf}
use Rattle.store_history.proofs.Ending.{end_runs, end_again_runs, faulted_same}
use Rattle.store_history.proofs.Longer.{of_more}
use Rattle.core_state.specs.History.{History, then_event, event_of}
use Rattle.core_state.specs.Answers.{EndIsTold}
use Rattle.shared_store.specs.Comes.{with_events}
use Rattle.lane.specs.AtOnce.{gave_all, AreEnds, EndsAtOnce, GaveAllButOne, HasEndedAtOnce}
use Rattle.lane.specs.Closing.{AreEndOf, EndsLane}
use Rattle.lane.specs.Progress.{Start, HasStopped, HasWords}
use Rattle.lane.specs.Ran.{Took, ReadsOut}
use Rattle.lane.specs.RanAlone.{RanAlone}
use Rattle.lane.proofs.AtOnce.{all_before}
use Rattle.lane.proofs.Turning.{gave_more, silent, no_words}

-- ---- what the end tells

when_told : (b : Bool) (p : Position) (r : Reply) → (more : List Reply) × ((if b then tells p [] r else p).told ≡ p.told ++ more)
when_told true p r = (r ∷ [], refl)
when_told false p r = ([], sym (append-nil p.told))

more_words : (e : Ending) (p : Position) (n : Ahead) → (more : List Reply) × ((last_words e p n).told ≡ p.told ++ more)
unfolding last_words
more_words e p (ahead bye) = when_told (is_replied e) p Done
more_words e p (ahead (broken r)) = when_told (is_replied e) p (Refused r)
more_words e p n = ([], sym (append-nil p.told))

more_told : (p : Position) (left : List ℕ) (job : Job) → (more : List Reply) × ((goes_on p left job).told ≡ p.told ++ more)
unfolding goes_on
more_told p left (over report) = (report ∷ [], refl)
more_told p left (asking j) = ([], sym (append-nil p.told))

more_pulled : (p : Position) (left : List ℕ) (job : SyncJob) → (more : List Reply) × ((pulls_on p left job).told ≡ p.told ++ more)
unfolding pulls_on
more_pulled p left (reports report) = (report ∷ [], refl)
more_pulled p left (asks x) = ([], sym (append-nil p.told))

more_heard : (p : Position) (o : Option Reply) (n : Ahead) → (more : List Reply) × ((heard_at p 5 o n).told ≡ p.told ++ more)
unfolding heard_at
more_heard p (Some r) (ahead (plain c left)) = (r ∷ [], refl)
more_heard p (Some r) (ahead (job_step j left)) = more_told p left (take j r)
more_heard p (Some r) (ahead (sync group left)) = (r ∷ [], refl)
more_heard p (Some r) (ahead (collect left)) = (r ∷ [], refl)
more_heard p (Some r) (ahead (collecting b)) = (r ∷ [], refl)
more_heard p (Some r) (pull x left) = more_pulled p left (pull_take x r)
more_heard p None (ahead (collect left)) = ([], sym (append-nil p.told))
more_heard p o n = ([], sym (append-nil p.told))

-- a run of the lane's end, and what it told
record IsEndRun (e : Ending) (p : Position) (vs : List Event) : Type 0 where
  pub told : List Reply
  pub runs : Runs e p vs told
  pub more : List Reply
  pub begins : told ≡ p.told ++ more

-- where the sink failed, something or nothing is told
sink_run : (k : ℕ) (p : Position) (vs : List Event) → p.is_over ≡ false → p.task ≡ None → AreEndOf k vs → IsEndRun endings.SinkFault p vs
sink_run k p [] on off ends = absurd ends
sink_run k p (v ∷ []) on off ends =
    let w = more_words endings.SinkFault p (next_at p) in
    record { told = (last_words endings.SinkFault p (next_at p)).told; runs = end_runs endings.SinkFault p v on (subst IsShut (sym off) tt) ends.asks ends.kind_is tt; more = w.0; begins = w.1 }
sink_run k p (v ∷ u ∷ []) on off ends =
    let q = end_faulted endings.SinkFault p (reply v) in
    let w = more_words endings.SinkFault q (next_at q) in
    let h = more_heard p (reply v) (next_at p) in
    record {
      told = (last_words endings.SinkFault q (next_at q)).told;
      runs = end_again_runs endings.SinkFault p v u off on (ends.0).asks (ends.0).kind_is (ends.1).asks (ends.1).kind_is tt;
      more = h.0 ++ w.0;
      begins = w.1 ∙ ap (λ ts. ts ++ w.0) h.1 ∙ append_assoc p.told h.0 w.0;
    }
sink_run k p (v ∷ u ∷ x ∷ vs) on off ends = absurd ends

-- else the last words are
told_run : (k : ℕ) (e : Ending) (p : Position) (vs : List Event) → e ≢ endings.SinkFault → p.is_over ≡ false → p.task ≡ None → EndsSo e p (next_at p) → AreEndOf k vs
    → Runs e p vs (last_words e p (next_at p)).told
told_run k e p [] ne on off so ends = absurd ends
told_run k e p (v ∷ []) ne on off so ends = end_runs e p v on (subst IsShut (sym off) tt) ends.asks ends.kind_is so
told_run k e p (v ∷ u ∷ []) ne on off so ends =
    subst (λ q. Runs e p (v ∷ u ∷ []) (last_words e q (next_at q)).told) (faulted_same e p (reply v) off ne so)
    (end_again_runs e p v u off on (ends.0).asks (ends.0).kind_is (ends.1).asks (ends.1).kind_is so)
told_run k e p (v ∷ u ∷ x ∷ vs) ne on off so ends = absurd ends

none_more : (told : List Reply) (w : Reply) → told ≡ told ++ w ∷ [] → ⊥
none_more told w h = omega (arith, ap length h, length-append told (w ∷ []))

-- the sink failed at the last words alone
same_words : (e f : Ending) (p : Position) (n : Ahead) → is_replied e ≡ is_replied f → last_words e p n ≡ last_words f p n
unfolding last_words
same_words e f p (ahead bye) h = ap (λ b. if b then tells p [] Done else p) h
same_words e f p (ahead (broken r)) h = ap (λ b. if b then tells p [] (Refused r) else p) h
same_words e f p n h = refl

sink_words : (e : Ending) (p : Position) (n : Ahead) (w : Reply) → (last_words e p n).told ≡ p.told ++ w ∷ [] → (last_words endings.SinkFault p n).told ≡ p.told ++ w ∷ []
sink_words e p n w h = by_word (is_replied e) refl
  where
    by_word : (b : Bool) → is_replied e ≡ b → (last_words endings.SinkFault p n).told ≡ p.told ++ w ∷ []
    by_word true is = ap (λ (q : Position). q.told) (sym (same_words e endings.SinkFault p n is)) ∙ h
    by_word false is = absurd (none_more p.told w (ap (λ (q : Position). q.told) (sym (silent e p n is)) ∙ h))

-- a fault of the disk at such an end changes nothing
faulted_words : (e : Ending) (p : Position) (o : Option Reply) (w : Reply) → p.task ≡ None → e ≢ endings.SinkFault → (last_words e p (next_at p)).told ≡ p.told ++ w ∷ []
    → EndsSo e p (next_at p) → end_faulted endings.SinkFault p o ≡ p
faulted_words endings.Clean p o w off ne says so = faulted_same endings.Clean p o off ne so
faulted_words (endings.Broken place) p o w off ne says so = faulted_same (endings.Broken place) p o off ne so
faulted_words endings.SinkFault p o w off ne says so = absurd (ne refl)
faulted_words endings.SourceFault p o w off ne says so = faulted_same endings.SourceFault p o off ne so
faulted_words endings.SourceTooLong p o w off ne says so = faulted_same endings.SourceTooLong p o off ne so
faulted_words endings.NoMemory p o w off ne says so = absurd (none_more p.told w (sym (no_words endings.NoMemory p refl ∙ append-nil p.told) ∙ says))

sink_told_run : (k : ℕ) (e : Ending) (p : Position) (vs : List Event) (w : Reply) → e ≢ endings.SinkFault → p.is_over ≡ false → p.task ≡ None → EndsSo e p (next_at p)
    → (last_words e p (next_at p)).told ≡ p.told ++ w ∷ [] → AreEndOf k vs → Runs endings.SinkFault p vs (p.told ++ w ∷ [])
sink_told_run k e p [] w ne on off so says ends = absurd ends
sink_told_run k e p (v ∷ []) w ne on off so says ends =
    subst (λ ts. Runs endings.SinkFault p (v ∷ []) ts) (sink_words e p (next_at p) w says) (end_runs endings.SinkFault p v on (subst IsShut (sym off) tt) ends.asks ends.kind_is tt)
sink_told_run k e p (v ∷ u ∷ []) w ne on off so says ends =
    subst (λ ts. Runs endings.SinkFault p (v ∷ u ∷ []) ts)
    (ap (λ q. (last_words endings.SinkFault q (next_at q)).told) (faulted_words e p (reply v) w off ne says so) ∙ sink_words e p (next_at p) w says)
    (end_again_runs endings.SinkFault p v u off on (ends.0).asks (ends.0).kind_is (ends.1).asks (ends.1).kind_is tt)
sink_told_run k e p (v ∷ u ∷ x ∷ vs) w ne on off so says ends = absurd ends

-- ---- the whole

of_ends : (k : ℕ) (es vs : List Event) → AreOf k es → AreEndOf k vs → AreOf k (es ++ vs)
of_ends k es [] are ends = absurd ends
of_ends k es (v ∷ []) are ends = of_more k es v are ends.lane_is
of_ends k es (v ∷ u ∷ []) are ends =
    subst (λ xs. AreOf k xs) (append_assoc es (v ∷ []) (u ∷ [])) (of_more k (es ++ v ∷ []) u (of_more k es v are (ends.0).lane_is) (ends.1).lane_is)
of_ends k es (v ∷ u ∷ x ∷ vs) are ends = absurd ends

are_ends : (k : ℕ) (vs : List Event) → AreEndOf k vs → AreEnds vs
are_ends k [] ends = tt
are_ends k (v ∷ []) ends = (ends.asks, tt)
are_ends k (v ∷ u ∷ []) ends = ((ends.0).asks, ((ends.1).asks, tt))
are_ends k (v ∷ u ∷ x ∷ vs) ends = absurd ends

read_before : (e : Ending) (input : List ℕ) (before vs : List Event) (left : Option (List ℕ)) → AreEnds vs → ReadsOut e input before [] left → ReadsOut e input before vs left
read_before endings.Clean input before vs left ends out = record { last = out.last; leads = out.leads; ended = ends; nothing = out.nothing }
read_before (endings.Broken place) input before vs left ends out = record { last = out.last; leads = out.leads; ended = ends; nothing = out.nothing }
read_before endings.SourceFault input before vs left ends out = tt
read_before endings.SourceTooLong input before vs left ends out = tt
read_before endings.SinkFault input before vs left ends out = tt
read_before endings.NoMemory input before vs left ends out = tt

text_append : (a b : List Reply) → text (a ++ b) ≡ text a ++ text b
unfolding text
text_append [] b = refl
text_append (x ∷ a) b = ap (λ xs. frame (reply_text x) ++ xs) (text_append a b) ∙ sym (append_assoc (frame (reply_text x)) (text a) (text b))

is_sink : (e : Ending) → (e ≡ endings.SinkFault) ⊎ (e ≢ endings.SinkFault)
is_sink endings.SinkFault = inl refl
is_sink endings.Clean = inr (λ h. cc)
is_sink (endings.Broken place) = inr (λ h. cc)
is_sink endings.SourceFault = inr (λ h. cc)
is_sink endings.SourceTooLong = inr (λ h. cc)
is_sink endings.NoMemory = inr (λ h. cc)

words_are : (e : Ending) (p : Position) (o : Option Reply) → e ≢ endings.SinkFault → HasWords e p o → (last_words e p (next_at p)).told ≡ p.told ++ option_to_list o
words_are endings.SinkFault p o ne h = absurd (ne refl)
words_are endings.Clean p o ne h = h
words_are (endings.Broken place) p o ne h = h
words_are endings.SourceFault p o ne h = h
words_are endings.SourceTooLong p o ne h = h
words_are endings.NoMemory p o ne h = h

not_sink : (e : Ending) (p : Position) (w : Reply) → HasWords e p (Some w) → e ≢ endings.SinkFault
not_sink endings.SinkFault p w h = cc
not_sink endings.Clean p w h = λ is. cc
not_sink (endings.Broken place) p w h = λ is. cc
not_sink endings.SourceFault p w h = λ is. cc
not_sink endings.SourceTooLong p w h = λ is. cc
not_sink endings.NoMemory p w h = λ is. cc

gives_all : (e : Ending) → e ≢ endings.SinkFault → gave_all e ≡ true
gives_all endings.SinkFault ne = absurd (ne refl)
gives_all endings.Clean ne = refl
gives_all (endings.Broken place) ne = refl
gives_all endings.SourceFault ne = refl
gives_all endings.SourceTooLong ne = refl
gives_all endings.NoMemory ne = refl

-- where a reply comes behind the end, the source did not fail
all_taken : (e : Ending) (p : Position) (w : Reply) (left left' : Option (List ℕ)) (input : List ℕ) → HasWords e p (Some w) → Took e left left' input → TakesFrom left left' input
all_taken endings.SourceFault p w left left' input h took = absurd (none_more p.told w (sym (no_words endings.SourceFault p refl ∙ append-nil p.told) ∙ h))
all_taken endings.SinkFault p w left left' input h took = took
all_taken endings.Clean p w left left' input h took = took
all_taken (endings.Broken place) p w left left' input h took = took
all_taken endings.SourceTooLong p w left left' input h took = took
all_taken endings.NoMemory p w left left' input h took = took

-- what is the same of each ending
record IsClosing (before after : History → Type 0) (start : Start) (k : ℕ) (left taken : Option (List ℕ)) (size given : ℕ) (e : Ending) (words : Option Reply) (s : HasStopped before start k left taken size given e words) : Type 0 where
  pub vs : List Event
  pub stands_for : after (with_events start.history (s.events ++ vs))
  pub ends : AreEndOf k vs

closing : (before after : History → Type 0) (start : Start) (k : ℕ) (left taken : Option (List ℕ)) (size given : ℕ) (e : Ending) (words : Option Reply)
    → EndsLane before after k → (s : HasStopped before start k left taken size given e words) → IsClosing before after start k left taken size given e words s
closing before after start k left taken size given e words ends s =
    let found = ends (with_events start.history s.events) s.stands_for in
    record { vs = found.0; stands_for = found.1.0; ends = found.1.1 }

-- nothing comes but the end
ended_at_once : (start : Start) (k : ℕ) (left taken : Option (List ℕ)) (size given : ℕ) (e : Ending) (words : Option Reply) (before : History → Type 0) (s : HasStopped before start k left taken size given e words) (given' : ℕ) (vs : List Event)
    → AreEndOf k vs → GaveAllButOne (s.last).told given' → HasEndedAtOnce s.input (s.events ++ vs) given'
ended_at_once start k left taken size given e words before s given' vs ends gave = record {
  before = s.events;
  ends = vs;
  split = refl;
  ended = are_ends k vs ends;
  last = record s.last { is_unheld = (s.comes).0 };
  leads = (s.comes).1;
  off = s.off;
  gave = gave;
}

not_at_once : (e : Ending) (input : List ℕ) (events : List Event) (given : ℕ) → e ≢ endings.SinkFault → EndsAtOnce e input events given
not_at_once endings.SinkFault input events given ne = absurd (ne refl)
not_at_once endings.Clean input events given ne = tt
not_at_once (endings.Broken place) input events given ne = tt
not_at_once endings.SourceFault input events given ne = tt
not_at_once endings.SourceTooLong input events given ne = tt
not_at_once endings.NoMemory input events given ne = tt

-- all that was told was given, and the ending is what it was to be
all_given : (before after : History → Type 0) (start : Start) (k : ℕ) (left taken taken' : Option (List ℕ)) (size given given' : ℕ) (e : Ending) (words : Option Reply)
    → EndsLane before after k → (s : HasStopped before start k left taken size given e words) → e ≢ endings.SinkFault
    → WritesCounted start.taken taken' 0 given' (text ((s.last).told ++ option_to_list words)) (gave_all e)
    → RanAlone after start.history k start.left left start.taken taken' (record { taken = size; given = given'; ending = e })
all_given before after start k left taken taken' size given given' e words ends s ne gave =
    let c = closing before after start k left taken size given e words ends s in
    let is = words_are e s.last words ne s.says in
    record {
      events = s.events ++ c.vs;
      input = s.input;
      told = (s.last).told ++ option_to_list words;
      stands_for = c.stands_for;
      lanes = of_ends k s.events c.vs s.lanes c.ends;
      ran = s.runs e c.vs ((s.last).told ++ option_to_list words) (subst (λ ts. Runs e s.last c.vs ts) is (told_run k e s.last c.vs ne s.on s.off s.so c.ends));
      size_is = s.size_is;
      took = s.took;
      gave = gave;
      read_out = record { before = s.events; ends = c.vs; split = refl; read = read_before e s.input s.events c.vs left (are_ends k c.vs c.ends) s.read_out };
      at_once = not_at_once e s.input (s.events ++ c.vs) given' ne;
    }

-- the sink had failed before
sink_failed : (before after : History → Type 0) (start : Start) (k : ℕ) (left taken : Option (List ℕ)) (size given : ℕ) (words : Option Reply)
    → EndsLane before after k → HasStopped before start k left taken size given endings.SinkFault words
    → RanAlone after start.history k start.left left start.taken taken (record { taken = size; given = given; ending = endings.SinkFault })
sink_failed before after start k left taken size given words ends s =
    let c = closing before after start k left taken size given endings.SinkFault words ends s in
    let r = sink_run k s.last c.vs s.on s.off c.ends in
    record {
      events = s.events ++ c.vs;
      input = s.input;
      told = r.told;
      stands_for = c.stands_for;
      lanes = of_ends k s.events c.vs s.lanes c.ends;
      ran = s.runs endings.SinkFault c.vs r.told r.runs;
      size_is = s.size_is;
      took = s.took;
      gave = subst (λ xs. WritesCounted start.taken taken 0 given xs false) (sym (ap text r.begins ∙ text_append (s.last).told r.more))
          (WritesCounted-stopped start.taken taken 0 given (text (s.last).told) (text r.more) s.gave);
      read_out = record { before = s.events; ends = c.vs; split = refl; read = tt };
      at_once = ended_at_once start k left taken size given endings.SinkFault words before s given c.vs c.ends s.all_but_one;
    }

-- no reply comes behind the end
quiet : (before after : History → Type 0) (start : Start) (k : ℕ) (left taken : Option (List ℕ)) (size given : ℕ) (e : Ending)
    → EndsLane before after k → HasStopped before start k left taken size given e None
    → RanAlone after start.history k start.left left start.taken taken (record { taken = size; given = given; ending = e })
quiet before after start k left taken size given e ends s = by_sink (is_sink e)
  where
    by_sink : (e ≡ endings.SinkFault) ⊎ (e ≢ endings.SinkFault) → RanAlone after start.history k start.left left start.taken taken (record { taken = size; given = given; ending = e })
    by_sink (inl is) = subst (λ f. RanAlone after start.history k start.left left start.taken taken (record { taken = size; given = given; ending = f })) (sym is)
        (sink_failed before after start k left taken size given None ends (subst (λ f. HasStopped before start k left taken size given f None) is s))
    by_sink (inr ne) = all_given before after start k left taken taken size given given e None ends s ne
        (subst (λ ts. WritesCounted start.taken taken 0 given (text ts) (gave_all e)) (sym (append-nil (s.last).told)) s.gave)

pub closed_quietly : (before after : History → Type 0) (start : Start) (k : ℕ) (left taken : Option (List ℕ)) (size given : ℕ) (e : Ending) (words : Option Reply)
    → EndsLane before after k → words ≡ None → HasStopped before start k left taken size given e words
    → RanAlone after start.history k start.left left start.taken taken (record { taken = size; given = given; ending = e })
closed_quietly before after start k left taken size given e words ends none s =
    quiet before after start k left taken size given e ends (subst (λ o. HasStopped before start k left taken size given e o) none s)

-- the last reply was given
pub closed : (before after : History → Type 0) (start : Start) (k : ℕ) (left taken taken' : Option (List ℕ)) (size given given' : ℕ) (e : Ending) (words : Option Reply) (w : Reply)
    → EndsLane before after k → words ≡ Some w → HasStopped before start k left taken size given e words → WritesCounted taken taken' given given' (frame (reply_text w)) true
    → RanAlone after start.history k start.left left start.taken taken' (record { taken = size; given = given'; ending = e })
closed before after start k left taken taken' size given given' e words w ends some stopped wrote =
    let s = subst (λ o. HasStopped before start k left taken size given e o) some stopped in
    let ne = not_sink e s.last w s.says in
    all_given before after start k left taken taken' size given given' e (Some w) ends s ne
    (subst (λ b. WritesCounted start.taken taken' 0 given' (text ((s.last).told ++ w ∷ [])) b) (sym (gives_all e ne))
    (gave_more start.taken taken taken' given given' (s.last).told w true (subst (λ b. WritesCounted start.taken taken 0 given (text (s.last).told) b) (gives_all e ne) s.gave) wrote))

-- the sink failed at the last reply
pub closed_in_fault : (before after : History → Type 0) (start : Start) (k : ℕ) (left taken taken' : Option (List ℕ)) (size given given' : ℕ) (e : Ending) (words : Option Reply) (w : Reply)
    → EndsLane before after k → words ≡ Some w → HasStopped before start k left taken size given e words → WritesCounted taken taken' given given' (frame (reply_text w)) false
    → RanAlone after start.history k start.left left start.taken taken' (record { taken = size; given = given'; ending = endings.SinkFault })
closed_in_fault before after start k left taken taken' size given given' e words w ends some stopped wrote =
    let s = subst (λ o. HasStopped before start k left taken size given e o) some stopped in
    let ne = not_sink e s.last w s.says in
    let c = closing before after start k left taken size given e (Some w) ends s in
    record {
      events = s.events ++ c.vs;
      input = s.input;
      told = (s.last).told ++ w ∷ [];
      stands_for = c.stands_for;
      lanes = of_ends k s.events c.vs s.lanes c.ends;
      ran = s.runs endings.SinkFault c.vs ((s.last).told ++ w ∷ []) (sink_told_run k e s.last c.vs w ne s.on s.off s.so (words_are e s.last (Some w) ne s.says) c.ends);
      size_is = s.size_is;
      took = all_taken e s.last w start.left left s.input s.says s.took;
      gave = gave_more start.taken taken taken' given given' (s.last).told w false (subst (λ b. WritesCounted start.taken taken 0 given (text (s.last).told) b) (gives_all e ne) s.gave) wrote;
      read_out = record { before = s.events; ends = c.vs; split = refl; read = tt };
      at_once = ended_at_once start k left taken size given e (Some w) before s given' c.vs c.ends (all_before start.taken taken taken' given given' (s.last).told (frame (reply_text w)) false (subst (λ b. WritesCounted start.taken taken 0 given (text (s.last).told) b) (gives_all e ne) s.gave) wrote);
    }

-- ---- the end

pub ends_here : (before after : History → Type 0) (k : ℕ) (a : Answer) (n : ℕ)
    → ((h : History) → before h → after (then_event h (event_of acts.End a n)))
    → (a.entry).lane ≡ k → (a.entry).kind ≢ 5 → EndIsTold a → EndsLane before after k
ends_here before after k a n entered of other told h s =
    (event_of acts.End a n ∷ [], (entered h s, record { asks = refl; lane_is = of; kind_is = six told }))
  where
    six : EndIsTold a → (a.entry).kind ≡ END_KIND
    six (inl p) = p.0
    six (inr p) = absurd (other p.0)

-- one that met a fault comes again
pub ends_again : (before between after : History → Type 0) (k : ℕ) (a b : Answer) (m n : ℕ)
    → ((h : History) → before h → between (then_event h (event_of acts.End a m))) → ((h : History) → between h → after (then_event h (event_of acts.End b n)))
    → ((b.entry).kind ≡ 5 → ⊥)
    → (a.entry).lane ≡ k → (b.entry).lane ≡ k → (a.entry).kind ≡ 5 → EndIsTold b → EndsLane before after k
ends_again before between after k a b m n first second once of also five told h s =
    let v = event_of acts.End a m in
    let u = event_of acts.End b n in
    let stands = second (then_event h v) (first h s) in (
      v ∷ u ∷ [],
      (
        subst (λ es. after (with_events h es)) (append_assoc h.events (v ∷ []) (u ∷ [])) stands,
        (record { asks = refl; lane_is = of; kind_is = five }, record { asks = refl; lane_is = also; kind_is = six told }),
      ),
    )
  where
    six : EndIsTold b → (b.entry).kind ≡ 6
    six (inl p) = p.0
    six (inr p) = absurd (once p.0)

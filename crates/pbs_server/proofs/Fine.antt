-- How sessions of commands end, of which no source failed.
use Rattle.std.proofs.Common.{◌≡◌, ◌<◌, ◌+◌, ◌^◌, ◌⊎◌, inl, inr, ℕ, false, suc, List, [], ◌∷◌, ◌++◌, map, length, Option, Some, None, IfSome, refl, ap, subst, ◌∙◌, arith, length-append, slice_index_or}
use Rattle.std.specs.List.{All}
use Rattle.std.proofs.lemmas.List.Elements.{All-nil, All-cons, All-head, All-tail}
use Rattle.port_traits.specs.declared.sink.Sink as sinks
use Rattle.port_traits.specs.declared.source.Source as sources
use Rattle.port_traits.specs.Bytes.{TakesFrom}
use Rattle.port_traits.specs.Faults.{Rose}
use Rattle.wire_commands.specs.declared.reply.Reply.{Reply}
use Rattle.store_model.specs.declared.ending.Ending.{Ending}
use Rattle.store_model.specs.declared.ending.Ending.TheVariants as endings
use Rattle.store_history.specs.declared.act.Event.{Event}
use Rattle.store_history.specs.History.{own}
use Rattle.store_history.specs.LaneRun.{LaneRan, Runs, begin, next_at}
use Rattle.generator.specs.Laws.{IsCommands}
use Rattle.store_history.proofs.Unheld.{unheld}
use Rattle.store_history.specs.declared.port.LaneReport.{LaneReport}
use Rattle.store_history.specs.declared.port.Port.{Port}
use Rattle.lane.specs.Causes.{IsCaused}
use Rattle.lane.specs.Ran.{EndsRead, IsReadOut, Took}
use Rattle.lane.specs.Served.{EachRan, RanAs, Run}
use Rattle.run_check.specs.Ports.{faults_at}
use Rattle.pbs_server.specs.Completeness.{HoldsCommands}
use Rattle.pbs_server.specs.Generating.{all_as_memory, in_memory}
use Rattle.pbs_server.proofs.Broken.{ends_so, leads_back, so_broken}
use Rattle.pbs_server.proofs.NeverBroken.{never_broken}

-- ---- one lane

-- it ended cleanly, its sink failed, or memory was wanting
abbrev pub EndsFine : Ending → Type 0
EndsFine endings.Clean = Unit {0}
EndsFine endings.SinkFault = Unit {0}
EndsFine endings.NoMemory = Unit {0}
EndsFine e = ⊥

-- what was taken of known bytes is a front of them
pub took_front : (xs : List ℕ) (left : Option (List ℕ)) (input : List ℕ) → TakesFrom (Some xs) left input → (rest : List ℕ) × (left ≡ Some rest) × (xs ≡ input ++ rest)
took_front xs None input took = cc
took_front xs (Some rest) input took = (rest, refl, same took)
  where
    same : Some xs ≡ Some (input ++ rest) → xs ≡ input ++ rest
    same e = cc

fine_broken : (place : ℕ) (xs : List ℕ) (left : Option (List ℕ)) (input : List ℕ) (events : List Event) (told : List Reply) → LaneRan input (endings.Broken place) events told
    → TakesFrom (Some xs) left input → EndsRead (endings.Broken place) input events left → IsCommands xs → ⊥
fine_broken place xs left input events told ran took read commands =
    let out : IsReadOut input read.before read.ends left = read.read in
    let front = took_front xs left input took in
    let on = leads_back false (endings.Broken place) read.before read.ends (begin input) out.last told out.leads refl
    (subst (λ es. Runs (endings.Broken place) (begin input) es told) read.split ran) in
    let at = so_broken place (unheld on.0 out.last) (next_at out.last) (ends_so on.0 (endings.Broken place) out.last read.ends told out.ended on.1) in
    never_broken input front.0 read.before out.last at.0 (subst IsCommands front.2 commands) out.leads at.1
    (λ part. subst (λ (o : Option (List ℕ)). IfSome o (λ ys. ys ≡ [])) front.1 (out.nothing part))

fine_by : (e : Ending) (xs : List ℕ) (left : Option (List ℕ)) (input : List ℕ) (events : List Event) (told : List Reply) (taken before after sink sink' : ℕ) → LaneRan input e events told
    → Took e (Some xs) left input → EndsRead e input events left → IsCaused before after sink sink' taken (Some e) → length input ≡ taken
    → IsCommands xs → length xs < 2 ^ 40 → (Rose before after → ⊥) → EndsFine e
fine_by endings.Clean xs left input events told taken before after sink sink' ran took read cause size commands few still = tt
fine_by endings.SinkFault xs left input events told taken before after sink sink' ran took read cause size commands few still = tt
fine_by endings.NoMemory xs left input events told taken before after sink sink' ran took read cause size commands few still = tt
fine_by endings.SourceFault xs left input events told taken before after sink sink' ran took read cause size commands few still = still cause
fine_by endings.SourceTooLong xs left input events told taken before after sink sink' ran took read cause size commands few still =
    let front = took_front xs left input took in
    let sizes : length xs ≡ length input + length front.0 = ap length front.2 ∙ length-append input front.0 in
    absurd (omega (arith, sizes, cause, size, few))
fine_by (endings.Broken place) xs left input events told taken before after sink sink' ran took read cause size commands few still =
    fine_broken place xs left input events told ran took read commands

-- ---- all lanes

abbrev pub IsFine : LaneReport → Type 0
IsFine r = EndsFine r.ending

-- it ended cleanly, or memory was wanting
abbrev pub IsShort : LaneReport → Type 0
IsShort r = (r.ending ≡ endings.Clean) ⊎ (r.ending ≡ endings.NoMemory)

module _ {S K : Type 0} (source : sources.Ghosts S) (sink : sinks.Ghosts K) where
  lane_fine : (o n : Port S K) (r : LaneReport) (x : Run) (es : List Event) → RanAs source sink o n r x es → (left : Option (List ℕ)) → source.left o.source ≡ left → HoldsCommands left
      → (Rose (source.faults o.source) (source.faults n.source) → ⊥) → IsFine r
  lane_fine o n r x es ran None is holds still = absurd holds
  lane_fine o n r x es ran (Some xs) is holds still =
      fine_by r.ending xs (source.left n.source) x.input es x.told r.taken (source.faults o.source) (source.faults n.source) (sink.faults o.sink) (sink.faults n.sink) ran.ran
      (subst (λ (y : Option (List ℕ)). Took r.ending y (source.left n.source) x.input) is ran.took) ran.read_out (ran.causes).cause ran.size_is holds.0 holds.1 still

  abbrev Holds : Port S K → Type 0
  Holds p = HoldsCommands (source.left p.source)

  pub each_fine : (j : ℕ) (os ns : List (Port S K)) (rs : List LaneReport) (xs : List Run) (es : List Event) → EachRan (RanAs source sink) j os ns rs xs es → All Holds os
      → ((i : ℕ) → i < length os → Rose (faults_at source os i) (faults_at source ns i) → ⊥) → All IsFine rs
  each_fine j [] [] [] [] es each holds still = All-nil IsFine
  each_fine j (o ∷ os) (n ∷ ns) (r ∷ rs) (x ∷ xs) es each holds still =
      All-cons IsFine r rs (lane_fine o n r x (own j es) each.0 (source.left o.source) refl (All-head Holds o os holds) (still 0 (omega arith)))
      (each_fine (j + 1) os ns rs xs es each.1 (All-tail Holds o os holds) (λ i lt. still (suc i) (omega (arith, lt))))
  each_fine j _ _ _ _ es each holds still = absurd each

  -- of which no sink failed either
  fine_short : (e : Ending) (source source' sink sink' size : ℕ) → EndsFine e → IsCaused source source' sink sink' size (Some e) → (Rose sink sink' → ⊥) → (e ≡ endings.Clean) ⊎ (e ≡ endings.NoMemory)
  fine_short endings.Clean s s' k k' n fine cause still = inl refl
  fine_short endings.NoMemory s s' k k' n fine cause still = inr refl
  fine_short endings.SinkFault s s' k k' n fine cause still = absurd (still cause)
  fine_short endings.SourceFault s s' k k' n fine cause still = absurd fine
  fine_short endings.SourceTooLong s s' k k' n fine cause still = absurd fine
  fine_short (endings.Broken place) s s' k k' n fine cause still = absurd fine

  abbrev sinks_at : List (Port S K) → ℕ → ℕ
  sinks_at ports i = slice_index_or (map (λ (p : Port S K). sink.faults p.sink) ports) i 0

  pub each_short : (j : ℕ) (os ns : List (Port S K)) (rs : List LaneReport) (xs : List Run) (es : List Event) → EachRan (RanAs source sink) j os ns rs xs es → All IsFine rs
      → ((i : ℕ) → i < length os → Rose (sinks_at os i) (sinks_at ns i) → ⊥) → All IsShort rs
  each_short j [] [] [] [] es each fine still = All-nil IsShort
  each_short j (o ∷ os) (n ∷ ns) (r ∷ rs) (x ∷ xs) es each fine still =
      All-cons IsShort r rs
      (fine_short r.ending (source.faults o.source) (source.faults n.source) (sink.faults o.sink) (sink.faults n.sink) r.taken (All-head IsFine r rs fine) (each.0.causes).cause (still 0 (omega arith)))
      (each_short (j + 1) os ns rs xs es each.1 (All-tail IsFine r rs fine) (λ i lt. still (suc i) (omega (arith, lt))))
  each_short j _ _ _ _ es each fine still = absurd each

-- a sink that cannot grow is want of memory
memory_short : (e : Ending) → EndsFine e → (in_memory e ≡ endings.Clean) ⊎ (in_memory e ≡ endings.NoMemory)
memory_short endings.Clean fine = inl refl
memory_short endings.SinkFault fine = inr refl
memory_short endings.NoMemory fine = inr refl
memory_short endings.SourceFault fine = absurd fine
memory_short endings.SourceTooLong fine = absurd fine
memory_short (endings.Broken place) fine = absurd fine

pub all_memory_short : (rs : List LaneReport) → All IsFine rs → All IsShort (all_as_memory rs)
all_memory_short [] fine = All-nil IsShort
all_memory_short (r ∷ rs) fine =
    All-cons IsShort (record r { ending = in_memory r.ending }) (all_as_memory rs) (memory_short r.ending (All-head IsFine r rs fine)) (all_memory_short rs (All-tail IsFine r rs fine))

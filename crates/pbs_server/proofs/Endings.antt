-- How lanes that were served ended, by what some of them tell, and by what each did.
use Rattle.std.proofs.Common.{◌≡◌, ◌+◌, ◌⊎◌, inl, inr, ℕ, true, false, List, [], ◌∷◌, Some, refl, subst, true≢false}
use Rattle.std.specs.List.{All}
use Rattle.std.proofs.lemmas.List.Elements.{All-nil, All-cons, All-head, All-tail}
use Rattle.port_traits.specs.declared.sink.Sink as sinks
use Rattle.port_traits.specs.declared.source.Source as sources
use Rattle.store_model.specs.declared.ending.Ending.{Ending}
use Rattle.store_model.specs.declared.ending.Ending.TheVariants as endings
use Rattle.store_history.specs.declared.act.Event.{Event}
use Rattle.store_history.specs.History.{own}
use Rattle.store_history.specs.declared.port.LaneReport.{LaneReport}
use Rattle.store_history.specs.declared.port.Port.{Port}
use Rattle.lane.specs.Causes.{IsCaused, LaneHasCauses}
use Rattle.lane.specs.Served.{EachRan, RanAs, Run}
use Rattle.pbs_server.specs.declared.status.Status.{Status}
use Rattle.pbs_server.specs.declared.status.Status.TheVariants as statuses
use Rattle.pbs_server.specs.Causes.{HasNotFailed, ReachesNoCommand, SomeFailed, SomeReaches, SomeTooLong}
use Rattle.pbs_server.specs.Statuses.{endings_of, some_tells, tells}
use Rattle.pbs_server.proofs.Broken.{IsBroken, not_clean, reached}
use Rattle.pbs_server.proofs.Tests.{both_false, either, neither, or_first, or_later}

-- ---- one ending

source_is : (e : Ending) → tells statuses.SourceFault e ≡ true → e ≡ endings.SourceFault
source_is endings.SourceFault is = refl
source_is endings.Clean is = cc
source_is (endings.Broken place) is = cc
source_is endings.SinkFault is = cc
source_is endings.SourceTooLong is = cc
source_is endings.NoMemory is = cc

sink_is : (e : Ending) → tells statuses.SinkFault e ≡ true → e ≡ endings.SinkFault
sink_is endings.SinkFault is = refl
sink_is endings.Clean is = cc
sink_is (endings.Broken place) is = cc
sink_is endings.SourceFault is = cc
sink_is endings.SourceTooLong is = cc
sink_is endings.NoMemory is = cc

long_is : (e : Ending) → tells statuses.SourceTooLong e ≡ true → e ≡ endings.SourceTooLong
long_is endings.SourceTooLong is = refl
long_is endings.Clean is = cc
long_is (endings.Broken place) is = cc
long_is endings.SourceFault is = cc
long_is endings.SinkFault is = cc
long_is endings.NoMemory is = cc

broken_is : (e : Ending) → tells statuses.BadFrame e ≡ true → IsBroken e
broken_is (endings.Broken place) is = tt
broken_is endings.Clean is = cc
broken_is endings.SourceFault is = cc
broken_is endings.SinkFault is = cc
broken_is endings.SourceTooLong is = cc
broken_is endings.NoMemory is = cc

broken_tells : (e : Ending) → IsBroken e → tells statuses.BadFrame e ≡ true
broken_tells (endings.Broken place) is = refl
broken_tells endings.Clean is = absurd is
broken_tells endings.SourceFault is = absurd is
broken_tells endings.SinkFault is = absurd is
broken_tells endings.SourceTooLong is = absurd is
broken_tells endings.NoMemory is = absurd is

-- it is told by no fault of the lane's, and not by want of memory
record Unfailed (e : Ending) : Type 0 where
  memory : tells statuses.NoMemory e ≡ false
  source : tells statuses.SourceFault e ≡ false
  sink : tells statuses.SinkFault e ≡ false
  long : tells statuses.SourceTooLong e ≡ false

not_failed : (e : Ending) → Unfailed e → HasNotFailed e
not_failed endings.Clean u = tt
not_failed (endings.Broken place) u = tt
not_failed endings.SourceFault u = absurd (true≢false u.source)
not_failed endings.SinkFault u = absurd (true≢false u.sink)
not_failed endings.SourceTooLong u = absurd (true≢false u.long)
not_failed endings.NoMemory u = absurd (true≢false u.memory)

clean_is : (e : Ending) → Unfailed e → tells statuses.BadFrame e ≡ false → e ≡ endings.Clean
clean_is endings.Clean u other = refl
clean_is (endings.Broken place) u other = cc
clean_is endings.SourceFault u other = absurd (true≢false u.source)
clean_is endings.SinkFault u other = absurd (true≢false u.sink)
clean_is endings.SourceTooLong u other = absurd (true≢false u.long)
clean_is endings.NoMemory u other = absurd (true≢false u.memory)

unfailed : (e : Ending) → HasNotFailed e → Unfailed e
unfailed endings.Clean is = record { memory = refl; source = refl; sink = refl; long = refl }
unfailed (endings.Broken place) is = record { memory = refl; source = refl; sink = refl; long = refl }
unfailed endings.SourceFault is = absurd is
unfailed endings.SinkFault is = absurd is
unfailed endings.SourceTooLong is = absurd is
unfailed endings.NoMemory is = absurd is

clean_unfailed : (e : Ending) → e ≡ endings.Clean → HasNotFailed e
clean_unfailed endings.Clean is = tt
clean_unfailed (endings.Broken place) is = cc
clean_unfailed endings.SourceFault is = cc
clean_unfailed endings.SinkFault is = cc
clean_unfailed endings.SourceTooLong is = cc
clean_unfailed endings.NoMemory is = cc

clean_whole : (e : Ending) → e ≡ endings.Clean → tells statuses.BadFrame e ≡ false
clean_whole endings.Clean is = refl
clean_whole (endings.Broken place) is = cc
clean_whole endings.SourceFault is = cc
clean_whole endings.SinkFault is = cc
clean_whole endings.SourceTooLong is = cc
clean_whole endings.NoMemory is = cc

-- a place without a command was come to, or the end
broken_or_clean : (e : Ending) → HasNotFailed e → (e ≡ endings.Clean → ⊥) → IsBroken e
broken_or_clean (endings.Broken place) is other = tt
broken_or_clean endings.Clean is other = absurd (other refl)
broken_or_clean endings.NoMemory is other = absurd is
broken_or_clean endings.SourceFault is other = absurd is
broken_or_clean endings.SinkFault is other = absurd is
broken_or_clean endings.SourceTooLong is other = absurd is

-- ---- all endings

pub record NoneFailed (reports : List LaneReport) : Type 0 where
  pub memory : some_tells statuses.NoMemory (endings_of reports) ≡ false
  pub source : some_tells statuses.SourceFault (endings_of reports) ≡ false
  pub sink : some_tells statuses.SinkFault (endings_of reports) ≡ false
  pub long : some_tells statuses.SourceTooLong (endings_of reports) ≡ false

-- none tells so, so neither does the first, nor one behind it
none_of : (s : Status) (r : LaneReport) (rs : List LaneReport) → some_tells s (endings_of (r ∷ rs)) ≡ false → (tells s r.ending ≡ false) × (some_tells s (endings_of rs) ≡ false)
none_of s r rs is = neither (tells s r.ending) (some_tells s (endings_of rs)) is

none_more : (s : Status) (r : LaneReport) (rs : List LaneReport) → tells s r.ending ≡ false → some_tells s (endings_of rs) ≡ false → some_tells s (endings_of (r ∷ rs)) ≡ false
none_more s r rs first later = both_false (tells s r.ending) (some_tells s (endings_of rs)) first later

first_unfailed : (r : LaneReport) (rs : List LaneReport) → NoneFailed (r ∷ rs) → Unfailed r.ending
first_unfailed r rs n = record {
  memory = (none_of statuses.NoMemory r rs n.memory).0;
  source = (none_of statuses.SourceFault r rs n.source).0;
  sink = (none_of statuses.SinkFault r rs n.sink).0;
  long = (none_of statuses.SourceTooLong r rs n.long).0;
}

later_unfailed : (r : LaneReport) (rs : List LaneReport) → NoneFailed (r ∷ rs) → NoneFailed rs
later_unfailed r rs n = record {
  memory = (none_of statuses.NoMemory r rs n.memory).1;
  source = (none_of statuses.SourceFault r rs n.source).1;
  sink = (none_of statuses.SinkFault r rs n.sink).1;
  long = (none_of statuses.SourceTooLong r rs n.long).1;
}

abbrev Served : LaneReport → Type 0
Served r = HasNotFailed r.ending

abbrev IsClean : LaneReport → Type 0
IsClean r = r.ending ≡ endings.Clean

pub all_served : (rs : List LaneReport) → NoneFailed rs → All (λ r. HasNotFailed r.ending) rs
all_served [] n = All-nil Served
all_served (r ∷ rs) n = All-cons Served r rs (not_failed r.ending (first_unfailed r rs n)) (all_served rs (later_unfailed r rs n))

pub all_clean : (rs : List LaneReport) → NoneFailed rs → some_tells statuses.BadFrame (endings_of rs) ≡ false → All (λ r. r.ending ≡ endings.Clean) rs
all_clean [] n none = All-nil IsClean
all_clean (r ∷ rs) n none =
    let split = none_of statuses.BadFrame r rs none in
    All-cons IsClean r rs (clean_is r.ending (first_unfailed r rs n) split.0) (all_clean rs (later_unfailed r rs n) split.1)

pub none_failed : (rs : List LaneReport) → All (λ r. HasNotFailed r.ending) rs → NoneFailed rs
none_failed [] served = record { memory = refl; source = refl; sink = refl; long = refl }
none_failed (r ∷ rs) served =
    let u = unfailed r.ending (All-head Served r rs served) in
    let n = none_failed rs (All-tail Served r rs served) in record {
      memory = none_more statuses.NoMemory r rs u.memory n.memory;
      source = none_more statuses.SourceFault r rs u.source n.source;
      sink = none_more statuses.SinkFault r rs u.sink n.sink;
      long = none_more statuses.SourceTooLong r rs u.long n.long;
    }

pub clean_served : (rs : List LaneReport) → All (λ r. r.ending ≡ endings.Clean) rs → All (λ r. HasNotFailed r.ending) rs
clean_served [] clean = All-nil Served
clean_served (r ∷ rs) clean = All-cons Served r rs (clean_unfailed r.ending (All-head IsClean r rs clean)) (clean_served rs (All-tail IsClean r rs clean))

pub none_broken : (rs : List LaneReport) → All (λ r. r.ending ≡ endings.Clean) rs → some_tells statuses.BadFrame (endings_of rs) ≡ false
none_broken [] clean = refl
none_broken (r ∷ rs) clean = none_more statuses.BadFrame r rs (clean_whole r.ending (All-head IsClean r rs clean)) (none_broken rs (All-tail IsClean r rs clean))

-- ---- what lanes did, from one on

module _ {S K : Type 0} (source : sources.Ghosts S) (sink : sinks.Ghosts K) where
  abbrev Each : ℕ → List (Port S K) → List (Port S K) → List LaneReport → List Run → List Event → Type 0
  Each j os ns rs xs es = EachRan (RanAs source sink) j os ns rs xs es

  -- its own port's count rose
  caused_so : (o n : Port S K) (r : LaneReport) (e : Ending) → r.ending ≡ e → LaneHasCauses source sink o n r
      → IsCaused (source.faults o.source) (source.faults n.source) (sink.faults o.sink) (sink.faults n.sink) r.taken (Some e)
  caused_so o n r e is causes =
      subst (λ x. IsCaused (source.faults o.source) (source.faults n.source) (sink.faults o.sink) (sink.faults n.sink) r.taken (Some x)) is causes.cause

  pub source_failed : (j : ℕ) (os ns : List (Port S K)) (rs : List LaneReport) (xs : List Run) (es : List Event) → Each j os ns rs xs es → some_tells statuses.SourceFault (endings_of rs) ≡ true
      → SomeFailed (λ p. source.faults p.source) endings.SourceFault os ns rs
  source_failed j [] [] [] [] es each is = cc
  source_failed j (o ∷ os) (n ∷ ns) (r ∷ rs) (x ∷ xs) es each is =
      by_first (either (tells statuses.SourceFault r.ending) (some_tells statuses.SourceFault (endings_of rs)) is) (source_failed (j + 1) os ns rs xs es each.1)
    where
      by_first : (tells statuses.SourceFault r.ending ≡ true) ⊎ (some_tells statuses.SourceFault (endings_of rs) ≡ true)
          → (some_tells statuses.SourceFault (endings_of rs) ≡ true → SomeFailed (λ (p : Port S K). source.faults p.source) endings.SourceFault os ns rs)
          → SomeFailed (λ (p : Port S K). source.faults p.source) endings.SourceFault (o ∷ os) (n ∷ ns) (r ∷ rs)
      by_first (inl first) behind = let at = source_is r.ending first in inl (at, caused_so o n r endings.SourceFault at each.0.causes)
      by_first (inr later) behind = inr (behind later)
  source_failed j _ _ _ _ es each is = absurd each

  pub sink_failed : (j : ℕ) (os ns : List (Port S K)) (rs : List LaneReport) (xs : List Run) (es : List Event) → Each j os ns rs xs es → some_tells statuses.SinkFault (endings_of rs) ≡ true
      → SomeFailed (λ p. sink.faults p.sink) endings.SinkFault os ns rs
  sink_failed j [] [] [] [] es each is = cc
  sink_failed j (o ∷ os) (n ∷ ns) (r ∷ rs) (x ∷ xs) es each is =
      by_first (either (tells statuses.SinkFault r.ending) (some_tells statuses.SinkFault (endings_of rs)) is) (sink_failed (j + 1) os ns rs xs es each.1)
    where
      by_first : (tells statuses.SinkFault r.ending ≡ true) ⊎ (some_tells statuses.SinkFault (endings_of rs) ≡ true)
          → (some_tells statuses.SinkFault (endings_of rs) ≡ true → SomeFailed (λ (p : Port S K). sink.faults p.sink) endings.SinkFault os ns rs)
          → SomeFailed (λ (p : Port S K). sink.faults p.sink) endings.SinkFault (o ∷ os) (n ∷ ns) (r ∷ rs)
      by_first (inl first) behind = let at = sink_is r.ending first in inl (at, caused_so o n r endings.SinkFault at each.0.causes)
      by_first (inr later) behind = inr (behind later)
  sink_failed j _ _ _ _ es each is = absurd each

  pub too_long : (j : ℕ) (os ns : List (Port S K)) (rs : List LaneReport) (xs : List Run) (es : List Event) → Each j os ns rs xs es → some_tells statuses.SourceTooLong (endings_of rs) ≡ true
      → SomeTooLong rs
  too_long j [] [] [] [] es each is = cc
  too_long j (o ∷ os) (n ∷ ns) (r ∷ rs) (x ∷ xs) es each is =
      by_first (either (tells statuses.SourceTooLong r.ending) (some_tells statuses.SourceTooLong (endings_of rs)) is) (too_long (j + 1) os ns rs xs es each.1)
    where
      by_first : (tells statuses.SourceTooLong r.ending ≡ true) ⊎ (some_tells statuses.SourceTooLong (endings_of rs) ≡ true)
          → (some_tells statuses.SourceTooLong (endings_of rs) ≡ true → SomeTooLong rs) → SomeTooLong (r ∷ rs)
      by_first (inl first) behind = let at = long_is r.ending first in inl (at, caused_so o n r endings.SourceTooLong at each.0.causes)
      by_first (inr later) behind = inr (behind later)
  too_long j _ _ _ _ es each is = absurd each

  -- a lane that ended at a place without a command was led to it
  pub some_reached : (j : ℕ) (os ns : List (Port S K)) (rs : List LaneReport) (xs : List Run) (es : List Event) → Each j os ns rs xs es → some_tells statuses.BadFrame (endings_of rs) ≡ true
      → SomeReaches j xs es
  some_reached j [] [] [] [] es each is = cc
  some_reached j (o ∷ os) (n ∷ ns) (r ∷ rs) (x ∷ xs) es each is =
      by_first (either (tells statuses.BadFrame r.ending) (some_tells statuses.BadFrame (endings_of rs)) is) (some_reached (j + 1) os ns rs xs es each.1)
    where
      by_first : (tells statuses.BadFrame r.ending ≡ true) ⊎ (some_tells statuses.BadFrame (endings_of rs) ≡ true)
          → (some_tells statuses.BadFrame (endings_of rs) ≡ true → SomeReaches (j + 1) xs es) → SomeReaches j (x ∷ xs) es
      by_first (inl first) behind = inl (reached r.ending x.input (own j es) x.told (source.left n.source) each.0.ran each.0.read_out (broken_is r.ending first))
      by_first (inr later) behind = inr (behind later)
  some_reached j _ _ _ _ es each is = absurd each

  -- and where no lane failed, one that was led to such a place ended there
  pub some_broken : (j : ℕ) (os ns : List (Port S K)) (rs : List LaneReport) (xs : List Run) (es : List Event) → Each j os ns rs xs es → All (λ r. HasNotFailed r.ending) rs → SomeReaches j xs es
      → some_tells statuses.BadFrame (endings_of rs) ≡ true
  some_broken j [] [] [] [] es each served reaches = absurd reaches
  some_broken j (o ∷ os) (n ∷ ns) (r ∷ rs) (x ∷ xs) es each served reaches = by_first reaches (some_broken (j + 1) os ns rs xs es each.1 (All-tail Served r rs served))
    where
      by_first : ReachesNoCommand x.input (own j es) ⊎ SomeReaches (j + 1) xs es → (SomeReaches (j + 1) xs es → some_tells statuses.BadFrame (endings_of rs) ≡ true)
          → some_tells statuses.BadFrame (endings_of (r ∷ rs)) ≡ true
      by_first (inl here) behind =
          or_first (tells statuses.BadFrame r.ending) (some_tells statuses.BadFrame (endings_of rs))
          (broken_tells r.ending (broken_or_clean r.ending (All-head Served r rs served) (not_clean r.ending x.input (own j es) x.told each.0.ran here)))
      by_first (inr later) behind = or_later (tells statuses.BadFrame r.ending) (some_tells statuses.BadFrame (endings_of rs)) (behind later)
  some_broken j _ _ _ _ es each served reaches = absurd each

-- The clock is read once.
use Rattle.std.proofs.Common.{◌≡◌, ◌≤◌, ℕ, Option, inl, refl, sym, ap, subst, ◌∙◌, arith}
use Rattle.disk_trait.specs.declared.disk.Disk.{Ghosts}
use Rattle.wire_commands.specs.declared.reply.Reply.{Reply}
use Rattle.store_history.specs.declared.act.Answer.{Answer}
use Rattle.port_traits.specs.Readings.{Readings}
use Rattle.core_state.specs.declared.entering.Place.{Place}
use Rattle.core_state.specs.declared.state.Core.{Core}
use Rattle.core_state.specs.Entering.{SameEntries, OthersHold, NoneLost, FillsFirst, StaysWhole, held_by}
use Rattle.core_state.specs.Begins.{ReadsClock, IsBegun, IsNext}
use Rattle.core_state.specs.Settles.{IsEntered}

-- and nothing else has happened but to the reserve
pub is_begun : {D E C : Type 0} (readings : C → Option Readings) (old next new : Core D E C) (lane : ℕ) (at : Place) → IsNext readings old next lane at
    → new.parts ≡ next.parts → new.remote ≡ next.remote → new.clock ≡ next.clock → new.fault ≡ next.fault → new.last ≡ next.last → new.upkeep ≡ next.upkeep → new.collector ≡ next.collector
    → SameEntries next.journal new.journal → held_by next.journal lane ≤ held_by new.journal lane → NoneLost next.journal new.journal lane → FillsFirst next.journal new.journal lane → StaysWhole next.journal new.journal lane → OthersHold next.journal new.journal lane
    → IsBegun readings old new lane at.moment
is_begun readings old next new lane at is parts remote clock fault last upkeep collector entries more none_lost filled whole others = record {
  clock = subst (λ c. ReadsClock readings old.clock c old.last at.moment) (sym clock) is.clock;
  parts = parts ∙ is.parts;
  remote = remote ∙ is.remote;
  fault = fault ∙ is.fault;
  last = last ∙ is.last;
  upkeep = upkeep ∙ is.upkeep;
  collector = collector ∙ is.collector;
  entries = record { entries = entries.entries ∙ ap (λ j. j.entries.items) is.journal; calls = entries.calls ∙ ap (λ j. j.calls.items) is.journal };
  more = subst (λ j. held_by j lane ≤ held_by new.journal lane) is.journal more;
  none_lost = subst (λ j. NoneLost j new.journal lane) is.journal none_lost;
  filled = subst (λ j. FillsFirst j new.journal lane) is.journal filled;
  whole = subst (λ j. StaysWhole j new.journal lane) is.journal whole;
  others = subst (λ j. OthersHold j new.journal lane) is.journal others;
}

-- nor to that
pub next_begun : {D E C : Type 0} (readings : C → Option Readings) (old next : Core D E C) (lane : ℕ) (at : Place) → IsNext readings old next lane at
    → IsBegun readings old next lane at.moment
next_begun readings old next lane at is =
    is_begun readings old next next lane at is refl refl refl refl refl refl refl (record { entries = refl; calls = refl }) (omega arith) (omega arith) (inl refl) (λ three. refl) (λ other apart. refl)

-- what was entered at a place was entered for its lane
pub entered_for : {D E C : Type 0} (d : Ghosts D) (old new : Core D E C) (lane kind : ℕ) (at : Place) (reply : Option Reply) (answer : Answer) → at.lane ≡ lane
    → IsEntered d old new at.lane at.moment kind reply answer → IsEntered d old new lane at.moment kind reply answer
entered_for d old new lane kind at reply answer same e = subst (λ l. IsEntered d old new l at.moment kind reply answer) same e

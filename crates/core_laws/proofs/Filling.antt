-- Every lane's reserve is filled up.
use Rattle.std.proofs.Common.{◌≡◌, ◌<◌, ◌≤◌, ◌+◌, ℕ, ⊎_elim, refl, sym, subst, ◌∙◌, arith}
use Rattle.std.proofs.lemmas.Bool.{cases_lt}
use Rattle.core_state.specs.declared.journal.Journal.{Journal}
use Rattle.core_state.specs.declared.state.Core.{Core}
use Rattle.core_state.specs.Entering.{Fills, held_by}
use Rattle.std.specs.Prelude.{slice_index}
use Rattle.core_laws.specs.Playing.{AllWhole}
use Rattle.shared_store.specs.Comes.{SameCore}

pub same_core : {D E C : Type 0} (core : Core D E C) → SameCore core core
same_core core = record {
  parts = refl;
  remote = refl;
  clock = refl;
  entries = record { entries = refl; calls = refl };
  upkeep = refl;
  collector = refl;
  last = refl;
  fault = refl;
}

pub same_then : {D E C : Type 0} (first old new : Core D E C) → SameCore first old → SameCore old new → SameCore first new
same_then first old new a b = record {
  parts = b.parts ∙ a.parts;
  remote = b.remote ∙ a.remote;
  clock = b.clock ∙ a.clock;
  entries = record { entries = (b.entries).entries ∙ (a.entries).entries; calls = (b.entries).calls ∙ (a.entries).calls };
  upkeep = b.upkeep ∙ a.upkeep;
  collector = b.collector ∙ a.collector;
  last = b.last ∙ a.last;
  fault = b.fault ∙ a.fault;
}

pub whole_same : {D E C : Type 0} (old new : Core D E C) → (new.journal).held ≡ (old.journal).held → AllWhole old → AllWhole new
whole_same old new same whole lane lt = subst (λ held. 3 ≤ slice_index held lane) (sym same) (whole lane lt)

pub none_filled : {D E C : Type 0} (core : Core D E C) (other : ℕ) → other < 0 → 3 ≤ held_by core.journal other
none_filled core other below = absurd (omega (arith, below))

-- one reserve more is filled
pub filled_more : (old new : Journal) (lane : ℕ) → ((other : ℕ) → other < lane → 3 ≤ held_by old other) → Fills old new lane
    → (other : ℕ) → other < lane + 1 → 3 ≤ held_by new other
filled_more old new lane whole fills other below = ⊎_elim {C = 3 ≤ held_by new other}
    (λ before. subst (λ n. 3 ≤ n) (sym (fills.others other (λ same. absurd (omega (arith, before, same))))) (whole other before))
    (λ not. let same : lane ≡ other = omega (arith, below, not) in subst (λ n. 3 ≤ held_by new n) same fills.whole)
    (cases_lt other lane)

-- Causes of endings, one after another.
use Rattle.std.proofs.Common.{◌≡◌, ◌≤◌, ℕ, Option, Some, None, sym, subst, arith}
use Rattle.std.specs.Option.{unwrap_or}
use Rattle.port_traits.specs.Faults.{Rose}
use Rattle.store_model.specs.declared.ending.Ending.{Ending}
use Rattle.store_model.specs.declared.ending.Ending.TheVariants as endings
use Rattle.lane.specs.Causes.{IsCaused, HasCauses}

-- a count that rose later rose in the whole
pub rose_later : (a b c : ℕ) → a ≤ b → Rose b c → Rose a c
rose_later a b c le rose = omega (arith, le, rose)

caused_later : (a b c i j k size : ℕ) (e : Option Ending) → a ≤ b → i ≤ j → IsCaused b c j k size e → IsCaused a c i k size e
caused_later a b c i j k size None le less h = tt
caused_later a b c i j k size (Some endings.SourceFault) le less h = rose_later a b c le h
caused_later a b c i j k size (Some endings.SinkFault) le less h = rose_later i j k less h
caused_later a b c i j k size (Some endings.SourceTooLong) le less h = h
caused_later a b c i j k size (Some endings.Clean) le less h = tt
caused_later a b c i j k size (Some (endings.Broken place)) le less h = tt
caused_later a b c i j k size (Some endings.NoMemory) le less h = tt

pub causes_later : (a b c i j k size : ℕ) (e : Option Ending) → a ≤ b → i ≤ j → HasCauses b c j k size e → HasCauses a c i k size e
causes_later a b c i j k size e le less h = record {
  source_later = omega (arith, le, h.source_later);
  sink_later = omega (arith, less, h.sink_later);
  cause = caused_later a b c i j k size e le less h.cause;
}

pub short_causes : (a b i j size : ℕ) (o : Option Ending) (e : Ending) → e ≡ unwrap_or o endings.NoMemory → HasCauses a b i j size o → HasCauses a b i j size (Some e)
short_causes a b i j size None e is h =
    subst (λ f. HasCauses a b i j size (Some f)) (sym is) (record { source_later = h.source_later; sink_later = h.sink_later; cause = tt })
short_causes a b i j size (Some f) e is h = subst (λ x. HasCauses a b i j size (Some x)) (sym is) h

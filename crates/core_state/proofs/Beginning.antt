-- The act that starts a collector.
use Rattle.disk_trait.specs.declared.disk.Disk.{Ghosts}
use Rattle.std.proofs.Common.{◌≡◌, false, IsSome, inr, refl}
use Rattle.store_types.specs.declared.order.TheConstants.{START_KIND}
use Rattle.store_history.specs.declared.act.Act.{Act}
use Rattle.store_history.specs.declared.act.Act.TheVariants.{Start}
use Rattle.store_history.specs.declared.act.Answer.{Answer}
use Rattle.store_history.specs.Acts.{IsWellFormed, class_of, starting, sweeping}
use Rattle.core_state.specs.declared.kept.Session.{Session}
use Rattle.core_state.specs.declared.state.Core.{Core}
use Rattle.core_state.specs.Answers.{HasCause, IsCaused, IsTold, start_as_any}
use Rattle.core_state.specs.Closing.{closes}
use Rattle.core_state.specs.Commands.{is_step}

abbrev pub IsStart : Act → Type 0
IsStart Start = Unit {0}
IsStart act = ⊥

pub start_class : (act : Act) → IsStart act → class_of act ≡ starting
start_class Start is = refl
start_class act is = absurd is

pub start_no_sweep : (act : Act) → IsStart act → class_of act ≡ sweeping → ⊥
start_no_sweep Start is e = cc
start_no_sweep act is e = absurd is

pub start_formed : (act : Act) → IsStart act → IsWellFormed act
start_formed Start is = tt
start_formed act is = absurd is

pub start_no_step : (act : Act) → IsStart act → is_step act ≡ false
start_no_step Start is = refl
start_no_step act is = absurd is

-- it ends no session
pub start_closes : (act : Act) (x : Session) → IsStart act → closes act x ≡ false
start_closes Start x is = refl
start_closes act x is = absurd is

module _ {D E C : Type 0} (d : Ghosts D) (old new : Core D E C) where
  -- it was answered as any act is
  pub start_caused : (act : Act) (answer : Answer) → IsStart act → HasCause d old new act answer → IsCaused d old new act answer
  start_caused Start answer is cause = start_as_any cause
  start_caused act answer is cause = absurd is

-- and opened no collector
pub start_told : (act : Act) (answer : Answer) → IsStart act → ((answer.entry).kind ≡ START_KIND → ⊥) → IsSome answer.reply → IsTold act answer
start_told Start answer is other told = inr (other, told)
start_told act answer is other told = absurd is

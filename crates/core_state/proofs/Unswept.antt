-- An event that is no act of a collector after its start touches as it does without one, and leaves its sweep.
use Rattle.std.proofs.Common.{◌≡◌, ℕ, false, List, Option, None, refl, sym, ap, subst}
use Rattle.store_files.specs.Archive.{Snapshot}
use Rattle.wire_commands.specs.declared.reply.Reply.{Reply}
use Rattle.store_history.specs.declared.act.Act.{Act}
use Rattle.store_history.specs.declared.act.Act.TheVariants.{Step}
use Rattle.store_history.specs.declared.act.Event.{Event}
use Rattle.store_history.specs.Acts.{Class, stepping, reaching, starting, sweeping, wanting, ending, class_of}
use Rattle.store_history.specs.History.{World, EntryKind, kind, kind_of, moment}
use Rattle.store_history.specs.LastTouches.{SameTouches, is_one_of, touched, touches_after}
use Rattle.store_history.specs.Sweeping.{FitsSweep, Sweep, Swept, is_pass, marks_in, passing, sweep_of, swept_after, taken_in, without}
use Rattle.core_state.specs.Commands.{is_step}

pub no_sweep : (act : Act) → is_step act ≡ false → class_of act ≡ sweeping → ⊥
no_sweep Step unstepped e = cc
no_sweep act unstepped e = cc

no_pass : (c : Class) (k : EntryKind) → (c ≡ sweeping → ⊥) → is_pass c k ≡ false
no_pass stepping k other = refl
no_pass starting k other = refl
no_pass reaching k other = refl
no_pass sweeping k other = absurd (other refl)
no_pass wanting k other = refl
no_pass ending k other = refl

-- no sweep is passed on
none_passing : (s : Swept) (e : Event) → (class_of e.act ≡ sweeping → ⊥) → passing s e ≡ None
none_passing s e other = ap (sweep_of s.sweep) (no_pass (class_of e.act) (kind_of (kind e)) other)

touched_none : (s : Swept) (e : Event) (o : Option Sweep) → o ≡ None
    → SameTouches (without (taken_in s o) (touched (λ d. is_one_of d (marks_in o)) (moment e) (touches_after s.touches e))) (touches_after s.touches e)
touched_none s e o is =
    subst (λ x. SameTouches (without (taken_in s x) (touched (λ d. is_one_of d (marks_in x)) (moment e) (touches_after s.touches e))) (touches_after s.touches e)) (sym is)
    (record { last = λ d. refl; undated = λ d. refl })

pub unswept_touches : (R : Option (List Snapshot)) (w : World) (s : Swept) (e : Event) → (class_of e.act ≡ sweeping → ⊥)
    → SameTouches (swept_after R w s e).touches (touches_after s.touches e)
unfolding swept_after
unswept_touches R w s e other = touched_none s e (passing s e) (none_passing s e other)

-- it is allowed
pub fits_other : (w : World) (s : Swept) (k : ℕ) (r : Option Reply) (c : Class) (n : EntryKind) → (c ≡ sweeping → ⊥) → FitsSweep w s k r c n
fits_other w s k r stepping n other = tt
fits_other w s k r starting n other = tt
fits_other w s k r reaching n other = tt
fits_other w s k r sweeping n other = absurd (other refl)
fits_other w s k r wanting n other = tt
fits_other w s k r ending n other = tt

-- What a collector reports as it ends.
use Rattle.std.proofs.Common.{◌≡◌, ℕ, Bool, true, false, List, [], ◌∷◌, ◌++◌, Option, Some, None, subst}
use Rattle.std.specs.Prelude.{IsSomeAnd}
use Rattle.store_types.specs.declared.refusal.Refusal.TheVariants.{NoMemory}
use Rattle.store_types.specs.declared.order.TheConstants.{STOP_KIND}
use Rattle.store_files.specs.Archive.{Snapshot}
use Rattle.wire_commands.specs.declared.reply.Reply.{Reply}
use Rattle.wire_commands.specs.declared.reply.Reply.TheVariants.{Refused}
use Rattle.store_history.specs.declared.act.Act.{Act}
use Rattle.store_history.specs.declared.act.Event.{Event}
use Rattle.store_history.specs.Acts.{Class, sweeping, class_of}
use Rattle.store_history.specs.History.{World, Opening, opened, after, lane, moment, kind, reply, kind_of, close_kind}
use Rattle.store_history.specs.Legal.{Right, Reports, IsRight, IsLegal, collecting_on}
use Rattle.store_history.specs.Sweeping.{Swept, swept_at, is_over, swept_after, swept_all, report_of, EndsSweep, FitsSweep, IsSwept}

-- the sweep is over, and this is its report
abbrev pub IsReported : Swept → Option Reply → Type 0
IsReported s r = IsSomeAnd s.sweep (λ sweep. (is_over sweep ≡ true) × (r ≡ Some (report_of s sweep)))

by_short : (s : Swept) (r : Option Reply) (o : Option Bool) → Reports o r → EndsSweep s r o → (r ≡ Some (Refused NoMemory) → ⊥) → IsReported s r
by_short s r None told fits off = absurd told
by_short s r (Some true) told fits off = absurd (off told)
by_short s r (Some false) told fits off = fits

by_class : (R : Option (List Snapshot)) (w : World) (s : Swept) (k m : ℕ) (a : Act) (r : Option Reply) (c : Class) → Right R w k m a r c close_kind → FitsSweep w s k r c close_kind
    → (r ≡ Some (Refused NoMemory) → ⊥) → IsReported s r
by_class R w s k m a r sweeping right fits off = by_short s r (collecting_on w k) right.1 fits off
by_class R w s k m a r c right fits off = absurd right

one_reported : (R : Option (List Snapshot)) (w : World) (s : Swept) (e : Event) → IsRight R w e → FitsSweep w s (lane e) (reply e) (class_of e.act) (kind_of (kind e)) → kind e ≡ STOP_KIND
    → (reply e ≡ Some (Refused NoMemory) → ⊥) → IsReported s (reply e)
one_reported R w s e right fits is off =
    by_class R w s (lane e) (moment e) e.act (reply e) (class_of e.act)
    (subst (λ n. Right R w (lane e) (moment e) e.act (reply e) (class_of e.act) (kind_of n)) is right.says)
    (subst (λ n. FitsSweep w s (lane e) (reply e) (class_of e.act) (kind_of n)) is fits) off

last_reported : (R : Option (List Snapshot)) (w : World) (s : Swept) (es : List Event) (e : Event) → IsLegal R w (es ++ e ∷ []) → IsSwept R w s (es ++ e ∷ []) → kind e ≡ STOP_KIND
    → (reply e ≡ Some (Refused NoMemory) → ⊥) → IsReported (swept_all R w s es) (reply e)
unfolding swept_all
last_reported R w s [] e legal fits is off = one_reported R w s e legal.0 fits.0 is off
last_reported R w s (v ∷ es) e legal fits is off = last_reported R (after R w v) (swept_after R w s v) es e legal.1 fits.1 is off

pub ends_reported : (R : Option (List Snapshot)) (o : Opening) (es : List Event) (e : Event) → IsLegal R (opened o) (es ++ e ∷ []) → IsSwept R (opened o) (swept_at o) (es ++ e ∷ [])
    → kind e ≡ STOP_KIND → (reply e ≡ Some (Refused NoMemory) → ⊥) → IsReported (swept_all R (opened o) (swept_at o) es) (reply e)
ends_reported R o es e legal fits is off = last_reported R (opened o) (swept_at o) es e legal fits is off

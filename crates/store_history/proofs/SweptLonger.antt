-- The sweep of a history that is longer by one event.
use Rattle.std.proofs.Common.{◌≡◌, List, [], ◌∷◌, ◌++◌, Option, refl}
use Rattle.store_files.specs.Archive.{Snapshot}
use Rattle.store_history.specs.declared.act.Event.{Event}
use Rattle.store_history.specs.Acts.{class_of}
use Rattle.store_history.specs.History.{World, Opening, opened, after, after_all, lane, kind, kind_of, reply}
use Rattle.store_history.specs.Sweeping.{swept, world}
use Rattle.store_history.specs.Sweeping.{FitsSweep, IsSwept, Swept, swept_after, swept_all, swept_at}

swept_more : (R : Option (List Snapshot)) (w : World) (s : Swept) (es : List Event) (e : Event)
    → swept_all R w s (es ++ e ∷ []) ≡ swept_after R (after_all R w es) (swept_all R w s es) e
unfolding swept_all after_all
swept_more R w s [] e = refl
swept_more R w s (v ∷ vs) e = swept_more R (after R w v) (swept_after R w s v) vs e

pub swept_longer : (R : Option (List Snapshot)) (o : Opening) (es : List Event) (e : Event) → swept R o (es ++ e ∷ []) ≡ swept_after R (world R o es) (swept R o es) e
swept_longer R o es e = swept_more R (opened o) (swept_at o) es e

-- where the last event is allowed
pub is_swept_longer : (R : Option (List Snapshot)) (w : World) (s : Swept) (es : List Event) (e : Event) → IsSwept R w s es
    → FitsSweep (after_all R w es) (swept_all R w s es) (lane e) (reply e) (class_of e.act) (kind_of (kind e)) → IsSwept R w s (es ++ e ∷ [])
unfolding swept_all after_all
is_swept_longer R w s [] e is fits = (fits, tt)
is_swept_longer R w s (v ∷ vs) e is fits = (is.0, is_swept_longer R (after R w v) (swept_after R w s v) vs e is.1 fits)

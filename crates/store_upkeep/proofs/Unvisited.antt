-- No chunk is visited before all is marked.
use Rattle.std.proofs.Common.{◌≡◌, ℕ, List, [], ◌∷◌, not, Option, Some, None, refl, sym, ap, ◌∙◌}
use Rattle.std.specs.Prelude.{option_map}
use Rattle.std.specs.List.{filter}
use Rattle.store_files.specs.Archive.{Snapshot}
use Rattle.store_model.specs.Lanes.{Collecting}
use Rattle.wire_commands.specs.declared.reply.Reply.{Reply}
use Rattle.store_history.specs.declared.act.Act.{Act}
use Rattle.store_history.specs.declared.act.Event.{Event}
use Rattle.store_history.specs.Acts.{Class, starting, sweeping, class_of}
use Rattle.store_history.specs.History.{World, Opening, opened, after, moment, kind, reply, EntryKind, kind_of, pass_kind, start_kind}
use Rattle.store_history.specs.Sweeping.{Unmarked, Sweep, Swept, swept_at, new_sweep, passed, forgets, spared, swept_by, while_open, swept_after, swept_all, swept}
use Rattle.store_upkeep.specs.Laws.{IsUnvisited}
use Rattle.store_upkeep.proofs.Members.{some_same, none_some}

no_cons : (u : Unmarked) (us : List Unmarked) → u ∷ us ≡ [] → ⊥
no_cons u us e = cc

none_unvisited : IsUnvisited None
none_unvisited b is left = absurd (none_some b is)

started_unvisited : (w : World) (m : ℕ) → IsUnvisited (Some (new_sweep w.store m))
started_unvisited w m b is left =
    let one = some_same (new_sweep w.store m) b is in
    (sym (ap (λ (x : Sweep). x.to_visit) one), sym (ap (λ (x : Sweep). x.removed) one))

passed_unvisited : (s : Swept) (a : Sweep) (us : List Unmarked) → a.unmarked ≡ us → IsUnvisited (Some a) → IsUnvisited (Some (passed s a us))
passed_unvisited s a [] all h b is left = absurd (left (sym (ap (λ (x : Sweep). x.unmarked) (some_same (passed s a []) b is)) ∙ all))
passed_unvisited s a (u ∷ us) all h b is left =
    let one = some_same (passed s a (u ∷ us)) b is in
    let was = h a refl (λ none. no_cons u us (sym all ∙ none)) in
    (sym (ap (λ (x : Sweep). x.to_visit) one) ∙ was.0, sym (ap (λ (x : Sweep). x.removed) one) ∙ was.1)

spared_unvisited : (act : Act) (r : Option Reply) (a : Sweep) → IsUnvisited (Some a) → IsUnvisited (Some (spared act r a))
spared_unvisited act r a h b is left =
    let one = some_same (spared act r a) b is in
    let was = h a refl (λ none. left (sym (ap (λ (x : Sweep). x.unmarked) one) ∙ ap (filter (λ u. not (forgets act r u.key))) none)) in
    (sym (ap (λ (x : Sweep). x.to_visit) one) ∙ was.0, sym (ap (λ (x : Sweep). x.removed) one) ∙ was.1)

passes : (s : Swept) (o : Option Sweep) → IsUnvisited o → IsUnvisited (option_map (λ sweep. passed s sweep sweep.unmarked) o)
passes s None h = none_unvisited
passes s (Some a) h = passed_unvisited s a a.unmarked refl h

spares : (act : Act) (r : Option Reply) (o : Option Sweep) → IsUnvisited o → IsUnvisited (option_map (spared act r) o)
spares act r None h = none_unvisited
spares act r (Some a) h = spared_unvisited act r a h

by_class : (w : World) (s : Swept) (e : Event) (c : Class) (n : EntryKind) → IsUnvisited s.sweep → IsUnvisited (swept_by w s e c n)
by_class w s e starting start_kind h = started_unvisited w (moment e)
by_class w s e sweeping pass_kind h = passes s s.sweep h
by_class w s e c n h = spares e.act (reply e) s.sweep h

open_unvisited : (o : Option Collecting) (new : Option Sweep) → IsUnvisited new → IsUnvisited (while_open o new)
open_unvisited None new h = none_unvisited
open_unvisited (Some collecting) new h = h

next_unvisited : (R : Option (List Snapshot)) (w : World) (s : Swept) (e : Event) → IsUnvisited s.sweep → IsUnvisited (swept_after R w s e).sweep
unfolding swept_after
next_unvisited R w s e h =
    open_unvisited (after R w e).collecting (swept_by w s e (class_of e.act) (kind_of (kind e))) (by_class w s e (class_of e.act) (kind_of (kind e)) h)

all_unvisited : (R : Option (List Snapshot)) (w : World) (s : Swept) (es : List Event) → IsUnvisited s.sweep → IsUnvisited (swept_all R w s es).sweep
unfolding swept_all
all_unvisited R w s [] h = h
all_unvisited R w s (e ∷ es) h = all_unvisited R (after R w e) (swept_after R w s e) es (next_unvisited R w s e h)

pub visits_last : (R : Option (List Snapshot)) (o : Opening) (es : List Event) → IsUnvisited (swept R o es).sweep
visits_last R o es = all_unvisited R (opened o) (swept_at o) es none_unvisited

-- A start is refused as the plain store's is.
use Rattle.std.proofs.Common.{◌≡◌, ◌<◌, ℕ, Bool, List, [], ◌∷◌, map, Option, Some, None, Result, Ok, Err, is_some, refl, sym, ap, ◌∙◌}
use Rattle.std.specs.List.{find}
use Rattle.store_types.specs.Chain.Refusing.{◌>>=◌, if_none}
use Rattle.store_types.specs.declared.refusal.Refusal.{Refusal}
use Rattle.store_types.specs.declared.refusal.Refusal.TheVariants.{CollectorBusy, Unreadable}
use Rattle.store_files.specs.Archive.{Snapshot}
use Rattle.store_model.specs.Lanes.{Collecting}
use Rattle.store_model.specs.Heads as model
use Rattle.store_model.specs.Weave.{want_collector}
use Rattle.store_history.specs.History.{World}
use Rattle.store_history.specs.Legal.{may_open}
use Rattle.core_state.specs.Found.{first_unreadable, unreadable_of}
use Rattle.core_state.specs.declared.collector.Collector.{Collector}
use Rattle.core_state.specs.declared.kept.Kept.{Kept}
use Rattle.core_state.specs.declared.kept.Listed.{Listed}
use Rattle.core_state.specs.declared.parts.Parts.{Parts}
use Rattle.core_state.specs.Collectors.{OpenOn, ended_if, open_in, shown_collecting}
use Rattle.core_state.specs.Heads.{idle_in}
use Rattle.core_state.specs.Holds.{Shows}
use Rattle.core_state.specs.Kept.{kept_at}
use Rattle.core_state.specs.Shown.{shown_snapshot}
use Rattle.core_state.proofs.HeadLemmas.{idle_in_is}
use Rattle.core_state.proofs.Finding.{find_map, no_mapped}
use Rattle.core_collect.specs.Starting.{start_told}
use Rattle.core_collect.proofs.StartLemmas.{busy}

none_some : (x : OpenOn) → None ≡ Some x → ⊥
none_some x e = cc

some_none : (x : OpenOn) → Some x ≡ None → ⊥
some_none x e = cc

open_same : (x y : OpenOn) → Some x ≡ Some y → x ≡ y
open_same x y e = cc

abbrev busy_in : Option Collecting → Result (Unit {0}) Refusal
busy_in w = if_none (λ (x : Collecting). CollectorBusy x.lane) w

busy_same : (c : Option Collector) (w : Option Collecting) → open_in c ≡ shown_collecting w → busy c ≡ busy_in w
busy_same None None is = refl
busy_same None (Some w) is = absurd (none_some (record { lane = w.lane; ended = ended_if w.is_out_of_memory }) is)
busy_same (Some c) None is = absurd (some_none (record { lane = c.lane; ended = c.ended }) is)
busy_same (Some c) (Some w) is =
    ap (λ (x : OpenOn). let r : Result (Unit {0}) Refusal = Err (CollectorBusy x.lane) in r)
    (open_same (record { lane = c.lane; ended = c.ended }) (record { lane = w.lane; ended = ended_if w.is_out_of_memory }) is)

-- no snapshot of a plain store is damaged
none_damaged : (snapshots : List Snapshot) → find (λ (k : Kept). is_some k.unreadable) (map shown_snapshot snapshots) ≡ None
none_damaged [] = refl
none_damaged (x ∷ xs) = none_damaged xs

none_unreadable : (catalogue : List Listed) (snapshots : List Snapshot) → map (λ x. x.kept) catalogue ≡ map shown_snapshot snapshots → first_unreadable catalogue ≡ None
none_unreadable catalogue snapshots is =
    let p : Kept → Bool = λ k. is_some k.unreadable in
    ap unreadable_of (no_mapped (λ (x : Listed). x.kept) (find (λ (x : Listed). is_some (x.kept).unreadable) catalogue)
    (sym (find_map (λ (x : Listed). x.kept) p catalogue) ∙ ap (find p) is ∙ none_damaged snapshots))

tests_end : (a b : Result (Unit {0}) Refusal) → (a >>= λ _. b >>= λ _. if_none Unreadable None) ≡ (a >>= λ _. b)
tests_end (Err e) b = refl
tests_end (Ok x) (Err e) = refl
tests_end (Ok x) (Ok y) = refl

tests_same : (a b x y : Result (Unit {0}) Refusal) (o : Option (List ℕ)) → a ≡ b → x ≡ y → o ≡ None
    → (a >>= λ _. x >>= λ _. if_none Unreadable o) ≡ (b >>= λ _. y)
tests_same a b x y o first next none =
    ap (λ q. q >>= λ _. x >>= λ _. if_none Unreadable o) first
    ∙ ap (λ q. b >>= λ _. q >>= λ _. if_none Unreadable o) next
    ∙ ap (λ p. b >>= λ _. y >>= λ _. if_none Unreadable p) none
    ∙ tests_end b y

-- a start is refused as the plain store's is
pub start_told_is : {D : Type 0} (parts : Parts D) (w : World) (k : ℕ) (c : Option Collector) → Shows parts w.store → open_in c ≡ shown_collecting w.collecting → k < 64
    → start_told c (kept_at parts k) ≡ may_open w k
unfolding start_told want_collector
start_told_is parts w k c shows is lt =
    tests_same (idle_in (kept_at parts k)) (model.idle_in w.store k) (busy c) (busy_in w.collecting) (first_unreadable parts.catalogue.listed)
    (idle_in_is parts w.store k shows lt) (busy_same c w.collecting is) (none_unreadable parts.catalogue.listed (w.store).snapshots shows.catalogue)

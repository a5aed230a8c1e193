-- An act of one lane leaves the sessions of the others.
use Rattle.std.proofs.Common.{◌≡◌, ◌≢◌, ℕ, List, Option, ap, ◌∙◌}
use Rattle.std.proofs.lemmas.List.{get_or-set_other}
use Rattle.store_files.specs.Archive.{Snapshot}
use Rattle.store_model.specs.Store.{none, Store, session}
use Rattle.store_model.specs.Done.{Effect, Shape, same, turned, more, less}
use Rattle.store_history.specs.declared.act.Act.{Act}
use Rattle.store_history.specs.History.{World, EntryKind, moved}
use Rattle.store_history.proofs.ActShapes.{act_effect, moved_shape}

apart : (s : Store) (k m j : ℕ) (e : Effect) (t : Store) → j ≢ k → Shape s k m e t → session t j ≡ session s j
apart s k m j e t ne (same is) = ap (λ x. session x j) is
apart s k m j e t ne (turned x next is) = ap (λ x. session x j) is ∙ get_or-set_other s.sessions k j _ none ne
apart s k m j e t ne (more v finishes runs is) = ap (λ x. session x j) is ∙ get_or-set_other s.sessions k j _ none ne
apart s k m j e t ne (less text key forgets named free is) = ap (λ x. session x j) is

-- so an event does
pub moved_apart : (R : Option (List Snapshot)) (w : World) (k m j : ℕ) (a : Act) (n : EntryKind) → j ≢ k → session (moved R w k m a n).store j ≡ session w.store j
moved_apart R w k m j a n ne = apart w.store k m j (act_effect a) (moved R w k m a n).store ne (moved_shape R w k m a n)

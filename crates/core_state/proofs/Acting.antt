-- Acts that change nothing.
use Rattle.disk_trait.specs.declared.disk.Disk.{Ghosts}
use Rattle.std.proofs.Common.{◌≡◌, ◌↔◌, map, sym, ap, subst, ◌∙◌}
use Rattle.store_model.specs.Store.{Store}
use Rattle.core_state.specs.declared.parts.Parts.{Parts}
use Rattle.core_state.specs.Indexed.{FitsRows}
use Rattle.core_state.specs.Locked.{Locked}
use Rattle.core_state.specs.Holds.{Shows, IsOnDisk, Holds}
use Rattle.core_state.specs.Unchanged.{SamePlain, SameKept}

pub plain_of : {D : Type 0} (old new : Parts D) → SameKept old new → SamePlain old new
plain_of old new k = record { catalogue = k.catalogue; sessions = k.sessions; locks = k.locks }

-- but of what is kept of indexes
pub shows_kept : {D : Type 0} (old new : Parts D) (s : Store) → SamePlain old new → FitsRows s new.indexes.items → Shows old s → Shows new s
shows_kept old new s k rows h = record {
  catalogue = ap (λ items. map (λ x. x.kept) items) k.catalogue ∙ h.catalogue;
  sessions = k.sessions ∙ h.sessions;
  locks = subst (λ locks. Locked locks s) (sym k.locks) h.locks;
  indexes = rows;
  sound = h.sound;
}

pub shows_same : {D : Type 0} (old new : Parts D) (s : Store) → SameKept old new → Shows old s → Shows new s
shows_same old new s k h = shows_kept old new s (plain_of old new k) (subst (FitsRows s) (sym k.indexes) h.indexes) h

module _ {D : Type 0} (g : Ghosts D) where
  pub holds_kept : (old new : Parts D) (s : Store) → (g.honest old.disk ↔ g.honest new.disk) → (g.honest old.disk → g.content new.disk ≡ g.content old.disk) → SamePlain old new
      → FitsRows s new.indexes.items → Holds g old s → Holds g new s
  holds_kept old new s kept same k rows h = record {
    honest = kept.0 h.honest;
    shows = shows_kept old new s k rows h.shows;
    files = subst (λ m. IsOnDisk m s) (sym (same h.honest)) h.files;
  }

  pub holds_same : (old new : Parts D) (s : Store) → (g.honest old.disk ↔ g.honest new.disk) → (g.honest old.disk → g.content new.disk ≡ g.content old.disk) → SameKept old new
      → Holds g old s → Holds g new s
  holds_same old new s kept same k h = holds_kept old new s kept same (plain_of old new k) (subst (FitsRows s) (sym k.indexes) (h.shows).indexes) h

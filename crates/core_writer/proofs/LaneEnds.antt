-- A lane's end, by the place that it has in the order.
use Rattle.std.proofs.Common.{◌≡◌, ℕ, true, false, set, Option, Some, None, refl, sym, subst}
use Rattle.std.specs.Option.{is_some}
use Rattle.store_model.specs.Store.{Store, ended}
use Rattle.store_history.specs.declared.act.Act.TheVariants.{End}
use Rattle.core_state.proofs.Commanding.{others_set}
use Rattle.core_state.specs.declared.indexes.Indexes.TheVariants.{Unread}
use Rattle.core_state.specs.declared.kept.Session.TheVariants.{Idle}
use Rattle.core_state.specs.declared.parts.Parts.{Parts}
use Rattle.core_state.specs.Closing.{HasEnded}
use Rattle.core_state.specs.Commands.{LeavesRows, OthersStay}
use Rattle.core_state.specs.Holds.{Shows}
use Rattle.core_state.specs.Wanted.{session_at}
use Rattle.core_state.proofs.Rows.{rows_but}

pub some_is : (o : Option ℕ) → is_some o ≡ true → (n : ℕ) × (o ≡ Some n)
some_is None h = absurd (no_true h)
  where
    no_true : false ≡ true → ⊥
    no_true e = cc
some_is (Some n) h = (n, refl)

pub none_is : (o : Option ℕ) → is_some o ≡ false → o ≡ None
none_is None h = refl
none_is (Some n) h = absurd (no_false h)
  where
    no_false : true ≡ false → ⊥
    no_false e = cc

-- the lane is the place's
pub lane_shows : {D : Type 0} (parts : Parts D) (s : Store) (at lane : ℕ) → at ≡ lane → Shows parts (ended s lane) → Shows parts (ended s at)
lane_shows parts s at lane is shows = subst (λ l. Shows parts (ended s l)) (sym is) shows

pub lane_idle : {D : Type 0} (parts : Parts D) (at lane : ℕ) → at ≡ lane → session_at parts lane ≡ Idle → session_at parts at ≡ Idle
lane_idle parts at lane is idle = subst (λ l. session_at parts l ≡ Idle) (sym is) idle

pub lane_ended : {D : Type 0} (parts : Parts D) (at lane : ℕ) → at ≡ lane → HasEnded parts lane → HasEnded parts at
lane_ended parts at lane is ended = subst (HasEnded parts) (sym is) ended

-- the other lanes keep what they kept of indexes
pub others_keep : {D : Type 0} (old new : Parts D) (at lane : ℕ) → at ≡ lane → new.indexes.items ≡ set old.indexes.items lane Unread → LeavesRows old new at End
others_keep old new at lane is emptied = subst (λ l. LeavesRows old new l End) (sym is) (rows_but old new.indexes.items lane End Unread refl emptied)

-- and their sessions
pub others_stay : {D : Type 0} (old new : Parts D) (at lane : ℕ) → at ≡ lane → new.sessions.items ≡ set old.sessions.items lane Idle → OthersStay old new at
others_stay old new at lane is sets = subst (OthersStay old new) (sym is) (others_set old new lane Idle sets)

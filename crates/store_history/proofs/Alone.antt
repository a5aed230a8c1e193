-- A history of one lane alone.
use Rattle.std.proofs.Common.{ℕ, zero, suc, ◌<◌, List, [], ◌∷◌, Option, refl, sym, subst, arith, slice_index_or}
use Rattle.std.specs.List.{All}
use Rattle.store_types.specs.Names.{IsKey}
use Rattle.store_files.specs.Archive.{Snapshot}
use Rattle.wire_commands.specs.declared.reply.Reply.{Reply}
use Rattle.store_model.specs.declared.ending.Ending.{Ending}
use Rattle.store_history.specs.declared.act.Event.{Event}
use Rattle.store_history.specs.History.{Opening, opened, own}
use Rattle.store_history.specs.Legal.{IsLegal}
use Rattle.store_history.specs.Remote.{IsRemote}
use Rattle.store_history.specs.LaneRun.{LaneRan}
use Rattle.store_history.specs.Seats.{AreOf}
use Rattle.store_history.specs.Woven.{ending_at, IsServed}
use Rattle.store_history.proofs.Longer.{own_all, of_lanes}

-- its events are those of lane 0
pub runs_alone : (h : List Event) (input : List ℕ) (e : Ending) (told : List Reply) → AreOf 0 h → LaneRan input e h told
    → (k : ℕ) → k < 1 → LaneRan (slice_index_or (input ∷ []) k []) (ending_at (e ∷ []) k) (own k h) (slice_index_or (told ∷ []) k [])
runs_alone h input e told are ran zero lt = subst (λ xs. LaneRan input e xs told) (sym (own_all 0 h are)) ran
runs_alone h input e told are ran (suc k) lt = absurd (omega arith)

-- where its events are a run of the lane's program, the one lane is served
pub served_alone : (o : Opening) (R : Option (List Snapshot)) (h : List Event) (input : List ℕ) (e : Ending) (told : List Reply)
    → IsRemote R → All (λ x. IsKey x.key) o.snapshots → IsLegal R (opened o) h → AreOf 0 h → LaneRan input e h told → IsServed o R h (input ∷ []) (e ∷ []) (told ∷ [])
served_alone o R h input e told remote fine legal are ran =
    record { legal = legal; remote_is = remote; keys = fine; lanes = of_lanes 0 1 h (omega arith) are; each = refl; runs = λ k lt. runs_alone h input e told are ran k lt }

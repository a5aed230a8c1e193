-- The whole: a legal history, whose own events on each lane are a run of the lane's program, is what `weave` gives.
use Rattle.std.specs.Prelude.{IsTrue, ℕ, ◌≡◌, ◌<◌, List, [], ◌∷◌, map, length, Option, Ok, slice_index_or}
use Rattle.std.specs.List.{All}
use Rattle.store_types.specs.Names.{IsKey}
use Rattle.store_files.specs.Archive.{Snapshot}
use Rattle.store_files.specs.Order.{keeps_rules}
use Rattle.wire_commands.specs.declared.reply.Reply.{Reply}
use Rattle.store_model.specs.declared.ending.Ending.{Ending}
use Rattle.store_model.specs.declared.ending.Ending.TheVariants as endings
use Rattle.store_model.specs.Weave.{weave}
use Rattle.store_history.specs.declared.act.Event.{Event}
use Rattle.store_history.specs.History.{Opening, opened, after_all, entries, own, lane}
use Rattle.store_history.specs.Legal.{IsLegal}
use Rattle.store_history.specs.LaneRun.{plain_text, LaneRan}
use Rattle.store_history.specs.Remote.{IsRemote}

-- every event is of one of so many lanes
abbrev pub AreLanes : ℕ → List Event → Type 0
AreLanes lanes [] = Unit {0}
AreLanes lanes (e ∷ es) = (lane e < lanes) × AreLanes lanes es

abbrev pub ending_at : List Ending → ℕ → Ending
ending_at es k = slice_index_or es k endings.Clean

-- From this opening, whose snapshots have keys of the grammar, the history is legal, beside a list of the remote's that a disk can stand for. It
-- has events of these lanes alone, and each lane's own are a run of its program on its input, to its ending, which told this.
pub record IsServed (o : Opening) (remote : Option (List Snapshot)) (h : List Event) (inputs : List (List ℕ)) (es : List Ending) (told : List (List Reply)) : Type 0 where
  pub legal : IsLegal remote (opened o) h
  pub remote_is : IsRemote remote
  pub keys : All (λ x. IsKey x.key) o.snapshots
  pub lanes : AreLanes (length inputs) h
  pub each : length told ≡ length inputs
  pub runs : (k : ℕ) → k < length inputs → LaneRan (slice_index_or inputs k []) (ending_at es k) (own k h) (slice_index_or told k [])

-- The plain store, asked in the history's order, gives the history's last store, and what each lane told, but for the numbers of a
-- collector's report.
abbrev pub IsWoven : Opening → Option (List Snapshot) → List Event → List (List ℕ) → List Ending → List (List Reply) → Type 0
IsWoven o remote h inputs es told =
    weave o.snapshots remote (entries h) inputs es ≡ Ok (record { store = (after_all remote (opened o) h).store; replies = map plain_text told })

-- the history's order keeps the rules of order files
abbrev pub FitsRules : List Event → List (List ℕ) → Type 0
FitsRules h inputs = IsTrue (keeps_rules (length inputs) (entries h))

-- ---- the two laws of what was served

abbrev pub ServedIsWoven : Type 0
ServedIsWoven =
    (o : Opening) (remote : Option (List Snapshot)) (h : List Event) (inputs : List (List ℕ)) (es : List Ending) (told : List (List Reply))
    → IsServed o remote h inputs es told → IsWoven o remote h inputs es told

abbrev pub ServedFitsRules : Type 0
ServedFitsRules =
    (o : Opening) (remote : Option (List Snapshot)) (h : List Event) (inputs : List (List ℕ)) (es : List Ending) (told : List (List Reply))
    → IsServed o remote h inputs es told → FitsRules h inputs

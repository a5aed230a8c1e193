-- Which statuses a run has whose sessions were served: the first that applies.
use Rattle.std.proofs.Common.{◌≡◌, inl, inr, Bool, true, false, ◌||◌, List, [], ◌∷◌, Option, Some, None, if◌then◌else◌, refl, ap, sym, ◌∙◌}
use Rattle.std.specs.List.{list_any}
use Rattle.disk_trait.specs.declared.disk.DiskError.{DiskError}
use Rattle.disk_trait.specs.declared.disk.DiskError.TheVariants as disks
use Rattle.store_types.specs.declared.order.Entry.{Entry}
use Rattle.store_model.specs.declared.ending.Ending.{Ending}
use Rattle.store_history.specs.declared.port.LaneReport.{LaneReport}
use Rattle.lane.specs.Entries.{has_kind}
use Rattle.pbs_server.specs.declared.status.Status.{Status}
use Rattle.pbs_server.specs.declared.status.Status.TheVariants as statuses
use Rattle.pbs_server.specs.Headline.{AsksNone}
use Rattle.pbs_server.specs.Statuses.{beside_sink, endings_of, first_of, has_disk_fault, is_failed, is_short, is_wanting, run_facts, some_tells, tells}

-- ---- by how lanes ended

-- a source's fault, a sink's, too long a source, a place without a command
abbrev pub ended : Bool → Bool → Bool → Bool → Status
ended source sink long broken =
    if source then statuses.SourceFault else if sink then statuses.SinkFault else if long then statuses.SourceTooLong else if broken then statuses.BadFrame else statuses.Ok

-- nothing comes before a place without a command
pub record IsPlace (source sink long : Bool) : Type 0 where
  pub source_is : source ≡ false
  pub sink_is : sink ≡ false
  pub long_is : long ≡ false

pub ended_ok : (s k l b : Bool) → ended s k l b ≡ statuses.Ok → IsPlace s k l × (b ≡ false)
ended_ok true k l b is = cc
ended_ok false true l b is = cc
ended_ok false false true b is = cc
ended_ok false false false true is = cc
ended_ok false false false false is = (record { source_is = refl; sink_is = refl; long_is = refl }, refl)

pub ended_broken : (s k l b : Bool) → ended s k l b ≡ statuses.BadFrame → IsPlace s k l × (b ≡ true)
ended_broken true k l b is = cc
ended_broken false true l b is = cc
ended_broken false false true b is = cc
ended_broken false false false true is = (record { source_is = refl; sink_is = refl; long_is = refl }, refl)
ended_broken false false false false is = cc

pub ended_source : (s k l b : Bool) → ended s k l b ≡ statuses.SourceFault → s ≡ true
ended_source true k l b is = refl
ended_source false true l b is = cc
ended_source false false true b is = cc
ended_source false false false true is = cc
ended_source false false false false is = cc

pub ended_sink : (s k l b : Bool) → ended s k l b ≡ statuses.SinkFault → k ≡ true
ended_sink true k l b is = cc
ended_sink false true l b is = refl
ended_sink false false true b is = cc
ended_sink false false false true is = cc
ended_sink false false false false is = cc

pub ended_long : (s k l b : Bool) → ended s k l b ≡ statuses.SourceTooLong → l ≡ true
ended_long true k l b is = cc
ended_long false true l b is = cc
ended_long false false true b is = refl
ended_long false false false true is = cc
ended_long false false false false is = cc

-- where a place without a command is all, or nothing
pub place_ended : (s k l b : Bool) → IsPlace s k l → ended s k l b ≡ (if b then statuses.BadFrame else statuses.Ok)
place_ended s k l b p =
    ap (λ x. ended x k l b) p.source_is ∙ ap (λ x. ended false x l b) p.sink_is ∙ ap (λ x. ended false false x b) p.long_is

-- ---- what comes before

-- by want of memory, a fault of the disk, one of the remote
abbrev pub chosen : Bool → Bool → Bool → Status → Status
chosen short disk remote s = if short then statuses.NoMemory else if disk then statuses.DiskFault else if remote then statuses.RemoteFault else s

pub record IsLast (short disk remote : Bool) (s t : Status) : Type 0 where
  pub status : s ≡ t
  pub short_is : short ≡ false
  pub disk_is : disk ≡ false
  pub remote_is : remote ≡ false

-- neither want of memory nor a fault of the disk or of the remote
pub last_chosen : (a c g : Bool) (s t : Status) → (statuses.NoMemory ≡ t → ⊥) → (statuses.DiskFault ≡ t → ⊥) → (statuses.RemoteFault ≡ t → ⊥) → chosen a c g s ≡ t → IsLast a c g s t
last_chosen true c g s t memory disk remote is = absurd (memory is)
last_chosen false true g s t memory disk remote is = absurd (disk is)
last_chosen false false true s t memory disk remote is = absurd (remote is)
last_chosen false false false s t memory disk remote is = record { status = is; short_is = refl; disk_is = refl; remote_is = refl }

-- a calm order is answered by the endings
pub calm_chosen : (a c g : Bool) (s : Status) → a ≡ false → c ≡ false → g ≡ false → chosen a c g s ≡ s
calm_chosen a c g s x z r = ap (λ i. chosen i c g s) x ∙ ap (λ i. chosen false i g s) z ∙ ap (λ i. chosen false false i s) r

pub disk_chosen : (a c g : Bool) (s : Status) → (s ≡ statuses.DiskFault → ⊥) → chosen a c g s ≡ statuses.DiskFault → c ≡ true
disk_chosen true c g s other is = cc
disk_chosen false true g s other is = refl
disk_chosen false false true s other is = cc
disk_chosen false false false s other is = absurd (other is)

pub remote_chosen : (a c g : Bool) (s : Status) → (s ≡ statuses.RemoteFault → ⊥) → chosen a c g s ≡ statuses.RemoteFault → g ≡ true
remote_chosen true c g s other is = cc
remote_chosen false true g s other is = cc
remote_chosen false false true s other is = refl
remote_chosen false false false s other is = absurd (other is)

pub memory_chosen : (a c g : Bool) (s : Status) → (s ≡ statuses.NoMemory → ⊥) → chosen a c g s ≡ statuses.NoMemory → a ≡ true
memory_chosen true c g s other is = refl
memory_chosen false true g s other is = cc
memory_chosen false false true s other is = cc
memory_chosen false false false s other is = absurd (other is)

-- ---- the statuses that are told by none of these

-- no ending is of this status
abbrev pub IsNoEnding : Status → Type 0
IsNoEnding t = (s k l b : Bool) → ended s k l b ≡ t → ⊥

pub no_disk : IsNoEnding statuses.DiskFault
no_disk true k l b is = cc
no_disk false true l b is = cc
no_disk false false true b is = cc
no_disk false false false true is = cc
no_disk false false false false is = cc

pub no_remote : IsNoEnding statuses.RemoteFault
no_remote true k l b is = cc
no_remote false true l b is = cc
no_remote false false true b is = cc
no_remote false false false true is = cc
no_remote false false false false is = cc

pub no_memory : IsNoEnding statuses.NoMemory
no_memory true k l b is = cc
no_memory false true l b is = cc
no_memory false false true b is = cc
no_memory false false false true is = cc
no_memory false false false false is = cc

no_usage : IsNoEnding statuses.Usage
no_usage true k l b is = cc
no_usage false true l b is = cc
no_usage false false true b is = cc
no_usage false false false true is = cc
no_usage false false false false is = cc

no_many : IsNoEnding statuses.TooManyLanes
no_many true k l b is = cc
no_many false true l b is = cc
no_many false false true b is = cc
no_many false false false true is = cc
no_many false false false false is = cc

-- where sessions were served
module _ (order : List Entry) (all : List Ending) (not_saved : Option DiskError) (failed : Bool) where
  other_chosen : (t : Status) → IsNoEnding t → (statuses.NoMemory ≡ t → ⊥) → (statuses.DiskFault ≡ t → ⊥) → (statuses.RemoteFault ≡ t → ⊥)
      → first_of (run_facts order all not_saved failed) ≡ t → ⊥
  other_chosen t none memory disk remote is =
      let sink = failed || some_tells statuses.SinkFault all in
      let s = ended (some_tells statuses.SourceFault all) sink (some_tells statuses.SourceTooLong all) (some_tells statuses.BadFrame all) in
      let last = last_chosen (is_short order all not_saved) (has_disk_fault order not_saved) (has_kind 7 order) s t memory disk remote is in
      none (some_tells statuses.SourceFault all) sink (some_tells statuses.SourceTooLong all) (some_tells statuses.BadFrame all) last.status

  -- they are never answered Usage or TooManyLanes
  pub served_asks : AsksNone (first_of (run_facts order all not_saved failed)) → ⊥
  served_asks (inl is) = other_chosen statuses.Usage no_usage (λ e. cc) (λ e. cc) (λ e. cc) is
  served_asks (inr is) = other_chosen statuses.TooManyLanes no_many (λ e. cc) (λ e. cc) (λ e. cc) is

-- by the order and the report that are handed back
pub status_is : (status : Status) (order kept : List Entry) (all : List Ending) (told not_saved : Option DiskError) (failed told_failed : Bool)
    → status ≡ first_of (run_facts kept all not_saved failed) → order ≡ kept → told ≡ not_saved → told_failed ≡ failed
    → status ≡ first_of (run_facts order all told told_failed)
status_is status order kept all told not_saved failed told_failed is same so fails =
    is ∙ ap (λ es. first_of (run_facts es all not_saved failed)) (sym same) ∙ ap (λ o. first_of (run_facts order all o failed)) (sym so)
    ∙ ap (λ b. first_of (run_facts order all told b)) (sym fails)

-- ---- where the journal fails too

beside_ended : (s k l b : Bool) → ended s true l b ≡ beside_sink (ended s k l b)
beside_ended true k l b = refl
beside_ended false true l b = refl
beside_ended false false true b = refl
beside_ended false false false true = refl
beside_ended false false false false = refl

beside_chosen : (a c g s k l b : Bool) → chosen a c g (ended s true l b) ≡ beside_sink (chosen a c g (ended s k l b))
beside_chosen true c g s k l b = refl
beside_chosen false true g s k l b = refl
beside_chosen false false true s k l b = refl
beside_chosen false false false s k l b = beside_ended s k l b

-- its fault is told where none of those comes before
pub beside_failed : (order : List Entry) (all : List Ending) (not_saved : Option DiskError)
    → first_of (run_facts order all not_saved true) ≡ beside_sink (first_of (run_facts order all not_saved false))
beside_failed order all not_saved =
    beside_chosen (is_short order all not_saved) (has_disk_fault order not_saved) (has_kind 7 order)
    (some_tells statuses.SourceFault all) (some_tells statuses.SinkFault all) (some_tells statuses.SourceTooLong all) (some_tells statuses.BadFrame all)

-- ---- by reports

pub tells_of : (status : Status) (reports : List LaneReport) → list_any (λ r. tells status r.ending) reports ≡ some_tells status (endings_of reports)
tells_of status [] = refl
tells_of status (r ∷ rs) = ap (λ b. tells status r.ending || b) (tells_of status rs)

-- ---- by why the book was not saved

pub saved_by : (o : Option DiskError) → is_wanting o ≡ false → is_failed o ≡ false → o ≡ None
saved_by None wanting failed = refl
saved_by (Some disks.NoMemory) wanting failed = cc
saved_by (Some disks.Failed) wanting failed = cc

pub wanting_is : (o : Option DiskError) → is_wanting o ≡ true → o ≡ Some disks.NoMemory
wanting_is None is = cc
wanting_is (Some disks.NoMemory) is = refl
wanting_is (Some disks.Failed) is = cc

pub failed_is : (o : Option DiskError) → is_failed o ≡ true → o ≡ Some disks.Failed
failed_is None is = cc
failed_is (Some disks.NoMemory) is = cc
failed_is (Some disks.Failed) is = refl

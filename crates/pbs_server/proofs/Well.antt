-- Where sessions ended cleanly or memory was wanting, and nothing else failed, the status is Ok or NoMemory.
use Rattle.disk_trait.specs.declared.disk.DiskError.{DiskError}
use Rattle.disk_trait.specs.declared.disk.DiskError.TheVariants as disks
use Rattle.std.proofs.Common.{◌≡◌, ◌||◌, ◌⊎◌, inl, inr, Bool, true, false, List, [], ◌∷◌, Option, Some, refl, sym, ap, ◌∙◌, if◌then◌else◌}
use Rattle.std.specs.List.{All}
use Rattle.std.proofs.lemmas.List.Elements.{All-nil, All-cons, All-head, All-tail}
use Rattle.store_types.specs.declared.order.Entry.{Entry}
use Rattle.store_model.specs.declared.ending.Ending.{Ending}
use Rattle.store_model.specs.declared.ending.Ending.TheVariants as endings
use Rattle.store_history.specs.declared.port.LaneReport.{LaneReport}
use Rattle.lane.specs.Entries.{has_kind}
use Rattle.pbs_server.specs.declared.status.Status.{Status}
use Rattle.pbs_server.specs.declared.status.Status.TheVariants as statuses
use Rattle.pbs_server.specs.Statuses.{endings_of, first_of, has_disk_fault, is_failed, is_short, is_wanting, run_facts, some_tells, tells}
use Rattle.pbs_server.proofs.Fine.{IsShort}
use Rattle.pbs_server.proofs.Statuses.{calm_chosen, chosen, ended, failed_is, place_ended}
use Rattle.pbs_server.proofs.Tests.{both_false, neither}

-- ---- by how lanes ended

-- neither of both endings tells it
tells_not : (t : Status) (e : Ending) → tells t endings.Clean ≡ false → tells t endings.NoMemory ≡ false → (e ≡ endings.Clean) ⊎ (e ≡ endings.NoMemory) → tells t e ≡ false
tells_not t e clean short (inl is) = ap (tells t) is ∙ clean
tells_not t e clean short (inr is) = ap (tells t) is ∙ short

none_tells : (t : Status) (rs : List LaneReport) → tells t endings.Clean ≡ false → tells t endings.NoMemory ≡ false → All IsShort rs → some_tells t (endings_of rs) ≡ false
none_tells t [] clean short are = refl
none_tells t (r ∷ rs) clean short are =
    both_false (tells t r.ending) (some_tells t (endings_of rs)) (tells_not t r.ending clean short (All-head IsShort r rs are)) (none_tells t rs clean short (All-tail IsShort r rs are))

abbrev IsClean : LaneReport → Type 0
IsClean r = r.ending ≡ endings.Clean

is_clean : (e : Ending) → (e ≡ endings.Clean) ⊎ (e ≡ endings.NoMemory) → tells statuses.NoMemory e ≡ false → e ≡ endings.Clean
is_clean e (inl is) other = is
is_clean e (inr is) other = absurd (apart (sym (ap (tells statuses.NoMemory) is) ∙ other))
  where
    apart : true ≡ false → ⊥
    apart x = cc

all_clean : (rs : List LaneReport) → All IsShort rs → some_tells statuses.NoMemory (endings_of rs) ≡ false → All (λ r. r.ending ≡ endings.Clean) rs
all_clean [] are none = All-nil IsClean
all_clean (r ∷ rs) are none =
    let both = neither (tells statuses.NoMemory r.ending) (some_tells statuses.NoMemory (endings_of rs)) none in
    All-cons IsClean r rs (is_clean r.ending (All-head IsShort r rs are) both.0) (all_clean rs (All-tail IsShort r rs are) both.1)

-- ---- the status

-- by how lanes ended
abbrev pub by_endings : List LaneReport → Status
by_endings rs =
    ended (some_tells statuses.SourceFault (endings_of rs)) (some_tells statuses.SinkFault (endings_of rs)) (some_tells statuses.SourceTooLong (endings_of rs)) (some_tells statuses.BadFrame (endings_of rs))

all_ok : (rs : List LaneReport) → All IsShort rs → by_endings rs ≡ statuses.Ok
all_ok rs are =
    place_ended (some_tells statuses.SourceFault (endings_of rs)) (some_tells statuses.SinkFault (endings_of rs)) (some_tells statuses.SourceTooLong (endings_of rs)) (some_tells statuses.BadFrame (endings_of rs))
    (record {
      source_is = none_tells statuses.SourceFault rs refl refl are;
      sink_is = none_tells statuses.SinkFault rs refl refl are;
      long_is = none_tells statuses.SourceTooLong rs refl refl are;
    })
    ∙ ap (λ b. if b then statuses.BadFrame else statuses.Ok) (none_tells statuses.BadFrame rs refl refl are)

pub well_by : (order : List Entry) (rs : List LaneReport) (not_saved : Option DiskError) (status : Status) → All IsShort rs → has_disk_fault order not_saved ≡ false → has_kind 7 order ≡ false
    → status ≡ first_of (run_facts order (endings_of rs) not_saved false) → ((status ≡ statuses.Ok) × All (λ r. r.ending ≡ endings.Clean) rs) ⊎ (status ≡ statuses.NoMemory)
well_by order rs not_saved status are disk remote is = by_short (is_short order (endings_of rs) not_saved) refl
  where
    by_short : (b : Bool) → is_short order (endings_of rs) not_saved ≡ b → ((status ≡ statuses.Ok) × All (λ r. r.ending ≡ endings.Clean) rs) ⊎ (status ≡ statuses.NoMemory)
    by_short true short = inr (is ∙ ap (λ x. chosen x (has_disk_fault order not_saved) (has_kind 7 order) (by_endings rs)) short)
    by_short false short = inl (
      is ∙ calm_chosen (is_short order (endings_of rs) not_saved) (has_disk_fault order not_saved) (has_kind 7 order) (by_endings rs) short disk remote ∙ all_ok rs are,
      all_clean rs are (neither (has_kind 2 order) (some_tells statuses.NoMemory (endings_of rs)) (neither (has_kind 2 order || some_tells statuses.NoMemory (endings_of rs)) (is_wanting not_saved) short).0).1,
    )

-- the disk did not fail
pub no_disk_fault : (order : List Entry) (not_saved : Option DiskError) → (has_kind 5 order ≡ true → ⊥) → (not_saved ≡ Some disks.Failed → ⊥) → has_disk_fault order not_saved ≡ false
no_disk_fault order not_saved acts saving = both_false (has_kind 5 order) (is_failed not_saved) (not_true (has_kind 5 order) acts) (not_true (is_failed not_saved) (λ is. saving (failed_is not_saved is)))
  where
    not_true : (b : Bool) → (b ≡ true → ⊥) → b ≡ false
    not_true true h = absurd (h refl)
    not_true false h = refl

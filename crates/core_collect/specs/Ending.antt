-- The end of a collector: its report, and what ended it early.
use Rattle.std.specs.Prelude.{◌≡◌, ℕ, Option, Some, None, Result, IfOk, OnOk}
use Rattle.disk_trait.specs.declared.disk.Disk.{Ghosts}
use Rattle.disk_trait.specs.declared.disk.DiskError.{DiskError}
use Rattle.disk_trait.specs.Effects.{LeavesBy}
use Rattle.file_install.specs.Install.{Installs, OkInstalls}
use Rattle.port_traits.specs.Readings.{Readings}
use Rattle.store_types.specs.declared.refusal.Refusal.TheVariants.{Halted}
use Rattle.store_files.specs.Book.{Book, FitsBook, book_text}
use Rattle.wire_commands.specs.declared.reply.Reply.{Reply}
use Rattle.wire_commands.specs.declared.reply.Reply.TheVariants.{Collected, Refused}
use Rattle.atime_book.specs.Counts.{Divides}
use Rattle.atime_book.specs.Touches.{IsAt, as_of}
use Rattle.gc_plan.specs.Plan.{Plan, report_of}
use Rattle.gc_plan.specs.declared.GcReport.{GcReport}
use Rattle.store_history.specs.Saved.{book_name}
use Rattle.store_history.specs.declared.act.Answer.{Answer}
use Rattle.core_state.specs.declared.collector.Collector.{Collector}
use Rattle.core_state.specs.declared.collector.Early.{Early}
use Rattle.core_state.specs.declared.entering.Place.{Place}
use Rattle.core_state.specs.declared.state.Core.{Core}
use Rattle.core_state.specs.Begins.{IsNext}
use Rattle.core_state.specs.Collectors.{refusal_of}
use Rattle.core_state.specs.Settles.{IsEntered}

-- ---- a whole collection

abbrev pub report_reply : GcReport → Reply
report_reply r = Collected r.start r.cutoff r.used r.pending r.removed

-- the counts are of the book's chunks by the start
abbrev pub Reports : Book → Plan → GcReport → Type 0
Reports book plan report = (used pending : ℕ) × Divides book plan.start used pending × (report ≡ report_of plan used pending)

-- the book is saved as of this moment, and that is its report
pub record EndsPlan {D : Type 0} (d : Ghosts D) (old new : D) (book : Book) (plan : Plan) (moment : ℕ) (result : Result GcReport DiskError) : Type 0 where
  pub crash : LeavesBy d old new (Installs (d.content old) book_name (book_text (as_of moment book)))
  pub installed : OkInstalls d old new book_name (book_text (as_of moment book)) result
  pub report : IfOk result (Reports book plan)
  -- what is saved is a book
  pub fits : IsAt book moment → OnOk result (FitsBook (as_of moment book))

-- ---- one that was ended early

abbrev pub early_in : Option Collector → Option Early
early_in None = None
early_in (Some c) = c.ended

-- It replies what ended it, without a call of the disk. After a fault of the disk it is refused.
pub data TellsEarly {D E C : Type 0} (d : Ghosts D) (readings : C → Option Readings) (old new : Core D E C) (lane : ℕ) (answer : Answer) : Type 0 where
  replies_early : (mid : Core D E C) (at : Place) (early : Early) → old.fault ≡ None → early_in old.collector ≡ Some early → IsNext readings old mid lane at
      → IsEntered d (record mid { collector = None }) new lane at.moment 4 (Some (Refused (refusal_of early))) answer → TellsEarly d readings old new lane answer
  halts_early : (mid : Core D E C) (at : Place) (first : ℕ) → old.fault ≡ Some first → IsNext readings old mid lane at
      → IsEntered d mid new lane at.moment 5 (Some (Refused (Halted first))) answer → TellsEarly d readings old new lane answer

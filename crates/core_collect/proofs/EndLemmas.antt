-- The end of a collector whose sweep is over: its report is the sweep's, and the saved book matters for nothing.
use Rattle.disk_trait.specs.declared.disk.Disk.{Ghosts}
use Rattle.std.proofs.Common.{◌≡◌, ◌≤◌, ◌↔◌, ◌==◌, inl, inr, ℕ, true, not, List, length, Option, Some, None, is_some, Result, Ok, Err, refl, sym, subst, ap, ◌∙◌, arith, true≢false}
use Rattle.std.specs.Prelude.{IfOk, IfSome, IsErr, IsErrOf, IsSomeAnd}
use Rattle.std.specs.FinMap.{get}
use Rattle.std.specs.List.{Contains}
use Rattle.std.specs.Option.{IsSome}
use Rattle.std.proofs.Props.{props}
use Rattle.std.proofs.lemmas.Bool.{and_parts}
use Rattle.std.proofs.lemmas.List.Elements.{filter_agree}
use Rattle.disk_trait.specs.Disk.{Serves}
use Rattle.disk_trait.specs.Effects.{DiskWantKeeps, StepsOn}
use Rattle.disk_trait.specs.Files.{Files}
use Rattle.disk_trait.specs.declared.disk.DiskError.{DiskError}
use Rattle.disk_trait.specs.declared.disk.DiskError.TheVariants.{NoMemory, Failed}
use Rattle.file_install.specs.Install.{Installs, installed}
use Rattle.port_traits.specs.Readings.{Readings}
use Rattle.store_types.specs.Times.{last_moment}
use Rattle.store_types.specs.declared.refusal.Refusal.{Refusal}
use Rattle.store_types.specs.declared.refusal.Refusal.TheVariants.{Halted}
use Rattle.store_files.specs.Book.{Book, FitsBook, book_text}
use Rattle.store_files.specs.Folder.{chunk_name, file_path}
use Rattle.store_model.specs.Store.{Store}
use Rattle.wire_commands.specs.declared.reply.Reply.{Reply}
use Rattle.wire_commands.specs.declared.reply.Reply.TheVariants.{Collected, Refused}
use Rattle.wire_commands.specs.HasText.{FitsReply, ReplyHasText}
use Rattle.wire_commands.specs.ReplyText.{reply_text}
use Rattle.atime_book.specs.Counts.{ListsBook, is_since, pending_among as pending_of_book, used_among as used_of_book}
use Rattle.atime_book.specs.Touches.{IsAt, as_of, last_of}
use Rattle.gc_plan.specs.Plan.{Plan, is_over as is_plan_over}
use Rattle.gc_plan.specs.declared.GcReport.{GcReport}
use Rattle.store_history.specs.declared.act.Answer.{Answer}
use Rattle.store_history.specs.LastTouches.{SameTouches}
use Rattle.store_history.specs.Saved.{book_name}
use Rattle.store_history.specs.Sweeping.{Sweep, Swept, chunks, is_over, pending_among, report_of, used_among}
use Rattle.core_state.specs.declared.collector.Collector.{Collector}
use Rattle.core_state.specs.declared.kept.Listed.{Listed}
use Rattle.core_state.specs.declared.parts.Parts.{Parts}
use Rattle.core_state.specs.declared.upkeep.Upkeep.{Upkeep}
use Rattle.core_state.specs.declared.state.Core.{Core}
use Rattle.store_stops.specs.declared.stop.Stop.TheVariants as stops
use Rattle.core_state.specs.declared.collector.Early.{Early}
use Rattle.core_state.specs.declared.entering.Place.{Place}
use Rattle.core_state.specs.Begins.{IsNext}
use Rattle.core_state.specs.Collectors.{is_cut, refusal_of}
use Rattle.core_state.specs.Settles.{IsEntered}
use Rattle.core_state.specs.Sweeps.{ShowsOpen, ShowsSweep}
use Rattle.core_state.specs.Unchanged.{SameKept}
use Rattle.core_state.specs.Upkeeps.{touches_kept}
use Rattle.core_state.proofs.SavingNames.{SameStore, same_installed}
use Rattle.core_collect.specs.Beside.{IsSweepable, StandsBeside}
use Rattle.core_collect.specs.Ending.{EndsPlan, Reports, TellsEarly, early_in, halts_early, replies_early, report_reply}
use Rattle.core_collect.specs.Stepping.{IsTheSweeps}
use Rattle.core_collect.proofs.Losing.{holds_saved}
use Rattle.core_collect.proofs.Outcomes.{end_outcome}
use Rattle.core_collect.proofs.VisitAnswers.{ok_error, on_error}
use Rattle.core_collect.proofs.VisitLemmas.{over_is}

-- ---- the report

same_reply : (a b c e f a2 b2 c2 e2 f2 : ℕ) → a ≡ a2 → b ≡ b2 → c ≡ c2 → e ≡ e2 → f ≡ f2 → Collected a b c e f ≡ Collected a2 b2 c2 e2 f2
same_reply a b c e f a2 b2 c2 e2 f2 first second third fourth fifth = cc

module _ (u : Upkeep) (acts : ℕ) (catalogue : List Listed) (s : Store) (c : Collector) (w : Swept) (sweep : Sweep)
    (touches_are : SameTouches (touches_kept u) w.touches) (able : IsSweepable s w) (shows : ShowsSweep acts catalogue s.snapshots c sweep) where
  lists_book : ListsBook u.book (chunks w)
  lists_book = record {
    once = (able.lists).once;
    each = λ x. subst (λ (o : Option ℕ). IsSome o ↔ Contains (chunks w) x) (sym (touches_are.last x)) ((able.lists).each x);
  }

  used_is : used_of_book u.book (c.plan).start (chunks w) ≡ used_among w.touches sweep.start (chunks w)
  used_is =
      ap length (filter_agree (λ x. is_since (c.plan).start (last_of u.book x)) (λ x. is_since (c.plan).start (w.touches.last x)) (λ x. ap (is_since (c.plan).start) (touches_are.last x)) (chunks w))
      ∙ ap (λ n. used_among w.touches n (chunks w)) shows.start

  pending_is : pending_of_book u.book (c.plan).start (chunks w) ≡ pending_among w.touches sweep.start (chunks w)
  pending_is =
      ap length (filter_agree (λ x. not (is_since (c.plan).start (last_of u.book x))) (λ x. not (is_since (c.plan).start (w.touches.last x))) (λ x. ap (λ o. not (is_since (c.plan).start o)) (touches_are.last x)) (chunks w))
      ∙ ap (λ n. pending_among w.touches n (chunks w)) shows.start

  pub report_is : (report : GcReport) → Reports u.book c.plan report → report_reply report ≡ report_of w sweep
  report_is report (used, pending, divides, is) =
      ap report_reply is
      ∙ same_reply (c.plan).start (c.plan).cutoff used pending (c.plan).removed sweep.start sweep.cutoff (used_among w.touches sweep.start (chunks w)) (pending_among w.touches sweep.start (chunks w)) sweep.removed
      shows.start shows.cutoff (divides.used_is (chunks w) lists_book ∙ used_is) (divides.pending_is (chunks w) lists_book ∙ pending_is) shows.removed

-- ---- the act

abbrev wanting : Result GcReport DiskError
wanting = Err NoMemory

module _ {D : Type 0} (d : Ghosts D) (old new : Parts D) (u : Upkeep) (c : Collector) (moment : ℕ) (kept : SameKept old new) (over : is_plan_over c.plan ≡ true)
    (acts : ℕ) (s : Store) (w : Swept) (beside : StandsBeside d old u acts (Some c) s w.touches w.sweep) (able : IsSweepable s w) (honest : d.honest new.disk) where
  -- where the map stands for the store as the old one did
  stays_beside : SameStore (d.content old.disk) (d.content new.disk) → StandsBeside d new u acts (Some c) s w.touches w.sweep
  stays_beside same = record {
    holds = holds_saved d old new s kept beside.holds honest same;
    touches_are = beside.touches_are;
    present = λ x digest. subst (λ (o : Option (List ℕ)). IsSome o ↔ IsSome (w.touches.last x)) (sym (same.chunks x)) (beside.present x digest);
    shows = subst (λ (xs : List Listed). ShowsOpen acts xs s.snapshots (Some c) w.sweep) (sym kept.catalogue) beside.shows;
  }

  same_files : d.content new.disk ≡ d.content old.disk → SameStore (d.content old.disk) (d.content new.disk)
  same_files is = record { files = λ key name. ap (λ (m : Files). get m (file_path key name)) is; chunks = λ x. ap (λ (m : Files). get m (chunk_name x)) is }

  ends_done : (report : GcReport) → EndsPlan d old.disk new.disk u.book c.plan moment (Ok report) → IsTheSweeps d new u acts c s w moment (Ok (Some report))
  ends_done report ends = (by_sweep w.sweep beside.shows, stays_beside saved)
    where
      saved : SameStore (d.content old.disk) (d.content new.disk)
      saved = subst (SameStore (d.content old.disk)) (sym (ends.installed (beside.holds).honest)) (same_installed (d.content old.disk) (book_text (as_of moment u.book)))

      by_sweep : (o : Option Sweep) → IsSomeAnd o (ShowsSweep acts old.catalogue.listed s.snapshots c) → IsSomeAnd o (λ sweep. (is_over sweep ≡ true) × (report_reply report ≡ report_of w sweep))
      by_sweep None shows = absurd shows
      by_sweep (Some sweep) shows = (
        sym (over_is acts old.catalogue.listed c s sweep shows) ∙ over,
        report_is u acts old.catalogue.listed s c w sweep beside.touches_are able shows report ends.report,
      )

  ends_wanting : DiskWantKeeps d old.disk new.disk wanting → IsTheSweeps d new u acts c s w moment (Err stops.NoMemory)
  ends_wanting keeps = stays_beside (same_files ((keeps refl).0 (beside.holds).honest))

pub ended_tells : {D : Type 0} (d : Ghosts D) (old new : Parts D) (u : Upkeep) (c : Collector) (moment : ℕ) (r : Result GcReport DiskError)
    → SameKept old new → Serves d.honest d.faults old.disk new.disk (IsErrOf r Failed) → EndsPlan d old.disk new.disk u.book c.plan moment r → DiskWantKeeps d old.disk new.disk r → is_plan_over c.plan ≡ true
    → (acts : ℕ) (s : Store) (w : Swept) → StandsBeside d old u acts (Some c) s w.touches w.sweep → IsSweepable s w → IsTheSweeps d new u acts c s w moment (end_outcome r)
ended_tells d old new u c moment (Ok report) kept serves ends keeps over acts s w beside able =
    ends_done d old new u c moment kept over acts s w beside able (serves.kept.0 (beside.holds).honest) report ends
ended_tells d old new u c moment (Err NoMemory) kept serves ends keeps over acts s w beside able =
    ends_wanting d old new u c moment kept over acts s w beside able (serves.kept.0 (beside.holds).honest) keeps
ended_tells d old new u c moment (Err Failed) kept serves ends keeps over acts s w beside able = serves.kept.0 (beside.holds).honest

-- ---- answers

pub collected_has_text : (start cutoff used pending removed : ℕ) → FitsReply (Collected start cutoff used pending removed) → ReplyHasText (Collected start cutoff used pending removed)
unfolding reply_text
collected_has_text start cutoff used pending removed fits = (fits, omega arith)

module _ {D : Type 0} (d : Ghosts D) (old : D) (book : Book) (plan : Plan) (moment : ℕ) where
  -- the disk was not called
  pub unsaved : (r : Result GcReport DiskError) → IsErr r → EndsPlan d old old book plan moment r
  unsaved r failed = record { crash = inl refl; installed = λ honest. on_error r _ failed; report = no_report r failed; fits = λ at. on_error r _ failed }
    where
      no_report : (x : Result GcReport DiskError) → IsErr x → IfOk x (Reports book plan)
      no_report (Ok report) e = absurd (ok_error e)
      no_report (Err error) e = tt

  pub unsaved_by : (new : D) (r : Result GcReport DiskError) → IsErr r → StepsOn d old new (Installs (d.content old) book_name (book_text (as_of moment book))) → EndsPlan d old new book plan moment r
  unsaved_by new r failed crash = record { crash = inr crash; installed = λ honest. on_error r _ failed; report = no_report r failed; fits = λ at. on_error r _ failed }
    where
      no_report : (x : Result GcReport DiskError) → IsErr x → IfOk x (Reports book plan)
      no_report (Ok report) e = absurd (ok_error e)
      no_report (Err error) e = tt

  pub saved_by : (new : D) (report : GcReport) → StepsOn d old new (Installs (d.content old) book_name (book_text (as_of moment book)))
      → (d.honest old → d.content new ≡ installed (d.content old) book_name (book_text (as_of moment book))) → Reports book plan report → (IsAt book moment → FitsBook (as_of moment book))
      → EndsPlan d old new book plan moment (Ok report)
  saved_by new report crash saved reports fits = record { crash = inr crash; installed = saved; report = reports; fits = fits }

-- ---- a collector that was ended early

pub cut_early : (lane : ℕ) (c : Option Collector) → is_cut lane c ≡ true → IsSome (early_in c)
cut_early lane None cut = absurd (true≢false (sym cut))
cut_early lane (Some c) cut = (and_parts (c.lane == lane) (is_some c.ended) cut).1

-- between the last moment and the greatest one there is one proof
time_one : (a b : ℕ) → IsProp (a ≤ b)
time_one a b = hlevel props

pub with_collector : {D E C : Type 0} (core : Core D E C) (in_time : core.last ≤ last_moment) (o p : Option Collector) → o ≡ p → record core { collector = o; in_time = in_time } ≡ record core { collector = p }
with_collector core in_time o p is =
    ap (λ (x : Option Collector). record core { collector = x; in_time = in_time }) is
    ∙ ap (λ (t : core.last ≤ last_moment). record core { collector = p; in_time = t }) (time_one core.last last_moment in_time core.in_time)

module _ {D E C : Type 0} (d : Ghosts D) (readings : C → Option Readings) (old mid new : Core D E C) (lane : ℕ) (at : Place) (answer : Answer) (next : IsNext readings old mid lane at) where
  -- a fault of the disk came before
  pub halts_so : (place : ℕ) (reply : Reply) → mid.fault ≡ Some place → reply ≡ Refused (Halted place) → IsEntered d mid new at.lane at.moment 5 (Some reply) answer → TellsEarly d readings old new lane answer
  halts_so place reply fault is entered =
      halts_early mid at place (sym next.fault ∙ fault) next
      (subst (λ (k : ℕ). IsEntered d mid new k at.moment 5 (Some (Refused (Halted place))) answer) next.lane_is
      (subst (λ (r : Reply). IsEntered d mid new at.lane at.moment 5 (Some r) answer) is entered))

  pub closes_early : (early : Early) (o : Option Collector) (refusal : Refusal) (in_time : mid.last ≤ last_moment) → mid.fault ≡ None → early_in mid.collector ≡ Some early → o ≡ None → refusal ≡ refusal_of early
      → IsEntered d (record mid { collector = o; in_time = in_time }) new at.lane at.moment 4 (Some (Refused refusal)) answer → TellsEarly d readings old new lane answer
  closes_early early o refusal in_time none early_is gone is entered =
      replies_early mid at early (sym next.fault ∙ none) (ap early_in (sym next.collector) ∙ early_is) next
      (subst (λ (k : ℕ). IsEntered d (record mid { collector = None }) new k at.moment 4 (Some (Refused (refusal_of early))) answer) next.lane_is
      (subst (λ (r : Refusal). IsEntered d (record mid { collector = None }) new at.lane at.moment 4 (Some (Refused r)) answer) is
      (subst (λ (core : Core D E C). IsEntered d core new at.lane at.moment 4 (Some (Refused refusal)) answer) (with_collector mid in_time o None gone) entered)))

pub entered_text : {D E C : Type 0} (d : Ghosts D) (old new : Core D E C) (lane moment kind : ℕ) (reply : Reply) (answer : Answer) → IsEntered d old new lane moment kind (Some reply) answer → ReplyHasText reply
    → IfSome answer.reply ReplyHasText
entered_text d old new lane moment kind reply answer entered text = subst (λ (o : Option Reply). IfSome o ReplyHasText) (sym entered.reply_is) text

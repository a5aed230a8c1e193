-- When an act of a collector tells that a file is unreadable.
use Rattle.disk_trait.specs.declared.disk.Disk.{Ghosts}
use Rattle.std.proofs.Common.{◌≡◌, ℕ, Bool, true, false, List, Option, Some, None, IsTrue, Result, Err, if◌then◌else◌, refl, sym, ap, subst, ◌∙◌}
use Rattle.std.specs.Prelude.{IsSomeAnd, option_map}
use Rattle.store_types.specs.declared.refusal.Refusal.{Refusal}
use Rattle.store_types.specs.declared.refusal.Refusal.TheVariants as refusals
use Rattle.store_types.specs.declared.order.TheConstants.{COMMAND_KIND, STOP_KIND}
use Rattle.store_files.specs.Book.{Book}
use Rattle.wire_commands.specs.declared.reply.Reply.{Reply}
use Rattle.wire_commands.specs.declared.reply.Reply.TheVariants as replies
use Rattle.store_history.specs.declared.act.Act.{Act}
use Rattle.store_history.specs.declared.act.Act.TheVariants.{Start, Step}
use Rattle.store_history.specs.declared.act.Family.TheVariants.{Collects}
use Rattle.store_history.specs.declared.act.Answer.{Answer}
use Rattle.store_history.specs.Acts.{family_of}
use Rattle.store_history.proofs.Families.{by_collector}
use Rattle.core_state.specs.declared.collector.Collector.{Collector}
use Rattle.core_state.specs.declared.collector.Early.{Early}
use Rattle.core_state.specs.declared.state.Core.{Core}
use Rattle.core_state.specs.Answers.{HasCause, StartHasCause, StepHasCause, done, failed, halted, short, start_as_any, start_opens, step_as_any, step_ends, step_passes}
use Rattle.core_state.specs.Collectors.{is_cut, is_on, refusal_of as early_refusal}
use Rattle.store_history.specs.Replies.{may_answer}
use Rattle.core_state.specs.Unreadables.{Asked, TellsUnreadable, known, part_read}
use Rattle.core_state.specs.Kept.{kept_at}
use Rattle.core_state.specs.Unreadables.{CoreUnreadable}
use Rattle.core_collect.specs.Acts.{asked_by, asked_of_collector, refusal_of}
use Rattle.core_collect.specs.Ending.{early_in}
use Rattle.core_collect.specs.Starting.{StartTells}
use Rattle.core_collect.specs.Passing.{EndsWhole}
use Rattle.core_collect.specs.Stepping.{StepTells}
use Rattle.core_collect.proofs.StepLemmas.{cut_is_on}

true_false : true ≡ false → ⊥
true_false e = cc

some_same : {A : Type 0} (x y : A) → Some x ≡ Some y → x ≡ y
some_same x y e = cc

none_some : {A : Type 0} (x : A) → None ≡ Some x → ⊥
none_some x e = cc

same_refused : (a b : Refusal) → Some (replies.Refused a) ≡ Some (replies.Refused b) → a ≡ b
same_refused a b e = cc

untold : (a : Refusal) → None ≡ Some (replies.Refused a) → ⊥
untold a e = cc

-- the file that makes it so
abbrev asked_as : List ℕ → Asked
asked_as name = record { path = name; way = known }

-- what is asked for is what the refusal names
asked_is : (r : Refusal) (a : Asked) → asked_by (Some r) ≡ Some a → (r ≡ refusals.Unreadable a.path) × (a ≡ asked_as a.path)
asked_is (refusals.Unreadable path) a is =
    let same : asked_as path ≡ a = some_same (asked_as path) a is in
    (ap (λ q. refusals.Unreadable q.path) same, sym same ∙ ap (λ q. asked_as q.path) same)
asked_is r a is = absurd (none_some a is)

-- what is known to be unreadable is told to be so by its name
module _ {D : Type 0} (d : Ghosts D) (disk : D) where
  pub tells_known : (asked : Option Asked) (kind : ℕ) (reply : Option Reply)
      → ((name : List ℕ) → reply ≡ Some (replies.Refused (refusals.Unreadable name)) → asked ≡ Some (asked_as name))
      → ((a : Asked) → kind ≡ COMMAND_KIND → asked ≡ Some a → (a ≡ asked_as a.path) × (reply ≡ Some (replies.Refused (refusals.Unreadable a.path)))) → TellsUnreadable d disk asked kind reply
  tells_known asked kind reply told missed = record {
    named = λ name is. ap (option_map (λ a. a.path)) (told name is);
    cause = λ name a is at honest. by_asked name a (some_same (asked_as name) a (sym (told name is) ∙ at));
    missing = λ name a zero at honest unread. let its = missed a zero at in
        its.1 ∙ ap (λ n. Some (replies.Refused (refusals.Unreadable n))) (same_path a.path name (sym (ap (part_read (d.content disk)) its.0) ∙ unread));
  }
    where
      by_asked : (name : List ℕ) (a : Asked) → asked_as name ≡ a → part_read (d.content disk) a ≡ Err (refusals.Unreadable name)
      by_asked name a is = ap (part_read (d.content disk)) (sym is)

      same_path : (p q : List ℕ) → ◌≡◌ {A = Result Reply Refusal} (Err (refusals.Unreadable p)) (Err (refusals.Unreadable q)) → p ≡ q
      same_path p q e = cc

-- no act's tests but a START's
as_any_kind : {D E C : Type 0} (d : Ghosts D) (old new : Core D E C) (answer : Answer) (name : List ℕ) → HasCause d old new Start answer → answer.reply ≡ Some (replies.Refused (refusals.Unreadable name)) → (answer.entry).kind ≡ COMMAND_KIND
as_any_kind d old new answer name (done before zero reply told may) is = zero
as_any_kind d old new answer name (short two told) is = absurd (apart (sym told ∙ is))
  where
    apart : Some (replies.Refused refusals.NoMemory) ≡ Some (replies.Refused (refusals.Unreadable name)) → ⊥
    apart e = cc
as_any_kind d old new answer name (failed before five told fault rose) is = absurd (apart (sym told ∙ is))
  where
    apart : Some (replies.Refused refusals.DiskFault) ≡ Some (replies.Refused (refusals.Unreadable name)) → ⊥
    apart e = cc
as_any_kind d old new answer name (halted place before five told) is = absurd (apart (sym told ∙ is))
  where
    apart : Some (replies.Refused (refusals.Halted place)) ≡ Some (replies.Refused (refusals.Unreadable name)) → ⊥
    apart e = cc

start_kind : {D E C : Type 0} (d : Ghosts D) (old new : Core D E C) (answer : Answer) (name : List ℕ) → StartHasCause d old new Start answer → answer.reply ≡ Some (replies.Refused (refusals.Unreadable name)) → (answer.entry).kind ≡ COMMAND_KIND
start_kind d old new answer name (start_opens before three told) is = absurd (untold (refusals.Unreadable name) (sym told ∙ is))
start_kind d old new answer name (start_as_any cause) is = as_any_kind d old new answer name cause is

pub start_unreadable : {D E C : Type 0} (d : Ghosts D) (old new : Core D E C) (lane : ℕ) (answer : Answer) → StartHasCause d old new Start answer → StartTells old new lane answer
    → CoreUnreadable d (asked_of_collector Start old.collector) old lane answer
start_unreadable d old new lane answer cause tells =
    tells_known d (old.parts).disk (asked_of_collector Start old.collector (kept_at old.parts lane)) (answer.entry).kind answer.reply
    (λ name is. let (refusal, said, by) = tells.refused (start_kind d old new answer name cause is) in
    ap (λ o. asked_by (refusal_of o)) by ∙ ap (λ r. asked_by (Some r)) (same_refused refusal (refusals.Unreadable name) (sym said ∙ is)))
    (λ a zero at. let (refusal, said, by) = tells.refused zero in
    let its = asked_is refusal a (sym (ap (λ o. asked_by (refusal_of o)) by) ∙ at) in
    (its.1, said ∙ ap (λ r. Some (replies.Refused r)) its.0))

-- ---- a mark, a visit or an end

-- one that was refused names no file
no_name : (name : List ℕ) → IsTrue (may_answer Step (replies.Refused (refusals.Unreadable name))) → ⊥
no_name name may = true_false (sym may)

step_any : {D E C : Type 0} (d : Ghosts D) (old new : Core D E C) (answer : Answer) (name : List ℕ) → HasCause d old new Step answer → answer.reply ≡ Some (replies.Refused (refusals.Unreadable name)) → ⊥
step_any d old new answer name (done before zero reply told may) is =
    no_name name (subst (λ r. IsTrue (may_answer Step r)) (some_same reply (replies.Refused (refusals.Unreadable name)) (sym told ∙ is)) may)
step_any d old new answer name (short two told) is = apart (sym told ∙ is)
  where
    apart : Some (replies.Refused refusals.NoMemory) ≡ Some (replies.Refused (refusals.Unreadable name)) → ⊥
    apart e = cc
step_any d old new answer name (failed before five told fault rose) is = apart (sym told ∙ is)
  where
    apart : Some (replies.Refused refusals.DiskFault) ≡ Some (replies.Refused (refusals.Unreadable name)) → ⊥
    apart e = cc
step_any d old new answer name (halted place before five told) is = apart (sym told ∙ is)
  where
    apart : Some (replies.Refused (refusals.Halted place)) ≡ Some (replies.Refused (refusals.Unreadable name)) → ⊥
    apart e = cc

-- it is the end of a collector
step_kind : {D E C : Type 0} (d : Ghosts D) (old new : Core D E C) (answer : Answer) (name : List ℕ) → StepHasCause d old new Step answer → answer.reply ≡ Some (replies.Refused (refusals.Unreadable name)) → (answer.entry).kind ≡ STOP_KIND
step_kind d old new answer name (step_passes before one told) is = absurd (untold (refusals.Unreadable name) (sym told ∙ is))
step_kind d old new answer name (step_ends before four reply told may) is = four
step_kind d old new answer name (step_as_any cause) is = absurd (step_any d old new answer name cause is)

-- ended early, and by what
ended_by : (o : Option Early) (r : Refusal) → IsSomeAnd o (λ e. Some (replies.Refused r) ≡ Some (replies.Refused (early_refusal e))) → option_map early_refusal o ≡ Some r
ended_by None r said = absurd said
ended_by (Some e) r said = ap (λ x. Some x) (sym (same_refused r (early_refusal e) said))

-- a report is no refusal
no_report : (book : Book) (o : Option Collector) (r : Refusal) → IsSomeAnd o (λ c. EndsWhole book c (Some (replies.Refused r))) → ⊥
no_report book None r said = said
no_report book (Some c) r (over, (report, reports, is)) = cc

abbrev asks : ℕ → Option Collector → Option Asked
asks lane collector = if is_on lane collector then asked_by (option_map early_refusal (early_in collector)) else None

pub step_unreadable : {D E C : Type 0} (d : Ghosts D) (old new : Core D E C) (lane : ℕ) (answer : Answer) → StepHasCause d old new Step answer → StepTells d old new lane answer
    → CoreUnreadable d (asked_of_collector Step old.collector) old lane answer
step_unreadable d old new lane answer cause tells =
    tells_known d (old.parts).disk (asks lane old.collector) (answer.entry).kind answer.reply
    (λ name is. by_cut name is (is_cut lane old.collector) refl)
    (λ a zero at. absurd (none_some a (sym (ap (λ b. if b then asked_by (option_map early_refusal (early_in old.collector)) else None) (tells.refused zero).0) ∙ at)))
  where
    by_cut : (name : List ℕ) → answer.reply ≡ Some (replies.Refused (refusals.Unreadable name)) → (b : Bool) → is_cut lane old.collector ≡ b → asks lane old.collector ≡ Some (asked_as name)
    by_cut name is true cut =
        let said = subst (λ r. IsSomeAnd (early_in old.collector) (λ e. r ≡ Some (replies.Refused (early_refusal e)))) is (tells.ends cut (step_kind d old new answer name cause is)) in
        ap (λ b. if b then asked_by (option_map early_refusal (early_in old.collector)) else None) (cut_is_on lane old.collector cut)
        ∙ ap asked_by (ended_by (early_in old.collector) (refusals.Unreadable name) said)
    by_cut name is false uncut = absurd (no_report (old.upkeep).book old.collector (refusals.Unreadable name)
        (subst (λ r. IsSomeAnd old.collector (λ c. EndsWhole (old.upkeep).book c r)) is (tells.reports uncut (step_kind d old new answer name cause is))))

-- a collector has no other act
pub neither : (act : Act) → family_of act ≡ Collects → (act ≡ Start → ⊥) → (act ≡ Step → ⊥) → ⊥
neither = by_collector (λ act. (act ≡ Start → ⊥) → (act ≡ Step → ⊥) → ⊥) (λ other none. other refl) (λ other none. none refl)

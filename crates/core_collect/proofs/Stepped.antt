-- What an act of a collector after its start leaves of the collector, and of disk and book.
use Rattle.disk_trait.specs.declared.disk.Disk.{Ghosts}
use Rattle.std.proofs.Common.{◌≡◌, ◌⊎◌, ⊎_elim, ◌<◌, ◌≤◌, ◌==◌, ◌&&◌, ◌||◌, ℕ, Bool, true, false, cond, is_some, List, Option, Some, None, IfSome, inl, inr, refl, sym, ap, subst, ◌∙◌, arith}
use Rattle.std.specs.FinMap.{get, remove}
use Rattle.disk_trait.specs.Files.{Files}
use Rattle.disk_trait.specs.Laws.{by_name, placed_other, placed_same}
use Rattle.port_traits.specs.Readings.{Readings}
use Rattle.sha2.specs.Sha256.{sha256}
use Rattle.store_types.specs.declared.refusal.Refusal.TheVariants.{DiskFault}
use Rattle.store_types.specs.declared.order.TheConstants.{COMMAND_KIND, PART_KIND, MEMORY_KIND, STOP_KIND, FAULT_KIND}
use Rattle.store_files.specs.Folder.{chunk_name}
use Rattle.wire_commands.specs.declared.reply.Reply.{Reply}
use Rattle.wire_commands.specs.declared.reply.Reply.TheVariants.{Refused}
use Rattle.store_files.specs.Book.{Book}
use Rattle.atime_book.specs.Touches.{NoneAfter, last_of}
use Rattle.gc_plan.specs.Plan.{left_of}
use Rattle.store_history.specs.declared.act.Act.TheVariants.{Step}
use Rattle.store_history.specs.declared.act.Answer.{Answer}
use Rattle.store_history.specs.LastTouches.{SameTouches, dated}
use Rattle.store_history.specs.Saved.{book_name}
use Rattle.core_state.specs.declared.collector.Collector.{Collector}
use Rattle.core_state.specs.declared.collector.Early.{Early}
use Rattle.core_state.specs.declared.collector.Early.TheVariants.{NoMemory}
use Rattle.core_state.specs.declared.state.Core.{Core}
use Rattle.core_state.specs.Changes.{Change, LeavesChange, after, installs}
use Rattle.store_history.specs.ChunkFiles.{HasChunk, HoldsOnly}
use Rattle.core_state.specs.Collectors.{closed_on, cut_on, first_of, is_cut, is_on, steps_if, steps_left, with_cut}
use Rattle.core_state.specs.Passes.{KeepsPlan, KeepsPlanOf, MayChange, PassTouches, SavesAt, StepLeaves, stays_open}
use Rattle.core_state.specs.Upkeeps.{touches_kept}
use Rattle.core_state.proofs.SavingNames.{only_as_before, same_installed}
use Rattle.core_state.proofs.Stepped.{IsStepped}
use Rattle.core_state.proofs.Touching.{early_more}
use Rattle.core_collect.proofs.Losing.{MayPass}

true_false : true ≡ false → ⊥
true_false e = cc

none_some : {A : Type 0} (x : A) → None ≡ Some x → ⊥
none_some x e = cc

-- ---- the collector

-- What an entry of this kind makes of the lane's.
pub record Collects (kind lane : ℕ) (before after : Option Collector) : Type 0 where
  pub open_on : is_on lane after ≡ stays_open kind (is_on lane before)
  pub closed : is_on lane before ≡ true → (kind ≡ STOP_KIND) ⊎ (kind ≡ FAULT_KIND) → after ≡ None
  pub same : is_on lane before ≡ true → (kind ≡ PART_KIND) ⊎ (kind ≡ MEMORY_KIND) → KeepsPlanOf before after
  pub others : is_on lane before ≡ false → after ≡ before
  pub cut : is_on lane before ≡ true → kind ≡ MEMORY_KIND → is_cut lane after ≡ true
  pub further : is_on lane before ≡ true → (kind ≡ PART_KIND) ⊎ (kind ≡ MEMORY_KIND) → steps_left after < steps_left before

-- another lane's, or none, stays
stays_off : (kind : ℕ) → stays_open kind false ≡ false
stays_off kind = by_test ((kind == STOP_KIND) || (kind == FAULT_KIND))
  where
    by_test : (b : Bool) → cond b false false ≡ false
    by_test true = refl
    by_test false = refl

pub collects_off : (kind lane : ℕ) (before after : Option Collector) → is_on lane before ≡ false → after ≡ before → Collects kind lane before after
collects_off kind lane before after off same = record {
  open_on = ap (is_on lane) same ∙ off ∙ sym (ap (stays_open kind) off ∙ stays_off kind);
  closed = λ on. absurd (true_false (sym on ∙ off));
  same = λ on. absurd (true_false (sym on ∙ off));
  others = λ _. same;
  cut = λ on. absurd (true_false (sym on ∙ off));
  further = λ on. absurd (true_false (sym on ∙ off));
}

-- it is closed by an end or a fault
pub collects_closed : (kind lane : ℕ) (before after : Option Collector) → (kind ≡ STOP_KIND) ⊎ (kind ≡ FAULT_KIND) → is_on lane before ≡ true → after ≡ None → Collects kind lane before after
collects_closed kind lane before after ends on none = record {
  open_on = ap (is_on lane) none ∙ sym (ap (stays_open kind) on ∙ shut);
  closed = λ _ _. none;
  same = λ _ one. absurd (no_pass one);
  others = λ off. absurd (true_false (sym on ∙ off));
  cut = λ _ two. absurd (no_pass (inr two));
  further = λ _ one. absurd (no_pass one);
}
  where
    shut : stays_open kind true ≡ false
    shut = ⊎_elim {C = stays_open kind true ≡ false} (λ (four : kind ≡ STOP_KIND). ap (λ n. stays_open n true) four) (λ (five : kind ≡ FAULT_KIND). ap (λ n. stays_open n true) five) ends

    no_pass : (kind ≡ PART_KIND) ⊎ (kind ≡ MEMORY_KIND) → ⊥
    no_pass passes =
        ⊎_elim {C = ⊥}
        (λ (four : kind ≡ STOP_KIND). ⊎_elim {C = ⊥} (λ (one : kind ≡ PART_KIND). omega (arith, four, one)) (λ (two : kind ≡ MEMORY_KIND). omega (arith, four, two)) passes)
        (λ (five : kind ≡ FAULT_KIND). ⊎_elim {C = ⊥} (λ (one : kind ≡ PART_KIND). omega (arith, five, one)) (λ (two : kind ≡ MEMORY_KIND). omega (arith, five, two)) passes)
        ends

-- a mark or a visit leaves less of it
pub collects_passed : (lane : ℕ) (before after : Option Collector) (x y : Collector) → before ≡ Some x → after ≡ Some y → y.lane ≡ x.lane → is_on lane (Some x) ≡ true → KeepsPlan x.plan y.plan
    → steps_left (Some y) < steps_left (Some x) → Collects 1 lane before after
collects_passed lane before after x y was is same_lane on plan less =
    subst (λ b. Collects 1 lane b after) (sym was) (subst (Collects 1 lane (Some x)) (sym is) (record {
      open_on = ap (λ l. l == lane) same_lane;
      closed = λ _ ends. absurd (⊎_elim {C = ⊥} (λ (four : 1 ≡ 4). omega (arith, four)) (λ (five : 1 ≡ 5). omega (arith, five)) ends);
      same = λ _ _. plan;
      others = λ off. absurd (true_false (sym on ∙ off));
      cut = λ _ two. absurd (omega (arith, two));
      further = λ _ _. less;
    }))

-- want of memory leaves the end alone
cut_some : (o : Option Early) → is_some (first_of o NoMemory) ≡ true
cut_some None = refl
cut_some (Some early) = refl

pub cut_here : (lane : ℕ) (y : Collector) → is_on lane (Some y) ≡ true → cut_on lane (Some y) ≡ Some (with_cut y)
cut_here lane y on = ap (λ b. cond b (Some (with_cut y)) (Some y)) on

pub collects_short : (lane : ℕ) (before after : Option Collector) (x y : Collector) → before ≡ Some x → after ≡ cut_on lane (Some y) → y.lane ≡ x.lane → is_on lane (Some x) ≡ true → x.ended ≡ None
    → KeepsPlan x.plan y.plan → Collects 2 lane before after
collects_short lane before after x y was is same_lane on goes plan =
    let on_y : is_on lane (Some y) ≡ true = ap (λ l. l == lane) same_lane ∙ on in
    let less : steps_left (Some (with_cut y)) < steps_left (Some x) =
    subst (λ b. b < steps_left (Some x)) (sym (ap (λ b. steps_if b (left_of y.plan)) (cut_some y.ended)))
    (subst (λ b. 0 < b) (sym (ap (λ o. steps_if (is_some o) (left_of x.plan)) goes)) (omega arith)) in
    subst (λ b. Collects 2 lane b after) (sym was) (subst (Collects 2 lane (Some x)) (sym (is ∙ cut_here lane y on_y)) (record {
      open_on = ap (λ l. l == lane) same_lane;
      closed = λ _ ends. absurd (⊎_elim {C = ⊥} (λ (four : 2 ≡ 4). omega (arith, four)) (λ (five : 2 ≡ 5). omega (arith, five)) ends);
      same = λ _ _. plan;
      others = λ off. absurd (true_false (sym on ∙ off));
      cut = λ _ _. ap (λ b. b && is_some (first_of y.ended NoMemory)) on_y ∙ cut_some y.ended;
      further = λ _ _. less;
    }))

-- one that was not ended early
pub uncut_ended : (lane : ℕ) (x : Collector) → is_on lane (Some x) ≡ true → is_cut lane (Some x) ≡ false → x.ended ≡ None
uncut_ended lane x on uncut = by_ended x.ended refl
  where
    by_ended : (o : Option Early) → x.ended ≡ o → x.ended ≡ None
    by_ended None is = is
    by_ended (Some early) is = absurd (true_false (sym (ap (λ b. b && is_some x.ended) on ∙ ap is_some is) ∙ uncut))

-- the lane's is open, or is not
pub data OnLane (lane : ℕ) (before : Option Collector) : Type 0 where
  open_here : (x : Collector) → before ≡ Some x → is_on lane (Some x) ≡ true → OnLane lane before
  not_here : is_on lane before ≡ false → OnLane lane before

pub on_lane : (lane : ℕ) (before : Option Collector) → OnLane lane before
on_lane lane None = not_here refl
on_lane lane (Some x) = by_test (x.lane == lane) refl
  where
    by_test : (b : Bool) → (x.lane == lane) ≡ b → OnLane lane (Some x)
    by_test true on = open_here x refl on
    by_test false off = not_here off

pub off_closed : (lane : ℕ) (c : Option Collector) → is_on lane c ≡ false → closed_on lane c ≡ c
off_closed lane c off = ap (λ b. cond b None c) off

pub off_cut : (lane : ℕ) (c : Option Collector) → is_on lane c ≡ false → cut_on lane c ≡ c
off_cut lane None off = refl
off_cut lane (Some x) off = ap (λ b. cond b (Some (with_cut x)) (Some x)) off

pub on_closed : (lane : ℕ) (c : Option Collector) → is_on lane c ≡ true → closed_on lane c ≡ None
on_closed lane c on = ap (λ b. cond b None c) on

-- want of memory before the act was begun
pub collects_cut : (lane : ℕ) (before after : Option Collector) → is_cut lane before ≡ false → after ≡ cut_on lane before → Collects 2 lane before after
collects_cut lane before after uncut is = by_lane (on_lane lane before)
  where
    by_lane : OnLane lane before → Collects 2 lane before after
    by_lane (open_here x was on) =
        collects_short lane before after x x was (is ∙ ap (cut_on lane) was) refl on (uncut_ended lane x on (ap (is_cut lane) (sym was) ∙ uncut)) (record { start = refl; cutoff = refl; indexes = refl })
    by_lane (not_here off) = collects_off 2 lane before after off (is ∙ off_cut lane before off)

-- a fault
pub collects_faulted : (lane : ℕ) (before after : Option Collector) → after ≡ closed_on lane before → Collects 5 lane before after
collects_faulted lane before after is = by_lane (on_lane lane before)
  where
    by_lane : OnLane lane before → Collects 5 lane before after
    by_lane (open_here x was on) = let here : is_on lane before ≡ true = ap (is_on lane) was ∙ on in collects_closed 5 lane before after (inr refl) here (is ∙ on_closed lane before here)
    by_lane (not_here off) = collects_off 5 lane before after off (is ∙ off_closed lane before off)

-- ---- the chunk files

-- none comes
pub only_after : (change : Change) (m : Files) (pieces : List (List ℕ)) → MayPass change → HoldsOnly m pieces → HoldsOnly (after change m) pieces
only_after change m pieces (inl none) only = subst (λ (c : Change). HoldsOnly (after c m) pieces) (sym none) only
only_after change m pieces (inr (inl dropped)) only =
    subst (λ (c : Change). HoldsOnly (after c m) pieces) (sym dropped.1) (λ p there. only p (by_name (chunk_name (sha256 p)) (chunk_name (dropped.0).0) (HasChunk m p)
    (λ same. absurd (none_some _ (sym (ap (get (remove m (chunk_name (dropped.0).0))) same ∙ placed_same m (chunk_name (dropped.0).0) None) ∙ there)))
    (λ other. sym (placed_other m (chunk_name (dropped.0).0) None (chunk_name (sha256 p)) other) ∙ there)))
only_after change m pieces (inr (inr saved)) only =
    subst (λ (c : Change). HoldsOnly (after c m) pieces) (sym saved.1) (only_as_before m (after (installs book_name saved.0) m) (same_installed m saved.0) pieces only)

-- ---- all that it leaves

-- What has changed between the beginning of the act and its entry of this kind.
pub record HasChanged {D E C : Type 0} (d : Ghosts D) (old acted : Core D E C) (lane moment kind : ℕ) (reply : Option Reply) : Type 0 where
  pub change : Change
  pub may_change : MayChange old lane moment kind change
  pub content : (reply ≡ Some (Refused DiskFault) → ⊥) → d.honest (old.parts).disk → d.content (acted.parts).disk ≡ after change (d.content (old.parts).disk)
  pub crash : LeavesChange d (old.parts).disk (acted.parts).disk change
  pub saves : kind ≡ STOP_KIND → is_cut lane old.collector ≡ false → SavesAt old moment change
  pub closes_only : is_cut lane old.collector ≡ true → (acted.parts).disk ≡ (old.parts).disk
  pub passes : kind ≡ PART_KIND → PassTouches change (touches_kept old.upkeep) (touches_kept acted.upkeep) moment
  pub untouched : (kind ≡ PART_KIND → ⊥) → acted.upkeep ≡ old.upkeep
  pub early : NoneAfter (old.upkeep).book old.last → NoneAfter (acted.upkeep).book moment
  pub refused : kind ≡ COMMAND_KIND → is_on lane old.collector ≡ false

pub step_leaves : {D E C : Type 0} (d : Ghosts D) (readings : C → Option Readings) (old acted new : Core D E C) (lane m n : ℕ) (reply : Option Reply) (answer : Answer)
    → IsStepped d readings old acted new lane m n reply answer → (x : HasChanged d old acted lane m n reply) → Collects n lane old.collector new.collector
    → (leaves : StepLeaves d old new lane answer) × (leaves.change ≡ x.change)
step_leaves d readings old acted new lane m n reply answer is x its = (all, refl)
  where
    kind_is : (answer.entry).kind ≡ n
    kind_is = ap (λ x. x.kind) (is.entered).entry

    moment_is : (answer.entry).moment ≡ m
    moment_is = ap (λ x. x.moment) (is.entered).entry

    dates : SameTouches (touches_kept new.upkeep) (dated (answer.entry).moment (touches_kept acted.upkeep))
    dates = subst (λ t. SameTouches (touches_kept new.upkeep) (dated t (touches_kept acted.upkeep))) (sym moment_is) (is.entered).upkeep

    collects : Collects (answer.entry).kind lane old.collector new.collector
    collects = subst (λ k. Collects k lane old.collector new.collector) (sym kind_is) its

    all : StepLeaves d old new lane answer
    all = record {
      change = x.change;
      may_change = subst (λ k. MayChange old lane (answer.entry).moment k x.change) (sym kind_is) (subst (λ t. MayChange old lane t n x.change) (sym moment_is) x.may_change);
      content = λ fine honest. ap (λ p. d.content p.disk) (is.entered).parts ∙ x.content (λ e. fine ((is.entered).reply_is ∙ e)) honest;
      crash = subst (λ p. LeavesChange d (old.parts).disk p.disk x.change) (sym (is.entered).parts) x.crash;
      saves = λ four uncut. subst (λ t. SavesAt old t x.change) (sym moment_is) (x.saves (sym kind_is ∙ four) uncut);
      closes_only = λ cut. ap (λ p. p.disk) (is.entered).parts ∙ x.closes_only cut;
      passes = λ one. (touches_kept acted.upkeep, subst (PassTouches x.change (touches_kept old.upkeep) (touches_kept acted.upkeep)) (sym moment_is) (x.passes (sym kind_is ∙ one)), dates);
      untouched = λ other. subst (λ u. SameTouches (touches_kept new.upkeep) (dated (answer.entry).moment (touches_kept u))) (x.untouched (λ one. other (kind_is ∙ one))) dates;
      early = λ early. early_more acted.upkeep new.upkeep Step None m m new.last (omega arith) (is.entered).last (is.entered).upkeep (x.early early);
      refused = λ zero. x.refused (sym kind_is ∙ zero);
      open_on = collects.open_on;
      closed = collects.closed;
      same = collects.same;
      others = collects.others;
      cut = collects.cut;
      further = collects.further;
    }

-- no chunk was touched after an earlier moment
pub none_later : (book : Book) (before m : ℕ) → before ≤ m → NoneAfter book before → NoneAfter book m
none_later book before m le early x = by_last (last_of book x) (early x)
  where
    by_last : (o : Option ℕ) → IfSome o (λ when. when ≤ before) → IfSome o (λ when. when ≤ m)
    by_last None within = tt
    by_last (Some when) within = omega (arith, le, within)

-- Without a fault of the disk, an ending is asked of a lane's end alone, and there the inputs tell as much as a sink that failed.
use Rattle.std.proofs.Common.{◌≡◌, ℕ, zero, suc, ◌+◌, ◌<◌, Bool, true, false, cond, List, [], ◌∷◌, length, Option, Some, None, Result, Ok, Err, refl, sym, ap, ◌∙◌, get_or}
use Rattle.std.specs.Prelude.{IsTrue, replicate, ◌==◌}
use Rattle.std.specs.List.{cons_option, list_all}
use Rattle.std.proofs.lemmas.Bool.{and_parts, or_parts, ltb-true}
use Rattle.std.proofs.lemmas.List.{get_or-replicate}
use Rattle.store_types.specs.Chain.Refusing.{◌>>=◌}
use Rattle.store_types.specs.declared.order.Entry.{Entry}
use Rattle.store_types.specs.declared.order.TheConstants.{COMMAND_KIND, PART_KIND, MEMORY_KIND, START_KIND, STOP_KIND, FAULT_KIND, END_KIND, REMOTE_FAULT_KIND}
use Rattle.store_files.specs.Archive.{Snapshot}
use Rattle.store_files.specs.Order.{fits_entry, keeps_rules}
use Rattle.store_model.specs.declared.ending.Ending.TheVariants.{Clean, SinkFault}
use Rattle.store_model.specs.Lanes.{Run, Next, job_step, plain, sync, collect, collecting, bye, broken, end, new_run, next_of}
use Rattle.store_model.specs.Weave.{Endings, Misfit, Woven, stepped, passed, short, opens, closes, faulted, ended_with, unread, ends, remote_failed, entered, misfit, run_from, woven_of, known, told_by_input, woven, weave}
use Rattle.plain_store.specs.declared.frees.Free.{Free}
use Rattle.plain_store.specs.Frees.{freed, frees_from, frees}
use Rattle.replay.specs.Orders.{has_faults}

-- a lane's end comes to the same
AreSame : Endings → Endings → ℕ → Type 0
AreSame E F k = (r : Run) (n : Next) → ends r k (E k n) n ≡ ends r k (F k n) n

by_end : (k : ℕ) → AreSame told_by_input (λ j n. SinkFault) k
unfolding AreSame ends ended_with unread
by_end k r (job_step j left) = refl
by_end k r (plain c left) = refl
by_end k r (sync group left) = refl
by_end k r (collect left) = refl
by_end k r (collecting short) = refl
by_end k r bye = refl
by_end k r (broken refusal) = refl
by_end k r end = refl

as_known : (lanes k : ℕ) → k < lanes → AreSame (known (replicate lanes SinkFault)) told_by_input k
unfolding AreSame
as_known lanes k below r n =
    ap (λ ending. ends r k ending n) (get_or-replicate lanes k SinkFault Clean below) ∙ sym (by_end k r n)

entered_same : (E F : Endings) (r : Run) (place : ℕ) (e : Entry) (later : List Entry) → AreSame E F e.lane → (e.kind == FAULT_KIND) ≡ false →
    entered E r place e later ≡ entered F r place e later
unfolding AreSame entered
entered_same E F r place e later same no_fault =
    let n = next_of r e.lane in
    let behind : Endings → Option Run = λ G. cond (e.kind == END_KIND) (ends r e.lane (G e.lane n) n) (cond (e.kind == REMOTE_FAULT_KIND) (remote_failed r e.lane n) None) in
    let whole : Endings → Option Run = λ G. cond (e.kind == FAULT_KIND) (Some (faulted r e.lane place (G e.lane n) later n)) (behind G) in
    let alike : whole E ≡ whole F =
    ap (λ b. cond b (Some (faulted r e.lane place (E e.lane n) later n)) (behind E)) no_fault
    ∙ ap (λ o. cond (e.kind == END_KIND) o (cond (e.kind == REMOTE_FAULT_KIND) (remote_failed r e.lane n) None)) (same r n)
    ∙ sym (ap (λ b. cond b (Some (faulted r e.lane place (F e.lane n) later n)) (behind F)) no_fault) in
    ap (λ o. cond (e.kind == COMMAND_KIND) (stepped r e.lane e.moment n) (cond (e.kind == PART_KIND) (passed r n)
    (cond (e.kind == MEMORY_KIND) (short r e.lane n) (cond (e.kind == START_KIND) (opens r e.lane n)
    (cond (e.kind == STOP_KIND) (closes r e.lane n) o))))) alike

-- the run behind an entry
abbrev from : Endings → Run → ℕ → Entry → List Entry → Option Run → Result Run Misfit
from E r place e later None = Err (misfit r place e)
from E r place e later (Some after) = run_from E after (place + 1) later

from_same : (E F : Endings) (r : Run) (place : ℕ) (e : Entry) (later : List Entry) → ((after : Run) → run_from E after (place + 1) later ≡ run_from F after (place + 1) later) →
    (o : Option Run) → from E r place e later o ≡ from F r place e later o
from_same E F r place e later behind None = refl
from_same E F r place e later behind (Some after) = behind after

run_same : (lanes : ℕ) (E F : Endings) → ((k : ℕ) → k < lanes → AreSame E F k) → (r : Run) (place : ℕ) (order : List Entry) →
    list_all (fits_entry lanes) order ≡ true → has_faults order ≡ false → run_from E r place order ≡ run_from F r place order
unfolding run_from
run_same lanes E F same r place [] fit none = refl
run_same lanes E F same r place (e ∷ later) fit none =
    let fits = and_parts (fits_entry lanes e) (list_all (fits_entry lanes) later) fit in
    let below = ltb-true e.lane lanes ((and_parts _ _ ((and_parts _ _ fits.0).0)).0) in
    let faults = or_parts (e.kind == FAULT_KIND) (has_faults later) none in
    ap (from E r place e later) (entered_same E F r place e later (same e.lane below) faults.0)
    ∙ from_same E F r place e later (λ after. run_same lanes E F same after (place + 1) later fits.1 faults.1) (entered F r place e later)

pub by_input : (snapshots : List Snapshot) (remote : Option (List Snapshot)) (order : List Entry) (inputs : List (List ℕ)) →
    IsTrue (keeps_rules (length inputs) order) → has_faults order ≡ false →
    weave snapshots remote order inputs (replicate (length inputs) SinkFault) ≡ woven told_by_input snapshots remote order inputs
unfolding keeps_rules weave woven
by_input snapshots remote order inputs keeps none =
    let fit = (and_parts _ _ ((and_parts _ _ keeps).0)).0 in
    ap (λ (run : Result Run Misfit). run >>= (λ r. Ok (woven_of r)))
    (run_same (length inputs) (known (replicate (length inputs) SinkFault)) told_by_input (as_known (length inputs))
    (new_run snapshots remote inputs) 0 order fit none)

-- ---- where replies have bytes that are free

abbrev noted : Endings → Run → ℕ → Entry → List Entry → Option Run → List Free
noted E r place e later None = []
noted E r place e later (Some after) = cons_option (freed r e) (frees_from E after (place + 1) later)

noted_same : (E F : Endings) (r : Run) (place : ℕ) (e : Entry) (later : List Entry) → ((after : Run) → frees_from E after (place + 1) later ≡ frees_from F after (place + 1) later) →
    (o : Option Run) → noted E r place e later o ≡ noted F r place e later o
noted_same E F r place e later behind None = refl
noted_same E F r place e later behind (Some after) = ap (cons_option (freed r e)) (behind after)

frees_same : (lanes : ℕ) (E F : Endings) → ((k : ℕ) → k < lanes → AreSame E F k) → (r : Run) (place : ℕ) (order : List Entry) →
    list_all (fits_entry lanes) order ≡ true → has_faults order ≡ false → frees_from E r place order ≡ frees_from F r place order
unfolding frees_from
frees_same lanes E F same r place [] fit none = refl
frees_same lanes E F same r place (e ∷ later) fit none =
    let fits = and_parts (fits_entry lanes e) (list_all (fits_entry lanes) later) fit in
    let below = ltb-true e.lane lanes ((and_parts _ _ ((and_parts _ _ fits.0).0)).0) in
    let faults = or_parts (e.kind == FAULT_KIND) (has_faults later) none in
    ap (noted E r place e later) (entered_same E F r place e later (same e.lane below) faults.0)
    ∙ noted_same E F r place e later (λ after. frees_same lanes E F same after (place + 1) later fits.1 faults.1) (entered F r place e later)

pub frees_by_input : (snapshots : List Snapshot) (remote : Option (List Snapshot)) (order : List Entry) (inputs : List (List ℕ)) →
    IsTrue (keeps_rules (length inputs) order) → has_faults order ≡ false →
    frees (known (replicate (length inputs) SinkFault)) snapshots remote order inputs ≡ frees told_by_input snapshots remote order inputs
unfolding keeps_rules
frees_by_input snapshots remote order inputs keeps none =
    frees_same (length inputs) (known (replicate (length inputs) SinkFault)) told_by_input (as_known (length inputs))
    (new_run snapshots remote inputs) 0 order ((and_parts _ _ ((and_parts _ _ keeps).0)).0) none

-- ---- where every lane ended cleanly

-- what the one comes to, the other does
pub AreKept : Endings → Endings → ℕ → Type 0
AreKept E F k = (r after : Run) (n : Next) → ends r k (E k n) n ≡ Some after → ends r k (F k n) n ≡ Some after

by_clean : (k : ℕ) → AreKept (λ j n. Clean) told_by_input k
unfolding AreKept ends ended_with unread
by_clean k r after (job_step j left) is = cc
by_clean k r after (plain c left) is = cc
by_clean k r after (sync group left) is = cc
by_clean k r after (collect left) is = cc
by_clean k r after (collecting short) is = cc
by_clean k r after bye is = is
by_clean k r after (broken refusal) is = is
by_clean k r after end is = is

pub as_clean : (lanes k : ℕ) → AreKept (known (replicate lanes Clean)) told_by_input k
unfolding AreKept
as_clean lanes k r after n is =
    by_clean k r after n (sym (ap (λ ending. ends r k ending n) (always lanes k)) ∙ is)
  where
    always : (lanes k : ℕ) → get_or (replicate lanes Clean) k Clean ≡ Clean
    always zero k = refl
    always (suc lanes) zero = refl
    always (suc lanes) (suc k) = always lanes k

behind_kept : (b : Bool) (first x y : Option Run) (after : Run) → (x ≡ Some after → y ≡ Some after) → cond b first x ≡ Some after → cond b first y ≡ Some after
behind_kept true first x y after f is = is
behind_kept false first x y after f is = f is

front_kept : (b : Bool) (x y others : Option Run) (after : Run) → (x ≡ Some after → y ≡ Some after) → cond b x others ≡ Some after → cond b y others ≡ Some after
front_kept true x y others after f is = f is
front_kept false x y others after f is = is

no_fault_kept : (b : Bool) (first other x y : Option Run) (after : Run) → b ≡ false → (x ≡ Some after → y ≡ Some after) → cond b first x ≡ Some after → cond b other y ≡ Some after
no_fault_kept true first other x y after none f is = cc
no_fault_kept false first other x y after none f is = f is

pub entered_kept : (E F : Endings) (r after : Run) (place : ℕ) (e : Entry) (later : List Entry) → AreKept E F e.lane → (e.kind == FAULT_KIND) ≡ false →
    entered E r place e later ≡ Some after → entered F r place e later ≡ Some after
unfolding AreKept entered
entered_kept E F r after place e later kept no_fault =
    behind_kept (e.kind == COMMAND_KIND) _ _ _ after (behind_kept (e.kind == PART_KIND) _ _ _ after
    (behind_kept (e.kind == MEMORY_KIND) _ _ _ after (behind_kept (e.kind == START_KIND) _ _ _ after
    (behind_kept (e.kind == STOP_KIND) _ _ _ after (no_fault_kept (e.kind == FAULT_KIND) _ _ _ _ after no_fault
    (front_kept (e.kind == END_KIND) _ _ _ after (kept r after (next_of r e.lane))))))))

from_kept : (E F : Endings) (r last : Run) (place : ℕ) (e : Entry) (later : List Entry) →
    ((after : Run) → run_from E after (place + 1) later ≡ Ok last → run_from F after (place + 1) later ≡ Ok last) →
    (o p : Option Run) → ((after : Run) → o ≡ Some after → p ≡ Some after) → from E r place e later o ≡ Ok last → from F r place e later p ≡ Ok last
from_kept E F r last place e later behind None p same is = cc
from_kept E F r last place e later behind (Some after) p same is = ap (from F r place e later) (same after refl) ∙ behind after is

run_kept : (E F : Endings) → ((k : ℕ) → AreKept E F k) → (r last : Run) (place : ℕ) (order : List Entry) →
    has_faults order ≡ false → run_from E r place order ≡ Ok last → run_from F r place order ≡ Ok last
unfolding run_from
run_kept E F kept r last place [] none is = is
run_kept E F kept r last place (e ∷ later) none is =
    let faults = or_parts (e.kind == FAULT_KIND) (has_faults later) none in
    from_kept E F r last place e later (λ after. run_kept E F kept after last (place + 1) later faults.1)
    (entered E r place e later) (entered F r place e later) (λ after. entered_kept E F r after place e later (kept e.lane) faults.0) is

pub by_clean_endings : (snapshots : List Snapshot) (remote : Option (List Snapshot)) (order : List Entry) (inputs : List (List ℕ)) (run : Woven) →
    has_faults order ≡ false →
    weave snapshots remote order inputs (replicate (length inputs) Clean) ≡ Ok run → woven told_by_input snapshots remote order inputs ≡ Ok run
unfolding weave woven
by_clean_endings snapshots remote order inputs run none is =
    on (run_from (known (replicate (length inputs) Clean)) (new_run snapshots remote inputs) 0 order) refl is
  where
    on : (o : Result Run Misfit) → run_from (known (replicate (length inputs) Clean)) (new_run snapshots remote inputs) 0 order ≡ o →
        (o >>= (λ r. Ok (woven_of r))) ≡ Ok run →
        (run_from told_by_input (new_run snapshots remote inputs) 0 order >>= (λ r. Ok (woven_of r))) ≡ Ok run
    on (Err m) is_run is = cc
    on (Ok last) is_run is =
        ap (λ (o : Result Run Misfit). o >>= (λ r. Ok (woven_of r)))
        (run_kept (known (replicate (length inputs) Clean)) told_by_input (as_clean (length inputs))
        (new_run snapshots remote inputs) last 0 order none is_run) ∙ is

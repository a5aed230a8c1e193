-- A check of a run whose replay is equal, in which nothing failed, tells so.
use Rattle.disk_trait.specs.Effects.{OnlyReads}
use Rattle.disk_trait.specs.declared.disk.Disk.{Ghosts}
use Rattle.std.proofs.Common.{◌≡◌, ◌<◌, ◌+◌, ◌*◌, ◌⊎◌, inl, inr, ℕ, Bool, true, false, List, [], ◌++◌, length, Option, Some, None, is_some, Result, Ok, Err, refl, sym, ap, subst, ◌∙◌, arith, append-nil, length-append, slice_index_or}
use Rattle.std.specs.Prelude.{String}
use Rattle.std.specs.declared.alloc.Global.{Global}
use Rattle.std.proofs.lemmas.List.{ext_get_or}
use Rattle.port_traits.specs.declared.sink.Sink as sinks
use Rattle.port_traits.specs.declared.source.Source as sources
use Rattle.port_traits.specs.Bytes.{TakesFrom}
use Rattle.port_traits.specs.Faults.{Rose}
use Rattle.port_traits.specs.Readings.{Readings}
use Rattle.store_files.specs.Order.{order_text}
use Rattle.store_model.specs.Load.{load}
use Rattle.store_model.specs.Weave.{told_by_input, woven}
use Rattle.plain_snapshots.specs.Loading.{has_damaged}
use Rattle.plain_store.specs.Frees.{frees}
use Rattle.store_history.specs.RemoteDisk.{faults_of}
use Rattle.command_line.specs.Reading.{texts}
use Rattle.store_history.specs.declared.port.Port.{Port}
use Rattle.replay.specs.Compare.{compare}
use Rattle.replay.specs.Orders.{faultless_order}
use Rattle.replay.specs.Reading.{IsAtEnd, IsTooLong}
use Rattle.run_check.specs.declared.checking.Compared.{Compared}
use Rattle.run_check.specs.declared.fault.CheckFault.{CheckFault}
use Rattle.run_check.specs.declared.fault.CheckFault.TheVariants as faults
use Rattle.run_check.specs.Checks.{Checks, HasCompared, RemoteIsOnlyRead, loaded}
use Rattle.run_check.specs.Ports.{IsRead, left_at}
use Rattle.run_check.specs.Sessions.{sessions_of}
use Rattle.pbs_server.specs.declared.served.Served.{Served}
use Rattle.pbs_server.specs.declared.status.Status.{Status}
use Rattle.pbs_server.specs.declared.status.Status.TheVariants as statuses
use Rattle.pbs_server.specs.Asking.{LeavesBy}
use Rattle.pbs_server.specs.Checking.{TellsLine, check_facts}
use Rattle.pbs_server.specs.Completeness.{CanCheck, HoldsLess, NoneRose}
use Rattle.pbs_server.specs.Statuses.{first_of}
use Rattle.pbs_server.proofs.Fine.{took_front}
use Rattle.pbs_server.proofs.Words.{made_check}

-- ---- what was read

-- all that a port held
read_is : (left left' : Option (List ℕ)) (xs bytes : List ℕ) → left ≡ Some xs → IsRead left left' bytes → bytes ≡ xs
read_is left left' xs bytes is read =
    let front = took_front xs left' bytes (subst (λ o. TakesFrom o left' bytes) is read.took) in
    let none : front.0 ≡ [] = subst IsAtEnd front.1 read.ended in
    sym (front.2 ∙ ap (λ ys. bytes ++ ys) none ∙ append-nil bytes)

same_some : {A : Type 0} (a b : A) → Some a ≡ Some b → a ≡ b
same_some a b e = cc

not_too_long : (left left' : Option (List ℕ)) → HoldsLess left → IsTooLong left left' → ⊥
not_too_long None left' less long = less
not_too_long (Some xs) left' less long =
    let front = took_front xs left' long.front long.took in
    let sizes : length xs ≡ length long.front + length front.0 = ap length front.2 ∙ length-append long.front front.0 in
    let many = long.many in
    absurd (omega (arith, sizes, many, less))

-- ---- the remote

remote_still : {E : Type 0} (e : Ghosts E) (old new : Option E) (failed : Type 0) → (Rose (faults_of e old) (faults_of e new) → ⊥) → RemoteIsOnlyRead e old new failed → failed → ⊥
remote_still e None None failed still only is = only is
remote_still e (Some old) (Some new) failed still only is = still ((only.serves).cause is)
remote_still e None (Some new) failed still only is = only
remote_still e (Some old) None failed still only is = only

module _ {D E S K J : Type 0} (d : Ghosts D) (e : Ghosts E) (source : sources.Ghosts S) (sink : sinks.Ghosts K) (journal : sinks.Ghosts J)
    (words : List (String Global)) (disk : D) (remote : Option E) (old new : List (Port S K)) (before after : J) (result : Served D E)
    (can : CanCheck d e source words disk remote old) (none : NoneRose d e source sink journal words disk remote old new before after result) where
  abbrev IsOkOrShort : Status → Type 0
  IsOkOrShort s = (s ≡ statuses.Ok) ⊎ (s ≡ statuses.NoMemory)

  -- the order's port holds it
  order_read : (text : List ℕ) → IsRead (left_at source old 0) (left_at source new 0) text → faultless_order (sessions_of old) text ≡ Some can.order
  order_read text read =
      ap (faultless_order (sessions_of old)) (read_is (left_at source old 0) (left_at source new 0) (order_text can.order) text (can.holds).text_is read)
      ∙ ap (λ n. faultless_order n (order_text can.order)) (sym (can.holds).sessions)
      ∙ (can.replays).order_is

  compared_equal : (compared : Compared) → HasCompared d e source disk remote old new compared → compared.unequal ≡ None
  compared_equal compared c =
      let order_is : c.order ≡ can.order = same_some c.order can.order (sym c.order_is ∙ order_read c.text c.order_read) in
      let inputs_is : c.inputs ≡ can.inputs =
      ext_get_or [] c.inputs can.inputs (c.sessions ∙ sym (can.holds).sessions)
      (λ k lt.
      let below : k < sessions_of old = subst (λ n. k < n) c.sessions lt in
      read_is (left_at source old (1 + 2 * k)) (left_at source new (1 + 2 * k)) (slice_index_or can.inputs k []) (slice_index_or c.inputs k []) ((can.holds).inputs_are k below) (c.inputs_read k below)) in
      let kept_is : c.kept ≡ can.kept =
      ext_get_or [] c.kept can.kept (c.outs ∙ sym (can.holds).outs)
      (λ k lt.
      let below : k < sessions_of old = subst (λ n. k < n) c.outs lt in
      read_is (left_at source old (2 + 2 * k)) (left_at source new (2 + 2 * k)) (slice_index_or can.kept k []) (slice_index_or c.kept k []) ((can.holds).kept_are k below) (c.outs_read k below)) in
      let files = load (d.content disk) in
      let R = loaded e remote in
      c.is can.honest can.beside
      ∙ ap (λ es. compare (woven told_by_input files R es c.inputs) (frees told_by_input files R es c.inputs) c.kept) order_is
      ∙ ap (λ xs. compare (woven told_by_input files R can.order xs) (frees told_by_input files R can.order xs) c.kept) inputs_is
      ∙ ap (λ ys. compare (woven told_by_input files R can.order can.inputs) (frees told_by_input files R can.order can.inputs) ys) kept_is
      ∙ (can.replays).equal

  by_failed : (failed : Bool) (compared : Compared) → TellsLine journal before after (Ok compared) failed → compared.unequal ≡ None → first_of (check_facts (Ok compared) failed) ≡ statuses.Ok
  by_failed true compared told equal = absurd (none.journal_is (told.cause refl))
  by_failed false compared told equal = ap (λ o. first_of (record (check_facts (Ok compared) false) { unequal = is_some o })) equal

  abbrev RemoteFailed : Result Compared CheckFault → Type 0
  RemoteFailed what = what ≡ Err faults.RemoteFault

  damaged : (b : Bool) → b ≡ false → b ≡ true → ⊥
  damaged b whole is = cc

  -- by what it came to
  by_what : (what : Result Compared CheckFault) → Checks d e source disk remote old new what → OnlyReads d disk result.disk (what ≡ Err faults.DiskFault)
      → RemoteIsOnlyRead e remote result.remote (what ≡ Err faults.RemoteFault) → TellsLine journal before after what (result.report).journal_failed
      → IsOkOrShort (first_of (check_facts what (result.report).journal_failed))
  by_what (Ok compared) checks disk_is remote_is line = inl (by_failed (result.report).journal_failed compared line (compared_equal compared checks))
  by_what (Err faults.NoMemory) checks disk_is remote_is line = inr refl
  by_what (Err faults.DiskFault) checks disk_is remote_is line = absurd (none.disk_is ((disk_is.serves).cause refl))
  by_what (Err faults.RemoteFault) checks disk_is remote_is line =
      absurd (remote_still e remote result.remote (RemoteFailed (Err faults.RemoteFault)) none.remote_is remote_is refl)
  by_what (Err faults.SourceFault) checks disk_is remote_is line = absurd (none.sources_are checks.place checks.here checks.rose)
  by_what (Err faults.SourceTooLong) checks disk_is remote_is line =
      absurd (not_too_long (left_at source old checks.place) (left_at source new checks.place) ((can.holds).short checks.place checks.here) checks.long)
  by_what (Err faults.BadOrder) (inl is_damaged) disk_is remote_is line = absurd (damaged (has_damaged (d.content disk)) (can.replays).sound (is_damaged can.honest))
  by_what (Err faults.BadOrder) (inr no_order) disk_is remote_is line = absurd (no_some (sym no_order.none ∙ order_read no_order.text no_order.read))
    where
      no_some : None ≡ Some can.order → ⊥
      no_some h = cc

  pub all_checked : (readings : Option Readings) → LeavesBy d e source sink journal readings words disk remote old new before after result → IsOkOrShort result.status
  all_checked readings (inl made) = absurd (made_check (texts words) (length old) (made.n, made.asks) (can.asks).0)
  all_checked readings (inr (inl l)) =
      let c = l.checked in
      subst IsOkOrShort (sym c.status) (by_what c.what c.checks c.disk_is c.remote_is c.line_is)
  all_checked readings (inr (inr handed)) = inr (handed.no_check can.asks).status

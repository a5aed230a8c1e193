-- A check that came to its end.
use Rattle.std.proofs.Common.{Bor, ◌≡◌, ℕ, ◌+◌, ◌*◌, ◌/◌, false, List, [], get_or, Option, Some, None, Result, Ok, Err, inr, refl, sym, ap, subst, ◌∙◌, ◌≢◌, arith}
use Rattle.std.specs.Prelude.{IfErr, IfOk, option_map, string_bytes}
use Rattle.std.specs.Option.{option_copied}
use Rattle.disk_trait.specs.declared.disk.Disk.{Ghosts}
use Rattle.port_traits.specs.declared.source.Source as sources
use Rattle.store_types.specs.declared.order.Entry.{Entry}
use Rattle.store_files.specs.Archive.{Snapshot}
use Rattle.store_model.specs.Load.{load}
use Rattle.store_model.specs.Weave.{told_by_input, woven}
use Rattle.plain_snapshots.specs.Loading.{has_damaged}
use Rattle.plain_store.specs.Frees.{frees}
use Rattle.store_history.specs.declared.port.Port.{Port}
use Rattle.replay.specs.declared.difference.Unequal.{Unequal}
use Rattle.replay.specs.declared.comparison.Comparison.{Comparison}
use Rattle.replay.specs.Compare.{compare, line}
use Rattle.replay.specs.Comparison.{Begins, outcome}
use Rattle.run_check.specs.declared.checking.Compared.{Compared}
use Rattle.run_check.specs.declared.fault.CheckFault.{CheckFault}
use Rattle.run_check.specs.declared.fault.CheckFault.TheVariants as faults
use Rattle.run_check.specs.Checks.{Checks, HasCompared, IsHonest, loaded}
use Rattle.run_check.specs.Ports.{IsRead, Keeps, left_at}
use Rattle.run_check.specs.Sessions.{ComparesOuts, IsWhy, ReadsInputs, ReadsOrder, sessions_of}
use Rattle.run_check.proofs.Causes.{disk_checks}
use Rattle.run_check.proofs.PortLemmas.{keeps_both, why_since}

between : (a b c e : Option (List ℕ)) (text : List ℕ) → b ≡ a → c ≡ e → IsRead b c text → IsRead a e text
between a b c e text first last read = subst (λ l. IsRead l e text) first (subst (λ l. IsRead b l text) last read)

module _ {D E S K : Type 0} (d : Ghosts D) (e : Ghosts E) (source : sources.Ghosts S) where
  module _ (old mid behind new : List (Port S K)) (order : List Entry) (inputs : List (List ℕ)) (c : Comparison) (unequal : Option Unequal)
      (keeps : Keeps source old mid) (first : ReadsOrder source old mid order) (sent : ReadsInputs source mid behind inputs) (outs : ComparesOuts source c behind new unequal) where
    same_count : sessions_of behind ≡ sessions_of old
    same_count = ap (λ n. n / 2) (sent.read.keeps.count ∙ keeps.count)

    order_left : left_at source mid 0 ≡ left_at source new 0
    order_left = sym (outs.read.others 0 (λ k below. omega arith) ∙ sent.read.others 0 (λ k below. omega arith))

    input_old : (k : ℕ) → left_at source mid (1 + 2 * k) ≡ left_at source old (1 + 2 * k)
    input_old k = first.others (1 + 2 * k) (λ is. omega arith)

    input_new : (k : ℕ) → left_at source behind (1 + 2 * k) ≡ left_at source new (1 + 2 * k)
    input_new k = sym (outs.read.others (1 + 2 * k) (λ j below. odd_even k j))
      where
        odd_even : (k j : ℕ) → 1 + 2 * k ≢ 2 + 2 * j
        odd_even k j = λ is. omega arith

    out_old : (k : ℕ) → left_at source behind (2 + 2 * k) ≡ left_at source old (2 + 2 * k)
    out_old k = sent.read.others (2 + 2 * k) (λ j below. even_odd k j) ∙ first.others (2 + 2 * k) (λ is. omega arith)
      where
        even_odd : (k j : ℕ) → 2 + 2 * k ≢ 1 + 2 * j
        even_odd k j = λ is. omega arith

    pub has_compared : (disk : D) (remote : Option E) (told : Compared) → told.unequal ≡ unequal → string_bytes told.line ≡ line unequal →
        (d.honest disk → has_damaged (d.content disk) ≡ false) →
        (d.honest disk → IsHonest e remote → (kept : List (List ℕ)) → outcome c kept ≡ compare (woven told_by_input (load (d.content disk)) (loaded e remote) order inputs)
        (frees told_by_input (load (d.content disk)) (loaded e remote) order inputs) kept) →
        HasCompared d e source disk remote old new told
    has_compared disk remote told same line_is sound begun = record {
      text = first.text;
      order = order;
      inputs = inputs;
      kept = outs.kept;
      order_read = between (left_at source old 0) (left_at source old 0) (left_at source mid 0) (left_at source new 0) first.text refl order_left first.read;
      sessions = sent.many ∙ ap (λ n. n / 2) keeps.count;
      outs = outs.many ∙ same_count;
      inputs_read = λ k below. between _ _ _ _ (get_or inputs k []) (input_old k) (input_new k) (sent.read.each k (omega (arith, sent.many, ap (λ n. n / 2) keeps.count)));
      outs_read = λ k below. between _ _ _ _ (get_or outs.kept k []) (out_old k) refl (outs.read.each k (omega (arith, outs.many, same_count)));
      order_is = first.is;
      sound = sound;
      is = λ honest beside. same ∙ outs.is ∙ begun honest beside outs.kept;
      line_is = line_is ∙ ap line (sym same);
    }

  -- ---- why not

  module _ (old mid behind new : List (Port S K)) (order : List Entry) (inputs : List (List ℕ)) (keeps : Keeps source old mid) (first : ReadsOrder source old mid order) where
    pub why_inputs : (fault : CheckFault) → IsWhy source 1 mid behind fault → IsWhy source 1 old behind fault
    why_inputs fault why = why_since source 1 old mid behind fault keeps (λ n. first.others (1 + 2 * n) (λ is. omega arith)) why

    pub why_outs : (fault : CheckFault) → ReadsInputs source mid behind inputs → IsWhy source 2 behind new fault → IsWhy source 2 old new fault
    why_outs fault sent why =
        why_since source 2 old behind new fault (keeps_both source old mid behind keeps sent.read.keeps)
        (λ n. sent.read.others (2 + 2 * n) (λ j below. even_odd n j) ∙ first.others (2 + 2 * n) (λ is. omega arith)) why
      where
        even_odd : (k j : ℕ) → 2 + 2 * k ≢ 1 + 2 * j
        even_odd k j = λ is. omega arith

  -- ---- what is told of it

  pub told_checks : (disk : D) (remote : Option E) (old new : List (Port S K)) (unequal : Option Unequal) (result : Result Compared CheckFault) →
      IfOk result (λ c. c.unequal ≡ unequal) → IfOk result (λ c. string_bytes c.line ≡ line unequal) → IfErr result (λ f. f ≡ faults.NoMemory) →
      ((told : Compared) → told.unequal ≡ unequal → string_bytes told.line ≡ line unequal → HasCompared d e source disk remote old new told) → Checks d e source disk remote old new result
  told_checks disk remote old new unequal (Ok told) same line_is why has = has told same line_is
  told_checks disk remote old new unequal (Err f) same line_is why has = disk_checks d e source disk remote old new f (inr why)

-- a replay over what was loaded
module _ (snapshots snapshots' : List Snapshot) (remote remote' : Option (List Snapshot)) (order order' : List Entry) (inputs inputs' : List (List ℕ)) where
  abbrev by_replay : List Snapshot → Option (List Snapshot) → List Entry → List (List ℕ) → List (List ℕ) → Option Unequal
  by_replay s r o i kept = compare (woven told_by_input s r o i) (frees told_by_input s r o i) kept

  pub begun_of : (c : Comparison) → snapshots ≡ snapshots' → remote ≡ remote' → order ≡ order' → inputs ≡ inputs' → Begins c snapshots remote order inputs → (kept : List (List ℕ)) →
      outcome c kept ≡ by_replay snapshots' remote' order' inputs' kept
  begun_of c s r o i begins kept =
      begins.is kept ∙ ap (λ x. by_replay x remote order inputs kept) s ∙ ap (λ x. by_replay snapshots' x order inputs kept) r
      ∙ ap (λ x. by_replay snapshots' remote' x inputs kept) o ∙ ap (λ x. by_replay snapshots' remote' order' x kept) i

pub shown_by : {A B : Type 0} (f : A → B) (r : Option (Bor A)) (o : Option A) → option_copied r ≡ o → option_map (λ (p : Bor A). f p.now) r ≡ option_map f o
shown_by f None o is = ap (option_map f) is
shown_by f (Some p) o is = ap (option_map f) is

-- What the words ask for.
use Rattle.std.proofs.Common.{◌≡◌, ◌≤◌, ◌%◌, inl, inr, ℕ, Bool, true, false, true≢false, List, Some, is_some, sym, ap, ◌∙◌, arith}
use Rattle.std.specs.Prelude.{string_bytes, String}
use Rattle.std.specs.declared.alloc.Global.{Global}
use Rattle.command_line.specs.Plans.{ports_of}
use Rattle.command_line.specs.Reading.{IsCount, Said, check, generate, reading, run}
use Rattle.command_line.proofs.Counted.{said_count}
use Rattle.command_line.proofs.Sessions.{has_session}
use Rattle.pbs_server.specs.Words.{AsksCheck, AsksMade, AsksRun, IsMade, IsTooMany, check_limit}

-- there is a session at least
pub some_asked : (words : List (List ℕ)) (ports : ℕ) (w : Bool) → AsksRun words ports w → 1 ≤ ports
some_asked words ports w r = let some = has_session words r.root r.remote r.order r.sessions r.says in let fits = r.fits in omega (arith, some, fits)

same_said : (s t : Said) → Some s ≡ Some t → s ≡ t
same_said s t is = cc

-- words of a run do not ask for made sessions
pub run_made : (words : List (List ℕ)) (ports : ℕ) (w : Bool) → AsksRun words ports w → IsMade words ports → ⊥
run_made words ports w r made = apart (same_said (run r.root r.remote r.order r.sessions) (generate (made.1).root made.0) (sym r.says ∙ (made.1).says))
  where
    apart : run r.root r.remote r.order r.sessions ≡ generate (made.1).root made.0 → ⊥
    apart x = cc

-- or for a check
pub run_check : (words : List (List ℕ)) (ports : ℕ) (w : Bool) → AsksRun words ports w → AsksCheck words ports → ⊥
run_check words ports w r asks = apart (same_said (run r.root r.remote r.order r.sessions) (check asks.root asks.order asks.remote asks.sessions) (sym r.says ∙ asks.says))
  where
    apart : run r.root r.remote r.order r.sessions ≡ check asks.root asks.order asks.remote asks.sessions → ⊥
    apart x = cc

pub made_check : (words : List (List ℕ)) (ports : ℕ) → IsMade words ports → AsksCheck words ports → ⊥
made_check words ports made asks = apart (same_said (generate (made.1).root made.0) (check asks.root asks.order asks.remote asks.sessions) (sym (made.1).says ∙ asks.says))
  where
    apart : generate (made.1).root made.0 ≡ check asks.root asks.order asks.remote asks.sessions → ⊥
    apart x = cc

pub made_many : (words : List (List ℕ)) (ports : ℕ) → IsMade words ports → IsTooMany words ports → ⊥
made_many words ports made (inl many) = run_made words ports (many.0).0 (many.0).1 made
made_many words ports made (inr many) = made_check words ports made many.0

-- nor both for the order and for none
pub unordered : (words : List (List ℕ)) (ports : ℕ) (w : Bool) → AsksRun words ports w → w ≡ false → AsksRun words ports true → ⊥
unordered words ports w r none q = true≢false (sym q.order_is ∙ ap is_some (sym orders) ∙ r.order_is ∙ none)
  where
    same : run r.root r.remote r.order r.sessions ≡ run q.root q.remote q.order q.sessions
    same = same_said (run r.root r.remote r.order r.sessions) (run q.root q.remote q.order q.sessions) (sym r.says ∙ q.says)

    orders : r.order ≡ q.order
    orders = let is = same in cc

-- those of a plan for made sessions do
pub made_asks : (words : List (List ℕ)) (ports : ℕ) (root : String Global) (n : ℕ) → reading words ≡ Some (generate (string_bytes root) n) → ports_of (generate (string_bytes root) n) ≡ ports
    → AsksMade words ports n × IsCount n
made_asks words ports root n is fits = (record { root = string_bytes root; says = is; fits = fits }, said_count words (string_bytes root) n is)

-- a check has one port, and two of each session
pub odd_ports : (words : List (List ℕ)) (ports : ℕ) → AsksCheck words ports × (ports ≤ check_limit) → ports % 2 ≡ 1
odd_ports words ports asks = let fits = (asks.0).fits in omega (arith, fits)

pub few_ports : (words : List (List ℕ)) (ports : ℕ) → AsksCheck words ports × (ports ≤ check_limit) → ports ≤ 129
few_ports words ports asks = asks.1

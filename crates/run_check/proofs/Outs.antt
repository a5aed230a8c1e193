-- Inputs that are read and kept replies that are compared, session by session.
use Rattle.std.proofs.Common.{Result, Ok, Err, Vec, ◌≡◌, ℕ, ◌+◌, ◌*◌, ◌<◌, List, [], ◌∷◌, ◌++◌, length, Option, refl, sym, ap, subst, ◌∙◌, ◌≢◌, append_assoc}
use Rattle.std.proofs.lemmas.List.{append-nil, length_push}
use Rattle.port_traits.specs.declared.source.Source as sources
use Rattle.store_history.specs.declared.port.Port.{Port}
use Rattle.replay.specs.declared.difference.Unequal.{Unequal}
use Rattle.replay.specs.declared.comparison.Comparison.{Comparison}
use Rattle.replay.specs.Comparison.{Takes, outcome}
use Rattle.std.specs.Result.{IsErrAnd}
use Rattle.std.specs.declared.alloc.Global.{Global}
use Rattle.replay.specs.Reading.{IsAll}
use Rattle.replay.specs.declared.reading.Unread.{Unread}
use Rattle.run_check.specs.declared.fault.CheckFault.{CheckFault}
use Rattle.run_check.specs.Faults.{fault_of}
use Rattle.run_check.specs.Ports.{IsRead, Keeps, ReadsAt, ReadsEach, left_at}
use Rattle.run_check.specs.Sessions.{ComparesOuts, IsWhy, TellsInputs, TellsOuts, sessions_of}
use Rattle.run_check.proofs.PortLemmas.{is_read, reads_more, reads_none, why_next}

-- the sessions before this one were compared
pub record OutsSoFar {S K : Type 0} (source : sources.Ghosts S) (c now : Comparison) (old new : List (Port S K)) (session : ℕ) : Type 0 where
  pub kept : List (List ℕ)
  pub count : length kept ≡ session
  pub read : ReadsEach source 2 old new kept
  pub goes_on : (others : List (List ℕ)) → outcome now others ≡ outcome c (kept ++ others)
  pub lane : now.lane ≡ session

module _ {S K : Type 0} (source : sources.Ghosts S) (c : Comparison) where
  pub outs_none : (ports : List (Port S K)) → c.lane ≡ 0 → OutsSoFar source c c ports ports 0
  outs_none ports first = record { kept = []; count = refl; read = reads_none source 2 ports; goes_on = λ others. refl; lane = first }

  pub outs_more : (now next : Comparison) (old mid new : List (Port S K)) (session : ℕ) (text : List ℕ) → OutsSoFar source c now old mid session → Keeps source mid new →
      IsRead (left_at source mid (2 + 2 * session)) (left_at source new (2 + 2 * session)) text →
      ((i : ℕ) → i ≢ 2 + 2 * session → left_at source new i ≡ left_at source mid i) → Takes now next text → OutsSoFar source c next old new (session + 1)
  outs_more now next old mid new session text before keeps read apart takes = record {
    kept = before.kept ++ text ∷ [];
    count = length_push before.kept text ∙ ap (λ n. n + 1) before.count;
    read = reads_more source 2 old mid new before.kept text before.read keeps
        (subst (λ n. IsRead (left_at source mid (2 + 2 * n)) (left_at source new (2 + 2 * n)) text) (sym before.count) read)
        (λ i other. apart i (subst (λ n. i ≢ 2 + 2 * n) before.count other));
    goes_on = λ others. takes.goes_on others ∙ before.goes_on (text ∷ others)
        ∙ ap (outcome c) (sym (append_assoc before.kept (text ∷ []) others));
    lane = takes.lane ∙ ap (λ n. n + 1) before.lane;
  }

  pub outs_all : (now : Comparison) (old new : List (Port S K)) (session : ℕ) (unequal : Option Unequal) → OutsSoFar source c now old new session → session ≡ sessions_of old →
      unequal ≡ outcome now [] → ComparesOuts source c old new unequal
  outs_all now old new session unequal so_far all is = record {
    kept = so_far.kept;
    many = so_far.count ∙ all;
    read = so_far.read;
    is = is ∙ so_far.goes_on [] ∙ ap (outcome c) (append-nil so_far.kept);
  }

-- ---- inputs

pub record InputsSoFar {S K : Type 0} (source : sources.Ghosts S) (old new : List (Port S K)) (inputs : List (List ℕ)) (session : ℕ) : Type 0 where
  pub count : length inputs ≡ session
  pub read : ReadsEach source 1 old new inputs

module _ {S K : Type 0} (source : sources.Ghosts S) where
  pub inputs_more : (old mid new : List (Port S K)) (inputs inputs' : List (List ℕ)) (session : ℕ) (v : Vec ℕ Global) → InputsSoFar source old mid inputs session →
      ReadsAt source (1 + 2 * session) mid new IsAll (Ok v) → inputs' ≡ inputs ++ v.items ∷ [] → InputsSoFar source old new inputs' (session + 1)
  inputs_more old mid new inputs inputs' session v before at is = record {
    count = ap length is ∙ length_push inputs v.items ∙ ap (λ n. n + 1) before.count;
    read = subst (λ xs. ReadsEach source 1 old new xs) (sym is)
        (reads_more source 1 old mid new inputs v.items before.read at.keeps
        (subst (λ n. IsRead (left_at source mid (1 + 2 * n)) (left_at source new (1 + 2 * n)) v.items) (sym before.count)
        (subst (λ t. IsRead (left_at source mid (1 + 2 * session)) (left_at source new (1 + 2 * session)) t) (sym (at.reads).holds) (is_read _ _ IsAll v at.reads)))
        (λ i other. at.others i (subst (λ n. i ≢ 1 + 2 * n) before.count other)));
  }

  pub inputs_cut : (old mid new : List (Port S K)) (inputs : List (List ℕ)) (session : ℕ) (cause : Unread) (result : Result (Vec (List ℕ) Global) CheckFault) → InputsSoFar source old mid inputs session →
      1 + 2 * session < length old → ReadsAt source {A = Vec ℕ Global} (1 + 2 * session) mid new IsAll (Err cause) → IsErrAnd result (λ f. f ≡ fault_of cause) → TellsInputs source old new result
  inputs_cut old mid new inputs session cause (Ok v) before here at is = absurd is
  inputs_cut old mid new inputs session cause (Err f) before here at is =
      subst (IsWhy source 1 old new) (sym is) (why_next source 1 old mid new inputs session IsAll cause before.count here before.read at)

  -- ---- kept replies

  pub outs_next : (c now next : Comparison) (old mid new : List (Port S K)) (session : ℕ) → OutsSoFar source c now old mid session →
      ReadsAt source {A = Unit {0}} (2 + 2 * session) mid new (λ kept told. Takes now next kept) (Ok tt) → OutsSoFar source c next old new (session + 1)
  outs_next c now next old mid new session before at =
      outs_more source c now next old mid new session (at.reads).all before at.keeps (is_read {A = Unit {0}} _ _ (λ kept told. Takes now next kept) tt at.reads) at.others (at.reads).holds

  pub outs_cut : (c now next : Comparison) (old mid new : List (Port S K)) (session : ℕ) (cause : Unread) (result : Result (Option Unequal) CheckFault) → OutsSoFar source c now old mid session →
      2 + 2 * session < length old → ReadsAt source {A = Unit {0}} (2 + 2 * session) mid new (λ kept told. Takes now next kept) (Err cause) → IsErrAnd result (λ f. f ≡ fault_of cause) → TellsOuts source c old new result
  outs_cut c now next old mid new session cause (Ok u) before here at is = absurd is
  outs_cut c now next old mid new session cause (Err f) before here at is =
      subst (IsWhy source 2 old new) (sym is) (why_next source 2 old mid new before.kept session (λ kept told. Takes now next kept) cause before.count here before.read at)

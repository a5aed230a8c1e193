-- A comparison that begins, and that takes a lane.
use Rattle.std.proofs.Common.{◌≡◌, ℕ, suc, ◌+◌, ◌-◌, ◌<◌, ◌≤◌, Bool, true, false, nat_eq, cond, List, [], ◌∷◌, length, replicate, subst, take, MatchResult, Option, Some, None, Result, Ok, Err, refl, sym, ap, ◌∙◌, inl, inr, ◌≢◌, arith}
use Rattle.std.specs.Prelude.{IsTrue, slice_get, slice_index_or}
use Rattle.std.specs.Option.{option_or}
use Rattle.std.proofs.lemmas.Bool.{cases_lt, eqb-false, eqb-true, le-ltb, lt-ltb}
use Rattle.std.proofs.lemmas.List.{take-replicate}
use Rattle.store_types.specs.declared.order.Entry.{Entry}
use Rattle.store_files.specs.Archive.{Snapshot}
use Rattle.store_files.specs.Order.{keeps_rules}
use Rattle.store_model.specs.declared.ending.Ending.{Ending}
use Rattle.store_model.specs.declared.ending.Ending.TheVariants.{SinkFault}
use Rattle.store_model.specs.Weave.{Misfit, known, told_by_input, woven, weave}
use Rattle.plain_store.specs.declared.frees.Free.{Free}
use Rattle.plain_store.specs.declared.weave.Replayed.{Replayed}
use Rattle.plain_store.specs.Frees.{frees}
use Rattle.replay.specs.declared.difference.Unequal.{Unequal}
use Rattle.replay.specs.declared.comparison.Comparison.{Comparison}
use Rattle.replay.specs.Compare.{compare, differs_from, first_unequal, misfit_at}
use Rattle.replay.specs.Comparison.{Begins, FindsBy, found_with, from_lane, outcome}
use Rattle.replay.specs.Orders.{has_faults}
use Rattle.replay.proofs.ByInput.{by_input, frees_by_input}

-- what is found of a lane that does not fit
abbrev by_place : Bool → Option Unequal → Misfit → ℕ → List (List ℕ) → Option Unequal
by_place before found m n kept = cond before found (Some (misfit_at m (slice_get (slice_index_or kept n []) m.replayed)))

module _ (snapshots : List Snapshot) (remote : Option (List Snapshot)) (order : List Entry) (inputs : List (List ℕ)) where
  -- what the plain store gives, where every lane's sink failed
  abbrev pub GivesBy : List Ending → Result Replayed Misfit → Type 0
  GivesBy endings result = MatchResult result
      (λ r. (Ok r.woven ≡ weave snapshots remote order inputs endings) × ((r.frees).items ≡ frees (known endings) snapshots remote order inputs))
      (λ m. Err m ≡ weave snapshots remote order inputs endings)

  abbrev Gives : Result Replayed Misfit → Type 0
  Gives result = GivesBy (replicate (length inputs) SinkFault) result

  from_first : IsTrue (keeps_rules (length inputs) order) → has_faults order ≡ false → (result : Result Replayed Misfit) → Gives result → (kept : List (List ℕ)) →
      from_lane result None 0 kept ≡ compare (woven told_by_input snapshots remote order inputs) (frees told_by_input snapshots remote order inputs) kept
  from_first rules none (Ok r) given kept =
      ap (λ w. compare w (r.frees).items kept) (given.0 ∙ by_input snapshots remote order inputs rules none)
      ∙ ap (λ f. compare (woven told_by_input snapshots remote order inputs) f kept) (given.1 ∙ frees_by_input snapshots remote order inputs rules none)
  from_first rules none (Err m) given kept =
      ap (λ b. by_place b None m (m.lane - 0) kept) (le-ltb m.lane 0 (omega arith))
      ∙ ap (λ n. by_place false None m n kept) (let e : m.lane - 0 ≡ m.lane = omega arith in e)
      ∙ ap (λ w. compare w (frees told_by_input snapshots remote order inputs) kept) (given ∙ by_input snapshots remote order inputs rules none)

  pub begins : IsTrue (keeps_rules (length inputs) order) → has_faults order ≡ false → length inputs ≤ 64 → (endings : List Ending) (result : Result Replayed Misfit) →
      endings ≡ take (length inputs) (replicate 64 SinkFault) → GivesBy endings result →
      Begins (record { replayed = result; lane = 0; found = None }) snapshots remote order inputs
  begins rules none few endings result is given = record {
    lane = refl;
    is = λ kept. from_first rules none result (subst (λ es. GivesBy es result) (is ∙ take-replicate (length inputs) 64 SinkFault few) given) kept;
  }

-- ---- the next lane

or_assoc : (a b c : Option Unequal) → option_or (option_or a b) c ≡ option_or a (option_or b c)
or_assoc None b c = refl
or_assoc (Some u) b c = refl

pub takes_replies : (r : Replayed) (found : Option Unequal) (lane : ℕ) (kept : List ℕ) (others : List (List ℕ)) →
    from_lane (Ok r) (option_or found (differs_from (r.frees).items lane 0 (slice_index_or (r.woven).replies lane []) kept)) (lane + 1) others
    ≡ from_lane (Ok r) found lane (kept ∷ others)
unfolding first_unequal
takes_replies r found lane kept others =
    or_assoc found (differs_from (r.frees).items lane 0 (slice_index_or (r.woven).replies lane []) kept)
    (first_unequal (r.frees).items (r.woven).replies (lane + 1) others)

pub takes_here : (m : Misfit) (found : Option Unequal) (lane : ℕ) (kept : List ℕ) (others : List (List ℕ)) → m.lane ≡ lane →
    from_lane (Err m) (Some (misfit_at m (slice_get kept m.replayed))) (lane + 1) others ≡ from_lane (Err m) found lane (kept ∷ others)
takes_here m found lane kept others is =
    ap (λ b. by_place b (Some (misfit_at m (slice_get kept m.replayed))) m (m.lane - (lane + 1)) others) (lt-ltb m.lane (lane + 1) (omega arith))
    ∙ sym (ap (λ b. by_place b found m (m.lane - lane) (kept ∷ others)) (le-ltb m.lane lane (omega arith))
    ∙ ap (λ n. by_place false found m n (kept ∷ others)) (let e : m.lane - lane ≡ 0 = omega arith in e))

pub takes_other : (m : Misfit) (found : Option Unequal) (lane : ℕ) (kept : List ℕ) (others : List (List ℕ)) → m.lane ≢ lane →
    from_lane (Err m) found (lane + 1) others ≡ from_lane (Err m) found lane (kept ∷ others)
takes_other m found lane kept others other = elim (cases_lt m.lane lane) [ inl below ↦ before below | inr above ↦ behind above ]
  where
    before : m.lane < lane → from_lane (Err m) found (lane + 1) others ≡ from_lane (Err m) found lane (kept ∷ others)
    before below =
        ap (λ b. by_place b found m (m.lane - (lane + 1)) others) (lt-ltb m.lane (lane + 1) (omega arith))
        ∙ sym (ap (λ b. by_place b found m (m.lane - lane) (kept ∷ others)) (lt-ltb m.lane lane below))

    behind : lane ≤ m.lane → from_lane (Err m) found (lane + 1) others ≡ from_lane (Err m) found lane (kept ∷ others)
    behind above =
        let far : lane < m.lane = omega (arith, other) in
        ap (λ b. by_place b found m (m.lane - (lane + 1)) others) (le-ltb m.lane (lane + 1) (omega arith))
        ∙ sym (ap (λ b. by_place b found m (m.lane - lane) (kept ∷ others)) (le-ltb m.lane lane above)
        ∙ ap (λ n. by_place false found m n (kept ∷ others)) (let e : m.lane - lane ≡ suc (m.lane - (lane + 1)) = omega arith in e))

-- by whether the entry that does not fit is this lane's
pub takes_misfit : (m : Misfit) (found : Option Unequal) (lane : ℕ) (kept : List ℕ) (others : List (List ℕ)) →
    from_lane (Err m) (found_with m found lane (slice_get kept m.replayed)) (lane + 1) others ≡ from_lane (Err m) found lane (kept ∷ others)
takes_misfit m found lane kept others = by (nat_eq m.lane lane) refl
  where
    by : (b : Bool) → nat_eq m.lane lane ≡ b →
        from_lane (Err m) (cond b (Some (misfit_at m (slice_get kept m.replayed))) found) (lane + 1) others ≡ from_lane (Err m) found lane (kept ∷ others)
    by true is = takes_here m found lane kept others (eqb-true m.lane lane is)
    by false is = takes_other m found lane kept others (eqb-false m.lane lane is)

-- ---- behind the last lane

pub ends_replies : (r : Replayed) (found : Option Unequal) (lane : ℕ) → found ≡ from_lane (Ok r) found lane []
unfolding first_unequal
ends_replies r None lane = refl
ends_replies r (Some u) lane = refl

pub ends_before : (m : Misfit) (found : Option Unequal) (lane : ℕ) → m.lane < lane → found ≡ from_lane (Err m) found lane []
ends_before m found lane below = sym (ap (λ b. by_place b found m (m.lane - lane) []) (lt-ltb m.lane lane below))

pub ends_behind : (m : Misfit) (found : Option Unequal) (lane : ℕ) → lane ≤ m.lane → Some (misfit_at m None) ≡ from_lane (Err m) found lane []
ends_behind m found lane above = sym (ap (λ b. by_place b found m (m.lane - lane) []) (le-ltb m.lane lane above))

pub end_replies : (c : Comparison) (r : Replayed) → c.replayed ≡ Ok r → c.found ≡ outcome c []
end_replies c r is = ends_replies r c.found c.lane ∙ sym (ap (λ x. from_lane x c.found c.lane []) is)

pub finds_replies : (c : Comparison) (r : Replayed) (fs : List Free) (rs kept : List ℕ) (u found : Option Unequal) → c.replayed ≡ Ok r → fs ≡ (r.frees).items →
    rs ≡ slice_index_or (r.woven).replies c.lane [] → u ≡ differs_from fs c.lane 0 rs kept → found ≡ option_or c.found u → FindsBy c kept found
finds_replies c r fs rs kept u found is fs_is rs_is u_is found_is others =
    let here : found ≡ option_or c.found (differs_from (r.frees).items c.lane 0 (slice_index_or (r.woven).replies c.lane []) kept) =
    found_is ∙ ap (option_or c.found) (u_is ∙ ap (λ f. differs_from f c.lane 0 rs kept) fs_is ∙ ap (λ x. differs_from (r.frees).items c.lane 0 x kept) rs_is) in
    ap (λ x. from_lane x found (c.lane + 1) others) is ∙ ap (λ f. from_lane (Ok r) f (c.lane + 1) others) here
    ∙ takes_replies r c.found c.lane kept others ∙ sym (ap (λ x. from_lane x c.found c.lane (kept ∷ others)) is)

pub finds_misfit : (c : Comparison) (m : Misfit) (kept : List ℕ) (byte : Option ℕ) (found : Option Unequal) → c.replayed ≡ Err m → byte ≡ slice_get kept m.replayed →
    found ≡ found_with m c.found c.lane byte → FindsBy c kept found
finds_misfit c m kept byte found is byte_is found_is others =
    ap (λ x. from_lane x found (c.lane + 1) others) is ∙ ap (λ f. from_lane (Err m) f (c.lane + 1) others) (found_is ∙ ap (found_with m c.found c.lane) byte_is)
    ∙ takes_misfit m c.found c.lane kept others ∙ sym (ap (λ x. from_lane x c.found c.lane (kept ∷ others)) is)

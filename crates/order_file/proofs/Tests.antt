-- Entry by entry, the tests are the rules.
use Rattle.std.proofs.Common.{◌≡◌, ◌⊎◌, inl, inr, ℕ, zero, suc, ◌+◌, ◌<◌, ◌≤◌, Bool, true, false, not, ◌&&◌, cond, List, [], ◌∷◌, length, refl, sym, ap, ap₂, ◌∙◌, arith}
use Rattle.std.specs.Prelude.{replicate, nat_lt, nat_le, ◌==◌, slice_index_or, slice_set}
use Rattle.std.specs.List.{list_all, range_with_len}
use Rattle.std.proofs.lemmas.Bool.{lt-ltb, le-ltb, le-leb, eq-eqb, ne_eqb, cases_lt, and_right}
use Rattle.std.proofs.lemmas.List.{length-set, length-replicate}
use Rattle.store_types.specs.declared.order.Entry.{Entry}
use Rattle.store_types.specs.Times.{last_moment}
use Rattle.store_files.specs.Order.{moments_rise, of_lane, ends_once, fits_entry, keeps_rules}
use Rattle.order_file.specs.Progress.{Progress, begun, is_next, after, may_follow}

-- ---- the ends

-- a lane, which has ended or not, ends once with these entries of it
ends_with : Bool → List Entry → Bool
ends_with ended [] = ended
ends_with ended (e ∷ es) = not ended && ends_with (e.kind == 6) es

ends_once_is : (es : List Entry) → ends_once es ≡ ends_with false es
unfolding ends_with
ends_once_is [] = refl
ends_once_is (e ∷ []) = refl
ends_once_is (e ∷ f ∷ es) = ap (λ x. not (e.kind == 6) && x) (ends_once_is (f ∷ es))

-- each lane does, from the first on
all_end : ℕ → List Bool → List Entry → Bool
all_end k [] es = true
all_end k (b ∷ bs) es = ends_with b (of_lane k es) && all_end (k + 1) bs es

all_end-begun : (n k : ℕ) (es : List Entry) → list_all (λ j. ends_once (of_lane j es)) (range_with_len k n) ≡ all_end k (replicate n false) es
unfolding all_end
all_end-begun zero k es = refl
all_end-begun (suc n) k es = ap₂ (λ a b. a && b) (ends_once_is (of_lane k es)) (all_end-begun n (k + 1) es)

all_end-none : (k : ℕ) (bs : List Bool) → all_end k bs [] ≡ list_all (λ b. b) bs
unfolding all_end ends_with
all_end-none k [] = refl
all_end-none k (b ∷ bs) = ap (λ x. b && x) (all_end-none (k + 1) bs)

-- an entry of a lane says nothing of others
other_lane : (k : ℕ) (e : Entry) (es : List Entry) → (e.lane ≡ k → ⊥) → of_lane k (e ∷ es) ≡ of_lane k es
other_lane k e es differs = ap (λ b. cond b (e ∷ of_lane k es) (of_lane k es)) (ne_eqb e.lane k differs)

own_lane : (k : ℕ) (e : Entry) (es : List Entry) → e.lane ≡ k → of_lane k (e ∷ es) ≡ e ∷ of_lane k es
own_lane k e es is = ap (λ b. cond b (e ∷ of_lane k es) (of_lane k es)) (eq-eqb e.lane k is)

all_end-below : (k : ℕ) (bs : List Bool) (e : Entry) (es : List Entry) → e.lane < k → all_end k bs (e ∷ es) ≡ all_end k bs es
unfolding all_end
all_end-below k [] e es below = refl
all_end-below k (b ∷ bs) e es below =
    ap₂ (λ l rest. ends_with b l && rest) (other_lane k e es (λ is. omega arith)) (all_end-below (k + 1) bs e es (omega arith))

regroup : (a b c : Bool) → ((a && b) && c) ≡ (a && (b && c))
regroup true b c = refl
regroup false b c = refl

exchange : (a b c : Bool) → (a && (b && c)) ≡ (b && (a && c))
exchange true b c = refl
exchange false true c = refl
exchange false false c = refl

all_end-at : (k : ℕ) (bs : List Bool) (i : ℕ) (e : Entry) (es : List Entry) → e.lane ≡ k + i → i < length bs →
    all_end k bs (e ∷ es) ≡ (not (slice_index_or bs i true) && all_end k (slice_set bs i (e.kind == 6)) es)
unfolding all_end ends_with
all_end-at k [] i e es is within = absurd (omega arith)
all_end-at k (b ∷ bs) zero e es is within =
    ap₂ (λ l rest. ends_with b l && rest) (own_lane k e es (omega arith)) (all_end-below (k + 1) bs e es (omega arith))
    ∙ regroup (not b) (ends_with (e.kind == 6) (of_lane k es)) (all_end (k + 1) bs es)
all_end-at k (b ∷ bs) (suc i) e es is within =
    ap₂ (λ l rest. ends_with b l && rest) (other_lane k e es (λ same. omega arith)) (all_end-at (k + 1) bs i e es (omega arith) (omega arith))
    ∙ exchange (ends_with b (of_lane k es)) (not (slice_index_or bs i true)) (all_end (k + 1) (slice_set bs i (e.kind == 6)) es)

-- ---- the moments

rise_from : ℕ → List Entry → Bool
rise_from m [] = true
rise_from m (e ∷ es) = nat_le m e.moment && rise_from e.moment es

rise_behind : (e : Entry) (es : List Entry) → moments_rise (e ∷ es) ≡ rise_from e.moment es
unfolding rise_from
rise_behind e [] = refl
rise_behind e (f ∷ es) = ap (λ x. nat_le e.moment f.moment && x) (rise_behind f es)

rise_all : (es : List Entry) → rise_from 0 es ≡ moments_rise es
unfolding rise_from
rise_all [] = refl
rise_all (e ∷ es) = ap₂ (λ a b. a && b) (le-leb 0 e.moment (omega arith)) (sym (rise_behind e es))

-- ---- all of them

rules : Progress → List Entry → Bool
rules p es = list_all (fits_entry (length p.ended)) es && rise_from p.last es && all_end 0 p.ended es

shuffle : (g m l k f r x : Bool) → ((g && m && l && k) && ((f && r) && x)) ≡ (((true && l && k) && f) && (m && r) && (g && x))
shuffle true true true true f r x = refl
shuffle true true true false f r x = refl
shuffle true true false k f r x = refl
shuffle true false l k f r x = sym (ap (λ y. y && x) (and_right ((l && k) && f) false refl))
shuffle false m l k f r x = sym (and_right (((l && k) && f) && (m && r)) false refl)

at_end : (bs : List Bool) (i : ℕ) → length bs ≤ i → slice_index_or bs i true ≡ true
at_end [] i out = refl
at_end (b ∷ bs) zero out = absurd (omega arith)
at_end (b ∷ bs) (suc i) out = at_end bs i (omega arith)

module _ (p : Progress) (e : Entry) (es : List Entry) where
  of_lane_there : e.lane < length p.ended → may_follow (after p e) es ≡ rules (after p e) es → may_follow p (e ∷ es) ≡ rules p (e ∷ es)
  unfolding rules rise_from
  of_lane_there within behind =
      let size = length-set p.ended e.lane (e.kind == 6) in
      let next = all_end-at 0 p.ended e.lane e es (omega arith) within in
      ap (λ x. is_next p e && x) behind
      ∙ ap (λ n. is_next p e && (list_all (fits_entry n) es && rise_from e.moment es && all_end 0 (slice_set p.ended e.lane (e.kind == 6)) es)) size
      ∙ shuffle (not (slice_index_or p.ended e.lane true)) (nat_le p.last e.moment) (nat_le e.moment last_moment) (nat_lt e.kind 8)
      (list_all (fits_entry (length p.ended)) es) (rise_from e.moment es) (all_end 0 (slice_set p.ended e.lane (e.kind == 6)) es)
      ∙ ap₂ (λ t x. (t && nat_le e.moment last_moment && nat_lt e.kind 8 && list_all (fits_entry (length p.ended)) es) && rise_from p.last (e ∷ es) && x)
      (sym (lt-ltb e.lane (length p.ended) within)) (sym next)

  of_no_lane : length p.ended ≤ e.lane → may_follow p (e ∷ es) ≡ rules p (e ∷ es)
  unfolding rules
  of_no_lane out =
      ap (λ b. not b && nat_le p.last e.moment && nat_le e.moment last_moment && nat_lt e.kind 8 && may_follow (after p e) es) (at_end p.ended e.lane out)
      ∙ ap (λ t. t && nat_le e.moment last_moment && nat_lt e.kind 8 && list_all (fits_entry (length p.ended)) es && rise_from p.last (e ∷ es) && all_end 0 p.ended (e ∷ es))
      (sym (le-ltb e.lane (length p.ended) out))

  of_any : (e.lane < length p.ended) ⊎ (length p.ended ≤ e.lane) → may_follow (after p e) es ≡ rules (after p e) es → may_follow p (e ∷ es) ≡ rules p (e ∷ es)
  of_any (inl within) behind = of_lane_there within behind
  of_any (inr out) behind = of_no_lane out

may_follow_is : (p : Progress) (es : List Entry) → may_follow p es ≡ rules p es
unfolding rules rise_from
may_follow_is p [] = sym (all_end-none 0 p.ended)
may_follow_is p (e ∷ es) = of_any p e es (cases_lt e.lane (length p.ended)) (may_follow_is (after p e) es)

pub tests_are_rules : (lanes : ℕ) (es : List Entry) → may_follow (begun lanes) es ≡ keeps_rules lanes es
unfolding keeps_rules rules
tests_are_rules lanes es =
    may_follow_is (begun lanes) es
    ∙ (λ i. list_all (fits_entry (length-replicate lanes false i)) es && rise_all es i && sym (all_end-begun lanes 0 es) i)

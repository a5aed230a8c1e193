-- The order of sessions keeps the rules of order files, on any disk.
use Rattle.std.proofs.Common.{◌≡◌, ◌<◌, ◌+◌, ◌&&◌, ◌==◌, inl, inr, ℕ, Bool, true, false, List, [], ◌∷◌, length, Option, None, cond, ap, refl, nat_lt, nat_le, slice_index_or}
use Rattle.std.specs.List.{list_all}
use Rattle.std.proofs.lemmas.Bool.{lt-ltb, le-leb}
use Rattle.store_types.specs.Times.{last_moment}
use Rattle.store_files.specs.Order.{moments_rise, fits_entry}
use Rattle.wire_commands.specs.declared.reply.Reply.{Reply}
use Rattle.store_model.specs.declared.ending.Ending.{Ending}
use Rattle.store_history.specs.declared.act.Event.{Event}
use Rattle.store_history.specs.Acts.{Class, stepping, reaching, starting, sweeping, wanting, ending, class_of}
use Rattle.store_history.specs.History.{entries, own, lane, moment, kind}
use Rattle.store_history.specs.LaneRun.{LaneRan}
use Rattle.store_history.specs.Woven.{AreLanes, FitsRules, ending_at}
use Rattle.store_history.proofs.Rules.{KindIs, KindsAre, rules_by}
use Rattle.store_history.specs.Answered.{fault_after, FitsKind, AreKept}

below_eight : (c : Class) (fault : Option ℕ) (n : ℕ) → FitsKind c fault n → nat_lt n 8 ≡ true
below_eight stepping fault n (inl p) = ap (λ x. nat_lt x 8) p.0
below_eight stepping fault n (inr (inl is)) = ap (λ x. nat_lt x 8) is
below_eight stepping fault n (inr (inr is)) = ap (λ x. nat_lt x 8) is
below_eight reaching fault n (inl (inl is, none)) = ap (λ x. nat_lt x 8) is
below_eight reaching fault n (inl (inr (inl is), none)) = ap (λ x. nat_lt x 8) is
below_eight reaching fault n (inl (inr (inr is), none)) = ap (λ x. nat_lt x 8) is
below_eight reaching fault n (inr (inl is)) = ap (λ x. nat_lt x 8) is
below_eight reaching fault n (inr (inr is)) = ap (λ x. nat_lt x 8) is
below_eight starting fault n (inl (inl is, none)) = ap (λ x. nat_lt x 8) is
below_eight starting fault n (inl (inr is, none)) = ap (λ x. nat_lt x 8) is
below_eight starting fault n (inr (inl is)) = ap (λ x. nat_lt x 8) is
below_eight starting fault n (inr (inr is)) = ap (λ x. nat_lt x 8) is
below_eight sweeping fault n (inl (inl is, none)) = ap (λ x. nat_lt x 8) is
below_eight sweeping fault n (inl (inr (inl is), none)) = ap (λ x. nat_lt x 8) is
below_eight sweeping fault n (inl (inr (inr is), none)) = ap (λ x. nat_lt x 8) is
below_eight sweeping fault n (inr (inl is)) = ap (λ x. nat_lt x 8) is
below_eight sweeping fault n (inr (inr is)) = ap (λ x. nat_lt x 8) is
below_eight wanting fault n is = ap (λ x. nat_lt x 8) is
below_eight ending fault n (inl is) = ap (λ x. nat_lt x 8) is
below_eight ending fault n (inr p) = ap (λ x. nat_lt x 8) p.0

kind_fits : (c : Class) (fault : Option ℕ) (n : ℕ) → FitsKind c fault n → KindIs c n
unfolding KindIs
kind_fits stepping fault n (inl p) = ap (λ x. x == 6) p.0
kind_fits stepping fault n (inr (inl is)) = ap (λ x. x == 6) is
kind_fits stepping fault n (inr (inr is)) = ap (λ x. x == 6) is
kind_fits reaching fault n (inl (inl is, none)) = ap (λ x. x == 6) is
kind_fits reaching fault n (inl (inr (inl is), none)) = ap (λ x. x == 6) is
kind_fits reaching fault n (inl (inr (inr is), none)) = ap (λ x. x == 6) is
kind_fits reaching fault n (inr (inl is)) = ap (λ x. x == 6) is
kind_fits reaching fault n (inr (inr is)) = ap (λ x. x == 6) is
kind_fits starting fault n (inl (inl is, none)) = ap (λ x. x == 6) is
kind_fits starting fault n (inl (inr is, none)) = ap (λ x. x == 6) is
kind_fits starting fault n (inr (inl is)) = ap (λ x. x == 6) is
kind_fits starting fault n (inr (inr is)) = ap (λ x. x == 6) is
kind_fits sweeping fault n (inl (inl is, none)) = ap (λ x. x == 6) is
kind_fits sweeping fault n (inl (inr (inl is), none)) = ap (λ x. x == 6) is
kind_fits sweeping fault n (inl (inr (inr is), none)) = ap (λ x. x == 6) is
kind_fits sweeping fault n (inr (inl is)) = ap (λ x. x == 6) is
kind_fits sweeping fault n (inr (inr is)) = ap (λ x. x == 6) is
kind_fits wanting fault n is = ap (λ x. x == 6) is
kind_fits ending fault n (inl is) = λ ne. is
kind_fits ending fault n (inr p) = λ ne. absurd (ne p.0)

kinds_fit : (k place : ℕ) (fault : Option ℕ) (before : ℕ) (h : List Event) → AreKept place fault before h → KindsAre (own k h)
unfolding KindsAre
kinds_fit k place fault before [] kept = tt
kinds_fit k place fault before (v ∷ vs) kept = by_test (lane v == k) (kinds_fit k (place + 1) (fault_after place (kind v) fault) (moment v) vs kept.1)
  where
    by_test : (b : Bool) → KindsAre (own k vs) → KindsAre (cond b (v ∷ own k vs) (own k vs))
    by_test true ih = (kind_fits (class_of v.act) fault (kind v) (kept.0).kind_is, ih)
    by_test false ih = ih

all_fit : (n place : ℕ) (fault : Option ℕ) (before : ℕ) (h : List Event) → AreKept place fault before h → AreLanes n h → list_all (fits_entry n) (entries h) ≡ true
all_fit n place fault before [] kept are = refl
all_fit n place fault before (v ∷ vs) kept are =
    each (nat_lt (lane v) n) (nat_le (moment v) last_moment) (nat_lt (kind v) 8) (list_all (fits_entry n) (entries vs)) (lt-ltb (lane v) n are.0) (le-leb (moment v) last_moment (kept.0).in_time)
    (below_eight (class_of v.act) fault (kind v) (kept.0).kind_is)
    (all_fit n (place + 1) (fault_after place (kind v) fault) (moment v) vs kept.1 are.1)
  where
    each : (a b c d : Bool) → a ≡ true → b ≡ true → c ≡ true → d ≡ true → ((a && b && c) && d) ≡ true
    each a b c d p q r s = rw (p, q, r, s) refl

all_rise : (place : ℕ) (fault : Option ℕ) (before : ℕ) (h : List Event) → AreKept place fault before h → moments_rise (entries h) ≡ true
all_rise place fault before [] kept = refl
all_rise place fault before (v ∷ []) kept = refl
all_rise place fault before (v ∷ u ∷ vs) kept =
    both (nat_le (moment v) (moment u)) (moments_rise (entries (u ∷ vs))) (le-leb (moment v) (moment u) ((kept.1).0).risen)
    (all_rise (place + 1) (fault_after place (kind v) fault) (moment v) (u ∷ vs) kept.1)
  where
    both : (a b : Bool) → a ≡ true → b ≡ true → (a && b) ≡ true
    both a b p q = rw (p, q) refl

pub kept_rules : (before : ℕ) (h : List Event) (inputs : List (List ℕ)) (es : List Ending) (told : List (List Reply)) → AreKept 0 None before h → AreLanes (length inputs) h
    → ((k : ℕ) → k < length inputs → LaneRan (slice_index_or inputs k []) (ending_at es k) (own k h) (slice_index_or told k [])) → FitsRules h inputs
kept_rules before h inputs es told kept are runs =
    rules_by h inputs es told (all_fit (length inputs) 0 None before h kept are) (all_rise 0 None before h kept) (λ k. kinds_fit k 0 None before h kept) runs

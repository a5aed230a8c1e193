-- The core's collector is the history's, with one entry more.
use Rattle.std.proofs.Common.{◌≡◌, ℕ, Bool, true, false, ◌&&◌, ◌||◌, ◌==◌, cond, is_some, List, Option, Some, None, refl, sym, ap, ◌∙◌}
use Rattle.std.specs.Prelude.{option_map}
use Rattle.std.proofs.Props.{props}
use Rattle.std.proofs.lemmas.Bool.{eqb-true}
use Rattle.store_types.specs.declared.order.TheConstants.{MEMORY_KIND, STOP_KIND, END_KIND}
use Rattle.store_files.specs.Archive.{Snapshot}
use Rattle.gc_plan.specs.Plan.{Plan}
use Rattle.store_model.specs.Lanes.{Collecting}
use Rattle.store_history.specs.declared.act.Act.{Act}
use Rattle.store_history.specs.Acts.{Class, stepping, reaching, starting, sweeping, wanting, ending, class_of}
use Rattle.store_history.specs.History.{World, moved, halted_on, kind_of, open_on}
use Rattle.store_history.specs.History as worlds
use Rattle.core_state.specs.declared.collector.Collector.{Collector}
use Rattle.core_state.specs.declared.collector.Early.{Early}
use Rattle.core_state.specs.declared.collector.Early.TheVariants.{NoMemory}
use Rattle.core_state.specs.declared.marked.MarkedPages.{MarkedPages}
use Rattle.core_state.specs.Entries.{FitsPages}
use Rattle.core_state.specs.Collectors.{OpenOn, closed_on, collector_by, cut_on, first_of, is_cut, is_on, open_in, ended_if, shown_collecting, with_cut}

false_true : false ≡ true → ⊥
false_true e = cc

-- ---- what an entry makes of it

apart : (a b : ℕ) → (a ≡ b → ⊥) → (a == b) ≡ false
apart a b ne = by_test (a == b) refl
  where
    by_test : (t : Bool) → (a == b) ≡ t → t ≡ false
    by_test true is = absurd (ne (eqb-true a b is))
    by_test false is = refl

module _ (lane : ℕ) (c : Option Collector) where
  by_kind : (kind : ℕ) (a b on : Bool) → (kind == MEMORY_KIND) ≡ a → ((kind == STOP_KIND) || (kind == END_KIND)) ≡ b → is_on lane c ≡ on
      → collector_by kind lane c ≡ cond a (cond on (option_map with_cut c) c) (cond b (cond on None c) c)
  by_kind kind a b on p q r =
      ap (λ x. cond x (cut_on lane c) (cond ((kind == STOP_KIND) || (kind == END_KIND)) (closed_on lane c) c)) p
      ∙ ap (λ x. cond a (cut_on lane c) (cond x (closed_on lane c) c)) q
      ∙ ap (λ x. cond a (cond x (option_map with_cut c) c) (cond b (cond x None c) c)) r

  all_same : (a b : Bool) → cond a c (cond b c c) ≡ c
  all_same true b = refl
  all_same false true = refl
  all_same false false = refl

  -- another lane's
  pub by_off : (kind : ℕ) → is_on lane c ≡ false → c ≡ collector_by kind lane c
  by_off kind off = sym (by_kind kind (kind == MEMORY_KIND) ((kind == STOP_KIND) || (kind == END_KIND)) false refl refl off ∙ all_same (kind == MEMORY_KIND) ((kind == STOP_KIND) || (kind == END_KIND)))

  pub by_memory : (kind : ℕ) → kind ≡ MEMORY_KIND → is_on lane c ≡ true → option_map with_cut c ≡ collector_by kind lane c
  by_memory kind two on = sym (by_kind kind true ((kind == STOP_KIND) || (kind == END_KIND)) true (ap (λ n. n == 2) two) refl on)

  pub by_other : (kind : ℕ) → (kind ≡ MEMORY_KIND → ⊥) → ((kind == STOP_KIND) || (kind == END_KIND)) ≡ false → c ≡ collector_by kind lane c
  by_other kind other calm = sym (by_kind kind false false (is_on lane c) (apart kind 2 other) calm refl)

  pub by_end : (kind : ℕ) → (kind ≡ MEMORY_KIND → ⊥) → ((kind == STOP_KIND) || (kind == END_KIND)) ≡ true → is_on lane c ≡ true → None ≡ collector_by kind lane c
  by_end kind other ends on = sym (by_kind kind false true true (apart kind 2 other) ends on)

-- what ended it before stands
pub cut_before : (c : Collector) → is_some c.ended ≡ true → c ≡ with_cut c
cut_before c some = by_ended c.ended refl
  where
    by_ended : (o : Option Early) → c.ended ≡ o → c ≡ with_cut c
    by_ended None none = absurd (false_true (sym (ap is_some none) ∙ some))
    by_ended (Some early) is = ap (λ o. record c { ended = o }) is ∙ sym (ap (λ o. record c { ended = first_of o NoMemory }) is)

-- what is known of its pages has one proof
fits_one : (plan : Plan) (pages : Option MarkedPages) → IsProp (FitsPages plan pages)
fits_one plan pages = hlevel props

pub cut_now : (c : Collector) (fits : FitsPages c.plan c.pages) → is_some c.ended ≡ false → record c { ended = Some NoMemory; fits = fits } ≡ with_cut c
cut_now c fits none = ap (λ f. record c { ended = Some NoMemory; fits = f }) (fits_one c.plan c.pages fits c.fits) ∙ by_ended c.ended refl
  where
    by_ended : (o : Option Early) → c.ended ≡ o → record c { ended = Some NoMemory } ≡ with_cut c
    by_ended None is = sym (ap (λ o. record c { ended = first_of o NoMemory }) is)
    by_ended (Some early) is = absurd (false_true (sym none ∙ ap is_some is))

-- ---- it is the history's

some_none : {A : Type 0} (x : A) → Some x ≡ None → ⊥
some_none x e = cc

none_some : {A : Type 0} (x : A) → None ≡ Some x → ⊥
none_some x e = cc

bool_same : (x y : Bool) → Some x ≡ Some y → x ≡ y
bool_same x y e = cc

same_open : (x y : OpenOn) → Some x ≡ Some y → x ≡ y
same_open x y e = cc

-- a collector of the lane that this ended early
abbrev pub opens : ℕ → Option Early → Option OpenOn
opens lane ended = Some (record { lane = lane; ended = ended })

-- want of memory, whatever ended it before
cut_ended : (is_out_of_memory : Bool) → first_of (ended_if is_out_of_memory) NoMemory ≡ Some NoMemory
cut_ended true = refl
cut_ended false = refl

module _ (k : ℕ) where
  -- both are this lane's, or neither
  on_same : (c : Collector) (w : Collecting) → open_in (Some c) ≡ shown_collecting (Some w) → (c.lane == k) ≡ (w.lane == k)
  on_same c w is = ap (λ (x : OpenOn). x.lane == k) (same_open (record { lane = c.lane; ended = c.ended }) (record { lane = w.lane; ended = ended_if w.is_out_of_memory }) is)

  ended_same : (c : Collector) (w : Collecting) → open_in (Some c) ≡ shown_collecting (Some w) → c.ended ≡ ended_if w.is_out_of_memory
  ended_same c w is = ap (λ (x : OpenOn). x.ended) (same_open (record { lane = c.lane; ended = c.ended }) (record { lane = w.lane; ended = ended_if w.is_out_of_memory }) is)

  lane_same : (c : Collector) (w : Collecting) → open_in (Some c) ≡ shown_collecting (Some w) → c.lane ≡ w.lane
  lane_same c w is = ap (λ (x : OpenOn). x.lane) (same_open (record { lane = c.lane; ended = c.ended }) (record { lane = w.lane; ended = ended_if w.is_out_of_memory }) is)

  pub cut_shown : (c : Option Collector) (w : Option Collecting) → open_in c ≡ shown_collecting w → open_in (cut_on k c) ≡ shown_collecting (worlds.cut_on k w)
  cut_shown None None is = refl
  cut_shown None (Some w) is = absurd (none_some _ is)
  cut_shown (Some c) None is = absurd (some_none _ is)
  cut_shown (Some c) (Some w) is = by_test (w.lane == k) refl
    where
      is_cut_so : open_in (Some (with_cut c)) ≡ opens w.lane (Some NoMemory)
      is_cut_so = ap (λ n. opens n (first_of c.ended NoMemory)) (lane_same c w is)
          ∙ ap (λ r. opens w.lane (first_of r NoMemory)) (ended_same c w is)
          ∙ ap (opens w.lane) (cut_ended w.is_out_of_memory)

      by_test : (b : Bool) → (w.lane == k) ≡ b → open_in (cut_on k (Some c)) ≡ shown_collecting (cond (w.lane == k) (worlds.new_collecting k true) (Some w))
      by_test true on =
          ap (λ b. open_in (cond b (Some (with_cut c)) (Some c))) (on_same c w is ∙ on) ∙ is_cut_so
          ∙ ap (λ n. opens n (Some NoMemory)) (eqb-true w.lane k on)
          ∙ sym (ap (λ b. shown_collecting (cond b (worlds.new_collecting k true) (Some w))) on)
      by_test false off =
          ap (λ b. open_in (cond b (Some (with_cut c)) (Some c))) (on_same c w is ∙ off) ∙ is
          ∙ sym (ap (λ b. shown_collecting (cond b (worlds.new_collecting k true) (Some w))) off)

  pub closed_shown : (c : Option Collector) (w : Option Collecting) → open_in c ≡ shown_collecting w → open_in (closed_on k c) ≡ shown_collecting (worlds.closed_on k w)
  closed_shown None None is = refl
  closed_shown None (Some w) is = absurd (none_some _ is)
  closed_shown (Some c) None is = absurd (some_none _ is)
  closed_shown (Some c) (Some w) is = by_test (w.lane == k) refl
    where
      by_test : (b : Bool) → (w.lane == k) ≡ b → open_in (cond (c.lane == k) None (Some c)) ≡ shown_collecting (cond (w.lane == k) None (Some w))
      by_test true on =
          ap (λ b. open_in (cond b None (Some c))) (on_same c w is ∙ on) ∙ sym (ap (λ b. shown_collecting (cond b None (Some w))) on)
      by_test false off =
          ap (λ b. open_in (cond b None (Some c))) (on_same c w is ∙ off) ∙ is ∙ sym (ap (λ b. shown_collecting (cond b None (Some w))) off)

  -- it is cut exactly where memory was wanting on the lane
  pub cut_is : (c : Option Collector) (w : Option Collecting) → open_in c ≡ shown_collecting w → open_on k w ≡ Some true → is_cut k c ≡ true
  cut_is c None is on = absurd (none_some true on)
  cut_is None (Some w) is on = absurd (none_some _ is)
  cut_is (Some c) (Some w) is on = by_test (w.lane == k) refl on
    where
      by_test : (b : Bool) → (w.lane == k) ≡ b → cond b (Some w.is_out_of_memory) None ≡ Some true → (c.lane == k) && is_some c.ended ≡ true
      by_test true at short =
          let so : w.is_out_of_memory ≡ true = bool_same w.is_out_of_memory true short in
          ap (λ b. b && is_some c.ended) (on_same c w is ∙ at) ∙ ap is_some (ended_same c w is ∙ ap ended_if so)
      by_test false at short = absurd (none_some true short)

halted_same : (k : ℕ) (c : Class) (w : Option Collecting) → (c ≡ sweeping → ⊥) → halted_on k c w ≡ w
halted_same k stepping w other = refl
halted_same k starting w other = refl
halted_same k reaching w other = refl
halted_same k sweeping w other = absurd (other refl)
halted_same k wanting w other = refl
halted_same k ending w other = refl

module _ (R : Option (List Snapshot)) (w : World) (k m : ℕ) (a : Act) (other : class_of a ≡ sweeping → ⊥) (c : Option Collector) (is : open_in c ≡ shown_collecting w.collecting) where
  pub step_shown : open_in (collector_by 0 k c) ≡ shown_collecting (moved R w k m a (kind_of 0)).collecting
  unfolding moved
  step_shown = is

  pub short_shown : open_in (collector_by 2 k c) ≡ shown_collecting (moved R w k m a (kind_of 2)).collecting
  unfolding moved
  short_shown = cut_shown k c w.collecting is

  pub fault_shown : open_in (collector_by 5 k c) ≡ shown_collecting (moved R w k m a (kind_of 5)).collecting
  unfolding moved
  fault_shown = is ∙ sym (ap shown_collecting (halted_same k (class_of a) w.collecting other))

  pub end_shown : open_in (collector_by 6 k c) ≡ shown_collecting (moved R w k m a (kind_of 6)).collecting
  unfolding moved
  end_shown = closed_shown k c w.collecting is

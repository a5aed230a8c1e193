-- From the items to their slots, and from the slots to the marks.
use Rattle.std.proofs.Common.{◌≡◌, ℕ, ◌<◌, Bool, false, not, ◌&&◌, ◌||◌, cond, List, length, map, get_or, replicate, refl, sym, ap, ◌∙◌, zero-add, arith}
use Rattle.std.proofs.Math.Bool.{or_assoc}
use Rattle.std.specs.List.{range_with_len, enumerate_from}
use Rattle.std.proofs.lemmas.List.{ext_get_or, get_or-replicate}
use Rattle.std.proofs.lemmas.List.FromFn.{length-map-range_with_len, get_or-map-range_with_len, length-enumerate_from, get_or-enumerate_from, fill_by_all}
use Rattle.store_types.specs.declared.names.Keep.{Keep}
use Rattle.prune_rules.specs.declared.Item.{Item}
use Rattle.prune_rules.specs.declared.Mark.{Mark}
use Rattle.prune_rules.specs.declared.Mark.TheVariants.{Kept, Removed}
use Rattle.prune_rules.specs.Prune.{slot_at, slots_after, mark_of, has_no_option, is_running, is_newer, marks}
use Rattle.prune_rules.specs.Slots.{item_at, slot_in, slots_in, is_kept, runs_at}
use Rattle.prune_rules.proofs.Ranges.{map_same, map_map, any_map}

-- each item with its place
enumerated : (items : List Item) → map (λ k. (k, item_at items k)) (range_with_len 0 (length items)) ≡ enumerate_from 0 items
enumerated items =
    let blank : Item = record { time = 0; finished = false } in
    let pairs : ℕ → ℕ × Item = λ k. (k, item_at items k) in
    ext_get_or (0, blank) (map pairs (range_with_len 0 (length items))) (enumerate_from 0 items)
    (length-map-range_with_len pairs 0 (length items) ∙ sym (length-enumerate_from 0 items))
    (λ i h.
    let within : i < length items = omega (arith, h, length-map-range_with_len pairs 0 (length items)) in
    get_or-map-range_with_len pairs 0 (length items) i i (0, blank) within (omega arith)
    ∙ sym (get_or-enumerate_from 0 items i (0, blank) within ∙ ap (λ k. (k, item_at items i)) (zero-add i)))

slot_begins : (items : List Item) (k : ℕ) → k < length items →
    slot_in items (replicate (length items) false) (replicate (length items) Removed) k ≡ slot_at (k, item_at items k)
slot_begins items k h =
    let covered = get_or-replicate (length items) k false false h in
    let mark = ap is_kept (get_or-replicate (length items) k Removed Removed h) in
    λ i. record { place = k; time = (item_at items k).time; finished = (item_at items k).finished; kept = mark i; covered = covered i }

-- before the first option
pub begins : (items : List Item) (covered : List Bool) (into : List Mark) → covered ≡ replicate (length items) false → into ≡ replicate (length items) Removed →
    slots_in items covered into ≡ map slot_at (enumerate_from 0 items)
begins items covered into plain removed =
    ap (λ xs. slots_in items xs into) plain
    ∙ ap (slots_in items (replicate (length items) false)) removed
    ∙ map_same _ (λ k. slot_at (k, item_at items k)) (length items) (slot_begins items)
    ∙ sym (map_map slot_at (λ k. (k, item_at items k)) (range_with_len 0 (length items)))
    ∙ ap (map slot_at) (enumerated items)

as_mark : (m : Mark) → m ≡ cond (is_kept m) Kept Removed
as_mark Kept = refl
as_mark Removed = refl

runs_is : (items : List Item) (covered : List Bool) (into : List Mark) (k : ℕ) →
    is_running (slots_in items covered into) (slot_in items covered into k) ≡ runs_at items k
runs_is items covered into k =
    ap (λ b. not (item_at items k).finished && not b)
    (any_map (λ s. is_newer s (slot_in items covered into k)) (slot_in items covered into) (range_with_len 0 (length items)))

-- after the last option
marked : (items : List Item) (keep : Keep) (covered : List Bool) (into new : List Mark) (all : Bool) → length new ≡ length items → all ≡ has_no_option keep →
    ((k : ℕ) → k < length items → is_kept (get_or new k Removed) ≡ (is_kept (get_or into k Removed) || (all || runs_at items k))) →
    new ≡ map (mark_of keep (slots_in items covered into)) (slots_in items covered into)
marked items keep covered into new all long without says =
    fill_by_all (λ k. mark_of keep (slots_in items covered into) (slot_in items covered into k)) new (length items) Removed long
    (λ k h. as_mark (get_or new k Removed) ∙ ap (λ b. cond b Kept Removed)
    (says k h
    ∙ ap (λ b. is_kept (get_or into k Removed) || (b || runs_at items k)) without
    ∙ sym (or_assoc (is_kept (get_or into k Removed)) (has_no_option keep) (runs_at items k))
    ∙ ap (λ b. (is_kept (get_or into k Removed) || has_no_option keep) || b) (sym (runs_is items covered into k))))
    ∙ sym (map_map (mark_of keep (slots_in items covered into)) (slot_in items covered into) (range_with_len 0 (length items)))

pub ends : (items : List Item) (keep : Keep) (covered : List Bool) (into new : List Mark) (all : Bool) → length new ≡ length items → all ≡ has_no_option keep →
    ((k : ℕ) → k < length items → is_kept (get_or new k Removed) ≡ (is_kept (get_or into k Removed) || (all || runs_at items k))) →
    slots_in items covered into ≡ slots_after items keep → new ≡ marks items keep
unfolding marks
ends items keep covered into new all long without says after =
    marked items keep covered into new all long without says
    ∙ ap (λ slots. map (mark_of keep slots) slots) after

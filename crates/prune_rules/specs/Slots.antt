-- Slots by the work space and the marks of a running prune, and what one look over them finds.
use Rattle.std.specs.Prelude.{◌≡◌, ℕ, ◌<◌, ◌≤◌, Bool, true, false, not, ◌&&◌, ◌||◌, List, [], map, length, slice_index_or, ◌==◌, nat_lt, Option, Some, None}
use Rattle.std.specs.List.{fold, range_with_len, list_any}
use Rattle.std.specs.List.Sorted.{IsPermutation}
use Rattle.prune_rules.specs.declared.Item.{Item}
use Rattle.prune_rules.specs.declared.Mark.{Mark}
use Rattle.prune_rules.specs.declared.Mark.TheVariants.{Kept, Removed}
use Rattle.prune_rules.specs.declared.periods.Period.{Period}
use Rattle.prune_rules.specs.declared.periods.Period.TheVariants.{Second, Hour, Day, Week, Month, Year}
use Rattle.store_types.specs.declared.names.Keep.{Keep}
use Rattle.prune_rules.specs.Prune.{Slot, Choice, choices, after_choice, hour_of, day_of, week_of, month_of, year_of}

abbrev pub number_of : Period → ℕ → ℕ
number_of Second t = t
number_of Hour t = hour_of t
number_of Day t = day_of t
number_of Week t = week_of t
number_of Month t = month_of t
number_of Year t = year_of t

abbrev pub choice : Period → ℕ → Choice
choice period count = record { period = number_of period; count = count }

abbrev pub is_kept : Mark → Bool
is_kept Kept = true
is_kept Removed = false

abbrev pub item_at : List Item → ℕ → Item
item_at items k = slice_index_or items k (record { time = 0; finished = false })

abbrev pub slot_in : List Item → List Bool → List Mark → ℕ → Slot
slot_in items covered into k = record {
  place = k;
  time = (item_at items k).time;
  finished = (item_at items k).finished;
  kept = is_kept (slice_index_or into k Removed);
  covered = slice_index_or covered k false;
}

abbrev pub slots_in : List Item → List Bool → List Mark → List Slot
slots_in items covered into = map (slot_in items covered into) (range_with_len 0 (length items))

-- the slots are as an option leaves them
abbrev pub TakesPeriods : Period → ℕ → List Item → List Bool → List Mark → List Bool → List Mark → Type 0
TakesPeriods period count items old_covered old covered new =
    slots_in items covered new ≡ after_choice (slots_in items old_covered old) (choice period count)

-- the slots are as all options leave them
abbrev pub TakesOptions : Keep → List Item → List Bool → List Mark → List Bool → List Mark → Type 0
TakesOptions keep items old_covered old covered new =
    slots_in items covered new ≡ fold after_choice (slots_in items old_covered old) (choices keep)

abbrev pub time_at : List Item → ℕ → ℕ
time_at items k = (item_at items k).time

-- the period of the item at a place
abbrev pub number_at : Period → List Item → ℕ → ℕ
number_at period items k = number_of period (item_at items k).time

-- below the bound, or there is none
abbrev pub is_below : Option ℕ → ℕ → Bool
is_below None number = true
is_below (Some bound) number = nat_lt number bound

-- finished, not covered, and in a period below the bound
abbrev pub is_open : Period → List Item → List Bool → Option ℕ → ℕ → Bool
is_open period items covered bound k =
    (item_at items k).finished && not (slice_index_or covered k false) && is_below bound (number_at period items k)

-- ---- the order in which one goes over the items

-- the places of n items, each once, or nothing
abbrev pub Orders : ℕ → List ℕ → Type 0
Orders n order = 0 < length order → IsPermutation (range_with_len 0 n) order

-- which place comes next after k others; without an order it is the list's own
abbrev pub place_of : List ℕ → ℕ → ℕ
place_of order k = slice_index_or order k k

-- the period of what comes after k others
abbrev pub number_in : Period → List Item → List ℕ → ℕ → ℕ
number_in period items order k = number_at period items (place_of order k)

-- each has at least the number of those before it
abbrev pub Rises : (ℕ → ℕ) → ℕ → Type 0
Rises number n = (j k : ℕ) → j ≤ k → k < n → number j ≤ number k

-- up to the end all have one number, and those before have less
pub record StartsRun (number : ℕ → ℕ) (start end : ℕ) : Type 0 where
  pub some : start < end
  pub same : (k : ℕ) → start ≤ k → k < end → number k ≡ number start
  pub less : (k : ℕ) → k < start → number k < number start

-- what has the number comes from one step of the order up to another
abbrev pub Spans : (ℕ → ℕ) → ℕ → ℕ → List ℕ → ℕ → ℕ → Type 0
Spans number n own order from to =
    (i : ℕ) → i < n → number i ≡ own → (k : ℕ) × (from ≤ k) × (k < to) × (place_of order k ≡ i)

-- what has this number of a period comes so
abbrev pub SpansNumber : Period → List Item → ℕ → List ℕ → ℕ → ℕ → Type 0
SpansNumber period items number order from to = Spans (number_at period items) (length items) number order from to

-- Of the places from one step of the order up to another the newest in the greatest period, among those that pass.
pub record IsFirst (passes : ℕ → Bool) (number time : ℕ → ℕ) (order : List ℕ) (from to i : ℕ) : Type 0 where
  pub found : (k : ℕ) × (from ≤ k) × (k < to) × (place_of order k ≡ i)
  pub passed : passes i ≡ true
  pub greatest : (k : ℕ) → from ≤ k → k < to → passes (place_of order k) ≡ true → number (place_of order k) ≤ number i
  pub newest : (k : ℕ) → from ≤ k → k < to → passes (place_of order k) ≡ true → number (place_of order k) ≡ number i
      → time (place_of order k) ≤ time i
  pub earliest : (k : ℕ) → from ≤ k → k < to → passes (place_of order k) ≡ true → number (place_of order k) ≡ number i
      → time (place_of order k) ≡ time i → i ≤ place_of order k

-- none of these places passes, or this is the newest in the greatest period
abbrev pub FirstOf : (ℕ → Bool) → (ℕ → ℕ) → (ℕ → ℕ) → List ℕ → ℕ → ℕ → Option ℕ → Type 0
FirstOf passes number time order from to None = (k : ℕ) → from ≤ k → k < to → passes (place_of order k) ≡ false
FirstOf passes number time order from to (Some i) = IsFirst passes number time order from to i

-- so among the open places
abbrev pub FirstOpen : Period → List Item → List Bool → Option ℕ → List ℕ → ℕ → ℕ → Option ℕ → Type 0
FirstOpen period items covered bound order from to found =
    FirstOf (is_open period items covered bound) (number_at period items) (time_at items) order from to found

-- none of the first n items is newer, or there is none
abbrev pub NewestOf : List Item → ℕ → Option ℕ → Type 0
NewestOf items n found = FirstOf (λ k. true) (λ k. 0) (time_at items) [] 0 n found

abbrev pub stands_at : Option ℕ → ℕ → Bool
stands_at None k = false
stands_at (Some place) k = place == k

-- by a later time, or by the same and an earlier place
abbrev pub is_newer : (ℕ → ℕ) → ℕ → ℕ → Bool
is_newer time i k = nat_lt (time k) (time i) || ((time i == time k) && nat_lt i k)

-- whether one place comes before another: by a greater number, or by the same as the newer
abbrev pub goes_before : (ℕ → ℕ) → (ℕ → ℕ) → ℕ → Option ℕ → Bool
goes_before number time i None = true
goes_before number time i (Some k) = nat_lt (number k) (number i) || ((number i == number k) && is_newer time i k)

abbrev pub keeps_at : Period → List Item → List Mark → ℕ → ℕ → Bool
keeps_at period items into number k = is_kept (slice_index_or into k Removed) && (number_at period items k == number)

-- whether something of the period is kept
abbrev pub holds_kept : Period → List Item → List Mark → ℕ → Bool
holds_kept period items into number = list_any (keeps_at period items into number) (range_with_len 0 (length items))

-- whether the item at a place is finished and of the period
abbrev pub is_finished_in : Period → List Item → ℕ → ℕ → Bool
is_finished_in period items number k = (item_at items k).finished && (number_at period items k == number)

abbrev pub has_newer : List Item → ℕ → Bool
has_newer items i = list_any (λ k. is_newer (time_at items) k i) (range_with_len 0 (length items))

-- unfinished, and no item is newer
abbrev pub runs_at : List Item → ℕ → Bool
runs_at items i = not (item_at items i).finished && not (has_newer items i)

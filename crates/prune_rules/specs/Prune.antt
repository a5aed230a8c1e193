-- Which snapshots of a group a prune keeps.
use Rattle.std.specs.Prelude.{ℕ, zero, suc, ◌+◌, ◌*◌, ◌/◌, Bool, true, false, not, ◌&&◌, ◌||◌, List, [], ◌∷◌, map, filter, fold, max, ◌==◌, nat_lt, if◌then◌else◌}
use Rattle.std.specs.List.{list_any, list_all, enumerate_from}
use Rattle.store_types.specs.declared.names.Keep.{Keep}
use Rattle.store_types.specs.Calendar.{civil_of}
use Rattle.prune_rules.specs.declared.Item.{Item}
use Rattle.prune_rules.specs.declared.Mark.{Mark}
use Rattle.prune_rules.specs.declared.Mark.TheVariants.{Kept, Removed}

-- ---- periods

abbrev pub hour_of : ℕ → ℕ
hour_of t = t / 3600

abbrev pub day_of : ℕ → ℕ
day_of t = t / 86400

-- from Monday to Sunday; 1 January 1970 was a Thursday
abbrev pub week_of : ℕ → ℕ
week_of t = (day_of t + 3) / 7

unfoldable pub month_of : ℕ → ℕ
month_of t = 12 * (civil_of (day_of t)).year + (civil_of (day_of t)).month

unfoldable pub year_of : ℕ → ℕ
year_of t = (civil_of (day_of t)).year

-- an option: in which period a moment lies, and of how many periods it keeps one
pub record Choice : Type 0 where
  pub period : ℕ → ℕ
  pub count : ℕ

-- the options, in their order
abbrev pub choices : Keep → List Choice
choices k =
    record { period = λ t. t; count = k.last } ∷ record { period = hour_of; count = k.hourly }
    ∷ record { period = day_of; count = k.daily } ∷ record { period = week_of; count = k.weekly }
    ∷ record { period = month_of; count = k.monthly } ∷ record { period = year_of; count = k.yearly } ∷ []

-- the greatest n of the numbers, each once
unfoldable pub greatest : ℕ → List ℕ → List ℕ
greatest zero ps = []
greatest (suc n) [] = []
greatest (suc n) (p ∷ ps) =
    let top = fold max p ps in
    top ∷ greatest n (filter (λ q. nat_lt q top) (p ∷ ps))

-- ---- the rule

-- an item at its place in the list, and what the options so far did to it
pub record Slot : Type 0 where
  pub place : ℕ
  pub time : ℕ
  pub finished : Bool
  pub kept : Bool
  pub covered : Bool

-- Of two items of one time the earlier in the list counts as the newer.
abbrev pub is_newer : Slot → Slot → Bool
is_newer a b = nat_lt b.time a.time || ((a.time == b.time) && nat_lt a.place b.place)

abbrev pub same_period : Choice → Slot → Slot → Bool
same_period c a b = c.period a.time == c.period b.time

-- finished, not covered, and in a period that holds nothing kept
abbrev pub is_candidate : Choice → List Slot → Slot → Bool
is_candidate c slots s = s.finished && not s.covered && not (list_any (λ k. k.kept && same_period c k s) slots)

-- the newest of its period among the candidates
abbrev pub is_newest : Choice → List Slot → Slot → Bool
is_newest c candidates s = not (list_any (λ k. same_period c k s && is_newer k s) candidates)

-- a candidate of one of the periods is covered, and kept if it is the newest there
abbrev pub take_slot : Choice → List Slot → List ℕ → Slot → Slot
take_slot c candidates periods s =
    if list_any (λ k. k.place == s.place) candidates && list_any (λ p. p == c.period s.time) periods
    then record s { kept = is_newest c candidates s; covered = true }
    else s

abbrev pub take_periods : Choice → List Slot → List Slot → List Slot
take_periods c candidates slots =
    map (take_slot c candidates (greatest c.count (map (λ s. c.period s.time) candidates))) slots

abbrev pub after_choice : List Slot → Choice → List Slot
after_choice slots c = take_periods c (filter (is_candidate c slots) slots) slots

abbrev pub slot_at : ℕ × Item → Slot
slot_at p = record { place = p.0; time = (p.1).time; finished = (p.1).finished; kept = false; covered = false }

abbrev pub has_no_option : Keep → Bool
has_no_option k = list_all (λ c. c.count == 0) (choices k)

-- unfinished, and none is newer
abbrev pub is_running : List Slot → Slot → Bool
is_running slots s = not s.finished && not (list_any (λ k. is_newer k s) slots)

abbrev pub mark_of : Keep → List Slot → Slot → Mark
mark_of k slots s = if s.kept || has_no_option k || is_running slots s then Kept else Removed

abbrev pub slots_after : List Item → Keep → List Slot
slots_after items k = fold after_choice (map slot_at (enumerate_from 0 items)) (choices k)

-- one mark for each item, in the items' order
unfoldable pub marks : List Item → Keep → List Mark
marks items k = map (mark_of k (slots_after items k)) (slots_after items k)

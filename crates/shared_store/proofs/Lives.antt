-- How long what a core has may live.
use Rattle.std.proofs.Common.{ℕ, List, [], ◌++◌}
use contract.BorrowLft.{◌⊑◌, ⊑_meet, ⊑_static, ⊑_refl}

-- a reference, and once more
pub twice_lives : (κ : List ℕ) → κ ⊑ (((κ ++ []) ++ []) ++ ((κ ++ []) ++ []))
twice_lives κ =
    let none = ⊑_static κ in
    let one = ⊑_meet κ (κ ++ []) [] (⊑_meet κ κ [] (⊑_refl κ) none) none in
    ⊑_meet κ ((κ ++ []) ++ []) ((κ ++ []) ++ []) one one

-- The lifetimes that a type names, as the check writes them one behind another: of the disk, the remote, the clock and the origin.
pub data Named : Type 0 where
  none : Named
  disk : Named
  remote : Named
  clock : Named
  origin : Named
  both : Named → Named → Named

abbrev pub lives_of : List ℕ → List ℕ → List ℕ → List ℕ → Named → List ℕ
lives_of d e c n none = []
lives_of d e c n disk = d
lives_of d e c n remote = e
lives_of d e c n clock = c
lives_of d e c n origin = n
lives_of d e c n (both x y) = lives_of d e c n x ++ lives_of d e c n y

pub all_live : (κ d e c n : List ℕ) → κ ⊑ d → κ ⊑ e → κ ⊑ c → κ ⊑ n → (x : Named) → κ ⊑ lives_of d e c n x
all_live κ d e c n p q r s none = ⊑_static κ
all_live κ d e c n p q r s disk = p
all_live κ d e c n p q r s remote = q
all_live κ d e c n p q r s clock = r
all_live κ d e c n p q r s origin = s
all_live κ d e c n p q r s (both x y) = ⊑_meet κ (lives_of d e c n x) (lives_of d e c n y) (all_live κ d e c n p q r s x) (all_live κ d e c n p q r s y)

-- ---- of what stands behind the turn

abbrev all_names : Named
all_names = both disk (both remote (both clock (both origin none)))

-- of the core
abbrev core_names : Named
core_names = both (both disk (both remote (both clock none))) (both (both (both disk none) (both disk none)) (both (both (both remote none) (both (both remote none) none)) (both clock none)))

-- of the histories that its listing may be of
abbrev pub came_names : Named
came_names = both all_names (both (both (both (both all_names all_names) none) none) none)

-- of what shows the listing, part by part
abbrev part_0 : Named
part_0 = both came_names none

abbrev part_1 : Named
part_1 = both (both part_0 (both (both part_0 none) none)) none

abbrev part_2 : Named
part_2 = both (both part_1 (both (both part_1 none) none)) none

abbrev part_3 : Named
part_3 = both (both part_0 (both (both part_1 (both (both part_1 (both (both part_1 (both (both (both (both part_2 (both (both part_2 (both (both (both (both part_2 part_2) none) none) none)) none)) none) none) none)) none)) none)) none)) none

-- of the core beside what shows its listing
abbrev pub known_names : Named
known_names = both all_names (both core_names (both (both part_3 (both part_3 none)) (both (both (both origin none) none) none)))

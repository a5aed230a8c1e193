-- The APPENDs of an archive's entries, one by one.
use Rattle.std.proofs.Common.{◌≡◌, ℕ, zero, suc, ◌+◌, ◌≤◌, ◌<◌, false, eqb, List, [], ◌∷◌, ◌++◌, length, take, drop, refl, sym, ap, ◌∙◌, arith, append_assoc, append-nil, length-drop}
use Rattle.std.specs.Prelude.{min}
use Rattle.std.proofs.lemmas.List.{take_min, drop_min}
use Rattle.store_types.specs.declared.append.AppendEntry.{AppendEntry}
use Rattle.wire_commands.specs.declared.command.Command.{Command}
use Rattle.wire_commands.specs.declared.command.Command.TheVariants.{Append}
use Rattle.store_model.specs.SyncJob.{entries_from, appends}

-- at most n APPENDs of up to k entries each
abbrev parts : ℕ → ℕ → List AppendEntry → List Command
parts k zero entries = []
parts k (suc n) [] = []
parts k (suc n) (e ∷ es) = Append 0 (take k (e ∷ es)) ∷ parts k n (drop k (e ∷ es))

parts_are : (n : ℕ) (xs : List AppendEntry) → appends n xs ≡ parts 4096 n xs
unfolding appends
parts_are zero xs = refl
parts_are (suc n) [] = refl
parts_are (suc n) (e ∷ es) = ap (λ l. Append 0 (take 4096 (e ∷ es)) ∷ l) (parts_are n (drop 4096 (e ∷ es)))

enough : (k n m : ℕ) (xs : List AppendEntry) → 0 < k → length xs ≤ n → length xs ≤ m → parts k n xs ≡ parts k m xs
enough k zero zero xs some h j = refl
enough k zero (suc m) [] some h j = refl
enough k zero (suc m) (e ∷ es) some h j = absurd (omega arith)
enough k (suc n) zero [] some h j = refl
enough k (suc n) zero (e ∷ es) some h j = absurd (omega arith)
enough k (suc n) (suc m) [] some h j = refl
enough k (suc n) (suc m) (e ∷ es) some h j =
    ap (λ l. Append 0 (take k (e ∷ es)) ∷ l) (enough k n m (drop k (e ∷ es)) some (omega (arith, length-drop k (e ∷ es))) (omega (arith, length-drop k (e ∷ es))))

-- the first of them, and those that are left
first_part : (k : ℕ) (xs : List AppendEntry) → 0 < k → 0 < length xs → parts k (length xs) xs ≡ Append 0 (take k xs) ∷ parts k (length (drop k xs)) (drop k xs)
first_part k [] some h = absurd (omega arith)
first_part k (e ∷ es) some h =
    ap (λ l. Append 0 (take k (e ∷ es)) ∷ l) (enough k (length es) (length (drop k (e ∷ es))) (drop k (e ∷ es)) some (omega (arith, length-drop k (e ∷ es))) (omega arith))

no_part : (k : ℕ) (xs : List AppendEntry) → length xs ≡ 0 → parts k (length xs) xs ≡ []
no_part k [] none = refl
no_part k (e ∷ es) none = absurd (omega arith)

part_pushed : (k : ℕ) (commands new : List Command) (left part later : List AppendEntry) (n : ℕ) → 0 < k → 0 < length left → n ≡ min (length left) k
    → part ≡ take n left → later ≡ drop n left → new ≡ commands ++ Append 0 part ∷ []
    → new ++ parts k (length later) later ≡ commands ++ parts k (length left) left
part_pushed k commands new left part later n above some is front back pushed =
    let turned : n ≡ min k (length left) = omega (arith, is) in
    let first = front ∙ ap (λ i. take i left) turned ∙ take_min k left in
    let others = back ∙ ap (λ i. drop i left) turned ∙ drop_min k left in
    ap (λ cs. cs ++ parts k (length later) later) pushed ∙ append_assoc commands (Append 0 part ∷ []) (parts k (length later) later)
    ∙ ap (λ es. commands ++ Append 0 es ∷ parts k (length later) later) first
    ∙ ap (λ es. commands ++ Append 0 (take k left) ∷ parts k (length es) es) others
    ∙ sym (ap (λ cs. commands ++ cs) (first_part k left above some))

pub append_pushed : (commands new : List Command) (left part later : List AppendEntry) (n : ℕ) → 0 < length left → n ≡ min (length left) 4096
    → part ≡ take n left → later ≡ drop n left → new ≡ commands ++ Append 0 part ∷ []
    → new ++ appends (length later) later ≡ commands ++ appends (length left) left
append_pushed commands new left part later n some is front back pushed =
    ap (λ l. new ++ l) (parts_are (length later) later) ∙ part_pushed 4096 commands new left part later n (omega arith) some is front back pushed
    ∙ sym (ap (λ l. commands ++ l) (parts_are (length left) left))

-- whether some are left
pub some_left : (entries : List AppendEntry) → eqb (length entries) 0 ≡ false → 0 < length entries
some_left [] h = cc
some_left (e ∷ es) h = omega arith

pub appends_done : (before r : List Command) (left : List AppendEntry) → length left ≡ 0 → before ++ appends (length left) left ≡ r → before ≡ r
appends_done before r left none h =
    sym (append-nil before) ∙ sym (ap (λ l. before ++ l) (parts_are (length left) left ∙ no_part 4096 left none)) ∙ h

entries_count : (start : ℕ) (pieces : List (List ℕ)) → length (entries_from start pieces) ≡ length pieces
entries_count start [] = refl
entries_count start (p ∷ ps) = ap suc (entries_count (start + length p) ps)

-- those of an archive's pieces
pub appends_of : (pieces : List (List ℕ)) (entries : List AppendEntry) → entries ≡ entries_from 0 pieces
    → appends (length entries) entries ≡ appends (length pieces) (entries_from 0 pieces)
appends_of pieces entries is =
    ap (λ es. appends (length es) es) is ∙ ap (λ n. appends n (entries_from 0 pieces)) (entries_count 0 pieces)

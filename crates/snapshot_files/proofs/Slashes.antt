-- The last slash of a file's name stands before the name that it has in its snapshot.
use Rattle.std.proofs.Common.{◌≡◌, ◌≢◌, ℕ, ◌<◌, ◌≤◌, ◌+◌, true, false, not, get_or, length, take, drop, List, [], ◌∷◌, ◌++◌, append_assoc, length-drop, take-append-drop, refl, sym, ap, subst, ◌∙◌, arith}
use Rattle.std.specs.Prelude.{codes, nat_eq}
use Rattle.std.specs.List.{All}
use Rattle.std.proofs.lemmas.List.{drop_more, get_or-drop}
use Rattle.std.proofs.lemmas.List.Elements.{All-from_get_or, All-head, All-tail, All-nil, All-cons}
use Rattle.std.proofs.lemmas.Bool.{and_parts}
use Rattle.store_types.specs.declared.names.SnapshotKey.{SnapshotKey}
use Rattle.store_types.specs.FileNames.{is_file_name}
use Rattle.store_types.specs.Names.{key_text}
use Rattle.store_types.proofs.KeyTexts.{no_slash, id_no_slash}
use Rattle.store_types.proofs.NameLemmas.{file_name_id}
use Rattle.store_files.specs.Folder.{file_path}

abbrev pub IsPlain : List ℕ → Type 0
IsPlain xs = All (λ b. b ≢ 47) xs

has_slash : (a b : List ℕ) → IsPlain (a ++ 47 ∷ b) → ⊥
has_slash [] b plain = All-head (λ b. b ≢ 47) 47 b plain refl
has_slash (x ∷ a) b plain = has_slash a b (All-tail (λ b. b ≢ 47) x (a ++ 47 ∷ b) plain)

-- it is cut in one way
pub cut_once : (a b c e : List ℕ) → a ++ 47 ∷ b ≡ c ++ 47 ∷ e → IsPlain b → IsPlain e → (a ≡ c) × (b ≡ e)
cut_once [] b [] e is plain_b plain_e = let same : b ≡ e = cc in (refl, same)
cut_once [] b (x ∷ c) e is plain_b plain_e = let rest : b ≡ c ++ 47 ∷ e = cc in absurd (has_slash c e (subst IsPlain rest plain_b))
cut_once (x ∷ a) b [] e is plain_b plain_e = let rest : a ++ 47 ∷ b ≡ e = cc in absurd (has_slash a b (subst IsPlain (sym rest) plain_e))
cut_once (x ∷ a) b (y ∷ c) e is plain_b plain_e =
    let first : x ≡ y = cc in
    let rest : a ++ 47 ∷ b ≡ c ++ 47 ∷ e = cc in
    let same = cut_once a b c e rest plain_b plain_e in
    (ap (λ n. n ∷ a) first ∙ ap (λ l. y ∷ l) same.0, same.1)

-- a whole name without a slash is none of a snapshot's file
pub no_path : (a b : List ℕ) → (q : List ℕ) → IsPlain q → q ≡ a ++ 47 ∷ b → ⊥
no_path a b q plain is = has_slash a b (subst IsPlain is plain)

to_plain : (xs : List ℕ) → no_slash xs ≡ true → IsPlain xs
to_plain [] h = All-nil (λ b. b ≢ 47)
to_plain (x ∷ xs) h =
    let both = and_parts (not (nat_eq x 47)) (no_slash xs) h in
    All-cons (λ b. b ≢ 47) x xs (λ e. not_both (sym both.0 ∙ ap (λ n. not (nat_eq n 47)) e)) (to_plain xs both.1)
  where
    not_both : true ≡ false → ⊥
    not_both e = cc

pub name_plain : (name : List ℕ) → is_file_name name ≡ true → IsPlain name
name_plain name is = to_plain name (id_no_slash name (file_name_id name is))

pub path_is : (key : SnapshotKey) (name : List ℕ) → file_path key name ≡ key_text key ++ 47 ∷ name
path_is key name = append_assoc (key_text key) (codes "/") name

-- ---- by the place of the last slash

pub cut_at : (xs : List ℕ) (i : ℕ) → i < length xs → get_or xs i 0 ≡ 47 → xs ≡ take i xs ++ 47 ∷ drop (i + 1) xs
cut_at xs i inside here = sym (take-append-drop i xs) ∙ ap (λ (l : List ℕ). take i xs ++ l) (drop_more xs i 0 inside ∙ ap (λ b. b ∷ drop (i + 1) xs) here)

pub plain_behind : (xs : List ℕ) (i : ℕ) → ((k : ℕ) → i ≤ k → k < length xs → get_or xs k 0 ≢ 47) → IsPlain (drop i xs)
plain_behind xs i reads =
    All-from_get_or (λ b. b ≢ 47) (drop i xs) 0 (λ k inside. subst (λ b. b ≢ 47) (sym (get_or-drop i xs k 0)) (reads (i + k) (omega arith) (omega (arith, length-drop i xs))))

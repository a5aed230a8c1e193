-- What the grammar of names says of their bytes, and when keys are the same.
use Rattle.std.proofs.Common.{◌≡◌, ℕ, ◌+◌, ◌%◌, ◌<◌, Bool, true, false, ◌&&◌, ◌||◌, nat_lt, get_or, List, [], ◌∷◌, refl, sym, ◌∙◌, arith}
use Rattle.std.proofs.lemmas.Bool.Decides.{nat_tests}
use Rattle.std.proofs.lemmas.Map.Text.{is_eq-slice_cmp}
use Rattle.std.proofs.lemmas.List.Sums.{AllPass-from_list_all}
use Rattle.std.proofs.lemmas.Str.Ascii.{IsAscii-from_all}
use Rattle.std.specs.List.{All, list_all}
use Rattle.std.specs.Ordering.{nat_cmp, ordering_then, is_eq}
use Rattle.std.specs.Str.{IsAscii, bytes_eq}
use Rattle.store_types.specs.declared.names.Kind.{Kind}
use Rattle.store_types.specs.declared.names.Kind.TheVariants.{Ct, Host, Vm}
use Rattle.store_types.specs.declared.names.GroupKey.{GroupKey}
use Rattle.store_types.specs.FileNames.{is_id, is_file_name, has_ending, fixed_ending, dynamic_ending, blob_ending}
use Rattle.store_types.specs.Times.{digits, time_text}
use Rattle.store_types.specs.Names.{kind_rank, text_cmp, same_group}

id_in_one : (i f d b : Bool) → ((i && f) || (i && d) || (i && b)) ≡ true → i ≡ true
id_in_one true f d b h = refl
id_in_one false f d b h = h

-- a file's name is formed like an id
pub file_name_id : (name : List ℕ) → is_file_name name ≡ true → is_id name ≡ true
file_name_id name h = id_in_one (is_id name) (has_ending fixed_ending name) (has_ending dynamic_ending name) (has_ending blob_ending name) h

-- ---- bytes below 128

abbrev below_128 : List ℕ → Bool
below_128 = list_all (λ b. nat_lt b 128)

all_below : (xs : List ℕ) → below_128 xs ≡ true → All (λ b. b < 128) xs
all_below xs h = λ i d l. let small : nat_lt (get_or xs i d) 128 ≡ true = AllPass-from_list_all (λ b. nat_lt b 128) xs h i d l in grind (arith, nat_tests)

ascii : (xs : List ℕ) → below_128 xs ≡ true → IsAscii xs
ascii xs h = IsAscii-from_all xs (all_below xs h)

digit_small : (x : ℕ) → nat_lt (48 + x % 10) 128 ≡ true
digit_small x = grind (arith, nat_tests)

time_small : (t : ℕ) → below_128 (time_text t) ≡ true
unfolding time_text digits
time_small t = simp digit_small refl

pub time_ascii : (t : ℕ) → IsAscii (time_text t)
time_ascii t = ascii (time_text t) (time_small t)

-- ---- the same group

same_kind : (k : Kind) (o : _) → is_eq (ordering_then (nat_cmp (kind_rank k) (kind_rank k)) o) ≡ is_eq o
same_kind Ct o = refl
same_kind Host o = refl
same_kind Vm o = refl

pub same_group-ids : (a b : GroupKey) → a.kind ≡ b.kind → bytes_eq a.id b.id ≡ same_group a b
same_group-ids a b e = rw (← e) (sym (same_kind a.kind (text_cmp a.id b.id) ∙ is_eq-slice_cmp a.id b.id))

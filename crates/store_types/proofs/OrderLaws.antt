-- The orders hold names for the same just where they are.
use Rattle.std.proofs.Common.{◌≡◌, ℕ, true, List, refl, sym, ap, ◌∙◌, arith}
use Rattle.std.proofs.lemmas.Bool.Decides.{nat_tests}
use Rattle.std.proofs.lemmas.Cmp.{tied_itself}
use Rattle.std.proofs.lemmas.Map.Text.{is_eq-slice_cmp}
use Rattle.std.proofs.lemmas.Slice.Eq.{bytes_eq-Decides}
use Rattle.std.specs.declared.cmp.Ordering.{Ordering}
use Rattle.std.specs.declared.cmp.Ordering.TheVariants.{Less, Equal, Greater}
use Rattle.std.specs.Ordering.{nat_cmp, ordering_then, is_eq}
use Rattle.store_types.specs.declared.names.Kind.{Kind}
use Rattle.store_types.specs.declared.names.Kind.TheVariants.{Ct, Host, Vm}
use Rattle.store_types.specs.declared.names.GroupKey.{GroupKey}
use Rattle.store_types.specs.KeyOrder.{group_cmp_total, key_cmp_total}
use Rattle.store_types.specs.Names.{kind_rank, text_cmp, group_of_key, group_cmp, same_group, same_key}
use Rattle.store_types.specs.Laws.{SameKeysAreEqual, SameGroupsAreEqual}

both_equal : (a b : Ordering) → is_eq (ordering_then a b) ≡ true → (is_eq a ≡ true) × (is_eq b ≡ true)
both_equal Less b h = cc
both_equal Equal b h = (refl, h)
both_equal Greater b h = cc

numbers : (a b : ℕ) → is_eq (nat_cmp a b) ≡ true → a ≡ b
numbers a b h = grind (arith, nat_tests)

kinds : (a b : Kind) → kind_rank a ≡ kind_rank b → a ≡ b
kinds Ct Ct h = refl
kinds Ct Host h = absurd (omega arith)
kinds Ct Vm h = absurd (omega arith)
kinds Host Ct h = absurd (omega arith)
kinds Host Host h = refl
kinds Host Vm h = absurd (omega arith)
kinds Vm Ct h = absurd (omega arith)
kinds Vm Host h = absurd (omega arith)
kinds Vm Vm h = refl

texts : (a b : List ℕ) → is_eq (text_cmp a b) ≡ true → a ≡ b
texts a b h = (bytes_eq-Decides a b).0 (sym (is_eq-slice_cmp a b) ∙ h)

group_parts : (a b : GroupKey) → same_group a b ≡ true → (a.kind ≡ b.kind) × (a.id ≡ b.id)
group_parts a b h =
    let both = both_equal (nat_cmp (kind_rank a.kind) (kind_rank b.kind)) (text_cmp a.id b.id) h in
    (kinds a.kind b.kind (numbers (kind_rank a.kind) (kind_rank b.kind) both.0), texts a.id b.id both.1)

pub same_groups : SameGroupsAreEqual
same_groups a b = (
  λ h. let same = group_parts a b h in λ i. record { kind = same.0 i; id = same.1 i },
  λ e. ap (λ x. same_group a x) (sym e) ∙ ap is_eq (tied_itself group_cmp_total a),
)

pub same_keys : SameKeysAreEqual
same_keys a b = (
  λ h.
      let both = both_equal (group_cmp (group_of_key a) (group_of_key b)) (nat_cmp a.time b.time) h in
      let same = group_parts (group_of_key a) (group_of_key b) both.0 in
      let time = numbers a.time b.time both.1 in
      λ i. record { kind = same.0 i; id = same.1 i; time = time i },
  λ e. ap (λ x. same_key a x) (sym e) ∙ ap is_eq (tied_itself key_cmp_total a),
)

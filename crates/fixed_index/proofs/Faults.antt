-- The tests of an index, in turn.
use Rattle.std.proofs.Common.{◌≡◌, ℕ, Bool, true, false, not, cond, Option, Some, None, Result, Ok, Err, List, refl, sym}
use Rattle.std.proofs.lemmas.Bool.{ltb-false, eqb-true}
use Rattle.std.proofs.lemmas.Slice.Eq.{bytes_eq-Decides}
use Rattle.store_files.specs.declared.causes.IndexFault.{IndexFault}
use Rattle.store_files.specs.declared.causes.IndexFault.TheVariants.{Short, Magic, Length, Count, Sizes, Csum}
use Rattle.store_files.specs.FixedIndex.{FixedIndex, fixed_of, fields_of}
use Rattle.fixed_index.specs.Viewing.{first_fault, fault_of, IsIndex}

abbrev pub outcome : FixedIndex → Option IndexFault → Result FixedIndex IndexFault
outcome x None = Ok x
outcome x (Some fault) = Err fault

-- the same tests, with the index in place of no fault
same_tests : (x : FixedIndex) (short magical whole many sized summed : Bool) →
    cond short (Err Short) (cond (not magical) (Err Magic) (cond (not whole) (Err Length) (cond many (Err Count)
    (cond (not sized) (Err Sizes) (cond summed (Ok x) (Err Csum))))))
    ≡ outcome x (first_fault short magical whole many sized summed)
same_tests x true b w m s c = refl
same_tests x false false w m s c = refl
same_tests x false true false m s c = refl
same_tests x false true true true s c = refl
same_tests x false true true false false c = refl
same_tests x false true true false true true = refl
same_tests x false true true false true false = refl

pub fixed_of-fault : (bytes : List ℕ) → fixed_of bytes ≡ outcome (fields_of bytes) (fault_of bytes)
unfolding fixed_of fault_of
fixed_of-fault bytes = same_tests (fields_of bytes) _ _ _ _ _ _

-- where no test tells a fault
pub record Passes (short magical whole many sized summed : Bool) : Type 0 where
  pub long : short ≡ false
  pub magic : magical ≡ true
  pub entries : whole ≡ true
  pub few : many ≡ false
  pub sizes : sized ≡ true
  pub csum : summed ≡ true

passes : (short magical whole many sized summed : Bool) → first_fault short magical whole many sized summed ≡ None →
    Passes short magical whole many sized summed
passes true b w m s c e = cc
passes false false w m s c e = cc
passes false true false m s c e = cc
passes false true true true s c e = cc
passes false true true false false c e = cc
passes false true true false true true e = record { long = refl; magic = refl; entries = refl; few = refl; sizes = refl; csum = refl }
passes false true true false true false e = cc

pub same_fault : {s s' m m' w w' n n' z z' u u' : Bool} → s ≡ s' → m ≡ m' → w ≡ w' → n ≡ n' → z ≡ z' → u ≡ u' →
    first_fault s' m' w' n' z' u' ≡ first_fault s m w n z u
same_fault s m w n z u = sym (λ i. first_fault (s i) (m i) (w i) (n i) (z i) (u i))

pub is_index : (bytes : List ℕ) → fault_of bytes ≡ None → IsIndex bytes
unfolding fault_of
is_index bytes none =
    let all = passes _ _ _ _ _ _ none in
    record {
      long = ltb-false _ _ all.long;
      whole = eqb-true _ _ all.entries;
      limit = ltb-false _ _ all.few;
      sizes = all.sizes;
      magic = (bytes_eq-Decides _ _).0 all.magic;
      csum = (bytes_eq-Decides _ _).0 all.csum;
    }

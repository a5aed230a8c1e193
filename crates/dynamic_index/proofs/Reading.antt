-- What bytes that are an index have in them, for a reader that uses no view.
use Rattle.std.proofs.Common.{◌≡◌, ◌≤◌, ℕ, IsTrue, List, length, Option, Some, None, Ok, refl, sym, subst, ◌∙◌, arith}
use Rattle.store_files.specs.declared.causes.IndexFault.{IndexFault}
use Rattle.store_files.specs.Cells.{entry_limit}
use Rattle.store_files.specs.DynamicIndex.{DynamicIndex, steps_fit, fields_of, dynamic_of}
use Rattle.dynamic_index.specs.Viewing.{fault_of, IsIndex}
use Rattle.dynamic_index.proofs.Cells.{count_is}
use Rattle.dynamic_index.proofs.Faults.{outcome, dynamic_of-fault, is_index}

no_fault : (x y : DynamicIndex) (fault : Option IndexFault) → outcome x fault ≡ Ok y → (fault ≡ None) × (y ≡ x)
no_fault x y None e = (refl, cc)
no_fault x y (Some fault) e = cc

-- The index is what the bytes have at the format's places.
pub dynamic_of-ok : (bytes : List ℕ) (x : DynamicIndex) → dynamic_of bytes ≡ Ok x → (x ≡ fields_of bytes) × IsIndex bytes
dynamic_of-ok bytes x is =
    let found = no_fault (fields_of bytes) x (fault_of bytes) (sym (dynamic_of-fault bytes) ∙ is) in
    (found.1, is_index bytes found.0)

-- It has not too many pieces, and each is as long as a piece may be.
pub dynamic_of-fits : (bytes : List ℕ) (x : DynamicIndex) → dynamic_of bytes ≡ Ok x → (length x.entries ≤ entry_limit) × IsTrue (steps_fit 0 x.entries)
dynamic_of-fits bytes x is =
    let found = dynamic_of-ok bytes x is in
    let limit : length (fields_of bytes).entries ≤ entry_limit = omega (arith, count_is bytes, found.1.limit) in
    subst (λ (y : DynamicIndex). (length y.entries ≤ entry_limit) × IsTrue (steps_fit 0 y.entries)) (sym found.0) (limit, found.1.steps)

-- Orders that are read from their files.
use Rattle.std.specs.Prelude.{◌≡◌, ℕ, List, IsTrue, IfOk, Option, Some, option_map, Result, Ok, Vec}
use Rattle.std.specs.declared.alloc.Global.{Global}
use Rattle.std.proofs.Common.{sym, subst, ap, ◌∙◌}
use Rattle.store_types.specs.declared.order.Entry.{Entry}
use Rattle.store_files.specs.Order.{order_of, keeps_rules}
use Rattle.order_file.specs.Laws.{WhatIsReadHasOneSpelling}

-- what is read without failure, and is an order, keeps the rules
pub read_keeps_rules : {E : Type 0} (lanes : ℕ) (bytes : List ℕ) (outcome : Result (Option (Vec Entry Global)) E) (read : Option (Vec Entry Global)) (order : Vec Entry Global)
    → WhatIsReadHasOneSpelling → IfOk outcome (λ r. option_map (λ v. v.items) r ≡ order_of lanes bytes) → outcome ≡ Ok read → read ≡ Some order → IsTrue (keeps_rules lanes order.items)
read_keeps_rules {E} lanes bytes outcome read order law gives ok some =
    let is = subst (λ (x : Result (Option (Vec Entry Global)) E). IfOk x (λ r. option_map (λ v. v.items) r ≡ order_of lanes bytes)) (ok ∙ ap (λ r. Ok r) some) gives in
    (law lanes bytes order.items (sym is)).1

-- Orders that are read from their files.
use Rattle.std.specs.Prelude.{◌≡◌, ℕ, List, IsTrue, IfOk, IfSome, Option, Some, None, option_map, Result, Ok, Err, Vec}
use Rattle.std.specs.declared.alloc.AllocError.{AllocError}
use Rattle.std.specs.declared.alloc.Global.{Global}
use Rattle.std.proofs.Common.{sym}
use Rattle.store_types.specs.declared.order.Entry.{Entry}
use Rattle.store_files.specs.Order.{order_of, keeps_rules}
use Rattle.order_file.specs.Laws.{WhatIsReadHasOneSpelling}

read_keeps_rules : (lanes : ℕ) (bytes : List ℕ) (read : Option (Vec Entry Global)) → WhatIsReadHasOneSpelling →
    option_map (λ v. v.items) read ≡ order_of lanes bytes → IfSome read (λ order. IsTrue (keeps_rules lanes order.items))
read_keeps_rules lanes bytes None law is = tt
read_keeps_rules lanes bytes (Some order) law is = (law lanes bytes order.items (sym is)).1

pub what_is_read_keeps_rules : (lanes : ℕ) (bytes : List ℕ) (read : Result (Option (Vec Entry Global)) AllocError) → WhatIsReadHasOneSpelling →
    IfOk read (λ order. option_map (λ v. v.items) order ≡ order_of lanes bytes) →
    IfOk read (λ order. IfSome order (λ v. IsTrue (keeps_rules lanes v.items)))
what_is_read_keeps_rules lanes bytes (Ok order) law is = read_keeps_rules lanes bytes order law is
what_is_read_keeps_rules lanes bytes (Err error) law is = tt

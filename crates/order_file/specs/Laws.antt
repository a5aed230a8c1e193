-- Reading and writing order files are inverse to each other.
use Rattle.std.specs.Prelude.{◌≡◌, ℕ, ◌^◌, ◌≤◌, List, IsTrue, Some}
use Rattle.store_types.specs.declared.order.Entry.{Entry}
use Rattle.store_files.specs.Order.{order_text, order_of, keeps_rules}

-- an order that keeps the rules is read from its text
abbrev pub WhatIsWrittenIsRead : Type 0
WhatIsWrittenIsRead = (lanes : ℕ) (order : List Entry) → lanes ≤ 2 ^ 32 → IsTrue (keeps_rules lanes order) →
    order_of lanes (order_text order) ≡ Some order

-- what is read keeps the rules, and the bytes are its text
abbrev pub WhatIsReadHasOneSpelling : Type 0
WhatIsReadHasOneSpelling = (lanes : ℕ) (bytes : List ℕ) (order : List Entry) → order_of lanes bytes ≡ Some order →
    (bytes ≡ order_text order) × IsTrue (keeps_rules lanes order)

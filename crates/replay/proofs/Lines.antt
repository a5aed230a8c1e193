-- The line that tells a difference.
use Rattle.std.proofs.Common.{◌≡◌, ℕ, List, ◌++◌, Result, Ok, Err, ap, ◌∙◌, codes, append_assoc}
use Rattle.std.specs.Prelude.{IfOk, Some, String, decimal, string_bytes}
use Rattle.std.specs.declared.alloc.Global.{Global}
use Rattle.replay.specs.declared.difference.Unequal.{Unequal}
use Rattle.replay.specs.Compare.{line, shown}

-- as it is put together
abbrev pub parts : Unequal → List ℕ → List ℕ → List ℕ
parts u a b = codes "lane " ++ (decimal u.lane ++ (codes " byte " ++ (decimal u.place ++ (codes ": " ++ (a ++ (codes " " ++ (b ++ codes "\n")))))))

parts_are : (u : Unequal) → parts u (shown u.replayed) (shown u.kept) ≡ line (Some u)
parts_are u = simp append_assoc

pub line_told : {E : Type 0} (result : Result (String Global) E) (u : Unequal) (a b : List ℕ) → a ≡ shown u.replayed → b ≡ shown u.kept →
    IfOk result (λ text. string_bytes text ≡ parts u a b) → IfOk result (λ text. string_bytes text ≡ line (Some u))
line_told (Err e) u a b replayed kept is = tt
line_told (Ok text) u a b replayed kept is = is ∙ ap (λ x. parts u x b) replayed ∙ ap (parts u (shown u.replayed)) kept ∙ parts_are u

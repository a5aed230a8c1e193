use Rattle.std.proofs.Common.{◌≡◌, ℕ, List, [], ◌∷◌, ◌++◌, ap, ◌∙◌, append_assoc}
use Rattle.order_file.proofs.writing.push_entry.Goals as goal

pushed : (old a b k x y z : List ℕ) → x ≡ old ++ a → y ≡ x ++ b → z ≡ y ++ k → z ≡ old ++ (a ++ b ++ k)
pushed old a b k x y z first second third =
    third ∙ ap (λ t. t ++ k) (second ∙ ap (λ t. t ++ b) first ∙ append_assoc old a b) ∙ append_assoc old (a ++ b) k

pub returns : goal.returns
returns c =
    pushed _ _ _ _ _ _ _ c.push_bytes.ensures c.push_bytes-2.ensures c.push_bytes-3.ensures
    ∙ (λ i. c.args.text.now.items ++ (c.to_le_bytes.ensures i ++ c.to_le_bytes-2.ensures i ++ c.args.entry.kind ∷ []))

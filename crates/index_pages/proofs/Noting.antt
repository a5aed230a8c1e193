-- What is noted of a page behind bytes.
use Rattle.std.proofs.Common.{◌≡◌, ℕ, List, ◌++◌, ap, ap₂, ◌∙◌}
use Rattle.hash_states.specs.States.{State, absorb, digest_of, state_after}
use Rattle.hash_states.proofs.States.{absorb_is, digest_is}
use Rattle.index_pages.specs.declared.state.PageSum.{PageSum}
use Rattle.index_pages.specs.Opening.{noted_sum}

pub noted : (k : PageSum) (s : State) (bytes page : List ℕ) → k.before ≡ s → (k.sum).0 ≡ digest_of (absorb s page) → s ≡ state_after bytes → k ≡ noted_sum bytes page
noted k s bytes page before sum is =
    ap₂ (λ b d. record { before = b; sum = record { 0 = d } }) (before ∙ is)
    (sum ∙ ap (λ x. digest_of (absorb x page)) is ∙ ap digest_of (absorb_is bytes page) ∙ digest_is (bytes ++ page))

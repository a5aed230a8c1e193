use Rattle.std.proofs.Common.{◌≡◌, rules, sym, subst}
use Rattle.std.specs.Prelude.{max}
use Rattle.shared_store.specs.Views.{IsNoted}
use Rattle.shared_store.proofs.Noting.{noted_both}
use Rattle.shared_store.proofs.shared.Shared.absorb.Goals as goal

pub invariant_of-seat : goal.invariant_of-seat
invariant_of-seat g c =
    let most : c.max-seat-inside.result ≡ max c.seat.inside.note c.other.inside.note = search rules in
    subst (λ n. IsNoted n c.absorb.new.seat) (sym most)
    (noted_both c.seat.inside.note c.other.inside.note c.seat.inside.inner c.other.inside.inner c.absorb.new.seat c.seat.invariant c.other.invariant
    c.absorb.ensures.seat c.absorb.ensures.left c.absorb.ensures.right)

use Rattle.std.proofs.Common.{subst}
use Rattle.atime_book.specs.Parts.{joined, touches_of}
use Rattle.atime_book.specs.Touches.{HaveDigests, IsInOrder}
use Rattle.atime_book.proofs.Ordered.{in_order}
use Rattle.atime_book.proofs.Parting.{joined_rises}
use Rattle.atime_book.proofs.Book.signed.Goals as goal

pub returns-clause-order : goal.returns-clause-order
returns-clause-order c =
    let parts = c.self.inside.parts.items in
    let wide = subst (λ ps. HaveDigests (touches_of (joined ps))) c.deref.ensures.value c.in_ok-push_touches.ensures.digests in
    subst IsInOrder c.self.view_is (in_order c.self.inside.moment (joined parts) (joined_rises 0 parts c.self.invariant.each) wide)

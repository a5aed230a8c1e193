use Rattle.std.proofs.Common.{rules, subst}
use Rattle.std.proofs.lemmas.Fn.{filter_same}
use Rattle.std.proofs.lemmas.Map.Made.{filter_same_pairs}
use Rattle.std.proofs.lemmas.Map.Keys.{IsDistinct-from_sorted}
use Rattle.lock_book.specs.Locks.{Locks, Releases}
use Rattle.lock_book.proofs.Claims.{releases}
use Rattle.lock_book.proofs.LockBook.release.Goals as goal

pub returns : goal.returns
returns c =
    let old : Locks = record { groups = c.self.inside.groups.entries; shared = c.self.inside.shared.items } in
    let new : Locks = record { groups = c.retain.new.self.entries; shared = c.retain-2.new.self.items } in
    subst (λ locks. Releases locks new c.args.lane) c.self.view_is
    (releases old c.args.lane new.groups new.shared (IsDistinct-from_sorted _ _ c.retain.ensures.was_ordered)
    (filter_same_pairs _ _ _ (λ k v b w f h. search rules) _ _ c.retain.ensures.filtered)
    (filter_same _ _ _ (λ x b f h. search rules) _ _ c.retain-2.ensures.filtered))

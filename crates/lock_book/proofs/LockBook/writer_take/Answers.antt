use Rattle.std.proofs.Common.{◌++◌, ◌∙◌, Option, ap, subst}
use Rattle.std.specs.Option.{option_map, option_to_list}
use Rattle.store_types.specs.declared.names.SnapshotKey.{SnapshotKey}
use Rattle.lock_book.specs.Locks.{Locks, TakesWriter}
use Rattle.lock_book.proofs.Claims.{takes_writer}
use Rattle.lock_book.proofs.LockBook.writer_take.Goals as goal

pub returns-clause-taken : goal.returns-clause-taken
returns-clause-taken c =
    let locks : Locks = record { groups = c.self.inside.groups.entries; shared = c.self.inside.shared.items } in
    let base : Option SnapshotKey = option_map (λ k. k.now) c.args.base in
    subst (λ old. TakesWriter old (record { groups = c.insert.new.self.entries; shared = c.add_claim.new.claims.items }) c.args.lane c.args.group.now base) c.self.view_is
    (takes_writer locks _ _ c.args.lane c.args.group.now c.in_ok-group.group base c.in_ok-group.ensures.cases c.in_ok-insert.ensures.updates.0
    (c.add_claim.ensures ∙ ap (λ items. items ++ option_to_list c.in_ok-claim.claim) c.reserve.ensures.items ∙ ap (λ o. c.self.inside.shared.items ++ option_to_list o) c.in_ok-claim.ensures))

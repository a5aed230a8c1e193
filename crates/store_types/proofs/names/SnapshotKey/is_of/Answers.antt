use Rattle.std.proofs.Common.{◌∙◌, rules}
use Rattle.store_types.specs.Names.{group_of_key}
use Rattle.store_types.proofs.NameLemmas.{same_group-ids}
use Rattle.store_types.proofs.names.SnapshotKey.is_of.Goals as goal

pub returns-then-eq : goal.returns-then-eq
returns-then-eq c = c.eq-then-eq.ensures ∙ same_group-ids (group_of_key c.args.self.now) c.args.group.now (search rules)

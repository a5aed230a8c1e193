use Rattle.std.proofs.Common.{◌∙◌, rules}
use Rattle.store_types.proofs.NameLemmas.{same_group-ids}
use Rattle.store_types.proofs.names.GroupKeyPartialEq.eq.Goals as goal

pub returns-then-eq : goal.returns-then-eq
returns-then-eq c = c.eq-then-eq.ensures ∙ same_group-ids c.args.self.now c.args.other.now (search rules)

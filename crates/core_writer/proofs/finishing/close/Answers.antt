use Rattle.std.proofs.Common.{◌≡◌, rules}
use Rattle.core_state.specs.declared.kept.Session.TheVariants.{Writer}
use Rattle.core_writer.proofs.FinishLemmas.{named_key}
use Rattle.core_writer.proofs.finishing.close.Goals as goal

pub insert_reserved-requires-clause-named : goal.insert_reserved-requires-clause-named
insert_reserved-requires-clause-named c =
    let is : c.args.session.now ≡ Writer c.in-Writer.w = search rules in
    named_key c.args.session.now c.in-Writer.w c.into_key.result c.requires.named is c.into_key.ensures

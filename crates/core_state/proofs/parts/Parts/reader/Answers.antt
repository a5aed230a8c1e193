use Rattle.std.proofs.Common.{◌<◌, ◌∙◌, length, subst, arith}
use Rattle.std.proofs.lemmas.List.{get_or_default}
use Rattle.restore_reader.specs.Answers.{Lends}
use Rattle.core_state.specs.Wanted.{reader_in}
use Rattle.core_state.specs.declared.kept.Session.{Session}
use Rattle.core_state.specs.declared.kept.Session.TheVariants.{Idle}
use Rattle.core_state.proofs.parts.Parts.reader.Goals as goal

pub returns-clause-value : goal.returns-clause-value
returns-clause-value g c =
    let old = c.args.self.now in
    let within : c.args.lane < length old.sessions.items = omega (arith, old.lanes, old.sessions.ok.0, c.requires) in
    subst (λ (s : Session). Lends (reader_in s) c.reader.result)
    (c.index.ensures ∙ get_or_default old.sessions.items c.args.lane c.index.result.now Idle within) c.reader.ensures.value

use Rattle.core_state.proofs.Texts.{plain_cause_has_text}
use Rattle.core_writer.proofs.uploads.bad_blob.Goals as goal

pub returns-in_default-clause-text : goal.returns-in_default-clause-text
returns-in_default-clause-text c = plain_cause_has_text c.args.cause c.in_default.not-WrongCrc

use Rattle.store_types.specs.declared.refusal.BadBlob.TheVariants as causes
use Rattle.core_state.proofs.Texts.{bad_blob_has_text}
use Rattle.core_writer.proofs.uploads.wrong_crc.Goals as goal

pub returns-clause-text : goal.returns-clause-text
returns-clause-text c = bad_blob_has_text (causes.WrongCrc c.args.kept c.args.found) (c.ranges.kept.fits, c.ranges.found.fits)

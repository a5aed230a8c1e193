use Rattle.crc_core.proofs.TableEntries.{TABLES-entry}
use Rattle.crc_core.proofs.byte_register.Goals as goal

pub returns : goal.returns
returns c = TABLES-entry _ c.args.zeros c.args.byte c.requires c.ranges.byte.fits

use Rattle.std.proofs.Common.{sym}
use Rattle.manifest.proofs.Digests.{digest-some, digest-none}
use Rattle.manifest.proofs.fields.digest_of.Goals as goal

pub returns-in-Ok : goal.returns-in-Ok
returns-in-Ok c = sym (digest-some c.args.text.now c.in-Ok.bytes (sym c.in-Ok.ensures))

pub returns-in-Err : goal.returns-in-Err
returns-in-Err c = sym (digest-none c.args.text.now c.in-Err.field-0 (sym c.in-Err.ensures))

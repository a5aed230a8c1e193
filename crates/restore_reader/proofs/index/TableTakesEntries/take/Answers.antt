use Rattle.std.proofs.Common.{refl}
use Rattle.restore_reader.proofs.Tables.{tabled}
use Rattle.restore_reader.proofs.index.TableTakesEntries.take.Goals as goal

pub returns : goal.returns
returns c = λ base before is ends. tabled c.args.self.now _ c.args.entry.now base before c.in_ok-push.ensures.items refl is

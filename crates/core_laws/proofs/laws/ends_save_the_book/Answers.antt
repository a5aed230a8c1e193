use Rattle.core_laws.proofs.SavedBook.{saved_book}
use Rattle.core_laws.proofs.laws.ends_save_the_book.Goals as goal

pub returns : goal.returns
returns g c = saved_book g.D.Disk g.C.Clock c.args.old.now c.args.new.now

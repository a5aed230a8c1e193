use Rattle.std.proofs.Common.{◌≡◌, None, rules, Result, Ok, Err}
use Rattle.std.specs.Prelude.{OnOk}
use Rattle.std.specs.declared.alloc.AllocError.{AllocError}
use Rattle.store_files.specs.Book.{Touch, Book}
use Rattle.atime_book.specs.Touches.{NotesNew, TouchedAt, last_of}
use Rattle.atime_book.proofs.Orders.{touched_new}
use Rattle.atime_book.proofs.Book.touch.Goals as goal

noted : (r : Result (Unit {0}) AllocError) (old new : Book) (t : Touch) → last_of old t.digest ≡ None → OnOk r (NotesNew old new t) → OnOk r (TouchedAt old new t.digest t.moment)
noted (Ok u) old new t none notes = touched_new old new t notes none
noted (Err e) old new t none notes = tt

pub returns-clause-ok : goal.returns-clause-ok
returns-clause-ok c =
    let unknown : last_of c.args.self.now c.args.digest.now.0 ≡ None = search rules in
    noted c.note_new.result c.args.self.now c.note_new.new.self (record { digest = c.args.digest.now.0; moment = c.args.moment }) unknown c.note_new.ensures.ok

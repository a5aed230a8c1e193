use Rattle.std.proofs.Common.{◌+◌, true, false, length, refl, sym, ◌∙◌}
use Rattle.std.specs.Prelude.{nat_lt}
use Rattle.std.proofs.lemmas.Bool.{lt-ltb, le-ltb}
use Rattle.backup_session.proofs.StateSteps.{room_by}
use Rattle.backup_session.proofs.files.want_room.Goals as goal

pub returns-then-has_file : goal.returns-then-has_file
returns-then-has_file c =
    let files = c.args.files.now in
    let begun = c.args.begun.now in
    sym (room_by c.args.name.now files begun true (nat_lt (length files + length begun) 64) (sym c.has_file.ensures ∙ c.if-has_file.true) refl)

pub returns-then-files-begun-lt64 : goal.returns-then-files-begun-lt64
returns-then-files-begun-lt64 c =
    let files = c.args.files.now in
    let begun = c.args.begun.now in
    sym (room_by c.args.name.now files begun false true (sym c.has_file.ensures ∙ c.if-has_file.false) (lt-ltb (length files + length begun) 64 c.if-files-begun-lt64.true))

pub returns-else-files-begun-lt64 : goal.returns-else-files-begun-lt64
returns-else-files-begun-lt64 c =
    let files = c.args.files.now in
    let begun = c.args.begun.now in
    sym (room_by c.args.name.now files begun false false (sym c.has_file.ensures ∙ c.if-has_file.false) (le-ltb (length files + length begun) 64 c.if-files-begun-lt64.false))

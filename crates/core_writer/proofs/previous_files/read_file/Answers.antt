use Rattle.std.proofs.Common.{◌≡◌, None, Ok, Err, sym, subst, refl, rules}
use Rattle.backup_session.proofs.Pools.{no_lengths}
use Rattle.snapshot_files.specs.Calls.{CallsForPart}
use Rattle.snapshot_files.specs.Parts.{part_at, part_reply}
use Rattle.store_stops.specs.Stops.{Gives}
use Rattle.core_writer.specs.Previous.{ArePieces, previous_by, shown_given}
use Rattle.core_writer.proofs.PreviousLemmas.{plain_read, plain_unread}
use Rattle.core_writer.proofs.previous_files.read_file.Goals as goal

pub returns-in-Some-clause-exact : goal.returns-in-Some-clause-exact
returns-in-Some-clause-exact g c = let d = g.D.Disk in λ h.
    subst (λ o. Gives shown_given c.read_whole.result (previous_by o (d.content c.args.disk.now) c.args.path.now c.args.offset)) (sym c.in-Some.is) (c.read_whole.ensures.exact h)

pub returns-in_err-part-clause-exact : goal.returns-in_err-part-clause-exact
returns-in_err-part-clause-exact g c = let d = g.D.Disk in λ h.
    let path : c.as_str.result.now ≡ c.args.path.now = search rules in
    let none : c.args.whole ≡ None = search rules in
    plain_unread (d.content c.args.disk.now) c.args.path.now c.args.whole c.args.offset c.in_err-part.field-0.0 _ c.from_residual.ensures.1 none
    (subst (λ p. Gives part_reply (Err c.in_err-part.field-0.0) (part_at (d.content c.args.disk.now) p c.args.offset)) path (c.in_err-part.ensures.exact h))

pub returns-clause-exact : goal.returns-clause-exact
returns-clause-exact g c = let d = g.D.Disk in λ h.
    let path : c.as_str.result.now ≡ c.args.path.now = search rules in
    let none : c.args.whole ≡ None = search rules in
    plain_read (d.content c.args.disk.now) c.args.path.now c.args.whole c.args.offset (record { part = c.in_ok-part.part; pieces = c.new.result }) (part_reply c.in_ok-part.part) none
    (subst (λ p. part_at (d.content c.args.disk.now) p c.args.offset ≡ Ok (part_reply c.in_ok-part.part)) path (c.in_ok-part.ensures.exact h)) refl c.new.ensures

pub returns-clause-pieces : goal.returns-clause-pieces
returns-clause-pieces g c = subst ArePieces (sym c.new.ensures) no_lengths

pub returns-in-Some-clause-calls : goal.returns-in-Some-clause-calls
returns-in-Some-clause-calls g c =
    subst (λ o. CallsForPart g.D.Disk c.args.disk.now c.read_whole.new.disk c.args.path.now o) (sym c.in-Some.is) c.read_whole.ensures.calls

pub returns-in_err-part-clause-calls : goal.returns-in_err-part-clause-calls
returns-in_err-part-clause-calls g c =
    let none : c.args.whole ≡ None = search rules in
    subst (λ o. CallsForPart g.D.Disk c.args.disk.now c.read_part.new.disk c.args.path.now o) (sym none) c.read_part.ensures.calls

pub returns-clause-calls : goal.returns-clause-calls
returns-clause-calls g c =
    let none : c.args.whole ≡ None = search rules in
    subst (λ o. CallsForPart g.D.Disk c.args.disk.now c.read_part.new.disk c.args.path.now o) (sym none) c.read_part.ensures.calls

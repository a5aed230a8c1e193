use Rattle.std.proofs.Common.{◌≡◌, [], Some, refl, sym, subst}
use Rattle.std.specs.FinMap.{empty}
use Rattle.backup_session.proofs.Pools.{has_lengths-all, no_lengths}
use Rattle.snapshot_files.specs.Calls.{CallsForPart}
use Rattle.snapshot_files.specs.Indexes.{lengths_from}
use Rattle.snapshot_files.specs.Parts.{part_reply}
use Rattle.snapshot_files.proofs.Archives.{lengths_fit}
use Rattle.snapshot_files.proofs.Opened.{unread_index}
use Rattle.core_writer.specs.declared.previous_files.Pieces.{Pieces}
use Rattle.core_writer.specs.Previous.{ArePieces, as_map}
use Rattle.core_writer.proofs.PreviousLemmas.{index_unread, whole_given}
use Rattle.core_writer.proofs.previous_files.read_whole.Goals as goal

pub returns-in_err-index-clause-exact : goal.returns-in_err-index-clause-exact
returns-in_err-index-clause-exact g c = let d = g.D.Disk in λ h.
    index_unread (d.content c.args.disk.now) c.args.path.now c.as_str.result.now c.args.kind c.args.offset c.in_err-index.field-0.0 _ c.from_residual.ensures.1 c.as_str.ensures.text
    (unread_index {T = Pieces} (d.content c.args.disk.now) c.as_str.result.now c.args.kind c.args.offset (λ p base entries. p.known ≡ as_map (lengths_from base entries))
    (record { known = c.new.result }) c.read_index.new.taker c.in_err-index.field-0.0 (c.in_err-index.ensures.exact h))

pub returns-clause-exact : goal.returns-clause-exact
returns-clause-exact g c = let d = g.D.Disk in λ h.
    let x = c.in_ok-index.ensures.exact h in
    whole_given (d.content c.args.disk.now) c.args.path.now c.as_str.result.now c.args.kind c.args.offset (part_reply c.in_ok-index.index.part) x.entries _ c.as_str.ensures.text x.read
    (x.hands 0 [] c.new.ensures refl)

pub returns-clause-pieces : goal.returns-clause-pieces
returns-clause-pieces g c =
    let some = c.in_ok-index.ensures.some in
    subst ArePieces (sym (some.hands 0 [] c.new.ensures refl)) (has_lengths-all empty (lengths_from 0 some.entries) no_lengths (lengths_fit 0 some.entries (some.fit).steps))

pub returns-in_err-index-clause-calls : goal.returns-in_err-index-clause-calls
returns-in_err-index-clause-calls g c =
    subst (λ p. CallsForPart g.D.Disk c.args.disk.now c.read_index.new.disk p (Some c.args.kind)) c.as_str.ensures.text c.read_index.ensures.calls

pub returns-clause-calls : goal.returns-clause-calls
returns-clause-calls g c =
    subst (λ p. CallsForPart g.D.Disk c.args.disk.now c.read_index.new.disk p (Some c.args.kind)) c.as_str.ensures.text c.read_index.ensures.calls

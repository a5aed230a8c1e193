use Rattle.std.proofs.Common.{◌≡◌, ◌≤◌, length, take}
use denote.Text.{Utf8}
use denote.Shadow.{shadow}
use Rattle.std.specs.FinMap.{get, empty}
use Rattle.disk_trait.specs.Replay.{played}
use Rattle.disk_trait.proofs.step_log.find.Given as goal

abbrev pub invariant-loop-left : goal.invariant-loop-left
invariant-loop-left l = shadow (Utf8 l.wanted) × (l.left ≤ length l.log) × (get (played empty l.log) l.fn.name ≡ get (played empty (take l.left l.log)) l.wanted)

abbrev pub decreases-loop-left : goal.decreases-loop-left
decreases-loop-left l = l.left

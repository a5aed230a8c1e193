use Rattle.std.proofs.Common.{◌≡◌, []}
use Rattle.left_right.specs.Sides.{view}
use Rattle.view_tests.proofs.rows.rows_come_and_go.Given as goal

abbrev pub invariant-loop-half : goal.invariant-loop-half
invariant-loop-half g l = view l.poster.writer.desk.place ≡ []

abbrev pub invariant-loop-third : goal.invariant-loop-third
invariant-loop-third g l = view l.poster.writer.desk.place ≡ []

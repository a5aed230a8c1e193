use Rattle.std.proofs.Common.{[]}
use Rattle.view_tests.proofs.rows.show.Given as goal

abbrev pub ghost-post : goal.ghost-post
ghost-post g a = []

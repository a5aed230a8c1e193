use Rattle.std.proofs.Common.{◌∙◌, ap}
use Rattle.shared_store.specs.Views.{rows_of}
use Rattle.shared_store.proofs.Coming.{comes_first}
use Rattle.shared_store.proofs.board.make_board.Goals as goal

pub make-requires-clause-first : goal.make-requires-clause-first
make-requires-clause-first g c = record {
  core = c.args.core.now;
  comes = comes_first g.D.Disk g.E.Disk g.C.Clock g.N.Origin.is c.args.core.now c.requires.origin c.requires.fresh;
  rows_are = c.in_ok-listed.ensures ∙ ap rows_of c.as_slice.ensures.listed;
}

use Rattle.std.proofs.Common.{sym, subst}
use Rattle.backup_session.specs.Kept.{Ascends}
use Rattle.backup_session.proofs.FileLemmas.{ascends-remove}
use Rattle.backup_session.proofs.state.State.back.Goals as goal

pub invariant_of-self : goal.invariant_of-self
invariant_of-self c = record {
  key = c.self.invariant.key;
  lengths = c.self.invariant.lengths;
  begun = c.self.invariant.begun;
  files = subst Ascends (sym c.remove.ensures.items) (ascends-remove c.self.inside.files.items c.args.place c.self.invariant.files);
  manifest = c.self.invariant.manifest;
}

use Rattle.std.proofs.Common.{length, ap, refl}
use Rattle.pull_steps.proofs.Placed.{map_err, map_ok, noted, same_sent}
use Rattle.pull_steps.proofs.stages.AtEntry.note.Goals as goal

pub returns : goal.returns
returns c =
    let a = c.args.self.now in
    record {
      err = map_err c.add.result (same_sent a c.add.new.self) c.add.ensures.err;
      place = refl;
      course = refl;
      index = refl;
      sent = λ e later left. map_ok c.add.result (λ added. noted a c.args.blob.now c.add.new.self c.index.result.now _ c.index.ensures added (ap length c.as_slice.ensures) e later left) c.add.ensures.ok;
    }

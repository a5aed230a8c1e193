use Rattle.std.proofs.Common.{◌/◌, ◌^◌}
use Rattle.hash_states.proofs.LaneLemmas.{lane-same}
use Rattle.hash_states.proofs.word.U32x4Word.shift.Goals as goal

pub returns : goal.returns
returns c j lt = lane-same (λ n k. n / 2 ^ k) c.args.self c.args.count j c.fits-self.0 lt

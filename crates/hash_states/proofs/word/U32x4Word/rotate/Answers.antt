use Rattle.hash_states.proofs.LaneLemmas.{lane-rotated}
use Rattle.hash_states.proofs.word.U32x4Word.rotate.Goals as goal

pub returns-clause-value : goal.returns-clause-value
returns-clause-value c j lt =
    lane-rotated c.args.self c.args.count j c.requires.low c.requires.high c.fits-self.0 lt

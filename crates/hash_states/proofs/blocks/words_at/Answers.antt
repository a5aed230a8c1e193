use Rattle.std.proofs.Common.{rules, ◌*◌, ◌∙◌, arith, below_more}
use Rattle.std.proofs.lemmas.List.{get_or-set_same, get_or-set_other}
use Rattle.hash_states.proofs.Words.{word_behind}
use Rattle.hash_states.proofs.blocks.words_at.Goals as goal

pub words-preserved : goal.words-preserved
words-preserved c = (
  search rules,
  below_more _ _
      (λ k below. get_or-set_other c.words.words c.words.i k c.word_at.result 0 (omega arith) ∙ c.words.invariant.1 k below)
      (get_or-set_same c.words.words c.words.i c.word_at.result 0 (omega arith)
      ∙ word_behind c.args.bytes.now c.args.at (4 * c.words.i) _ _ c.word_at.ensures (omega arith)),
)

pub returns : goal.returns
returns c = λ k below. c.words.invariant.1 k (omega arith)

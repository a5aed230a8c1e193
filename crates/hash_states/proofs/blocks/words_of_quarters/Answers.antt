use Rattle.std.proofs.Common.{rules, ◌≡◌, ℕ, ◌<◌, ◌+◌, ◌*◌, List, [], ◌∷◌, drop, slice_index, sym, ap, ◌∙◌, arith, below_more}
use Rattle.std.proofs.lemmas.List.{get_or-set_same, get_or-set_other}
use Rattle.sha2.specs.Sha256.{word_at}
use Rattle.hash_states.proofs.FourLanes.{each_lane}
use Rattle.hash_states.proofs.LaneLemmas.{lane_of-at}
use Rattle.hash_states.proofs.Words.{word_behind}
use Rattle.hash_states.proofs.blocks.words_of_quarters.Goals as goal

pub words-preserved : goal.words-preserved
words-preserved c =
    let i = c.words.i in
    let words = c.words.words in
    let bytes = c.args.bytes.now in
    let len = c.args.len in
    let next = c.word_at.result ∷ c.word_at-in-words.result ∷ c.word_at-in-words-2.result ∷ c.word_at-in-words-3.result ∷ [] in
    let read : (j : ℕ) → j < 4 → slice_index next j ≡ word_at (drop (j * len + c.args.at) bytes) (4 * i) =
    each_lane (λ j. slice_index next j ≡ word_at (drop (j * len + c.args.at) bytes) (4 * i)) (
      word_behind bytes (0 * len + c.args.at) (4 * i) _ _ c.word_at.ensures (omega arith),
      word_behind bytes (1 * len + c.args.at) (4 * i) _ _ c.word_at-in-words.ensures (omega arith),
      word_behind bytes (2 * len + c.args.at) (4 * i) _ _ c.word_at-in-words-2.ensures (omega arith),
      word_behind bytes (3 * len + c.args.at) (4 * i) _ _ c.word_at-in-words-3.ensures (omega arith),
    ) in (
      search rules,
      λ j lane. below_more _ _
          (λ k below.
          ap (λ (w : List ℕ). slice_index w j) (get_or-set_other words i k next [] (omega arith)) ∙ c.words.invariant.1 j lane k below)
          (ap (λ (w : List ℕ). slice_index w j) (get_or-set_same words i next [] (omega arith)) ∙ read j lane),
    )

pub returns : goal.returns
returns c = λ j lane k below.
    sym (lane_of-at slice_index j c.words.words k [] (omega (arith, c.words.invariant.0))) ∙ c.words.invariant.1 j lane k (omega arith)

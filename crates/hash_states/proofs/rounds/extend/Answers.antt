use Rattle.std.proofs.Common.{◌≡◌, ℕ, ◌+◌, ◌%◌, ◌∙◌, List, slice_set, ap, arith, refl}
use Rattle.std.proofs.lemmas.List.{map-set}
use Rattle.hash_states.specs.Lanes.{lane_of}
use Rattle.hash_states.proofs.LaneLemmas.{lane_of-at}
use Rattle.hash_states.proofs.rounds.extend.Goals as goal

pub returns : goal.returns
returns g c j lt =
    let i : ℕ = c.args.i in
    let words : List ℕ = lane_of g.W.Word.lane j c.args.words.now in
    let place : i % 16 ≡ i = omega arith in
    let at = lane_of-at g.W.Word.lane j c.args.words.now in
    map-set (λ w. g.W.Word.lane w j) c.args.words.now i c.add-3.result ∙ ap (slice_set words i)
    (rw (
      place,
      c.add-3.ensures j lt,
      c.add-2.ensures j lt,
      c.add.ensures j lt,
      c.small_sigma0.ensures j lt,
      c.small_sigma1.ensures j lt,
      at i c.index-words-i-4.result (omega arith),
      at ((i + 1) % 16) c.index-words-i-3.result (omega arith),
      at ((i + 9) % 16) c.index-words-i-2.result (omega arith),
      at ((i + 14) % 16) c.index-words-i.result (omega arith),
    )
    refl)

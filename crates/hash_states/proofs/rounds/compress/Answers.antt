use Rattle.std.proofs.Common.{◌≡◌, ℕ, ◌∙◌, List, length, ap, arith, refl}
use Rattle.std.proofs.lemmas.List.{length-map}
use Rattle.sha2.specs.Sha256.{add_state, compress, rounds}
use Rattle.sha2.proofs.Schedule256.{IsWindow_first}
use Rattle.hash_states.specs.Lanes.{lane_of}
use Rattle.hash_states.proofs.rounds.compress.Goals as goal

pub returns : goal.returns
unfolding compress rounds
returns g c j lt block are =
    let h : List ℕ = lane_of g.W.Word.lane j c.args.value in
    let words : List ℕ = lane_of g.W.Word.lane j c.args.words in
    let long : length words ≡ 16 = length-map c.args.words (λ w. g.W.Word.lane w j) ∙ omega arith in
    let words0 = IsWindow_first block words long are in
    let words1 = c.next_words-words.ensures j lt block 1 (omega arith) (omega arith) words0 in
    let words2 = c.next_words-words-2.ensures j lt block 2 (omega arith) (omega arith) words1 in
    let words3 = c.next_words-words-3.ensures j lt block 3 (omega arith) (omega arith) words2 in
    let turn0 = c.sixteen_rounds-v.ensures j lt block h words0 refl in
    let turn1 = c.sixteen_rounds-v-2.ensures j lt block h words1 turn0 in
    let turn2 = c.sixteen_rounds-v-3.ensures j lt block h words2 turn1 in
    let turn3 = c.sixteen_rounds-v-4.ensures j lt block h words3 turn2 in
    c.added.ensures j lt ∙ ap (add_state h) turn3

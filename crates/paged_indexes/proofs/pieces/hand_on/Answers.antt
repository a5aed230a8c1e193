use Rattle.std.proofs.Common.{◌≡◌, ◌+◌, ◌-◌, min, List, ℕ, ◌∷◌, [], length, refl, take, drop, sym, ap, ap₂, subst, ◌∙◌, rules}
use Rattle.store_files.specs.Cells.{cells}
use Rattle.dynamic_index.specs.Pieces.{last_end}
use Rattle.paged_indexes.specs.Fixed.{Cuts, ends_in, fixed_ends_from}
use Rattle.paged_indexes.specs.Handing.{IsStep}
use Rattle.paged_indexes.proofs.Cutting.{cells_more, cells_none, end_of, one_less, one_step}
use Rattle.paged_indexes.proofs.Handed.{rest_less, rest_none, rest_whole}
use Rattle.paged_indexes.proofs.pieces.hand_on.Goals as goal

pub loop-rest-init : goal.loop-rest-init
loop-rest-init g c = record {
  cuts = c.requires;
  end = refl;
  hands = rest_whole g.T.TakesEntries.taken c.args.start (ends_in c.args.cut c.args.start c.args.bytes.now) c.args.taker.now;
}

pub take-requires : goal.take-requires
take-requires g c =
    let rest = c.loop-rest.rest.now in
    let cut = c.args.cut in
    let reached = c.loop-rest.reached in
    let least : c.min.result ≡ min cut.chunk_size (cut.size - reached) = search rules in
    let k = length (cells 32 (drop 32 rest)) in
    let more = ap length (cells_more rest c.loop-rest-test.true) in
    subst (λ n. IsStep reached (reached + n)) (sym least) (one_step cut reached k (subst (Cuts cut reached) more c.loop-rest.invariant.cuts))

pub loop-rest-preserved : goal.loop-rest-preserved
loop-rest-preserved g c =
    let rest = c.loop-rest.rest.now in
    let cut = c.args.cut in
    let reached = c.loop-rest.reached in
    let next = end_of cut reached in
    let end = reached + c.min.result in
    let least : c.min.result ≡ min cut.chunk_size (cut.size - reached) = search rules in
    let same : end ≡ next = ap (λ n. reached + n) least in
    let k = length (cells 32 (drop 32 rest)) in
    let more = cells_more rest c.loop-rest-test.true in
    let back = c.split_at.ensures.back in
    let cuts = one_less cut reached k (subst (Cuts cut reached) (ap length more) c.loop-rest.invariant.cuts) in
    let digest = c.digest_in-digest.ensures ∙ c.split_at.ensures.front in
    let whole : ends_in cut reached rest ≡ record { end = next; digest = take 32 rest } ∷ ends_in cut next (drop 32 rest) = ap (fixed_ends_from cut.size cut.chunk_size reached) more in
    record {
      cuts = subst (λ (b : List ℕ). Cuts cut end (length (cells 32 b))) (sym back) (subst (λ n. Cuts cut n k) (sym same) cuts);
      end = ap (λ n. last_end n (ends_in cut n c.split_at.result.1.now)) same ∙ ap (λ b. last_end next (ends_in cut next b)) back
          ∙ sym (ap (last_end reached) whole) ∙ c.loop-rest.invariant.end;
      hands = rest_less g.T.TakesEntries.taken c.args.start (ends_in cut c.args.start c.args.bytes.now) c.args.taker.now reached end
          (ends_in cut reached rest) (record { end = end; digest = c.digest_in-digest.result.0 } ∷ []) (ends_in cut end c.split_at.result.1.now) c.loop-rest.taker c.take.new.self
          (whole ∙ ap (λ n. record { end = n; digest = take 32 rest } ∷ ends_in cut n (drop 32 rest)) (sym same)
          ∙ ap₂ (λ (d : List ℕ) (b : List ℕ). record { end = end; digest = d } ∷ ends_in cut end b) (sym digest) (sym back)) refl
          c.loop-rest.invariant.hands c.in_ok-take.ensures;
    }

pub returns-clause-end : goal.returns-clause-end
returns-clause-end g c =
    let cut = c.args.cut in
    let reached = c.loop-rest.reached in
    sym (ap (λ ds. last_end reached (fixed_ends_from cut.size cut.chunk_size reached ds)) (cells_none c.loop-rest.rest.now c.loop-rest-test.false)) ∙ c.loop-rest.invariant.end

pub returns-clause-hands : goal.returns-clause-hands
returns-clause-hands g c =
    let cut = c.args.cut in
    let reached = c.loop-rest.reached in
    rest_none g.T.TakesEntries.taken c.args.start (ends_in cut c.args.start c.args.bytes.now) c.args.taker.now reached (ends_in cut reached c.loop-rest.rest.now) c.loop-rest.taker
    (ap (fixed_ends_from cut.size cut.chunk_size reached) (cells_none c.loop-rest.rest.now c.loop-rest-test.false)) c.loop-rest.invariant.hands

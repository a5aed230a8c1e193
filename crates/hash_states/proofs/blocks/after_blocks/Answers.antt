use Rattle.std.proofs.Common.{◌≡◌, ◌*◌, ◌/◌, List, ℕ, length, refl, sym, ap, ◌∙◌, arith}
use Rattle.std.proofs.lemmas.List.{map-id}
use Rattle.sha2.specs.Sha256.{compress, hash_after}
use Rattle.hash_states.proofs.Words.{next_block}
use Rattle.hash_states.proofs.blocks.after_blocks.Goals as goal

pub blocks-2-init : goal.blocks-2-init
unfolding hash_after
blocks-2-init c = refl

pub blocks-2-preserved : goal.blocks-2-preserved
blocks-2-preserved c =
    next_block c.args.value c.args.bytes.now c.blocks-2.value c.words_at.result c.compress-next.result
    c.blocks-2.i (64 * c.blocks-2.i) c.blocks-2.invariant c.words_at.ensures (omega arith)
    (λ block are.
    sym (map-id c.compress-next.result)
    ∙ c.compress-next.ensures 0 (omega arith) block (rw (map-id c.words_at.result) are)
    ∙ ap (λ (value : List ℕ). compress value block) (map-id c.blocks-2.value))

pub returns : goal.returns
returns c =
    let done : c.blocks-2.i ≡ length c.args.bytes.now / 64 = omega arith in
    rw done at c.blocks-2.invariant

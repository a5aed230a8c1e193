use Rattle.std.proofs.Common.{◌≡◌, ◌+◌, ◌-◌, ◌*◌, ◌/◌, ◌%◌, ◌^◌, length, take, drop, refl, ap, ◌∙◌, arith}
use Rattle.std.proofs.lemmas.List.{take_rest}
use Rattle.hash_states.specs.declared.state.HashState.TheInside.{Inside}
use Rattle.hash_states.specs.States.{State, absorb}
use Rattle.hash_states.proofs.Updates.{IsAtBlock, at_block-fill, at_block-none, update_full, update_short}
use Rattle.hash_states.proofs.state.HashState.update.Goals as goal
use Rattle.hash_states.proofs.state.HashState.update.Goals.{then-held-gt0, else-held-gt0}

pub returns-then-bytes-space : goal.returns-then-bytes-space
returns-then-bytes-space c =
    let old = c.self.inside in
    update_short old.value old.left c.args.bytes.now old.total _ _ _ c.self.told.1 refl (omega arith)
    c.copy_from_slice.ensures.after
    ∙ ap (λ (s : State). absorb s c.args.bytes.now) c.self.view_is

pub returns : goal.returns
returns c =
    let old = c.self.inside in
    let bytes = c.args.bytes.now in
    let now = c.if-held-gt0.self-inside in
    let start = c.if-held-gt0.start in
    let at : IsAtBlock old.value old.left bytes old.total now.value start × (now.total ≡ (old.total + length bytes) % 2 ^ 64) =
    elim c.if-held-gt0.branch [
      | then-held-gt0 w ↦ (
        at_block-fill old.value old.left bytes old.total _ _ start _ _ c.self.told.1 refl w.start-is (omega (arith, w.start-is))
            (omega (arith, w.start-is)) (rw w.start-is w.copy_from_slice-then-held-gt0.ensures.after)
            (ap (λ (r : Inside). r.value) w.self-inside-is ∙ w.after_blocks-self-inside.ensures),
        ap (λ (r : Inside). r.total) w.self-inside-is,
      )
      | else-held-gt0 w ↦ (
        at_block-none old.value old.left bytes old.total start _ w.if-held-gt0.false w.start-is
            (ap (λ (r : Inside). r.value) w.self-inside-is),
        ap (λ (r : Inside). r.total) w.self-inside-is,
      )
    ] in
    let rest = take (length bytes - start) (drop start bytes) in
    update_full old.value old.left bytes old.total now.value rest _ _ _ start _ c.self.told.1 at.0 at.1 (take_rest bytes start)
    c.after_blocks-self-inside-2.ensures
    (c.copy_from_slice-2.ensures.after ∙ take_rest rest (length rest / 64 * 64))
    ∙ ap (λ (s : State). absorb s bytes) c.self.view_is

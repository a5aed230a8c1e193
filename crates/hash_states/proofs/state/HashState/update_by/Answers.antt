use Rattle.std.proofs.Common.{◌≡◌, ℕ, ◌∙◌, ◌+◌, ◌-◌, ◌*◌, ◌/◌, ◌++◌, length, take, drop, arith, ap, ap₂, sym}
use Rattle.std.proofs.lemmas.List.{take_rest, take-append-drop}
use Rattle.sha2.specs.Sha256.{hash_after}
use Rattle.hash_states.specs.States.{State, absorb}
use Rattle.hash_states.proofs.States.{absorb_more}
use Rattle.hash_states.proofs.Updates.{update_known}
use Rattle.hash_states.proofs.state.HashState.update_by.Goals as goal

pub returns : goal.returns
returns c =
    let old = c.self-2.inside in
    let bytes = c.args.bytes.now in
    let hashed : ℕ = 4 * c.quarter_len-hashed.result in
    let n : ℕ = 4 * (length bytes / 256) in
    let same = c.self.view_is ∙ sym c.self-2.view_is in
    let total : c.self.inside.total ≡ old.total = ap (λ (s : State). s.total) same in
    let quarters : length bytes / 256 * (3 + 1) ≡ n = omega arith in
    let noted = c.follow.ensures.only c.if-not-follow.false 3 (omega arith) ∙ ap (hash_after _ bytes) quarters ∙ ap (λ (s : State). hash_after s.hash bytes n) same in
    let count : n * 64 ≡ hashed = omega arith in
    let known = update_known old.value old.left bytes old.total _ n (omega arith) (omega arith) noted in
    c.update-2.ensures
    ∙ ap (λ (s : State). absorb s (take (length bytes - hashed) (drop hashed bytes)))
    (rw count at known)
    ∙ absorb_more _ (take hashed bytes) (take (length bytes - hashed) (drop hashed bytes))
    ∙ ap₂ absorb c.self-2.view_is
    (ap (λ l. take hashed bytes ++ l) (take_rest bytes hashed) ∙ take-append-drop hashed bytes)

use Rattle.std.proofs.Common.{ℕ, ◌/◌, List, ◌++◌, length, ap, ◌∙◌}
use Rattle.sha2.specs.Sha256.{digest_bytes, hash_after, padding}
use Rattle.hash_states.specs.States.{State, digest_of}
use Rattle.hash_states.proofs.state.HashState.digest.Goals as goal

pub returns : goal.returns
unfolding digest_of
returns c =
    let now = c.args.self.now in
    let end : List ℕ = now.left ++ padding now.total in
    c.bytes_of.ensures
    ∙ ap (λ h. digest_bytes h 8)
    (c.after_blocks.ensures ∙ ap (λ l. hash_after c.self.inside.value l (length l / 64)) c.padded-len.ensures.value
    ∙ ap (λ (s : State). hash_after s.hash end (length end / 64)) c.self.view_is)

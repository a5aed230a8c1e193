use Rattle.std.proofs.Common.{◌≡◌, ap, ◌∙◌, None, take, length, arith}
use Rattle.std.specs.Prelude.{min}
use Rattle.std.proofs.lemmas.List.{take_min}
use Rattle.plain_snapshots.proofs.PullLemmas.{key_of_last, first_told}
use Rattle.plain_snapshots.proofs.pulling.newest_told.Goals as goal

pub returns : goal.returns
returns c =
    let xs = c.args.members.now in
    let few : c.min.result ≡ min 4096 (length xs) = omega (arith, c.min.ensures) in
    c.last_key.ensures ∙ ap (λ n. key_of_last None (take n xs)) few ∙ ap (key_of_last None) (take_min 4096 xs) ∙ first_told xs 4096

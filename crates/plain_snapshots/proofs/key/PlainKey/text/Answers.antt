use Rattle.std.proofs.Common.{◌≡◌, ◌<◌, ℕ, List, length, sym, subst, rules}
use Rattle.store_types.specs.Names.{key_text}
use Rattle.plain_snapshots.proofs.KeyLength.{key_short}
use Rattle.plain_snapshots.proofs.key.PlainKey.text.Goals as goal

pub returns-clause-short : goal.returns-clause-short
returns-clause-short c =
    let is : c.from_vec.result ≡ key_text c.self.inside.key = search rules in
    subst (λ (t : List ℕ). length t < 256) (sym is) (key_short c.self.inside.key c.self.invariant)

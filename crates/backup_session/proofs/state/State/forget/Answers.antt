use Rattle.std.proofs.Common.{◌∙◌, sym, ap, subst}
use Rattle.std.specs.FinMap.{entries}
use Rattle.backup_session.specs.Session.{Pool, Writing, without_length}
use Rattle.backup_session.specs.Kept.{opens_of, HasLengths}
use Rattle.backup_session.proofs.Pools.{has_lengths-remove, without_length-is}
use Rattle.backup_session.proofs.state.State.forget.Goals as goal

pub invariant_of-self : goal.invariant_of-self
invariant_of-self c = record {
  key = c.self.invariant.key;
  lengths = subst (λ m. HasLengths (entries m)) (sym c.remove.ensures) (has_lengths-remove c.self.inside.pool c.args.digest.now.0 c.self.invariant.lengths);
  begun = c.self.invariant.begun;
  files = c.self.invariant.files;
  manifest = c.self.invariant.manifest;
}

pub returns : goal.returns
returns c =
    let s = c.self.inside in
    let digest = c.args.digest.now.0 in
    let with_pool : Pool → Writing = λ p. record { key = s.key; start = s.start; base = s.base; pool = p; begun = opens_of s.begun.items; files = s.files.items; manifest = s.manifest } in
    ap (λ m. with_pool (entries m)) c.remove.ensures ∙ ap with_pool (without_length-is s.pool digest)
    ∙ ap (λ (w : Writing). record w { pool = without_length w.pool digest }) c.self.view_is

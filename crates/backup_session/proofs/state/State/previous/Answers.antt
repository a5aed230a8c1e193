use Rattle.std.proofs.Common.{ap, ◌∙◌}
use Rattle.std.specs.FinMap.{entries}
use Rattle.std.proofs.lemmas.Result.{on_ok_weaker}
use Rattle.backup_session.specs.Session.{Pool, Writing}
use Rattle.backup_session.specs.Steps as steps
use Rattle.backup_session.specs.Kept.{opens_of}
use Rattle.backup_session.proofs.Pools.{entries_all}
use Rattle.backup_session.proofs.Lifting.{all_joined}
use Rattle.backup_session.proofs.state.State.previous.Goals as goal

pub invariant_of-self : goal.invariant_of-self
invariant_of-self c = record {
  key = c.self.invariant.key;
  lengths = all_joined c.self.inside.pool c.join.new.self c.args.pieces c.self.invariant.lengths c.requires c.join.result c.join.ensures.ok c.join.ensures.err;
  begun = c.self.invariant.begun;
  files = c.self.invariant.files;
  manifest = c.self.invariant.manifest;
}

pub returns-clause-ok : goal.returns-clause-ok
returns-clause-ok c =
    let s = c.self.inside in
    let with_pool : Pool → Writing = λ p. record { key = s.key; start = s.start; base = s.base; pool = p; begun = opens_of s.begun.items; files = s.files.items; manifest = s.manifest } in
    on_ok_weaker c.join.result
    (λ added. ap (λ m. with_pool (entries m)) added ∙ ap with_pool (entries_all s.pool (entries c.args.pieces)) ∙ ap (λ w. steps.previous w c.args.pieces) c.self.view_is)
    c.join.ensures.ok

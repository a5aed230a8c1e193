use Rattle.std.proofs.Common.{sym, ap, ◌∙◌}
use Rattle.std.specs.FinMap.{entries}
use Rattle.std.proofs.lemmas.Result.{on_ok_weaker}
use Rattle.backup_session.specs.Session.{Pool, Writing}
use Rattle.backup_session.specs.Steps as steps
use Rattle.backup_session.specs.Kept.{opens_of}
use Rattle.backup_session.proofs.Pools.{with_length-there, with_length-new}
use Rattle.backup_session.proofs.Lifting.{added_lengths}
use Rattle.backup_session.proofs.state.State.chunk.Goals as goal

pub invariant_of-self : goal.invariant_of-self
invariant_of-self c = record {
  key = c.self.invariant.key;
  lengths = added_lengths c.self.inside.pool c.add.new.self c.args.digest.now.0 c.args.length c.self.invariant.lengths c.requires c.add.result c.add.ensures.ok c.add.ensures.err;
  begun = c.self.invariant.begun;
  files = c.self.invariant.files;
  manifest = c.self.invariant.manifest;
}

pub returns-in-None-clause-ok : goal.returns-in-None-clause-ok
returns-in-None-clause-ok c =
    let s = c.self.inside in
    let with_pool : Pool → Writing = λ p. record { key = s.key; start = s.start; base = s.base; pool = p; begun = opens_of s.begun.items; files = s.files.items; manifest = s.manifest } in
    on_ok_weaker c.add.result
    (λ added. ap (λ m. with_pool (entries m)) added
    ∙ ap with_pool (sym (with_length-new s.pool c.args.digest.now.0 c.args.length (sym c.in-None.ensures)))
    ∙ ap (λ w. steps.chunk w c.args.digest.now.0 c.args.length) c.self.view_is)
    c.add.ensures.ok

pub returns-in-Some-clause-ok : goal.returns-in-Some-clause-ok
returns-in-Some-clause-ok c =
    let s = c.self.inside in
    let with_pool : Pool → Writing = λ p. record { key = s.key; start = s.start; base = s.base; pool = p; begun = opens_of s.begun.items; files = s.files.items; manifest = s.manifest } in
    sym c.self.view_is
    ∙ ap with_pool (sym (with_length-there s.pool c.args.digest.now.0 c.args.length _ (sym c.in-Some.ensures)))
    ∙ ap (λ w. steps.chunk w c.args.digest.now.0 c.args.length) c.self.view_is

use Rattle.std.proofs.Common.{List, [], None, length, sym, subst, ap, ◌∙◌, arith}
use Rattle.std.specs.FinMap.{entries}
use Rattle.manifest.specs.declared.facts.FileFact.{FileFact}
use Rattle.backup_session.specs.declared.state.Begun.{Begun}
use Rattle.backup_session.specs.Session.{Pool, Open, Writing}
use Rattle.backup_session.specs.Kept.{HasLengths, Ascends, opens_of}
use Rattle.backup_session.proofs.Pools.{entries-empty, has_lengths-empty}
use Rattle.backup_session.proofs.state.State.new.Goals as goal

pub invariant_of-result : goal.invariant_of-result
invariant_of-result c = record {
  key = c.requires;
  lengths = subst HasLengths (sym (ap entries c.new.ensures ∙ entries-empty)) has_lengths-empty;
  begun = omega (arith, ap (λ (bs : List Begun). length (opens_of bs)) c.new-2.ensures.items);
  files = subst Ascends (sym c.new-3.ensures.items) tt;
  manifest = tt;
}

pub returns : goal.returns
returns c =
    let made : Pool → List Open → List FileFact → Writing = λ pool begun files.
    record { key = c.args.key; start = c.args.start; base = c.args.base; pool = pool; begun = begun; files = files; manifest = None } in
    ap (λ p. made p (opens_of c.new-2.result.items) c.new-3.result.items) (ap entries c.new.ensures ∙ entries-empty)
    ∙ ap (λ bs. made [] (opens_of bs) c.new-3.result.items) c.new-2.ensures.items
    ∙ ap (λ fs. made [] [] fs) c.new-3.ensures.items

use Rattle.std.proofs.Common.{◌++◌, ◌∷◌, []}
use Rattle.std.proofs.lemmas.List.Elements.{All-push, All-same}
use Rattle.pull_steps.specs.States.{IsShort}
use Rattle.pull_steps.proofs.course.Course.finished.Goals as goal

pub next_snapshot-requires-clause-pulled : goal.next_snapshot-requires-clause-pulled
next_snapshot-requires-clause-pulled c =
    let s = c.args.self in
    All-same IsShort c.push_reserved.new.self.items (s.pulled.items ++ s.snapshot ∷ []) c.push_reserved.ensures.items
    (All-push IsShort s.pulled.items s.snapshot c.requires.texts.2 c.requires.texts.0)

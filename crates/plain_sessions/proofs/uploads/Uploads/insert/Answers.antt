use Rattle.plain_sessions.proofs.Standing.{stand-after}
use Rattle.plain_sessions.proofs.uploads.Uploads.insert.Goals as goal

pub invariant_of-self : goal.invariant_of-self
invariant_of-self c =
    stand-after c.insert_file.result c.args.file c.self.inside.items.items c.insert_file.new.files.items c.self.invariant c.insert_file.ensures.ok c.insert_file.ensures.err

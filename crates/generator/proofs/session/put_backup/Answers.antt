use Rattle.std.proofs.Common.{◌++◌}
use Rattle.generator.specs.Sessions.{opening, chunks, closing, backup}
use Rattle.generator.proofs.SessionLemmas.{both_put}
use Rattle.generator.proofs.session.put_backup.Goals as goal

pub returns-clause-puts : goal.returns-clause-puts
unfolding backup
returns-clause-puts c =
    let old = c.args.input.now.items in
    let k = c.args.k in
    let j = c.args.j in
    let two = both_put old _ c.put_chunks.new.input.items (opening k j) (chunks k j) c.in_ok-put_opening.ensures c.in_ok-made.ensures.puts in
    both_put old _ c.put_closing.new.input.items (opening k j ++ chunks k j) (closing k j) two c.in_ok-put_closing.ensures

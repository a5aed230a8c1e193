use Rattle.std.proofs.Common.{◌≡◌, rules}
use Rattle.pbs_server.specs.Generating.{still}
use Rattle.pbs_server.proofs.Generated.{few_ports, generated_of}
use Rattle.pbs_server.proofs.generating.serve_made.Goals as goal

pub run_ports-requires-clause-few : goal.run_ports-requires-clause-few
run_ports-requires-clause-few g c κs lives = few_ports c.args._last c.args.ports.now c.requires.made c.requires.count

pub returns-in-Ok-clause-leaves : goal.returns-in-Ok-clause-leaves
returns-in-Ok-clause-leaves g c =
    let stands : c.new-clock.result ≡ still = search rules in
    generated_of g.D.Disk g.E.Disk g.J.Sink c.args._last c.args.disk c.args.remote c.in-Ok.ended c.args.ports.now c.run_ports.new.ports c.new-clock.result c.args.journal.now c.tell_ended.new.journal
    c.tell_ended.result c.requires.made stands c.in-Ok.ensures.ended c.tell_ended.ensures

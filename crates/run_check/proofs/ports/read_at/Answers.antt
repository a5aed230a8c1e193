use Rattle.std.proofs.Common.{refl}
use Rattle.std.specs.Prelude.{slice_index_or}
use Rattle.std.proofs.lemmas.List.{get_or_default}
use Rattle.replay.specs.Reading.{IsAll}
use Rattle.run_check.proofs.PortLemmas.{reads_at}
use Rattle.run_check.proofs.ports.read_at.Goals as goal

pub returns : goal.returns
returns g c =
    let port = slice_index_or c.args.ports.now c.args.place c.index-ports-place.result in
    reads_at g.S.Source c.args.ports.now c.args.place port (record { source = c.read_out.new.source; sink = port.sink }) IsAll c.read_out.result
    c.requires (get_or_default c.args.ports.now c.args.place c.index-ports-place.result port c.requires) refl c.read_out.ensures.bytes c.read_out.ensures.cause

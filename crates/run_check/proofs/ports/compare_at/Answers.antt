use Rattle.std.proofs.Common.{refl}
use Rattle.std.specs.Prelude.{slice_index_or}
use Rattle.std.proofs.lemmas.List.{get_or_default}
use Rattle.replay.specs.Comparison.{Takes}
use Rattle.run_check.proofs.PortLemmas.{reads_at}
use Rattle.run_check.proofs.ports.compare_at.Goals as goal

pub returns : goal.returns
returns g c =
    let port = slice_index_or c.args.ports.now c.args.place c.index-ports-place.result in
    reads_at g.S.Source c.args.ports.now c.args.place port (record { source = c.take_out.new.source; sink = port.sink }) (λ kept told. Takes c.args.comparison.now c.take_out.new.self kept) c.take_out.result
    c.requires.place (get_or_default c.args.ports.now c.args.place c.index-ports-place.result port c.requires.place) refl c.take_out.ensures.out c.take_out.ensures.cause

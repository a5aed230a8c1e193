use Rattle.std.proofs.Common.{refl}
use Rattle.store_history.specs.declared.act.Act.TheVariants.{Chunk}
use Rattle.store_stops.specs.declared.stop.Stop.TheVariants.{NoMemory}
use Rattle.core_state.specs.declared.upkeep.Upkeep.{Upkeep}
use Rattle.core_state.proofs.Commanding.{same_kept, short_does, short_leaves}
use Rattle.core_writer.proofs.TouchLemmas.{chunk_touches, false_true, stopped_touches}
use Rattle.core_writer.proofs.touching.chunk_touched.Goals as goal

-- ---- memory is wanting for the entry

pub returns-in_err-made-clause-does : goal.returns-in_err-made-clause-does
returns-in_err-made-clause-does g c =
    short_does g.D.Disk c.args.parts.now c.args.parts.now c.args.at (Chunk c.args.digest.now c.args.checked) _ c.from_residual.ensures.1 refl (same_kept c.args.parts.now)

pub returns-in_err-made-clause-leaves : goal.returns-in_err-made-clause-leaves
returns-in_err-made-clause-leaves g c =
    short_leaves g.D.Disk c.args.parts.now c.args.parts.now c.args.at (Chunk c.args.digest.now c.args.checked) _ c.from_residual.ensures.1 refl (same_kept c.args.parts.now)
    (λ closing. false_true closing)

pub returns-in_err-made-clause-touches : goal.returns-in_err-made-clause-touches
returns-in_err-made-clause-touches g c =
    let old = c.args.upkeep.now in
    let new : Upkeep = record old { book = c.make_entry.new.book } in
    stopped_touches old new c.args.at (Chunk c.args.digest.now c.args.checked) NoMemory c.from_residual.result c.from_residual.ensures.1 refl c.in_err-made.ensures.err

-- ---- the entry is there

pub returns-clause-touches : goal.returns-clause-touches
returns-clause-touches g c =
    let old = c.args.upkeep.now in
    let new : Upkeep = record old { book = c.end_entry.new.book } in
    let does = c.chunk-ended.ensures.does in
    chunk_touches old new c.make_entry.new.book c.args.at c.args.digest.now c.args.checked c.chunk-ended.result c.is_ok.result c.in_ok-made.made
    does.answers does.plain refl c.is_ok.ensures.value c.in_ok-made.ensures.ok c.end_entry.ensures

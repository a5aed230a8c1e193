use Rattle.std.proofs.Common.{◌-◌, sym, ap, ◌∙◌}
use Rattle.std.specs.FinMap.{empty}
use Rattle.std.proofs.lemmas.Result.{on_ok_weaker}
use Rattle.known_chunks.specs.Lengths.{Lengths, with_length}
use Rattle.known_chunks.proofs.Pools.{listed_more}
use Rattle.dynamic_index.specs.Pieces.{last_end}
use Rattle.paged_indexes.specs.Handing.{ended_of}
use Rattle.snapshot_files.specs.Indexes.{lengths_from}
use Rattle.snapshot_files.proofs.Archives.{lengths_push}
use Rattle.core_writer.specs.Previous.{as_map}
use Rattle.core_writer.proofs.previous_files.PiecesTakesEntries.take.Goals as goal

pub returns : goal.returns
returns c =
    let entry = c.args.entry.now in
    on_ok_weaker c.add_new.result
    (λ added base before had at.
    let ks = lengths_from base before in
    added ∙ ap (λ (m : Lengths). with_length m ((entry.digest).0, entry.end - c.args.start)) had
    ∙ ap (λ n. with_length (as_map ks) ((entry.digest).0, entry.end - n)) (sym at)
    ∙ sym (listed_more empty ks ((entry.digest).0, entry.end - last_end base before))
    ∙ ap as_map (sym (lengths_push base before (ended_of entry))))
    c.add_new.ensures.ok

use Rattle.std.proofs.Common.{◌∙◌, ap}
use Rattle.store_model.specs.Load.{Entries, in_order, snapshots_in, load, entry_snapshot}
use Rattle.std.specs.List.{filter_map, list_any}
use Rattle.plain_snapshots.specs.Loading.{is_damaged}
use Rattle.plain_snapshots.proofs.loading.read_snapshots.Goals as goal

pub returns-clause-snapshots : goal.returns-clause-snapshots
unfolding load snapshots_in
returns-clause-snapshots g c = λ h.
    c.in_ok-in_order.ensures ∙ ap in_order c.in_ok-snapshots.ensures.snapshots
    ∙ ap (λ (m : Entries). in_order (filter_map (entry_snapshot m) m)) (c.in_ok-folder.ensures.files h)

pub returns-clause-damaged : goal.returns-clause-damaged
returns-clause-damaged g c = λ h.
    c.in_ok-snapshots.ensures.damaged ∙ ap (λ (m : Entries). list_any (is_damaged m) m) (c.in_ok-folder.ensures.files h)

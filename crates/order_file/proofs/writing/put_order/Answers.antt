use Rattle.std.specs.List.{flat_map}
use Rattle.store_files.specs.Order.{entry_text, order_text}
use Rattle.order_file.proofs.Writes.{Writes-then, Writes-failed}
use Rattle.order_file.proofs.writing.put_order.Goals as goal

pub returns-in_err-write_all_of-clause-text : goal.returns-in_err-write_all_of-clause-text
unfolding order_text
returns-in_err-write_all_of-clause-text g c =
    Writes-failed _ _ _ (flat_map entry_text c.args.order.now) c.from_residual.result c.from_residual.ensures.0 c.in_err-write_all_of.ensures.bytes

pub returns-clause-text : goal.returns-clause-text
unfolding order_text
returns-clause-text g c = Writes-then _ _ _ _ _ _ c.in_ok-write_all_of.ensures.bytes c.put_entries.ensures.text

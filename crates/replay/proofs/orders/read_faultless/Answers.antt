use Rattle.std.proofs.Common.{Option, Vec, sym, ap, ◌∙◌, option_map}
use Rattle.std.specs.declared.alloc.Global.{Global}
use Rattle.store_types.specs.declared.order.Entry.{Entry}
use Rattle.order_file.proofs.Whole.{is_text_of_read}
use Rattle.replay.proofs.orders.read_faultless.Goals as goal

pub returns-in-Some-clause-faultless : goal.returns-in-Some-clause-faultless
returns-in-Some-clause-faultless c = record {
  rules =
      (is_text_of_read c.args.lanes c.args.bytes.now c.in-Some.order.items
      (sym c.in_ok-order.ensures ∙ ap (λ (o : Option (Vec Entry Global)). option_map (λ v. v.items) o) c.in-Some.is)).1;
  faults = cc;
}

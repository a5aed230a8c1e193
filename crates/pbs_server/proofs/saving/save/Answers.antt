use Rattle.std.proofs.Common.{sym, ◌∙◌}
use Rattle.pbs_server.proofs.BookSaved.{ends_saved, none_is, not_tried}
use Rattle.pbs_server.proofs.saving.save.Goals as goal

pub returns-then-is_some : goal.returns-then-is_some
returns-then-is_some g c = not_tried g.D.Disk c.args.core.now (sym c.is_some.ensures ∙ c.if-is_some.true)

pub returns : goal.returns
returns g c = let s = c.save_book.ensures in
    ends_saved g.D.Disk c.args.core.now c.save_book.new.self c.save_book.result c.err.result c.err.ensures.value (none_is _ (sym c.is_some.ensures ∙ c.if-is_some.false))
    s.serves s.rest s.crash s.saved s.unchanged s.history

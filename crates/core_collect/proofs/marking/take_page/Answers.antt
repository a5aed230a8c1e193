use Rattle.core_collect.proofs.LastPages.{gives_unread}
use Rattle.core_collect.proofs.Reading.{unread_named, unread_reads}
use Rattle.core_collect.proofs.marking.take_page.Goals as goal

pub returns-in-Err-clause-reads : goal.returns-in-Err-clause-reads
returns-in-Err-clause-reads g c = unread_reads g.D.Disk c.args.disk.now c.hand_on.new.disk c.args.path.now c.in-Err.fault c.why_unread.result c.why_unread.ensures c.in-Err.ensures.reads

pub returns-in-Err-clause-exact : goal.returns-in-Err-clause-exact
returns-in-Err-clause-exact g c = λ honest.
    gives_unread ((g.D.Disk).content c.args.disk.now) c.args.pages.now c.args.at_hand c.args.i c.args.path.now c.in-Err.fault c.why_unread.result c.why_unread.ensures (c.in-Err.ensures.exact honest)

pub returns-in-Err-clause-named : goal.returns-in-Err-clause-named
returns-in-Err-clause-named g c = unread_named c.args.path.now c.why_unread.result c.in-Err.fault c.why_unread.ensures

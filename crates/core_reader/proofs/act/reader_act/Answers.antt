use Rattle.std.proofs.Common.{Some, refl}
use Rattle.store_history.proofs.Families.{reads_formed, reads_step, reads_untouching}
use Rattle.core_state.specs.Settles.{reply_by}
use Rattle.core_state.specs.Stops.{told}
use Rattle.core_state.specs.Upkeeps.{touches_kept}
use Rattle.core_state.proofs.Applying.{refused_applies, refused_keeps_all, done_applies, done_keeps_all}
use Rattle.core_state.proofs.Touching.{untouched}
use Rattle.core_state.proofs.Telling.{done_tells, refused_tells}
use Rattle.core_reader.specs.ReaderWords.{reader_words}
use Rattle.core_reader.proofs.act.reader_act.Goals as goal

pub returns-in-Answered-clause-applies : goal.returns-in-Answered-clause-applies
returns-in-Answered-clause-applies g c =
    refused_applies g.D.Disk g.C.Clock _ _ c.args.lane c.args.act _ c.requires.lane (reads_formed c.args.act c.requires.kind) (reads_step c.args.act c.requires.kind)
    c.in-Answered.ensures.begun c.in-Answered.ensures.text c.in-Answered.ensures.memory

pub returns-in-Answered-clause-keeps : goal.returns-in-Answered-clause-keeps
returns-in-Answered-clause-keeps g c =
    refused_keeps_all g.D.Disk g.C.Clock _ _ c.args.lane c.args.act _ (reads_step c.args.act c.requires.kind) c.in-Answered.ensures.begun c.in-Answered.ensures.memory

pub returns-in-At-clause-applies : goal.returns-in-At-clause-applies
returns-in-At-clause-applies g c =
    done_applies g.D.Disk g.C.Clock _ c.begin.new.core _ _ c.args.lane c.in-At.at c.args.act c.perform-ended.result _ c.requires.lane (reads_formed c.args.act c.requires.kind) (reads_step c.args.act c.requires.kind)
    c.in-At.ensures.begun c.in-At.ensures.filled
    (record {
      journal = refl;
      clock = refl;
      fault = refl;
      remote = refl;
      collector = refl;
      upkeep = untouched c.args.act (Some (reply_by (told c.perform-ended.result))) c.in-At.at.moment (touches_kept c.begin.new.core.upkeep) (reads_untouching c.args.act c.requires.kind);
    })
    c.perform-ended.ensures.does c.perform-ended.ensures.leaves c.settle.ensures

pub returns-in-At-clause-keeps : goal.returns-in-At-clause-keeps
returns-in-At-clause-keeps g c =
    done_keeps_all g.D.Disk g.C.Clock _ c.begin.new.core _ _ c.args.lane c.in-At.at c.args.act c.perform-ended.result _ (reads_step c.args.act c.requires.kind)
    c.in-At.ensures.begun c.in-At.ensures.filled
    (record {
      journal = refl;
      clock = refl;
      fault = refl;
      remote = refl;
      collector = refl;
      upkeep = untouched c.args.act (Some (reply_by (told c.perform-ended.result))) c.in-At.at.moment (touches_kept c.begin.new.core.upkeep) (reads_untouching c.args.act c.requires.kind);
    })
    c.perform-ended.ensures.does c.perform-ended.ensures.leaves c.settle.ensures

pub returns-in-Answered-clause-tells : goal.returns-in-Answered-clause-tells
returns-in-Answered-clause-tells g c = refused_tells (reader_words c.args.act) g.D.Disk g.C.Clock.readings _ _ c.args.lane _ c.in-Answered.ensures.begun

pub returns-in-At-clause-tells : goal.returns-in-At-clause-tells
returns-in-At-clause-tells g c =
    done_tells (reader_words c.args.act) g.D.Disk g.C.Clock.readings c.args.core.now c.begin.new.core _ _ c.args.lane c.in-At.at c.perform-ended.result c.settle.result
    c.in-At.ensures.begun c.perform-ended.ensures.does.plain c.perform-ended.ensures.tells c.settle.ensures

use Rattle.std.proofs.Common.{◌≡◌, ◌+◌, ◌-◌, ◌++◌, sym, ap, arith, ◌∙◌}
use Rattle.generator.specs.Archives.{facts}
use Rattle.generator.specs.Sessions.{first_backups, backup, input_of}
use Rattle.generator.proofs.SessionLemmas.{both_put, puts_none, backups_none, backups_more}
use Rattle.generator.proofs.session.put_backups.Goals as goal

pub loop-j-init : goal.loop-j-init
loop-j-init c =
    let old = c.args.input.now.items in
    record {
      puts = puts_none old ∙ ap (λ cs. old ++ input_of cs) (sym (backups_none c.args.k));
      made = λ h. absurd (omega arith);
    }

pub loop-j-preserved : goal.loop-j-preserved
loop-j-preserved c =
    let old = c.args.input.now.items in
    let k = c.args.k in
    let j = c.loop-j.j in
    let back : j ≡ j + 1 - 1 = omega arith in
    record {
      puts =
          both_put old _ c.put_backup.new.input.items (first_backups k j) (backup k j) c.loop-j.invariant.puts c.in_ok-made.ensures.puts
          ∙ ap (λ cs. old ++ input_of cs) (sym (backups_more k j));
      made = λ h. c.in_ok-made.ensures.made ∙ ap (facts k) back;
    }

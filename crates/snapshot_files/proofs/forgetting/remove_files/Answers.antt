use Rattle.std.proofs.Common.{◌<◌, ◌∙◌, length, refl, rules, arith, inl}
use Rattle.std.specs.List.{filter_map}
use Rattle.disk_trait.specs.Runs.{both_serve, none_serves, leaves_as, step_after}
use Rattle.snapshot_files.specs.Forgotten.{MayLose}
use Rattle.snapshot_files.proofs.Placing.{none_is}
use Rattle.snapshot_files.proofs.Losing.{loses_none, loses_mapped, none_mapped, without_mapped}
use Rattle.snapshot_files.proofs.forgetting.remove_files.Goals as goal

pub loop-file-init : goal.loop-file-init
loop-file-init g c =
    let d = g.D.Disk in let m = g.met.D.Disk in let f = g.F.Stored in
    record {
      serves = none_serves d.honest d.faults c.args.disk.now ⊥ (λ h. absurd h);
      crash = leaves_as (none_is d.calls d.images d.honest m.told c.args.disk.now) (λ n x. (x.0, x.1, loses_none (filter_map f.at c.args.files.now) x.0 n x.2));
      removed = λ h. refl;
      none = λ e. refl;
    }

pub returns-in_err-remove_file-clause-crash : goal.returns-in_err-remove_file-clause-crash
returns-in_err-remove_file-clause-crash g c =
    let f = g.F.Stored in
    let files = c.args.files.now in
    let i = c.loop-file.file-index in
    let lt : i < length files = omega arith in
    step_after (MayLose (filter_map f.at files)) c.loop-file.invariant.crash c.remove_file.ensures.crash (λ n x s. s)
    (λ n x y s lose. loses_mapped f.at files i c.file-item.result n x y lt c.file-item.is s lose)

pub returns-in_err-remove_file-clause-none : goal.returns-in_err-remove_file-clause-none
returns-in_err-remove_file-clause-none g c =
    let f = g.F.Stored in
    let files = c.args.files.now in
    let i = c.loop-file.file-index in
    let lt : i < length files = omega arith in
    λ e. let none = c.remove_file.ensures.none (none_mapped f.at files i c.file-item.result lt c.file-item.is e) in search rules

pub loop-file-preserved : goal.loop-file-preserved
loop-file-preserved g c =
    let d = g.D.Disk in let f = g.F.Stored in
    let files = c.args.files.now in
    let i = c.loop-file.file-index in
    let lt : i < length files = omega arith in
    let inv = c.loop-file.invariant in
    record {
      serves = both_serve d.honest d.faults _ _ _ ⊥ _ ⊥ inv.serves c.remove_file.ensures.serves inl;
      crash = step_after (MayLose (filter_map f.at files)) inv.crash c.remove_file.ensures.crash (λ n x s. s)
          (λ n x y s lose. loses_mapped f.at files i c.file-item.result n x y lt c.file-item.is s lose);
      removed = λ h.
          without_mapped f.at files i c.file-item.result (d.content c.loop-file.disk) (d.content c.remove_file.new.disk) lt c.file-item.is
          (c.in_ok-remove_file.ensures.removed (inv.serves.kept.0 h)) ∙ inv.removed h;
      none = λ e. (c.remove_file.ensures.none (none_mapped f.at files i c.file-item.result lt c.file-item.is e)).1 ∙ inv.none e;
    }

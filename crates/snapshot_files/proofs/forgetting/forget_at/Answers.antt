use Rattle.std.proofs.Common.{ap, subst, ◌∙◌, List, ℕ}
use Rattle.disk_trait.specs.Runs.{leaves_as, both_leave, now_leaves}
use Rattle.snapshot_files.specs.Forgotten.{without, MayLose}
use Rattle.snapshot_files.proofs.Losing.{all_mapped, manifest_goes, files_go, forgets_firm}
use Rattle.snapshot_files.proofs.forgetting.forget_at.Goals as goal

pub returns-in_err-drop_firm-clause-crash : goal.returns-in_err-drop_firm-clause-crash
returns-in_err-drop_firm-clause-crash g c =
    leaves_as c.drop_firm.ensures.crash (λ f x. (x.0, x.1, manifest_goes c.args.manifest.now c.args.paths.now x.0 f x.2))

pub returns-in_err-remove_files-clause-crash : goal.returns-in_err-remove_files-clause-crash
returns-in_err-remove_files-clause-crash g c =
    let d = g.D.Disk in
    both_leave (leaves_as c.drop_firm.ensures.crash (λ f x. (x.0, x.1, manifest_goes c.args.manifest.now c.args.paths.now x.0 f x.2)))
    c.remove_files.ensures.crash
    (λ f x. let w = c.in_ok-drop_firm.ensures.firm x.0 x.1 in
    (w.0, w.1, forgets_firm (d.content c.args.disk.now) c.args.manifest.now c.args.paths.now w.0 f (files_go (d.content c.args.disk.now) c.args.manifest.now c.args.paths.now w.0 x.0 f w.2 (subst (λ (ps : List (List ℕ)). MayLose ps x.0 f) (all_mapped c.args.paths.now) x.2))))

pub returns-clause-crash : goal.returns-clause-crash
returns-clause-crash g c =
    let d = g.D.Disk in
    both_leave (leaves_as c.drop_firm.ensures.crash (λ f x. (x.0, x.1, manifest_goes c.args.manifest.now c.args.paths.now x.0 f x.2)))
    c.remove_files.ensures.crash
    (λ f x. let w = c.in_ok-drop_firm.ensures.firm x.0 x.1 in
    (w.0, w.1, forgets_firm (d.content c.args.disk.now) c.args.manifest.now c.args.paths.now w.0 f (files_go (d.content c.args.disk.now) c.args.manifest.now c.args.paths.now w.0 x.0 f w.2 (subst (λ (ps : List (List ℕ)). MayLose ps x.0 f) (all_mapped c.args.paths.now) x.2))))

pub returns-clause-firm : goal.returns-clause-firm
returns-clause-firm g c =
    let d = g.D.Disk in
    λ f i.
    let x = now_leaves c.remove_files.ensures.crash f i in
    let w = c.in_ok-drop_firm.ensures.firm x.0 x.1 in
    (w.0, w.1, files_go (d.content c.args.disk.now) c.args.manifest.now c.args.paths.now w.0 x.0 f w.2 (subst (λ (ps : List (List ℕ)). MayLose ps x.0 f) (all_mapped c.args.paths.now) x.2))

pub returns-clause-removed : goal.returns-clause-removed
returns-clause-removed g c = λ h.
    c.in_ok-remove_files.ensures.removed (c.drop_firm.ensures.serves.kept.0 h)
    ∙ ap (λ (ps : List (List ℕ)). without ps ((g.D.Disk).content c.drop_firm.new.disk)) (all_mapped c.args.paths.now)
    ∙ ap (without c.args.paths.now) (c.in_ok-drop_firm.ensures.removed h)

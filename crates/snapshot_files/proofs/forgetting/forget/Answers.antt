use Rattle.std.proofs.Common.{◌∷◌, refl, ap, subst, ◌∙◌, rules, Result, Ok, List, ℕ, inl}
use Rattle.disk_trait.specs.Files.{Files}
use Rattle.disk_trait.specs.declared.disk.DiskError.{DiskError}
use Rattle.disk_trait.specs.Disk.{Steps}
use Rattle.disk_trait.specs.Runs.{leaves_as}
use Rattle.store_files.specs.Folder.{manifest_path}
use Rattle.snapshot_files.specs.Forgotten.{Forgets, NowForgotten, without}
use Rattle.snapshot_files.proofs.Placing.{none_is}
use Rattle.snapshot_files.proofs.StandingLemmas.{moves_forgotten, moves_none}
use Rattle.snapshot_files.proofs.forgetting.forget.Goals as goal

pub returns-in_err-manifest-clause-crash : goal.returns-in_err-manifest-clause-crash
returns-in_err-manifest-clause-crash g c =
    let d = g.D.Disk in let m = g.met.D.Disk in
    leaves_as (none_is d.calls d.images d.honest m.told c.args.disk.now) (λ f x. (x.0, x.1, inl x.2))

pub returns-in_err-manifest-clause-unchanged : goal.returns-in_err-manifest-clause-unchanged
returns-in_err-manifest-clause-unchanged g c =
    let d = g.D.Disk in let m = g.met.D.Disk in
    λ _. (λ honest. refl, none_is d.calls d.images d.honest m.told c.args.disk.now, refl)

pub returns-in_err-paths-clause-crash : goal.returns-in_err-paths-clause-crash
returns-in_err-paths-clause-crash g c =
    let d = g.D.Disk in let m = g.met.D.Disk in
    leaves_as (none_is d.calls d.images d.honest m.told c.args.disk.now) (λ f x. (x.0, x.1, inl x.2))

pub returns-in_err-paths-clause-unchanged : goal.returns-in_err-paths-clause-unchanged
returns-in_err-paths-clause-unchanged g c =
    let d = g.D.Disk in let m = g.met.D.Disk in
    λ _. (λ honest. refl, none_is d.calls d.images d.honest m.told c.args.disk.now, refl)

pub returns-in_err-forget_at-clause-crash : goal.returns-in_err-forget_at-clause-crash
returns-in_err-forget_at-clause-crash g c =
    let d = g.D.Disk in
    subst (λ (ps : List (List ℕ)). Steps d.calls d.images c.args.disk.now c.forget_at.new.disk (Forgets (manifest_path c.args.key.now) ps)) (c.deref.ensures.value ∙ c.in_ok-paths.ensures)
    (subst (λ (q : List ℕ). Steps d.calls d.images c.args.disk.now c.forget_at.new.disk (Forgets q c.deref.result.now)) (c.as_str.ensures.text ∙ c.in_ok-manifest.ensures) c.forget_at.ensures.crash)

pub returns-clause-crash : goal.returns-clause-crash
returns-clause-crash g c =
    let d = g.D.Disk in
    subst (λ (ps : List (List ℕ)). Steps d.calls d.images c.args.disk.now c.forget_at.new.disk (Forgets (manifest_path c.args.key.now) ps)) (c.deref.ensures.value ∙ c.in_ok-paths.ensures)
    (subst (λ (q : List ℕ). Steps d.calls d.images c.args.disk.now c.forget_at.new.disk (Forgets q c.deref.result.now)) (c.as_str.ensures.text ∙ c.in_ok-manifest.ensures) c.forget_at.ensures.crash)

pub returns-clause-firm : goal.returns-clause-firm
returns-clause-firm g c =
    let d = g.D.Disk in
    subst (λ (ps : List (List ℕ)). NowForgotten d c.args.disk.now c.forget_at.new.disk (manifest_path c.args.key.now) ps) (c.deref.ensures.value ∙ c.in_ok-paths.ensures)
    (subst (λ (q : List ℕ). NowForgotten d c.args.disk.now c.forget_at.new.disk q c.deref.result.now) (c.as_str.ensures.text ∙ c.in_ok-manifest.ensures) c.in_ok-forget_at.ensures.firm)

pub returns-clause-removed : goal.returns-clause-removed
returns-clause-removed g c =
    let d = g.D.Disk in
    let read : Files = d.content c.args.disk.now in
    λ h. c.in_ok-forget_at.ensures.removed h
    ∙ ap (λ (q : List ℕ). without (q ∷ c.deref.result.now) read) (c.as_str.ensures.text ∙ c.in_ok-manifest.ensures)
    ∙ ap (λ (ps : List (List ℕ)). without (manifest_path c.args.key.now ∷ ps) read) (c.deref.ensures.value ∙ c.in_ok-paths.ensures)

pub returns-in_err-manifest-clause-stands : goal.returns-in_err-manifest-clause-stands
returns-in_err-manifest-clause-stands g c =
    let d = g.D.Disk in let m = g.met.D.Disk in λ snapshots are.
    moves_none d c.args.disk.now c.args.disk.now c.from_residual.result snapshots _ (search rules) (none_is d.calls d.images d.honest m.told c.args.disk.now)

pub returns-in_err-paths-clause-stands : goal.returns-in_err-paths-clause-stands
returns-in_err-paths-clause-stands g c =
    let d = g.D.Disk in let m = g.met.D.Disk in λ snapshots are.
    moves_none d c.args.disk.now c.args.disk.now c.from_residual-in_err-paths.result snapshots _ (search rules) (none_is d.calls d.images d.honest m.told c.args.disk.now)

pub returns-in_err-forget_at-clause-stands : goal.returns-in_err-forget_at-clause-stands
returns-in_err-forget_at-clause-stands g c =
    let d = g.D.Disk in λ snapshots are.
    moves_forgotten d c.args.disk.now c.forget_at.new.disk c.from_residual-in_err-forget_at.result snapshots c.args.key.now c.args.files.now c.as_str.result.now c.deref.result.now c.requires are
    (c.as_str.ensures.text ∙ c.in_ok-manifest.ensures) (c.deref.ensures.value ∙ c.in_ok-paths.ensures)
    c.forget_at.ensures.crash (search rules) (search rules)

pub returns-clause-stands : goal.returns-clause-stands
returns-clause-stands g c =
    let d = g.D.Disk in
    let done : Result (Unit {0}) DiskError = Ok tt in
    λ snapshots are.
    moves_forgotten d c.args.disk.now c.forget_at.new.disk done snapshots c.args.key.now c.args.files.now c.as_str.result.now c.deref.result.now c.requires are
    (c.as_str.ensures.text ∙ c.in_ok-manifest.ensures) (c.deref.ensures.value ∙ c.in_ok-paths.ensures)
    c.forget_at.ensures.crash c.in_ok-forget_at.ensures.removed c.in_ok-forget_at.ensures.firm

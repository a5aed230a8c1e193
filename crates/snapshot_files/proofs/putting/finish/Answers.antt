use Rattle.std.proofs.Common.{List, ℕ, OnOk, sym, subst}
use Rattle.file_install.specs.Install.{NowInstalled}
use Rattle.snapshot_files.specs.Standing.{Completes}
use Rattle.snapshot_files.proofs.StandingLemmas.{moves_finished}
use Rattle.snapshot_files.proofs.putting.finish.Goals as goal

pub returns-clause-firm : goal.returns-clause-firm
returns-clause-firm g c =
    let d = g.D.Disk in
    subst (λ (q : List ℕ). OnOk c.install_firm.result (NowInstalled d c.args.disk.now c.install_firm.new.disk q c.args.manifest.now))
    c.as_str.ensures.text c.install_firm.ensures.firm

pub returns-clause-stands : goal.returns-clause-stands
returns-clause-stands g c = let d = g.D.Disk in λ snapshots x full.
    moves_finished d c.args.disk.now c.install_firm.new.disk c.install_firm.result snapshots x c.as_str.result.now c.args.manifest.now
    (subst (λ (q : List ℕ). Completes (d.content c.args.disk.now) snapshots x q c.args.manifest.now) (sym c.as_str.ensures.text) full)
    c.install_firm.ensures.crash c.install_firm.ensures.installed c.install_firm.ensures.firm

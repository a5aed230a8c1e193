use Rattle.std.proofs.Common.{List, ℕ, OnOk, sym, subst}
use Rattle.file_install.specs.Install.{NowWhole}
use Rattle.snapshot_files.specs.Standing.{IsOfNew}
use Rattle.snapshot_files.proofs.StandingLemmas.{moves_put}
use Rattle.snapshot_files.proofs.putting.put_file.Goals as goal

pub returns-clause-whole : goal.returns-clause-whole
returns-clause-whole g c =
    let d = g.D.Disk in
    subst (λ (q : List ℕ). OnOk c.install.result (NowWhole d c.args.disk.now c.install.new.disk q c.args.text.now))
    c.as_str.ensures.text c.install.ensures.whole

pub returns-clause-stands : goal.returns-clause-stands
returns-clause-stands g c = let d = g.D.Disk in λ snapshots key name of.
    moves_put d c.args.disk.now c.install.new.disk c.install.result snapshots key name c.as_str.result.now c.args.text.now
    (subst (IsOfNew snapshots key name) (sym c.as_str.ensures.text) of) c.install.ensures.crash c.install.ensures.installed

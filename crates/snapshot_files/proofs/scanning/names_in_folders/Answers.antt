use Rattle.std.proofs.Common.{◌≡◌, ◌∙◌, string_bytes, ap, rules}
use Rattle.std.specs.Prelude.{codes}
use Rattle.disk_trait.specs.Files.{Files}
use Rattle.snapshot_files.specs.Scanned.{names_under}
use Rattle.disk_trait.proofs.OnlyReading.{reads_by, reads_by3, reads_call}
use Rattle.snapshot_files.proofs.Joined.{three}
use Rattle.snapshot_files.proofs.scanning.names_in_folders.Goals as goal

pub returns-in_err-hosts-clause-reads : goal.returns-in_err-hosts-clause-reads
returns-in_err-hosts-clause-reads g c =
    let d = g.D.Disk in
    reads_by d c.args.disk.now c.list.new.self c.list-2.new.self _ _ _
    (reads_call d c.args.disk.now c.list.new.self _ c.list.ensures.serves c.list.ensures.crash c.list.ensures.same)
    (reads_call d c.list.new.self c.list-2.new.self _ c.list-2.ensures.serves c.list-2.ensures.crash c.list-2.ensures.same)
    (search rules)

pub returns-in_err-machines-clause-reads : goal.returns-in_err-machines-clause-reads
returns-in_err-machines-clause-reads g c =
    let d = g.D.Disk in
    reads_by3 d c.args.disk.now c.list.new.self c.list-2.new.self c.list-3.new.self _ _ _ _
    (reads_call d c.args.disk.now c.list.new.self _ c.list.ensures.serves c.list.ensures.crash c.list.ensures.same)
    (reads_call d c.list.new.self c.list-2.new.self _ c.list-2.ensures.serves c.list-2.ensures.crash c.list-2.ensures.same)
    (reads_call d c.list-2.new.self c.list-3.new.self _ c.list-3.ensures.serves c.list-3.ensures.crash c.list-3.ensures.same)
    (search rules)

pub returns-in_err-append-clause-reads : goal.returns-in_err-append-clause-reads
returns-in_err-append-clause-reads g c =
    let d = g.D.Disk in
    reads_by3 d c.args.disk.now c.list.new.self c.list-2.new.self c.list-3.new.self _ _ _ _
    (reads_call d c.args.disk.now c.list.new.self _ c.list.ensures.serves c.list.ensures.crash c.list.ensures.same)
    (reads_call d c.list.new.self c.list-2.new.self _ c.list-2.ensures.serves c.list-2.ensures.crash c.list-2.ensures.same)
    (reads_call d c.list-2.new.self c.list-3.new.self _ c.list-3.ensures.serves c.list-3.ensures.crash c.list-3.ensures.same)
    (search rules)

pub returns-in_err-append-2-clause-reads : goal.returns-in_err-append-2-clause-reads
returns-in_err-append-2-clause-reads g c =
    let d = g.D.Disk in
    reads_by3 d c.args.disk.now c.list.new.self c.list-2.new.self c.list-3.new.self _ _ _ _
    (reads_call d c.args.disk.now c.list.new.self _ c.list.ensures.serves c.list.ensures.crash c.list.ensures.same)
    (reads_call d c.list.new.self c.list-2.new.self _ c.list-2.ensures.serves c.list-2.ensures.crash c.list-2.ensures.same)
    (reads_call d c.list-2.new.self c.list-3.new.self _ c.list-3.ensures.serves c.list-3.ensures.crash c.list-3.ensures.same)
    (search rules)

pub returns-clause-reads : goal.returns-clause-reads
returns-clause-reads g c =
    let d = g.D.Disk in
    reads_by3 d c.args.disk.now c.list.new.self c.list-2.new.self c.list-3.new.self _ _ _ _
    (reads_call d c.args.disk.now c.list.new.self _ c.list.ensures.serves c.list.ensures.crash c.list.ensures.same)
    (reads_call d c.list.new.self c.list-2.new.self _ c.list-2.ensures.serves c.list-2.ensures.crash c.list-2.ensures.same)
    (reads_call d c.list-2.new.self c.list-3.new.self _ c.list-3.ensures.serves c.list-3.ensures.crash c.list-3.ensures.same)
    (search rules)

pub returns-clause-names : goal.returns-clause-names
returns-clause-names g c =
    let d = g.D.Disk in
    let one : Files = d.content c.args.disk.now in
    λ h.
    let h2 = c.list.ensures.serves.kept.0 h in
    let h3 = c.list-2.ensures.serves.kept.0 h2 in
    let same2 : d.content c.list.new.self ≡ one = c.list.ensures.same h in
    let same3 : d.content c.list-2.new.self ≡ one = c.list-2.ensures.same h2 ∙ same2 in
    three string_bytes c.in_ok-names.names.items c.in_ok-hosts.hosts.items c.in_ok-machines.machines.items c.append.new.self.items c.append-2.new.self.items
    (names_under (codes "ct/") one) (names_under (codes "host/") one) (names_under (codes "vm/") one)
    c.in_ok-append.ensures.items c.in_ok-append-2.ensures.items
    (c.in_ok-names.ensures.names h)
    (c.in_ok-hosts.ensures.names h2 ∙ ap (names_under (codes "host/")) same2)
    (c.in_ok-machines.ensures.names h3 ∙ ap (names_under (codes "vm/")) same3)

use Rattle.std.proofs.Common.{◌≡◌, length, option_map, Some, ◌∙◌, sym, rules}
use Rattle.std.specs.FinMap.{get}
use Rattle.disk_trait.proofs.OnlyReading.{reads_by, reads_call}
use Rattle.snapshot_files.proofs.FoundLemmas.{long_lists_none}
use Rattle.snapshot_files.proofs.scanning.listed_at.Goals as goal

pub returns-then-size-gt-BLOB_LIMIT-clause-listed : goal.returns-then-size-gt-BLOB_LIMIT-clause-listed
returns-then-size-gt-BLOB_LIMIT-clause-listed g c = let d = g.D.Disk in λ honest.
    let some : Some c.in-Some.size ≡ option_map (λ t. length t) (get (d.content c.args.disk.now) c.args.name.now) =
    sym c.in-Some.is ∙ c.in_ok-size.ensures.size honest in
    long_lists_none (d.content c.args.disk.now) c.args.name.now c.in-Some.size some c.if-size-gt-BLOB_LIMIT.true

pub returns-in_err-bytes-clause-reads : goal.returns-in_err-bytes-clause-reads
returns-in_err-bytes-clause-reads g c =
    let d = g.D.Disk in
    reads_by d c.args.disk.now c.size.new.self c.read.new.self _ _ _
    (reads_call d c.args.disk.now c.size.new.self _ c.size.ensures.serves c.size.ensures.crash c.size.ensures.same)
    (reads_call d c.size.new.self c.read.new.self _ c.read.ensures.serves c.read.ensures.crash c.read.ensures.same)
    (search rules)

pub returns-in_err-read_manifest-clause-reads : goal.returns-in_err-read_manifest-clause-reads
returns-in_err-read_manifest-clause-reads g c =
    let d = g.D.Disk in
    reads_by d c.args.disk.now c.size.new.self c.read.new.self _ _ _
    (reads_call d c.args.disk.now c.size.new.self _ c.size.ensures.serves c.size.ensures.crash c.size.ensures.same)
    (reads_call d c.size.new.self c.read.new.self _ c.read.ensures.serves c.read.ensures.crash c.read.ensures.same)
    (search rules)

pub returns-clause-reads : goal.returns-clause-reads
returns-clause-reads g c =
    let d = g.D.Disk in
    reads_by d c.args.disk.now c.size.new.self c.read.new.self _ _ _
    (reads_call d c.args.disk.now c.size.new.self _ c.size.ensures.serves c.size.ensures.crash c.size.ensures.same)
    (reads_call d c.size.new.self c.read.new.self _ c.read.ensures.serves c.read.ensures.crash c.read.ensures.same)
    (search rules)

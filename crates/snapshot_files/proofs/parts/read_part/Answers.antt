use Rattle.std.proofs.Common.{◌≡◌, ◌<◌, ◌≤◌, ◌-◌, ◌^◌, ◌∙◌, min, length, Some, sym, ap, rules, arith}
use Rattle.std.specs.FinMap.{get}
use Rattle.store_model.specs.WriterSteps.{part_limit}
use Rattle.snapshot_files.proofs.Texts.{bad_range_has_text, part_has_text}
use Rattle.snapshot_files.proofs.PartLemmas.{at_some, part_is, part_there, seam, some_of}
use Rattle.disk_trait.proofs.OnlyReading.{reads_by, reads_call}
use Rattle.snapshot_files.proofs.parts.read_part.Goals as goal

pub returns-then-offset-total-clause-text : goal.returns-then-offset-total-clause-text
returns-then-offset-total-clause-text g c =
    let fits : c.in-Some.total < 2 ^ 64 = search rules in
    bad_range_has_text c.in-Some.total fits

pub returns-in_err-count-clause-reads : goal.returns-in_err-count-clause-reads
returns-in_err-count-clause-reads g c =
    let d = g.D.Disk in
    reads_by d c.args.disk.now c.size.new.self c.read_part.new.self _ _ _
    (reads_call d c.args.disk.now c.size.new.self _ c.size.ensures.serves c.size.ensures.crash c.size.ensures.same)
    (reads_call d c.size.new.self c.read_part.new.self _ c.read_part.ensures.serves c.read_part.ensures.crash c.read_part.ensures.same)
    (search rules)

pub returns-in-Some-2-clause-reads : goal.returns-in-Some-2-clause-reads
returns-in-Some-2-clause-reads g c =
    let d = g.D.Disk in
    reads_by d c.args.disk.now c.size.new.self c.read_part.new.self _ _ _
    (reads_call d c.args.disk.now c.size.new.self _ c.size.ensures.serves c.size.ensures.crash c.size.ensures.same)
    (reads_call d c.size.new.self c.read_part.new.self _ c.read_part.ensures.serves c.read_part.ensures.crash c.read_part.ensures.same)
    (search rules)

pub returns-in-Some-2-clause-exact : goal.returns-in-Some-2-clause-exact
returns-in-Some-2-clause-exact g c = let d = g.D.Disk in λ honest.
    let old = d.content c.args.disk.now in
    let path = c.args.path.now in
    let found = some_of (get old path) c.in-Some.total (sym c.in-Some.is ∙ c.in_ok-total.ensures.size honest) in
    let text = found.0 in
    let there : get old path ≡ Some text = found.1 in
    let total : c.in-Some.total ≡ length text = found.2 in
    let now : get (d.content c.size.new.self) path ≡ Some text = ap (λ m. get m path) (c.size.ensures.same honest) ∙ there in
    let read = at_some _ text _ _ now (c.in_ok-count.ensures.bytes (c.size.ensures.serves.kept.0 honest)) in
    let wanted : c.min-wanted.result ≡ min part_limit (c.in-Some.total - c.args.offset) = search rules in
    let buffer : length c.deref_mut.result.now ≡ c.min-wanted.result = search rules in
    let len : length c.read_part.new.into ≡ c.in_ok-bytes.bytes.len = search rules in
    let bytes : c.from_vec.result ≡ c.read_part.new.into = c.from_vec.ensures ∙ seam c.read_part.new.into _ c.in_ok-bytes.bytes.len len in
    let is = part_is text c.deref_mut.result.now c.from_vec.result c.args.offset c.in-Some.total c.min-wanted.result total c.if-offset-total.false wanted buffer (bytes ∙ read.1) in
    part_there old path c.args.offset text there ∙ sym is

pub returns-in-Some-2-clause-text : goal.returns-in-Some-2-clause-text
returns-in-Some-2-clause-text g c =
    let fits : c.in-Some.total < 2 ^ 64 = search rules in
    let len : length c.read_part.new.into ≡ c.in_ok-bytes.bytes.len = search rules in
    let wanted : c.in_ok-bytes.bytes.len ≤ part_limit = search rules in
    let bytes : c.from_vec.result ≡ c.read_part.new.into = c.from_vec.ensures ∙ seam c.read_part.new.into _ c.in_ok-bytes.bytes.len len in
    part_has_text c.in-Some.total c.from_vec.result fits (omega (arith, ap length bytes, len, wanted))

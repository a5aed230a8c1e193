use Rattle.std.proofs.Common.{◌≡◌, ◌<◌, ◌^◌, ◌+◌, ◌*◌, replicate, refl, sym, ap, ◌∙◌, rules}
use Rattle.std.specs.Prelude.{◌==◌}
use Rattle.std.specs.FinMap.{get}
use Rattle.std.specs.Int.{w64, from_le_bytes}
use Rattle.disk_trait.proofs.OnlyReading.{reads_by, reads_call}
use Rattle.store_history.specs.Saved.{book_name}
use Rattle.core_opening.proofs.BookSizes.{told_none, told_both}
use Rattle.core_opening.proofs.booking.counts_its_size.Goals as goal

pub returns-in_default-clause-value : goal.returns-in_default-clause-value
returns-in_default-clause-value g c = let d = g.D.Disk in λ honest.
    told_none (get (d.content c.args.disk.now) book_name) (sym c.in_default.is ∙ c.in_ok-size.ensures.size honest)

pub returns-in_err-read_part-clause-reads : goal.returns-in_err-read_part-clause-reads
returns-in_err-read_part-clause-reads g c =
    let d = g.D.Disk in
    reads_by d c.args.disk.now c.size.new.self c.read_part.new.self _ _ _
    (reads_call d c.args.disk.now c.size.new.self _ c.size.ensures.serves c.size.ensures.crash c.size.ensures.same)
    (reads_call d c.size.new.self c.read_part.new.self _ c.read_part.ensures.serves c.read_part.ensures.crash c.read_part.ensures.same)
    (search rules)

pub returns-clause-reads : goal.returns-clause-reads
returns-clause-reads g c =
    let d = g.D.Disk in
    reads_by d c.args.disk.now c.size.new.self c.read_part.new.self _ _ _
    (reads_call d c.args.disk.now c.size.new.self _ c.size.ensures.serves c.size.ensures.crash c.size.ensures.same)
    (reads_call d c.size.new.self c.read_part.new.self _ c.read_part.ensures.serves c.read_part.ensures.crash c.read_part.ensures.same)
    (search rules)

pub returns-clause-value : goal.returns-clause-value
returns-clause-value g c = let d = g.D.Disk in λ honest.
    let old = d.content c.args.disk.now in
    let small : c.in-Some.size < 2 ^ 64 = search rules in
    let told = told_both (get old book_name) (get (d.content c.size.new.self) book_name) c.in-Some.size (replicate 8 0) c.read_part.new.into _ _
    (sym c.in-Some.is ∙ c.in_ok-size.ensures.size honest) small refl (ap (λ m. get m book_name) (c.size.ensures.same honest))
    (c.in_ok-read_part.ensures.bytes (c.size.ensures.serves.kept.0 honest)) in
    let size : c.from.result ≡ c.in-Some.size = search rules in
    let count : c.from-2.result ≡ from_le_bytes w64 c.read_part.new.into = search rules in
    let same : (c.from.result == 56 + 40 * c.from-2.result) ≡ (c.in-Some.size == 56 + 40 * from_le_bytes w64 c.read_part.new.into) =
    ap (λ n. n == 56 + 40 * c.from-2.result) size ∙ ap (λ n. c.in-Some.size == 56 + 40 * n) count in
    (same ∙ told.0, λ e. told.1 (sym same ∙ e))

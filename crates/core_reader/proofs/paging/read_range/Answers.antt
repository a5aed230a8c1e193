use Rattle.std.proofs.Common.{◌≡◌, ◌+◌, ◌∙◌, Err, Option, length, sym, ap, subst, rules, arith}
use Rattle.std.specs.Option.{option_map}
use Rattle.disk_trait.proofs.OnlyReading.{reads_by}
use Rattle.store_stops.specs.Stops.{Gives}
use Rattle.core_state.specs.declared.pages.ReadPage.{ReadPage}
use Rattle.core_reader.specs.declared.paging.RangeRead.{RangeRead}
use Rattle.core_reader.specs.Chunks.{behind}
use Rattle.core_reader.specs.Ranges.{ReadsLast, RefusesAsked, StandsWhole, asking, front_at, range_at, range_with, ranged}
use Rattle.core_reader.proofs.FrontRange.{front_holds, front_read, front_refused, front_refuses, front_stops, rest_is, rest_refuses}
use Rattle.core_reader.proofs.Loads.{handed_unrefused, short_unrefused}
use Rattle.core_reader.proofs.PageReads.{refused_on, stops_as}
use Rattle.core_reader.proofs.paging.read_range.Goals as goal

pub returns-in_err-bytes-clause-whole : goal.returns-in_err-bytes-clause-whole
returns-in_err-bytes-clause-whole g c = λ h stands. short_unrefused _ c.from_residual.ensures.1

-- ---- a chunk of the page at hand is not read

pub returns-in_err-read_front-clause-exact : goal.returns-in_err-read_front-clause-exact
returns-in_err-read_front-clause-exact g c = λ h.
    let m = g.D.Disk.content c.args.disk.now in
    let page = option_map (λ p. p.now) c.args.at_hand in
    let q = asking c.args.path.now c.args.pages.now page in
    front_stops m q c.args.from c.args.to {A = Unit {0}} {B = RangeRead} (λ _. c.read_front.new.bytes.items) (λ r. r.bytes.items) _ _ c.from_residual-in_err-read_front.ensures.1
    (front_refused {A = Unit {0}} {B = Unit {0}} (λ _. c.read_front.new.bytes.items) (λ _. c.read_front.new.bytes.items) c.in_ok-bytes.bytes.items (front_at m page c.args.from c.args.to) _ c.in_ok-bytes.ensures.items (c.in_err-read_front.ensures.exact h))

pub returns-in_err-read_front-clause-whole : goal.returns-in_err-read_front-clause-whole
returns-in_err-read_front-clause-whole g c = λ h stands.
    let m = g.D.Disk.content c.args.disk.now in
    let q = asking c.args.path.now c.args.pages.now (option_map (λ p. p.now) c.args.at_hand) in
    handed_unrefused _ _ c.from_residual-in_err-read_front.ensures.1 (c.in_err-read_front.ensures.held h (front_holds m q c.args.from c.args.to stands))

pub returns-in_err-read_front-clause-refusal : goal.returns-in_err-read_front-clause-refusal
returns-in_err-read_front-clause-refusal g c =
    let q = asking c.args.path.now c.args.pages.now (option_map (λ p. p.now) c.args.at_hand) in
    refused_on (RefusesAsked q c.args.from c.args.to) _ _ c.from_residual-in_err-read_front.ensures.1 (front_refuses q c.args.from c.args.to _ c.in_err-read_front.ensures.refusal)

-- ---- what is behind it is not

pub read_pages-requires-clause-order : goal.read_pages-requires-clause-order
read_pages-requires-clause-order g c = omega (arith, c.requires.order, c.in_ok-read_front.ensures.size, ap length c.in_ok-bytes.ensures.items, c.len.ensures, c.read_front.new.bytes.ok.0)

pub returns-in_err-last-clause-reads : goal.returns-in_err-last-clause-reads
returns-in_err-last-clause-reads g c = reads_by g.D.Disk c.args.disk.now c.read_front.new.disk c.read_pages.new.disk _ _ _ c.read_front.ensures.reads c.read_pages.ensures.reads (search rules)

pub returns-in_err-last-clause-exact : goal.returns-in_err-last-clause-exact
returns-in_err-last-clause-exact g c = let d = g.D.Disk in λ h.
    let m = d.content c.args.disk.now in
    let from = c.args.from in
    let to = c.args.to in
    let page = option_map (λ p. p.now) c.args.at_hand in
    let q = asking c.args.path.now c.args.pages.now page in
    let reads = c.read_front.ensures.reads in
    let front = c.read_front.new.bytes.items in
    let given = front_read c.in_ok-bytes.bytes.items front (front_at m page from to) c.in_ok-bytes.ensures.items (c.in_ok-read_front.ensures.exact h) in
    let at : (c.args.from + c.len.result) ≡ from + length front = omega (arith, c.len.ensures, c.read_front.new.bytes.ok.0) in
    let stop = c.in_err-last.field-0.0 in
    stops_as {A = Option ReadPage} {B = RangeRead} (λ _. c.read_pages.new.bytes.items) (λ r. r.bytes.items) (range_with m q from to) stop _ c.from_residual-in_err-last.ensures.1
    (subst (λ r. Gives {A = Option ReadPage} (λ _. c.read_pages.new.bytes.items) (Err stop) r)
    (ap (λ f. behind front (range_at f q.index (c.args.from + c.len.result) to)) (reads.same h) ∙ ap (λ n. behind front (range_at m q.index n to)) at ∙ sym (rest_is m q from to front given))
    (c.in_err-last.ensures.exact (reads.serves.kept.0 h)))

pub returns-in_err-last-clause-whole : goal.returns-in_err-last-clause-whole
returns-in_err-last-clause-whole g c = let d = g.D.Disk in λ h stands.
    let reads = c.read_front.ensures.reads in
    handed_unrefused _ _ c.from_residual-in_err-last.ensures.1
    (c.in_err-last.ensures.whole (reads.serves.kept.0 h) (subst (λ m. StandsWhole m c.args.pages.now) (sym (reads.same h)) stands.whole))

pub returns-in_err-last-clause-refusal : goal.returns-in_err-last-clause-refusal
returns-in_err-last-clause-refusal g c =
    let q = asking c.args.path.now c.args.pages.now (option_map (λ p. p.now) c.args.at_hand) in
    refused_on (RefusesAsked q c.args.from c.args.to) _ _ c.from_residual-in_err-last.ensures.1 (rest_refuses q c.args.from (c.args.from + c.len.result) c.args.to _ (omega arith) c.in_err-last.ensures.refusal)

-- ---- both are

pub returns-clause-reads : goal.returns-clause-reads
returns-clause-reads g c = reads_by g.D.Disk c.args.disk.now c.read_front.new.disk c.read_pages.new.disk _ _ _ c.read_front.ensures.reads c.read_pages.ensures.reads (search rules)

pub returns-clause-exact : goal.returns-clause-exact
returns-clause-exact g c = let d = g.D.Disk in λ h.
    let m = d.content c.args.disk.now in
    let from = c.args.from in
    let to = c.args.to in
    let page = option_map (λ p. p.now) c.args.at_hand in
    let q = asking c.args.path.now c.args.pages.now page in
    let reads = c.read_front.ensures.reads in
    let front = c.read_front.new.bytes.items in
    let given = front_read c.in_ok-bytes.bytes.items front (front_at m page from to) c.in_ok-bytes.ensures.items (c.in_ok-read_front.ensures.exact h) in
    let at : (c.args.from + c.len.result) ≡ from + length front = omega (arith, c.len.ensures, c.read_front.new.bytes.ok.0) in
    rest_is m q from to front given ∙ ap (λ n. behind front (range_at m q.index n to)) (sym at)
    ∙ ap (λ f. behind front (range_at f q.index (c.args.from + c.len.result) to)) (sym (reads.same h)) ∙ c.in_ok-last.ensures.exact (reads.serves.kept.0 h)

pub returns-clause-last : goal.returns-clause-last
returns-clause-last g c = let d = g.D.Disk in
    let m = d.content c.args.disk.now in
    let from = c.args.from in
    let to = c.args.to in
    let page = option_map (λ p. p.now) c.args.at_hand in
    let a = ranged c.args.path.now c.args.pages.now in
    let reads = c.read_front.ensures.reads in
    let front = c.read_front.new.bytes.items in
    let at : (c.args.from + c.len.result) ≡ from + length front = omega (arith, c.len.ensures, c.read_front.new.bytes.ok.0) in
    record {
      reached = (c.args.from + c.len.result);
      low = omega (arith, at);
      high = omega (arith, at, c.requires.order, c.in_ok-read_front.ensures.size, ap length c.in_ok-bytes.ensures.items);
      front = λ h. (front, front_read c.in_ok-bytes.bytes.items front (front_at m page from to) c.in_ok-bytes.ensures.items (c.in_ok-read_front.ensures.exact h), at);
      only = c.in_ok-last.ensures.last;
      reads = λ h. subst (λ f. ReadsLast f a c.in_ok-last.last) (reads.same h) (c.in_ok-last.ensures.given (reads.serves.kept.0 h));
    }

pub returns-clause-size : goal.returns-clause-size
returns-clause-size g c =
    omega (arith, c.requires.order, c.in_ok-last.ensures.size, c.in_ok-read_front.ensures.size, ap length c.in_ok-bytes.ensures.items, c.len.ensures, c.read_front.new.bytes.ok.0)

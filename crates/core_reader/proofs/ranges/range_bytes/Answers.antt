use Rattle.std.proofs.Common.{◌≡◌, ◌∙◌, ◌+◌, Vec, ℕ, Ok, Err, List, string_bytes, sym, ap, ap₂, refl, set, subst, arith}
use Rattle.std.specs.Option.{option_map}
use Rattle.std.specs.declared.alloc.Global.{Global}
use Rattle.disk_trait.proofs.OnlyReading.{reads_none}
use Rattle.restore_reader.specs.Steps.{range_plan}
use Rattle.wire_commands.specs.declared.command.Command.TheVariants.{Range}
use Rattle.store_history.specs.declared.act.Act.TheVariants.{Plain}
use Rattle.core_state.specs.Kept.{kept_at}
use Rattle.core_state.specs.Indexed.{ranged_of}
use Rattle.core_state.proofs.Rows.{rows_but}
use Rattle.core_reader.specs.declared.paging.RangeRead.{RangeRead}
use Rattle.core_reader.specs.declared.ranges.AskedIndex.{AskedIndex}
use Rattle.store_stops.specs.Stops.{Gives, IfRefused}
use Rattle.core_reader.specs.Ranges.{RefusesAsked, StandsAsked, asking, range_asked, range_with}
use Rattle.core_reader.proofs.Loads.{handed_unrefused}
use Rattle.core_reader.proofs.PageReads.{refused_on, stops_as}
use Rattle.core_reader.proofs.RangeKept.{notes_done, notes_stopped}
use Rattle.core_reader.proofs.Ranging.{asked_planned, asked_unplanned, asked_unread, reader_there}
use Rattle.core_reader.proofs.RangeTold.{none_given, none_refused, none_whole, place_none, plan_text, read_given, read_refused, read_same, read_uncalled, text_on, unfailed_on}
use Rattle.core_reader.proofs.Rowed.{row_found}
use Rattle.core_reader.proofs.ranges.range_bytes.Goals as goal

-- where the index stands
abbrev placed : AskedIndex → List ℕ
placed a = string_bytes a.path

-- ---- it is not there

pub returns-in_err-asked-clause-reads : goal.returns-in_err-asked-clause-reads
returns-in_err-asked-clause-reads g c = reads_none g.D.Disk _ _ (unfailed_on _ _ c.from_residual.ensures.1 c.in_err-asked.ensures.unfailed)

pub returns-in_err-asked-clause-exact : goal.returns-in_err-asked-clause-exact
returns-in_err-asked-clause-exact g c = λ h.
    let old = c.args.parts.now in
    none_given _ c.args.offset (c.args.offset + c.args.length) _ _ c.from_residual.ensures.1
    (place_none placed c.args.file.now c.args.offset c.args.length (kept_at old c.args.lane) _ c.in_err-asked.ensures.value)
    (λ (bytes : Vec ℕ Global). bytes.items) (g.D.Disk.content old.disk)

pub returns-in_err-asked-clause-whole : goal.returns-in_err-asked-clause-whole
returns-in_err-asked-clause-whole g c = λ a at h whole.
    let old = c.args.parts.now in
    none_whole _ c.args.offset (c.args.offset + c.args.length) _ _ c.from_residual.ensures.1
    (place_none placed c.args.file.now c.args.offset c.args.length (kept_at old c.args.lane) _ c.in_err-asked.ensures.value) a at

pub returns-in_err-asked-clause-notes : goal.returns-in_err-asked-clause-notes
returns-in_err-asked-clause-notes g c =
    let old = c.args.parts.now in
    notes_stopped g.D.Disk old old c.args.lane c.args.file.now c.args.offset c.args.length c.requires _ _ c.from_residual.ensures.1 refl

pub returns-in_err-asked-clause-refusal : goal.returns-in_err-asked-clause-refusal
returns-in_err-asked-clause-refusal g c =
    let old = c.args.parts.now in
    none_refused _ c.args.offset (c.args.offset + c.args.length) _ _ c.from_residual.ensures.1
    (place_none placed c.args.file.now c.args.offset c.args.length (kept_at old c.args.lane) _ c.in_err-asked.ensures.value)

-- ---- the lane has no reader

pub returns-in_err-reader-clause-exact : goal.returns-in_err-reader-clause-exact
returns-in_err-reader-clause-exact g c = λ h.
    let old = c.args.parts.now in
    let none = asked_unread c.args.file.now c.args.offset c.args.length (kept_at old c.args.lane) _ _ c.in_ok-asked.ensures.value (reader_there old c.args.lane c.index.result.now _ c.requires c.index.ensures c.in_err-reader.ensures.value) in
    none_given _ c.args.offset (c.args.offset + c.args.length) _ _ c.from_residual-in_err-reader.ensures.1 none (λ (bytes : Vec ℕ Global). bytes.items) (g.D.Disk.content old.disk)

pub returns-in_err-reader-clause-whole : goal.returns-in_err-reader-clause-whole
returns-in_err-reader-clause-whole g c = λ a at h whole.
    let old = c.args.parts.now in
    let none = asked_unread c.args.file.now c.args.offset c.args.length (kept_at old c.args.lane) _ _ c.in_ok-asked.ensures.value (reader_there old c.args.lane c.index.result.now _ c.requires c.index.ensures c.in_err-reader.ensures.value) in
    none_whole _ c.args.offset (c.args.offset + c.args.length) _ _ c.from_residual-in_err-reader.ensures.1 none a at

pub returns-in_err-reader-clause-notes : goal.returns-in_err-reader-clause-notes
returns-in_err-reader-clause-notes g c =
    let old = c.args.parts.now in
    notes_stopped g.D.Disk old _ c.args.lane c.args.file.now c.args.offset c.args.length c.requires _ _ c.from_residual-in_err-reader.ensures.1 refl

pub returns-in_err-reader-clause-refusal : goal.returns-in_err-reader-clause-refusal
returns-in_err-reader-clause-refusal g c =
    let old = c.args.parts.now in
    let none = asked_unread c.args.file.now c.args.offset c.args.length (kept_at old c.args.lane) _ _ c.in_ok-asked.ensures.value (reader_there old c.args.lane c.index.result.now _ c.requires c.index.ensures c.in_err-reader.ensures.value) in
    none_refused _ c.args.offset (c.args.offset + c.args.length) _ _ c.from_residual-in_err-reader.ensures.1 none

-- ---- the range is refused

pub returns-in_err-pages-clause-exact : goal.returns-in_err-pages-clause-exact
returns-in_err-pages-clause-exact g c = λ h.
    let old = c.args.parts.now in
    let none = asked_unplanned c.args.file.now c.args.offset c.args.length (kept_at old c.args.lane) _ _ _ c.in_ok-asked.ensures.value (reader_there old c.args.lane c.index.result.now _ c.requires c.index.ensures c.in_ok-reader.ensures.value)
    (ap (λ n. range_plan c.in_ok-reader.reader.now n c.args.offset c.args.length) (sym c.in_ok-asked.ensures.name) ∙ c.in_err-pages.ensures.does) in
    none_given _ c.args.offset (c.args.offset + c.args.length) _ _ c.from_residual-in_err-pages.ensures.1 none (λ (bytes : Vec ℕ Global). bytes.items) (g.D.Disk.content old.disk)

pub returns-in_err-pages-clause-whole : goal.returns-in_err-pages-clause-whole
returns-in_err-pages-clause-whole g c = λ a at h whole.
    let old = c.args.parts.now in
    let none = asked_unplanned c.args.file.now c.args.offset c.args.length (kept_at old c.args.lane) _ _ _ c.in_ok-asked.ensures.value (reader_there old c.args.lane c.index.result.now _ c.requires c.index.ensures c.in_ok-reader.ensures.value)
    (ap (λ n. range_plan c.in_ok-reader.reader.now n c.args.offset c.args.length) (sym c.in_ok-asked.ensures.name) ∙ c.in_err-pages.ensures.does) in
    none_whole _ c.args.offset (c.args.offset + c.args.length) _ _ c.from_residual-in_err-pages.ensures.1 none a at

pub returns-in_err-pages-clause-notes : goal.returns-in_err-pages-clause-notes
returns-in_err-pages-clause-notes g c =
    let old = c.args.parts.now in
    notes_stopped g.D.Disk old _ c.args.lane c.args.file.now c.args.offset c.args.length c.requires _ _ c.from_residual-in_err-pages.ensures.1 refl

pub returns-in_err-pages-clause-refusal : goal.returns-in_err-pages-clause-refusal
returns-in_err-pages-clause-refusal g c =
    let old = c.args.parts.now in
    let none = asked_unplanned c.args.file.now c.args.offset c.args.length (kept_at old c.args.lane) _ _ _ c.in_ok-asked.ensures.value (reader_there old c.args.lane c.index.result.now _ c.requires c.index.ensures c.in_ok-reader.ensures.value)
    (ap (λ n. range_plan c.in_ok-reader.reader.now n c.args.offset c.args.length) (sym c.in_ok-asked.ensures.name) ∙ c.in_err-pages.ensures.does) in
    none_refused _ c.args.offset (c.args.offset + c.args.length) _ _ c.from_residual-in_err-pages.ensures.1 none

pub returns-in_err-pages-clause-text : goal.returns-in_err-pages-clause-text
returns-in_err-pages-clause-text g c = text_on _ _ c.from_residual-in_err-pages.ensures.1 (plan_text _ c.in_err-pages.ensures.refusal)

-- ---- it is not read

pub returns-in_err-read-clause-exact : goal.returns-in_err-read-clause-exact
returns-in_err-read-clause-exact g c = λ h.
    let old = c.args.parts.now in
    let from = c.args.offset in
    let m = g.D.Disk.content old.disk in
    let path = c.as_str.result.now in
    let pages = c.in_ok-pages.pages.now in
    let q = asking path pages (option_map (λ p. p.now) c.ranged-at_hand.result) in
    let hand = c.ranged-at_hand.ensures ∙ ap₂ ranged_of c.in_ok-asked.ensures.name (row_found old c.args.lane c.requires c.index-row.result.now c.index-row.ensures) in
    let asked = range_asked c.args.file.now from c.args.length (kept_at old c.args.lane) in
    let at : asked ≡ Ok q = asked_planned c.args.file.now from c.args.length (kept_at old c.args.lane) path c.in_ok-reader.reader.now pages
    (c.in_ok-asked.ensures.value ∙ ap Ok (sym c.as_str.ensures.value)) (reader_there old c.args.lane c.index.result.now _ c.requires c.index.ensures c.in_ok-reader.ensures.value)
    (ap (λ n. range_plan c.in_ok-reader.reader.now n from c.args.length) (sym c.in_ok-asked.ensures.name) ∙ c.in_ok-pages.ensures.does) ∙ ap (λ o. Ok (asking path pages o)) (sym hand) in
    let stop = c.in_err-read.field-0.0 in
    read_given asked q at from (from + c.args.length) (λ (bytes : Vec ℕ Global). bytes.items) m _
    (stops_as {A = RangeRead} {B = Vec ℕ Global} (λ r. r.bytes.items) (λ b. b.items) (range_with m q from (from + c.args.length)) stop _ c.from_residual-in_err-read.ensures.1
    (subst (λ n. Gives {A = RangeRead} (λ r. r.bytes.items) (Err stop) (range_with m q from (from + n))) c.from.ensures (c.in_err-read.ensures.exact h)))

pub returns-in_err-read-clause-whole : goal.returns-in_err-read-clause-whole
returns-in_err-read-clause-whole g c = λ b other h stands.
    let old = c.args.parts.now in
    let from = c.args.offset in
    let path = c.as_str.result.now in
    let pages = c.in_ok-pages.pages.now in
    let q = asking path pages (option_map (λ p. p.now) c.ranged-at_hand.result) in
    let hand = c.ranged-at_hand.ensures ∙ ap₂ ranged_of c.in_ok-asked.ensures.name (row_found old c.args.lane c.requires c.index-row.result.now c.index-row.ensures) in
    let asked = range_asked c.args.file.now from c.args.length (kept_at old c.args.lane) in
    let at : asked ≡ Ok q = asked_planned c.args.file.now from c.args.length (kept_at old c.args.lane) path c.in_ok-reader.reader.now pages
    (c.in_ok-asked.ensures.value ∙ ap Ok (sym c.as_str.ensures.value)) (reader_there old c.args.lane c.index.result.now _ c.requires c.index.ensures c.in_ok-reader.ensures.value)
    (ap (λ n. range_plan c.in_ok-reader.reader.now n from c.args.length) (sym c.in_ok-asked.ensures.name) ∙ c.in_ok-pages.ensures.does) ∙ ap (λ o. Ok (asking path pages o)) (sym hand) in
    handed_unrefused _ _ c.from_residual-in_err-read.ensures.1
    (c.in_err-read.ensures.whole h (subst (StandsAsked (g.D.Disk.content old.disk)) (sym (read_same asked q at from (from + c.args.length) b other)) stands))

pub returns-in_err-read-clause-notes : goal.returns-in_err-read-clause-notes
returns-in_err-read-clause-notes g c =
    notes_stopped g.D.Disk c.args.parts.now _ c.args.lane c.args.file.now c.args.offset c.args.length c.requires _ _ c.from_residual-in_err-read.ensures.1 refl

pub returns-in_err-read-clause-refusal : goal.returns-in_err-read-clause-refusal
returns-in_err-read-clause-refusal g c =
    let old = c.args.parts.now in
    let from = c.args.offset in
    let path = c.as_str.result.now in
    let pages = c.in_ok-pages.pages.now in
    let q = asking path pages (option_map (λ p. p.now) c.ranged-at_hand.result) in
    let hand = c.ranged-at_hand.ensures ∙ ap₂ ranged_of c.in_ok-asked.ensures.name (row_found old c.args.lane c.requires c.index-row.result.now c.index-row.ensures) in
    let asked = range_asked c.args.file.now from c.args.length (kept_at old c.args.lane) in
    let at : asked ≡ Ok q = asked_planned c.args.file.now from c.args.length (kept_at old c.args.lane) path c.in_ok-reader.reader.now pages
    (c.in_ok-asked.ensures.value ∙ ap Ok (sym c.as_str.ensures.value)) (reader_there old c.args.lane c.index.result.now _ c.requires c.index.ensures c.in_ok-reader.ensures.value)
    (ap (λ n. range_plan c.in_ok-reader.reader.now n from c.args.length) (sym c.in_ok-asked.ensures.name) ∙ c.in_ok-pages.ensures.does) ∙ ap (λ o. Ok (asking path pages o)) (sym hand) in
    read_refused asked q at from (from + c.args.length) _
    (refused_on (RefusesAsked q from (from + c.args.length)) _ _ c.from_residual-in_err-read.ensures.1 (subst (λ n. IfRefused (RefusesAsked q from (from + n)) c.in_err-read.field-0.0) c.from.ensures c.in_err-read.ensures.refusal))

pub returns-in_err-read-clause-uncalled : goal.returns-in_err-read-clause-uncalled
returns-in_err-read-clause-uncalled g c =
    let q = asking c.as_str.result.now c.in_ok-pages.pages.now (option_map (λ p. p.now) c.ranged-at_hand.result) in
    let to = c.args.offset + c.from.result in
    read_uncalled _ q c.args.offset to _ (refused_on (RefusesAsked q c.args.offset to) _ _ c.from_residual-in_err-read.ensures.1 c.in_err-read.ensures.refusal)

-- ---- it is

pub returns-clause-exact : goal.returns-clause-exact
returns-clause-exact g c = λ h.
    let old = c.args.parts.now in
    let from = c.args.offset in
    let m = g.D.Disk.content old.disk in
    let path = c.as_str.result.now in
    let pages = c.in_ok-pages.pages.now in
    let q = asking path pages (option_map (λ p. p.now) c.ranged-at_hand.result) in
    let hand = c.ranged-at_hand.ensures ∙ ap₂ ranged_of c.in_ok-asked.ensures.name (row_found old c.args.lane c.requires c.index-row.result.now c.index-row.ensures) in
    let asked = range_asked c.args.file.now from c.args.length (kept_at old c.args.lane) in
    let at : asked ≡ Ok q = asked_planned c.args.file.now from c.args.length (kept_at old c.args.lane) path c.in_ok-reader.reader.now pages
    (c.in_ok-asked.ensures.value ∙ ap Ok (sym c.as_str.ensures.value)) (reader_there old c.args.lane c.index.result.now _ c.requires c.index.ensures c.in_ok-reader.ensures.value)
    (ap (λ n. range_plan c.in_ok-reader.reader.now n from c.args.length) (sym c.in_ok-asked.ensures.name) ∙ c.in_ok-pages.ensures.does) ∙ ap (λ o. Ok (asking path pages o)) (sym hand) in
    let bytes = c.in_ok-read.read.bytes in
    read_given asked q at from (from + c.args.length) (λ (b : Vec ℕ Global). b.items) m (Ok bytes)
    (subst (λ n. range_with m q from (from + n) ≡ Ok bytes.items) c.from.ensures (c.in_ok-read.ensures.exact h))

pub returns-clause-notes : goal.returns-clause-notes
returns-clause-notes g c =
    let old = c.args.parts.now in
    let from = c.args.offset in
    let path = c.as_str.result.now in
    let pages = c.in_ok-pages.pages.now in
    let q = asking path pages (option_map (λ p. p.now) c.ranged-at_hand.result) in
    let hand = c.ranged-at_hand.ensures ∙ ap₂ ranged_of c.in_ok-asked.ensures.name (row_found old c.args.lane c.requires c.index-row.result.now c.index-row.ensures) in
    let asked = range_asked c.args.file.now from c.args.length (kept_at old c.args.lane) in
    let at : asked ≡ Ok q = asked_planned c.args.file.now from c.args.length (kept_at old c.args.lane) path c.in_ok-reader.reader.now pages
    (c.in_ok-asked.ensures.value ∙ ap Ok (sym c.as_str.ensures.value)) (reader_there old c.args.lane c.index.result.now _ c.requires c.index.ensures c.in_ok-reader.ensures.value)
    (ap (λ n. range_plan c.in_ok-reader.reader.now n from c.args.length) (sym c.in_ok-asked.ensures.name) ∙ c.in_ok-pages.ensures.does) ∙ ap (λ o. Ok (asking path pages o)) (sym hand) in
    notes_done g.D.Disk old _ c.args.lane c.args.file.now from c.args.length c.requires q at c.index_mut.result.now c.note_ranged.new.self c.in_ok-asked.asked.name c.in_ok-read.read.last c.from.result
    c.in_ok-asked.ensures.name (row_found old c.args.lane c.requires c.index_mut.result.now c.index_mut.ensures.value) c.note_ranged.ensures refl c.from.ensures c.in_ok-read.ensures.last c.in_ok-read.read.bytes

pub returns-clause-others : goal.returns-clause-others
returns-clause-others g c =
    let old = c.args.parts.now in
    let row = c.note_ranged.new.self in
    rows_but old (set old.indexes.items c.args.lane row) c.args.lane (Plain (Range c.args.file.now c.args.offset c.args.length)) row refl refl

pub returns-clause-fits : goal.returns-clause-fits
returns-clause-fits g c = record { size = omega (arith, c.in_ok-read.ensures.size, c.from.ensures); limit = c.in_ok-pages.ensures.limit }

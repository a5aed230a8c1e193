-- A range of a page, and what a read of a page stops by.
use Rattle.std.proofs.Common.{◌≡◌, ◌+◌, ◌-◌, ◌<◌, ◌≤◌, ℕ, min, max, List, [], length, suc, nat_le, true, false, cond, Some, Result, Ok, Err, IsErrAnd, IsTrue, refl, sym, ap, subst, ◌∙◌, append-nil, arith}
use Rattle.std.specs.List.{Contains}
use Rattle.disk_trait.specs.Files.{Files}
use Rattle.store_types.specs.declared.refusal.ChunkFault.{ChunkFault}
use Rattle.store_types.specs.declared.names.Digest32.{Digest32}
use Rattle.store_types.specs.declared.refusal.Refusal.{Refusal}
use Rattle.store_types.specs.declared.refusal.Refusal.TheVariants.{Damaged, Unreadable}
use Rattle.store_types.specs.Chain.Refusing.{◌>>=◌}
use Rattle.store_files.specs.Archive.{ends_from}
use Rattle.store_files.specs.DynamicIndex.{Ended, steps_fit}
use Rattle.index_pages.specs.Paged.{page_count}
use Rattle.paged_indexes.specs.declared.index.IndexPages.{IndexPages}
use Rattle.paged_indexes.specs.Index.{pages_by, start_by, stop_by}
use Rattle.paged_indexes.specs.Steps.{stepped}
use Rattle.paged_indexes.proofs.Paging.{stops_next, told_by_ends}
use Rattle.paged_indexes.proofs.Stepping.{stepped_fits, stepped_last, stepped_rises}
use Rattle.std.specs.Prelude.{IfErr, is_some}
use Rattle.restore_reader.specs.declared.ranges.Part.{Part}
use Rattle.restore_reader.specs.Cutting.{total_of}
use Rattle.restore_reader.specs.Plan.{ends_of, parts_in}
use Rattle.restore_reader.proofs.Apart.{total_in}
use Rattle.snapshot_files.specs.Indexes.{GivesPage, page_entries}
use Rattle.store_stops.specs.declared.stop.Stop.{Stop}
use Rattle.store_stops.specs.declared.stop.Stop.TheVariants.{Refused, NoMemory, DiskFailed}
use Rattle.store_stops.specs.Stops.{Gives, IfRefused}
use Rattle.core_reader.specs.Chunks.{HoldsParts, IsUnrefused, StopsAmong, behind, digests_of, parts_at}
use Rattle.core_state.specs.declared.pages.ReadPage.{ReadPage}
use Rattle.core_reader.specs.Ranges.{AreKept, Grows, IsPageRead, Ranged, RefusesRead, StandsWhole, page_range, parts_on, range_from, ranged}
use Rattle.core_reader.proofs.PageRanges.{page, page_holds, page_read}
use Rattle.core_reader.proofs.Pieces.{behind-then}

-- ---- a page

-- the steps of its entries
pub kept_steps : (p : IndexPages) (i : ℕ) (es : List Ended) → AreKept p i es → stepped (start_by p i) es ≡ Some (stop_by p i)
kept_steps p i es kept = told_by_ends p i kept.bytes es kept.told

pub kept_fit : (p : IndexPages) (i : ℕ) (es : List Ended) → AreKept p i es → IsTrue (steps_fit (start_by p i) es)
kept_fit p i es kept = stepped_fits (start_by p i) es ∙ ap (λ o. is_some o) (kept_steps p i es kept)

-- so its parts have no more bytes than the range has of the page
pub kept_total : (p : IndexPages) (i from to : ℕ) (es : List Ended) (parts : List Part) (old new : List ℕ) → AreKept p i es → parts ≡ parts_in from to (start_by p i) es
    → length new ≤ length old + total_of parts → Grows p i from to old new
kept_total p i from to es parts old new kept are size =
    let stop = stepped_last (start_by p i) (stop_by p i) es (kept_steps p i es kept) in
    let total = total_in from to (start_by p i) es (kept_fit p i es kept) in
    record {
      size = omega (arith, size, total, ap total_of are, ap (λ n. min to n - max from (start_by p i)) stop);
      rises = stepped_rises (start_by p i) (stop_by p i) es (kept_steps p i es kept);
    }

-- the parts of one that was read
pub read_parts_are : (p : IndexPages) (i from to : ℕ) (x : ReadPage) → IsPageRead p i x → parts_on from to x ≡ parts_in from to (start_by p i) (ends_of x.entries.items)
read_parts_are p i from to x is = ap (λ s. parts_in from to s (ends_of x.entries.items)) is.start

-- what holds of a stop holds of what it stops
pub refused_on : {A : Type 0} (P : Refusal → Type 0) (stop : Stop) (result : Result A Stop) → IsErrAnd result (λ x. x ≡ stop) → IfRefused P stop → IfErr result (IfRefused P)
refused_on P stop (Ok x) is h = absurd is
refused_on P stop (Err x) is h = subst (IfRefused P) (sym is) h

-- what a call stops by is what another does
pub stops_as : {A B C : Type 0} (f : A → C) (g : B → C) (wanted : Result C Refusal) (stop : Stop) (result : Result B Stop) → IsErrAnd result (λ x. x ≡ stop) → Gives f (Err stop) wanted → Gives g result wanted
stops_as f g wanted stop (Ok x) is gives = absurd is
stops_as {A} {B} f g wanted stop (Err x) is gives = subst (λ s. Gives {A = B} g (Err s) wanted) (sym is) (by_stop stop gives)
  where
    by_stop : (stop : Stop) → Gives {A = A} f (Err stop) wanted → Gives {A = B} g (Err stop) wanted
    by_stop (Refused refusal) gives = gives
    by_stop NoMemory gives = tt
    by_stop DiskFailed gives = tt

-- what a read of it stops by
module _ {A T : Type 0} (m : Files) (path : List ℕ) (p : IndexPages) (i : ℕ) (taken : T → ℕ → List Ended → Type 0) (old new : T) where
  pub page_stop : (stop : Stop) (show : A → List Ended) (result : Result A Stop) → IsErrAnd result (λ x. x ≡ stop) → GivesPage m path p i taken old new (Err stop)
      → Gives show result (page_entries m path p i)
  page_stop stop show (Ok x) is gives = absurd is
  page_stop stop show (Err x) is gives = subst (λ s. Gives {A = A} show (Err s) (page_entries m path p i)) (sym is) (by_stop stop gives)
    where
      by_stop : (stop : Stop) → GivesPage m path p i taken old new (Err stop) → Gives {A = A} show (Err stop) (page_entries m path p i)
      by_stop (Refused refusal) gives = gives
      by_stop NoMemory gives = tt
      by_stop DiskFailed gives = tt

ok_err : (es : List Ended) (refusal : Refusal) → ◌≡◌ {A = Result (List Ended) Refusal} (Ok es) (Err refusal) → ⊥
ok_err es refusal e = cc

-- of an index that stands there it is read
pub whole_page : (m : Files) (a : Ranged) (i from to : ℕ) (whole : StandsWhole m a.pages) → i < page_count (pages_by a.pages).count
    → page_entries m a.path a.pages i ≡ Ok (page m a _ whole.index whole.steps from to i)
whole_page m a i from to whole below = page_read m a _ whole.index whole.steps from to i (omega (arith, below, ap page_count (whole.index).count))

pub page_unrefused : {A : Type 0} (show : A → List Ended) (m : Files) (path : List ℕ) (p : IndexPages) (i : ℕ) (result : Result A Stop) → StandsWhole m p → i < page_count (pages_by p).count
    → Gives show result (page_entries m path p i) → IsUnrefused result
page_unrefused show m path p i (Ok x) whole below gives = tt
page_unrefused show m path p i (Err (Refused refusal)) whole below gives = ok_err _ refusal (sym (whole_page m (ranged path p) i 0 0 whole below) ∙ gives)
page_unrefused show m path p i (Err NoMemory) whole below gives = tt
page_unrefused show m path p i (Err DiskFailed) whole below gives = tt

-- and its parts are of pieces that stand there
pub whole_parts : (m : Files) (a : Ranged) (i from to : ℕ) (es : List Ended) (parts : List Part) → StandsWhole m a.pages → i < page_count (pages_by a.pages).count
    → page_entries m a.path a.pages i ≡ Ok es → parts ≡ parts_in from to (start_by a.pages i) es → HoldsParts m parts
whole_parts m a i from to es parts whole below read are =
    let holds = page_holds m a _ whole.index whole.steps from to whole.pieces refl whole.held i in
    let at : i < page_count (length (ends_from 0 whole.pieces)) = omega (arith, below, ap page_count (whole.index).count) in
    let same = same_entries _ es (sym (whole_page m a i from to whole below) ∙ read) in
    subst (HoldsParts m)
    (ap (λ n. parts_in from to n (page m a _ whole.index whole.steps from to i)) (sym ((whole.index).pages i at).start) ∙ ap (parts_in from to (start_by a.pages i)) same ∙ sym are) holds
  where
    same_entries : (x y : List Ended) → ◌≡◌ {A = Result (List Ended) Refusal} (Ok x) (Ok y) → x ≡ y
    same_entries x y e = cc

-- ---- a range of it

module _ (m : Files) (a : Ranged) (i from to : ℕ) where
  pub range_of_page : (es : List Ended) → page_entries m a.path a.pages i ≡ Ok es → page_range m a i from to ≡ parts_at m (parts_in from to (start_by a.pages i) es)
  unfolding page_range
  range_of_page es is = ap (λ (r : Result (List Ended) Refusal). r >>= λ entries. parts_at m (parts_in from to (start_by a.pages i) entries)) is

  pub range_stops : {A B : Type 0} (show : A → List Ended) (f : B → List ℕ) (old : List ℕ) (stop : Stop) (result : Result B Stop) → IsErrAnd result (λ x. x ≡ stop)
      → Gives show (Err stop) (page_entries m a.path a.pages i) → Gives f result (behind old (page_range m a i from to))
  unfolding page_range
  range_stops {A} {B} show f old stop (Ok x) is gives = absurd is
  range_stops {A} {B} show f old stop (Err x) is gives = subst (λ s. Gives {A = B} f (Err s) (behind old (page_range m a i from to))) (sym is) (by_stop stop gives)
    where
      by_stop : (stop : Stop) → Gives show (Err stop) (page_entries m a.path a.pages i) → Gives {A = B} f (Err stop) (behind old (page_range m a i from to))
      by_stop (Refused refusal) gives = ap (λ (r : Result (List Ended) Refusal). behind old (r >>= λ entries. parts_at m (parts_in from to (start_by a.pages i) entries))) gives
      by_stop NoMemory gives = tt
      by_stop DiskFailed gives = tt

  -- as it was read
  pub range_of_read : (x : ReadPage) → IsPageRead a.pages i x → page_entries m a.path a.pages i ≡ Ok (ends_of x.entries.items) → page_range m a i from to ≡ parts_at m (parts_on from to x)
  range_of_read x is read = range_of_page (ends_of x.entries.items) read ∙ ap (λ ps. parts_at m ps) (sym (read_parts_are a.pages i from to x is))

-- a chunk of it that is damaged is needed
pub among_needed : (a : Ranged) (i from to : ℕ) (es : List Ended) (parts : List Part) (stop : Stop) → AreKept a.pages i es → parts ≡ parts_in from to (start_by a.pages i) es
    → StopsAmong (digests_of parts) stop → IfRefused (RefusesRead a from to) stop
among_needed a i from to es parts (Refused refusal) kept are among =
    let digest = (among.0).0 in
    let found = ((among.0).2).0 in
    subst (RefusesRead a from to) (sym ((among.0).2).1)
    (needed digest found (subst (λ ps. Contains (digests_of ps) digest) are (among.0).1))
  where
    needed : (digest : Digest32) (found : ChunkFault) → Contains (digests_of (parts_in from to (start_by a.pages i) es)) digest → RefusesRead a from to (Damaged digest found)
    needed digest found has = record { place = i; entries = es; kept = kept; has = has }
among_needed a i from to es parts NoMemory kept are among = tt
among_needed a i from to es parts DiskFailed kept are among = tt

-- an unreadable page
pub page_refuses : (a : Ranged) (from to : ℕ) (stop : Stop) → IfRefused (λ refusal. refusal ≡ Unreadable a.path) stop → IfRefused (RefusesRead a from to) stop
page_refuses a from to (Refused refusal) is = subst (RefusesRead a from to) (sym is) refl
page_refuses a from to NoMemory is = tt
page_refuses a from to DiskFailed is = tt

-- ---- page by page

module _ (m : Files) (a : Ranged) (from to count i : ℕ) (below : i < count) where
  from_is : count - i ≡ suc (count - (i + 1))
  from_is = omega (arith, below)

  -- one page more
  pub range_more : nat_le to (start_by a.pages i) ≡ false
      → range_from m a from to (count - i) i ≡ (page_range m a i from to >>= λ bytes. behind bytes (range_from m a from to (count - (i + 1)) (i + 1)))
  unfolding range_from
  range_more e =
      ap (λ n. range_from m a from to n i) from_is
      ∙ ap (λ b. cond b (Ok []) (page_range m a i from to >>= λ bytes. behind bytes (range_from m a from to (count - (i + 1)) (i + 1)))) e

  -- one that begins where the range ends or behind it
  pub range_past : nat_le to (start_by a.pages i) ≡ true → range_from m a from to (count - i) i ≡ Ok []
  unfolding range_from
  range_past e =
      ap (λ n. range_from m a from to n i) from_is
      ∙ ap (λ b. cond b (Ok []) (page_range m a i from to >>= λ bytes. behind bytes (range_from m a from to (count - (i + 1)) (i + 1)))) e

-- no page more
pub range_done : (m : Files) (a : Ranged) (from to count i : ℕ) → count ≤ i → range_from m a from to (count - i) i ≡ Ok []
unfolding range_from
range_done m a from to count i past = let none : count - i ≡ 0 = omega (arith, past) in ap (λ n. range_from m a from to n i) none

pub behind_none : (front : List ℕ) (r : Result (List ℕ) Refusal) → r ≡ Ok [] → behind front r ≡ Ok front
behind_none front r is = ap (behind front) is ∙ ap Ok (append-nil front)

-- what a page's range stops by stops all
pub page_stops : {A : Type 0} (B : Type 0) (f : A → List ℕ) (old new : List ℕ) (all more : Result (List ℕ) Refusal) (one : Result (List ℕ) Refusal) (stop : Stop) (result : Result A Stop) → IsErrAnd result (λ x. x ≡ stop)
    → all ≡ behind old (one >>= λ bytes. behind bytes more) → Gives {A = B} (λ _. new) (Err stop) (behind old one) → Gives f result all
page_stops B f old new all more one stop (Ok x) is e gives = absurd is
page_stops {A} B f old new all more one stop (Err x) is e gives = subst (λ s. Gives {A = A} f (Err s) all) (sym is) (by_stop stop gives)
  where
    by_stop : (stop : Stop) → Gives {A = B} (λ _. new) (Err stop) (behind old one) → Gives {A = A} f (Err stop) all
    by_stop (Refused refusal) gives = e ∙ behind-then old one more ∙ ap (λ (r : Result (List ℕ) Refusal). r >>= λ bytes. behind bytes more) gives
    by_stop NoMemory gives = tt
    by_stop DiskFailed gives = tt

pub page_given : (old new : List ℕ) (all more one : Result (List ℕ) Refusal) → all ≡ behind old (one >>= λ bytes. behind bytes more) → behind old one ≡ Ok new → all ≡ behind new more
page_given old new all more one e gives = e ∙ behind-then old one more ∙ ap (λ (r : Result (List ℕ) Refusal). r >>= λ bytes. behind bytes more) gives

-- the bytes so far are no more than those before and what the range has up to the page
pub fits_more : (p : IndexPages) (i from to before : ℕ) (old new : List ℕ) → from ≤ to → start_by p i < to → Grows p i from to old new → length old ≤ before + (min to (max from (start_by p i)) - from)
    → length new ≤ before + (min to (max from (start_by p (i + 1))) - from)
fits_more p i from to before old new order low grows size =
    let next = stops_next p i in
    omega (arith, order, low, grows.size, grows.rises, size, ap (λ n. before + (min to (max from n) - from)) next)

pub if_err : {A : Type 0} {P Q : Stop → Type 0} (result : Result A Stop) → ((stop : Stop) → P stop → Q stop) → IfErr result P → IfErr result Q
if_err (Ok x) f h = tt
if_err (Err stop) f h = f stop h

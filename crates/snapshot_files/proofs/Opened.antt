-- An index that is opened for its pages to be read.
use Rattle.std.proofs.Common.{◌≡◌, ◌⊎◌, inl, inr, ℕ, List, Option, Some, None, Result, Ok, Err, refl, sym, ap, subst, ◌∙◌, arith}
use Rattle.std.specs.FinMap.{get}
use Rattle.disk_trait.specs.Files.{Files}
use Rattle.store_types.specs.Chain.Refusing.{◌>>=◌, or_else}
use Rattle.store_types.specs.declared.refusal.Refusal.{Refusal}
use Rattle.store_types.specs.declared.refusal.Refusal.TheVariants.{Unreadable}
use Rattle.wire_commands.specs.declared.reply.Reply.{Reply}
use Rattle.store_files.specs.DynamicIndex.{Ended}
use Rattle.index_pages.specs.declared.fault.PageFault.{PageFault}
use Rattle.index_pages.specs.declared.fault.PageFault.TheVariants as faults
use Rattle.index_pages.specs.Gives as page_gives
use Rattle.std.specs.Prelude.{IsErrAnd, IsErrOf}
use Rattle.paged_indexes.specs.declared.index.IndexPages.{IndexPages}
use Rattle.paged_indexes.specs.declared.kinds.IndexKind.{IndexKind}
use Rattle.paged_indexes.specs.Handing.{HandsOn}
use Rattle.paged_indexes.specs.Index.{HandsInto, entries_in, opened, told_at}
use Rattle.paged_indexes.proofs.Indexing.{opened_entries, opened_nothing, unopened_entries}
use Rattle.store_model.specs.WriterSteps.{part_of}
use Rattle.store_stops.specs.declared.stop.Stop.{Stop}
use Rattle.store_stops.specs.declared.stop.Stop.TheVariants as stops
use Rattle.store_stops.specs.Stops.{Gives, IfRefused}
use Rattle.snapshot_files.specs.declared.index.IndexPart.{IndexPart}
use Rattle.snapshot_files.specs.Indexes.{GivesIndex, GivesPage, Indexed, IsPage, IsRead, StopsBy, entries_or, index_at, index_opened, page_entries, pages_at}
use Rattle.snapshot_files.specs.Parts.{part_at, part_from, part_reply}
use Rattle.snapshot_files.proofs.Indexed.{at_nothing, at_text, index_is, index_with, no_index}

ok_err : (p : IndexPages) (r : Refusal) → ◌≡◌ {A = Result IndexPages Refusal} (Ok p) (Err r) → ⊥
ok_err p r e = cc

err_ok : (r : Refusal) (p : IndexPages) → ◌≡◌ {A = Result IndexPages Refusal} (Err r) (Ok p) → ⊥
err_ok r p e = cc

err_is : (a b : Refusal) → ◌≡◌ {A = Result IndexPages Refusal} (Err a) (Err b) → a ≡ b
err_is a b e = cc

part_err_is : (a b : Refusal) → ◌≡◌ {A = Result Reply Refusal} (Err a) (Err b) → a ≡ b
part_err_is a b e = cc

-- ---- a text is an index exactly where it is opened

-- a text is there, with these entries
pub record IsThere (content : Files) (path : List ℕ) (kind : IndexKind) : Type 0 where
  pub text : List ℕ
  pub entries : List Ended
  pub there : get content path ≡ Some text
  pub read : entries_in kind text ≡ Some entries

pub opened_there : (content : Files) (path : List ℕ) (kind : IndexKind) (p : IndexPages) → index_opened content path kind ≡ Ok p → IsThere content path kind
unfolding index_opened
opened_there content path kind p is = by_pages (opened content path kind) refl is
  where
    by_file : (q : IndexPages) → opened content path kind ≡ Ok q → (o : Option (List ℕ)) → get content path ≡ o → IsThere content path kind
    by_file q found (Some text) there =
        let x = opened_entries content path kind text q there found in
        record { text = text; entries = x.0; there = there; read = x.1 }
    by_file q found None there = absurd (opened_nothing content path kind q there found)

    by_pages : (r : Result IndexPages PageFault) → opened content path kind ≡ r → pages_at path r ≡ Ok p → IsThere content path kind
    by_pages (Ok q) found e = by_file q found (get content path) refl
    by_pages (Err fault) found e = absurd (err_ok (Unreadable path) p e)

-- what is unopened there is none
pub unopened_there : (content : Files) (path : List ℕ) (kind : IndexKind) (r : Refusal) (text : List ℕ) → get content path ≡ Some text → index_opened content path kind ≡ Err r
    → (entries_in kind text ≡ None) × (r ≡ Unreadable path)
unfolding index_opened
unopened_there content path kind r text there is = by_pages (opened content path kind) refl is
  where
    by_pages : (q : Result IndexPages PageFault) → opened content path kind ≡ q → pages_at path q ≡ Err r → (entries_in kind text ≡ None) × (r ≡ Unreadable path)
    by_pages (Ok p) found e = absurd (ok_err p r e)
    by_pages (Err fault) found e = (unopened_entries content path kind text fault there found, sym (err_is (Unreadable path) r e))

-- ---- a part of it

-- where a part is given, its text is there
pub part_text : (content : Files) (path : List ℕ) (offset : ℕ) (part : Reply) → part_at content path offset ≡ Ok part
    → (text : List ℕ) × (get content path ≡ Some text) × (part_from text offset ≡ Ok part)
part_text content path offset part is = by_file (get content path) refl is
  where
    by_file : (o : Option (List ℕ)) → get content path ≡ o → (or_else (Unreadable path) o >>= λ text. part_from text offset) ≡ Ok part
        → (text : List ℕ) × (get content path ≡ Some text) × (part_from text offset ≡ Ok part)
    by_file (Some text) there given = (text, there, given)
    by_file None there given = cc

abbrev joined : List ℕ → Result Reply Refusal → Option (List Ended) → Result Indexed Refusal
joined path part entries = part >>= λ p. or_else (Unreadable path) entries >>= λ es. Ok (record { part = p; entries = es })

-- the refusal of a part is that of the index
pub part_refused : (content : Files) (path : List ℕ) (kind : IndexKind) (offset : ℕ) (refusal : Refusal) → part_at content path offset ≡ Err refusal
    → index_at content path kind offset ≡ Err refusal
part_refused content path kind offset refusal is = by_file (get content path) refl is
  where
    by_file : (o : Option (List ℕ)) → get content path ≡ o → (or_else (Unreadable path) o >>= λ text. part_from text offset) ≡ Err refusal
        → index_at content path kind offset ≡ Err refusal
    by_file (Some text) there told =
        at_text content path kind offset text there ∙ index_with path kind text offset (entries_in kind text) refl ∙ ap (λ p. joined path p (entries_in kind text)) told
    by_file None there told = at_nothing content path kind offset there ∙ ap Err (part_err_is (Unreadable path) refusal told)

pub part_and_entries : (content : Files) (path : List ℕ) (kind : IndexKind) (offset : ℕ) (text : List ℕ) (part : Reply) (found : Option (List Ended))
    → get content path ≡ Some text → part_from text offset ≡ Ok part → entries_in kind text ≡ found → index_at content path kind offset ≡ joined path (Ok part) found
part_and_entries content path kind offset text part found there given is =
    at_text content path kind offset text there ∙ index_with path kind text offset found is ∙ ap (λ p. joined path p found) given

-- ---- from the first byte on it is read whole

pub opened_at : (content : Files) (path : List ℕ) (kind : IndexKind) (x : IsThere content path kind)
    → index_at content path kind 0 ≡ Ok (record { part = part_of x.text 0; entries = x.entries })
opened_at content path kind x = at_text content path kind 0 x.text x.there ∙ index_is path kind x.text 0 x.entries (omega arith) x.read

pub unopened_at : (content : Files) (path : List ℕ) (kind : IndexKind) (r : Refusal) → index_opened content path kind ≡ Err r → index_at content path kind 0 ≡ Err r
unfolding index_opened
unopened_at content path kind r is = by_file (get content path) refl
  where
    by_fault : get content path ≡ None → (q : Result IndexPages PageFault) → opened content path kind ≡ q → pages_at path q ≡ Err r → r ≡ Unreadable path
    by_fault none (Ok p) found e = absurd (ok_err p r e)
    by_fault none (Err fault) found e = sym (err_is (Unreadable path) r e)

    by_file : (o : Option (List ℕ)) → get content path ≡ o → index_at content path kind 0 ≡ Err r
    by_file (Some text) there =
        let x = unopened_there content path kind r text there is in
        at_text content path kind 0 text there ∙ no_index path kind text 0 (omega arith) x.0 ∙ ap Err (sym x.1)
    by_file None there = at_nothing content path kind 0 there ∙ ap Err (sym (by_fault there (opened content path kind) refl is))

-- ---- what a call tells

-- a fault of an index's pages, as a stop
pub stop_gives : (path : List ℕ) (fault : PageFault) (stop : Stop) (r : Result IndexPages PageFault) → StopsBy path fault stop → page_gives.Gives {A = IndexPages} (λ x. x) (Err fault) r
    → Gives {A = IndexPages} (λ x. x) (Err stop) (pages_at path r)
stop_gives path fault stop r by is = by_fault fault by is
  where
    no_memory : stop ≡ stops.NoMemory → Gives {A = IndexPages} (λ x. x) (Err stop) (pages_at path r)
    no_memory e = subst (λ s. Gives {A = IndexPages} (λ x. x) (Err s) (pages_at path r)) (sym e) tt

    told : (fault : PageFault) → pages_at path (Err fault) ≡ Err (Unreadable path) → (stop ≡ stops.NoMemory) ⊎ (stop ≡ stops.Refused (Unreadable path)) → r ≡ Err fault
        → Gives {A = IndexPages} (λ x. x) (Err stop) (pages_at path r)
    told fault at (inl e) is = no_memory e
    told fault at (inr e) is = subst (λ s. Gives {A = IndexPages} (λ x. x) (Err s) (pages_at path r)) (sym e) (ap (pages_at path) is ∙ at)

    by_fault : (fault : PageFault) → StopsBy path fault stop → page_gives.Gives {A = IndexPages} (λ x. x) (Err fault) r → Gives {A = IndexPages} (λ x. x) (Err stop) (pages_at path r)
    by_fault faults.Missing by is = told faults.Missing refl by is
    by_fault (faults.BadIndex cause) by is = told (faults.BadIndex cause) refl by is
    by_fault (faults.Changed page) by is = told (faults.Changed page) refl by is
    by_fault faults.Failed by is = subst (λ s. Gives {A = IndexPages} (λ x. x) (Err s) (pages_at path r)) (sym by) tt
    by_fault faults.NoMemory by is = no_memory by

pub ok_unfailed : {A : Type 0} (x : A) → IsErrOf {T = A} {E = Stop} (Ok x) stops.DiskFailed → ⊥
ok_unfailed x e = cc

module _ {T : Type 0} (content : Files) (path : List ℕ) (kind : IndexKind) (offset : ℕ) (taken : T → ℕ → List Ended → Type 0) (old new : T) where
  pub stops_index : (e : Stop) (result : Result IndexPart Stop) → IsErrAnd result (λ x. x ≡ e) → IfRefused (λ r. index_at content path kind offset ≡ Err r) e
      → GivesIndex content path kind offset taken old new result
  stops_index e (Ok i) is refused = absurd is
  stops_index e (Err x) is refused = subst (λ s. GivesIndex content path kind offset taken old new (Err s)) (sym is) (by_stop e refused)
    where
      by_stop : (e : Stop) → IfRefused (λ r. index_at content path kind offset ≡ Err r) e → GivesIndex content path kind offset taken old new (Err e)
      by_stop (stops.Refused r) h = h
      by_stop stops.NoMemory h = tt
      by_stop stops.DiskFailed h = tt

  -- the part is refused
  pub part_stops : (e : Stop) (result : Result IndexPart Stop) → IsErrAnd result (λ x. x ≡ e) → Gives part_reply (Err e) (part_at content path offset)
      → GivesIndex content path kind offset taken old new result
  part_stops e result is gives = stops_index e result is (by_stop e gives)
    where
      by_stop : (e : Stop) → Gives part_reply (Err e) (part_at content path offset) → IfRefused (λ r. index_at content path kind offset ≡ Err r) e
      by_stop (stops.Refused r) h = part_refused content path kind offset r h
      by_stop stops.NoMemory h = tt
      by_stop stops.DiskFailed h = tt

  -- or the index is none
  pub open_stops : (e : Stop) (result : Result IndexPart Stop) (part : Reply) → IsErrAnd result (λ x. x ≡ e) → part_at content path offset ≡ Ok part
      → Gives {A = IndexPages} (λ x. x) (Err e) (index_opened content path kind) → GivesIndex content path kind offset taken old new result
  open_stops e result part is given gives = stops_index e result is (by_stop e gives)
    where
      by_stop : (e : Stop) → Gives {A = IndexPages} (λ x. x) (Err e) (index_opened content path kind) → IfRefused (λ r. index_at content path kind offset ≡ Err r) e
      by_stop (stops.Refused r) h =
          let t = part_text content path offset part given in
          let x = unopened_there content path kind r t.0 t.1 h in
          part_and_entries content path kind offset t.0 part None t.1 t.2 x.0 ∙ ap Err (sym x.1)
      by_stop stops.NoMemory h = tt
      by_stop stops.DiskFailed h = tt

  -- it is read
  pub is_read : (i : IndexPart) → part_at content path offset ≡ Ok (part_reply i.part) → index_opened content path kind ≡ Ok i.pages
      → ((text : List ℕ) (entries : List Ended) → get content path ≡ Some text → entries_in kind text ≡ Some entries → HandsOn taken 0 entries old new)
      → IsRead content path kind offset taken old new i
  is_read i given opens hands =
      let t = part_text content path offset (part_reply i.part) given in
      let x = opened_there content path kind i.pages opens in
      let same : x.text ≡ t.0 = some_text x.text t.0 (sym x.there ∙ t.1) in
      record {
        entries = x.entries;
        read = part_and_entries content path kind offset t.0 (part_reply i.part) (Some x.entries) t.1 t.2 (ap (entries_in kind) (sym same) ∙ x.read);
        opened = opens;
        hands = hands x.text x.entries x.there x.read;
      }
    where
      some_text : (a b : List ℕ) → Some a ≡ Some b → a ≡ b
      some_text a b e = cc

  -- it is not read
  pub unread_index : (e : Stop) → GivesIndex content path kind offset taken old new (Err e) → IfRefused (λ r. index_at content path kind offset ≡ Err r) e
  unread_index (stops.Refused r) h = h
  unread_index stops.NoMemory h = tt
  unread_index stops.DiskFailed h = tt

  pub unread_gives : {B : Type 0} (f : B → Indexed) (e : Stop) (result : Result B Stop) → IsErrAnd result (λ x. x ≡ e) → GivesIndex content path kind offset taken old new (Err e)
      → Gives f result (index_at content path kind offset)
  unread_gives f e (Ok b) is h = absurd is
  unread_gives {B} f e (Err x) is h = subst (λ s. Gives {A = B} f (Err s) (index_at content path kind offset)) (sym is) (by_stop e h)
    where
      by_stop : (e : Stop) → GivesIndex content path kind offset taken old new (Err e) → Gives {A = B} f (Err e) (index_at content path kind offset)
      by_stop (stops.Refused r) h = h
      by_stop stops.NoMemory h = tt
      by_stop stops.DiskFailed h = tt

-- ---- a page

module _ {T : Type 0} (content : Files) (path : List ℕ) (p : IndexPages) (i : ℕ) (taken : T → ℕ → List Ended → Type 0) (old new : T) where
  pub page_given : HandsInto content p i taken old new (Ok tt) → IsPage content path p i taken old new
  unfolding page_entries
  page_given h = record { entries = h.entries; read = ap (entries_or path) h.told_is; hands = h.hands }

  pub page_stops : (fault : PageFault) (stop : Stop) → StopsBy path fault stop → HandsInto content p i taken old new (Err fault) → GivesPage content path p i taken old new (Err stop)
  unfolding page_entries
  page_stops fault stop by is = by_fault fault by is
    where
      no_memory : stop ≡ stops.NoMemory → GivesPage content path p i taken old new (Err stop)
      no_memory e = subst (λ s. GivesPage content path p i taken old new (Err s)) (sym e) tt

      told : (fault : PageFault) → (stop ≡ stops.NoMemory) ⊎ (stop ≡ stops.Refused (Unreadable path)) → told_at content p i ≡ Err fault
          → GivesPage content path p i taken old new (Err stop)
      told fault (inl e) is = no_memory e
      told fault (inr e) is = subst (λ s. GivesPage content path p i taken old new (Err s)) (sym e) (ap (entries_or path) is)

      by_fault : (fault : PageFault) → StopsBy path fault stop → HandsInto content p i taken old new (Err fault) → GivesPage content path p i taken old new (Err stop)
      by_fault faults.Missing by is = told faults.Missing by is
      by_fault (faults.BadIndex cause) by is = told (faults.BadIndex cause) by is
      by_fault (faults.Changed page) by is = told (faults.Changed page) by is
      by_fault faults.Failed by is = subst (λ s. GivesPage content path p i taken old new (Err s)) (sym by) tt
      by_fault faults.NoMemory by is = no_memory by

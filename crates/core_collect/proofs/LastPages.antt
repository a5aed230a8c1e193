-- The page at hand: it is what would be read of an index that stands there.
use Rattle.std.proofs.Common.{◌≡◌, ◌⊎◌, ◌==◌, inl, inr, ℕ, Bool, true, false, cond, List, length, Option, Some, None, Result, Ok, Err, IsErrAnd, IsTrue, refl, sym, ap, subst, ◌∙◌}
use Rattle.std.specs.FinMap.{get}
use Rattle.std.proofs.lemmas.Bool.{eqb-true, eq-eqb, ne_eqb}
use Rattle.disk_trait.specs.Files.{Files}
use Rattle.index_pages.specs.declared.fault.PageFault.{PageFault}
use Rattle.index_pages.specs.declared.fault.PageFault.TheVariants.{Missing, BadIndex, Changed, Failed, NoMemory}
use Rattle.index_pages.specs.Gives.{Gives}
use Rattle.index_pages.specs.Paged.{Paged, is_kept, page_at, page_in, page_len, page_text}
use Rattle.paged_indexes.specs.declared.index.IndexPages.{IndexPages}
use Rattle.paged_indexes.specs.Handing.{HandsAll, HandsTold}
use Rattle.paged_indexes.specs.Index.{entries_read, pages_by, start_by, told_by}
use Rattle.snapshot_files.specs.Indexes.{entries_or}
use Rattle.core_state.specs.declared.marked.MarkedPage.{MarkedPage}
use Rattle.core_state.specs.MarkedPage.{FitsLast, IsMarkedPage}
use Rattle.core_state.proofs.Finding.{some_same}
use Rattle.core_collect.specs.declared.marking.Batch.{Batch}
use Rattle.core_collect.specs.declared.marking.Unread.{Unread}
use Rattle.core_collect.specs.declared.marking.Unread.TheVariants as unreads
use Rattle.core_collect.specs.Entries.{GivesPage, IsThePage, TakesPage, TellsPage, bytes_at, page_told}
use Rattle.core_collect.specs.Marking.{UnreadBy}
use Rattle.core_collect.proofs.Batches.{Taken, hands_all, told_anew}
use Rattle.core_collect.proofs.Counted.{kept_len}

-- ---- of a text that stands there

module _ (m : Files) (q : Paged) (i : ℕ) (text : List ℕ) (there : get m q.name ≡ Some text) where
  -- what is read is the text's
  pub read_is : (bytes : List ℕ) → page_at m q i ≡ Ok bytes → bytes ≡ page_text q i text
  unfolding page_at
  read_is bytes read = by_kept (is_kept q i (page_text q i text)) (sym (ap (page_in q i) there) ∙ read)
    where
      by_kept : (b : Bool) → ◌≡◌ {A = Result (List ℕ) PageFault} (cond b (Ok (page_text q i text)) (Err (Changed i))) (Ok bytes) → bytes ≡ page_text q i text
      by_kept true e = cc
      by_kept false e = cc

  -- what is the text's would be read
  pub reads_again : (bytes : List ℕ) → bytes ≡ page_text q i text → IsTrue (is_kept q i bytes) → page_at m q i ≡ Ok bytes
  unfolding page_at
  reads_again bytes same kept =
      let fits : is_kept q i (page_text q i text) ≡ true = ap (is_kept q i) (sym same) ∙ kept in
      ap (page_in q i) there ∙ ap (λ b. let r : Result (List ℕ) PageFault = cond b (Ok (page_text q i text)) (Err (Changed i)) in r) fits
      ∙ ap (λ xs. let r : Result (List ℕ) PageFault = Ok xs in r) (sym same)

-- so it is of each page that is at hand
pub same_bytes : (m : Files) (p : IndexPages) (at_hand : Option MarkedPage) → ((q : MarkedPage) → at_hand ≡ Some q → page_at m (pages_by p) q.number ≡ Ok q.bytes) → (i : ℕ)
    → bytes_at m p at_hand i ≡ page_at m (pages_by p) i
same_bytes m p None had i = refl
same_bytes m p (Some q) had i = by_number (q.number == i) refl
  where
    by_number : (b : Bool) → (q.number == i) ≡ b → cond (q.number == i) (Ok q.bytes) (page_at m (pages_by p) i) ≡ page_at m (pages_by p) i
    by_number true at = ap (λ b. cond b (Ok q.bytes) (page_at m (pages_by p) i)) at ∙ sym (had q refl) ∙ ap (page_at m (pages_by p)) (eqb-true q.number i at)
    by_number false at = ap (λ b. cond b (Ok q.bytes) (page_at m (pages_by p) i)) at

-- ---- a page as it is had

-- the one at hand
pub hand_is : (m : Files) (p : IndexPages) (q : MarkedPage) (i : ℕ) → q.number ≡ i → bytes_at m p (Some q) i ≡ Ok q.bytes
hand_is m p q i same = ap (λ b. cond b (Ok q.bytes) (page_at m (pages_by p) i)) (eq-eqb q.number i same)

-- or another
pub other_is : (m : Files) (p : IndexPages) (q : MarkedPage) (i : ℕ) → (q.number ≡ i → ⊥) → bytes_at m p (Some q) i ≡ page_at m (pages_by p) i
other_is m p q i other = ap (λ b. cond b (Ok q.bytes) (page_at m (pages_by p) i)) (ne_eqb q.number i other)

pub fits_hand : (p : IndexPages) (q : MarkedPage) (i : ℕ) → FitsLast p (Some q) → q.number ≡ i → IsThePage p i q
fits_hand p q i fits same = record { number = same; read = fits.read q refl }

pub fits_page : (p : IndexPages) (i : ℕ) (q : MarkedPage) → IsThePage p i q → FitsLast p (Some q)
fits_page p i q page = record { read = λ x is. subst (IsMarkedPage p) (some_same q x is) page.read }

pub fits_no_page : (p : IndexPages) → FitsLast p None
fits_no_page p = record { read = λ q is. absurd (none_some q is) }
  where
    none_some : (q : MarkedPage) → ◌≡◌ {A = Option MarkedPage} None (Some q) → ⊥
    none_some q e = cc

pub page_long : (p : IndexPages) (i : ℕ) (q : MarkedPage) → IsThePage p i q → length q.bytes ≡ page_len (pages_by p) i
page_long p i q page = kept_len p i q.bytes (subst (λ n. IsTrue (is_kept (pages_by p) n q.bytes)) page.number (page.read).kept)

-- ---- its entries are handed on

pub takes_page : (p : IndexPages) (i : ℕ) (old new : Batch) (q : MarkedPage) → IsThePage p i q → HandsAll Taken (start_by p i) (told_by p i q.bytes) old new → TakesPage p i old new q
takes_page p i old new q page hands = record { page = page; entries = hands.entries; told = hands.told_is; takes = hands_all (start_by p i) hands.entries old new hands.hands }

module _ (m : Files) (p : IndexPages) (at_hand : Option MarkedPage) (i : ℕ) where
  -- the page is not had
  by_gives : (fault : PageFault) → Gives (λ (q : MarkedPage). q.bytes) (Err fault) (bytes_at m p at_hand i) → TellsPage m p at_hand i (Err fault)
  by_gives Missing gives = ap (entries_read p i) gives
  by_gives (BadIndex cause) gives = ap (entries_read p i) gives
  by_gives (Changed page) gives = ap (entries_read p i) gives
  by_gives Failed gives = tt
  by_gives NoMemory gives = tt

  pub tells_unread : (fault : PageFault) (r : Result MarkedPage PageFault) → IsErrAnd r (λ x. x ≡ fault) → Gives (λ (q : MarkedPage). q.bytes) (Err fault) (bytes_at m p at_hand i) → TellsPage m p at_hand i r
  tells_unread fault (Ok q) is gives = absurd is
  tells_unread fault (Err x) is gives = subst (λ y. TellsPage m p at_hand i (Err y)) (sym is) (by_gives fault gives)

  -- or does not spell its entries
  by_told : (start : ℕ) (old new : Batch) (bytes : List ℕ) → bytes_at m p at_hand i ≡ Ok bytes → (fault : PageFault) → HandsTold Taken start (told_by p i bytes) old new (Err fault) → TellsPage m p at_hand i (Err fault)
  by_told start old new bytes read Missing told = ap (entries_read p i) read ∙ told
  by_told start old new bytes read (BadIndex cause) told = ap (entries_read p i) read ∙ told
  by_told start old new bytes read (Changed page) told = ap (entries_read p i) read ∙ told
  by_told start old new bytes read Failed told = tt
  by_told start old new bytes read NoMemory told = tt

  pub tells_untold : (start : ℕ) (old new : Batch) (bytes : List ℕ) (fault : PageFault) (r : Result MarkedPage PageFault) → IsErrAnd r (λ x. x ≡ fault) → bytes_at m p at_hand i ≡ Ok bytes
      → HandsTold Taken start (told_by p i bytes) old new (Err fault) → TellsPage m p at_hand i r
  tells_untold start old new bytes fault (Ok q) is read told = absurd is
  tells_untold start old new bytes fault (Err x) is read told = subst (λ y. TellsPage m p at_hand i (Err y)) (sym is) (by_told start old new bytes read fault told)

  -- the index is unreadable then
  pub gives_unread : (path : List ℕ) (fault : PageFault) (unread : Unread) → UnreadBy path fault unread → TellsPage m p at_hand i (Err fault) → GivesPage m path p at_hand i (Err unread)
  unfolding page_told
  gives_unread path fault unread by tells = by_fault fault by tells
    where
      no_memory : unread ≡ unreads.NoMemory → GivesPage m path p at_hand i (Err unread)
      no_memory is = subst (λ u. GivesPage m path p at_hand i (Err u)) (sym is) tt

      told : (fault : PageFault) → (unread ≡ unreads.NoMemory) ⊎ (unread ≡ unreads.Unreadable path) → entries_read p i (bytes_at m p at_hand i) ≡ Err fault → GivesPage m path p at_hand i (Err unread)
      told fault (inl is) tells = no_memory is
      told fault (inr is) tells = subst (λ u. GivesPage m path p at_hand i (Err u)) (sym is) (ap (entries_or path) tells)

      by_fault : (fault : PageFault) → UnreadBy path fault unread → TellsPage m p at_hand i (Err fault) → GivesPage m path p at_hand i (Err unread)
      by_fault Missing by tells = told Missing by tells
      by_fault (BadIndex cause) by tells = told (BadIndex cause) by tells
      by_fault (Changed page) by tells = told (Changed page) by tells
      by_fault Failed by tells = subst (λ u. GivesPage m path p at_hand i (Err u)) (sym by) tt
      by_fault NoMemory by tells = no_memory by

-- another page is read
pub gives_other : (m : Files) (path : List ℕ) (p : IndexPages) (q : MarkedPage) (i : ℕ) → (q.number ≡ i → ⊥) → (r : Result MarkedPage Unread) → GivesPage m path p (Some q) i r → GivesPage m path p None i r
gives_other m path p q i other (Ok x) gives = sym (other_is m p q i other) ∙ gives
gives_other m path p q i other (Err (unreads.Unreadable name)) gives = sym (told_anew m path p (Some q) i (other_is m p q i other)) ∙ gives
gives_other m path p q i other (Err unreads.NoMemory) gives = tt
gives_other m path p q i other (Err unreads.DiskFailed) gives = tt

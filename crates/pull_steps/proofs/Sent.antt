-- The entries of an index from a place on, and which of their chunks are sent.
use Rattle.std.proofs.Common.{◌≡◌, ◌<◌, ◌≤◌, ◌+◌, ℕ, Bool, true, false, List, [], ◌∷◌, drop, length, get_or, None, Some, refl, sym, ap, ◌∙◌, arith, length-drop}
use Rattle.std.specs.Prelude.{◌==◌, if◌then◌else◌}
use Rattle.std.specs.FinMap.{FinMap, empty, entries, len-empty, len-entries, from_entries, get, get-entries, get-from_entries, nat_cmp-IsAntisymmetric, same_map, slice_cmp-IsAntisymmetric}
use Rattle.std.proofs.lemmas.Cmp.{nat_list_cmp_total}
use Rattle.std.proofs.lemmas.List.{drop_all, drop_more, nil_from_length}
use Rattle.store_types.specs.declared.append.AppendEntry.{AppendEntry}
use Rattle.store_types.specs.Names.{text_cmp}
use Rattle.store_history.specs.Pulling as model
use Rattle.store_history.specs.Pulling.{Pulling, SyncJob, asks, next_append, next_chunk, size_sent}
use Rattle.pull_steps.specs.declared.sending.Next.TheVariants as nexts
use Rattle.pull_steps.specs.declared.stages.Sending.{Sending}
use Rattle.pull_steps.specs.declared.stages.AtEntry.{AtEntry}
use Rattle.pull_steps.specs.States.{asks_at, entries_at, shown_course, shown_index, shown_stock}
use Rattle.pull_steps.specs.Entries.{append_from, chunk_from, from_next}
use Rattle.pull_steps.specs.Indexes.{fits_at, size_first}
use Rattle.pull_steps.specs.Taken.{mismatched_of}

-- a map by its entries is the map
pub entered : (m : FinMap text_cmp ℕ) → from_entries {R = text_cmp} (entries m) ≡ m
entered m = same_map nat_list_cmp_total (slice_cmp-IsAntisymmetric nat_cmp-IsAntisymmetric) _ _
    (λ q. get-from_entries nat_list_cmp_total (entries m) q ∙ sym (get-entries m q))

-- the empty map has none
pub none_entered : entries {R = text_cmp} (empty {K = List ℕ} {X = ℕ}) ≡ []
none_entered = nil_from_length (entries {R = text_cmp} (empty {K = List ℕ} {X = ℕ})) (sym (len-entries empty) ∙ len-empty text_cmp ℕ)

left_some : (xs : List AppendEntry) (i : ℕ) → i < length xs → 0 < length (drop i xs)
left_some xs i lt = simp length-drop (omega (arith, lt))

module _ (s : Sending) where
  pub size_is : (e : AppendEntry) → size_sent (shown_stock s.stock) e ≡ get s.stock.sent (e.digest).0
  size_is e = ap (λ m. get m (e.digest).0) (entered s.stock.sent)

  module _ (i : ℕ) (e : AppendEntry) (lt : i < length s.index.entries.items) (is : e ≡ get_or s.index.entries.items i e) where
    pub left_from : drop i s.index.entries.items ≡ e ∷ drop (i + 1) s.index.entries.items
    left_from = drop_more s.index.entries.items i e lt ∙ ap (λ x. x ∷ drop (i + 1) s.index.entries.items) (sym is)

    module _ (size : ℕ) (sent : size_sent (shown_stock s.stock) e ≡ Some size) where
      by_size : (fits : Bool) → fits_at s.index i size ≡ fits
          → chunk_from s (drop i s.index.entries.items) ≡ (if fits then chunk_from s (drop (i + 1) s.index.entries.items) else mismatched_of e.digest)
      unfolding next_chunk
      by_size fits is =
          let after = λ (b : Bool). if b then chunk_from s (drop (i + 1) s.index.entries.items) else mismatched_of e.digest in
          let told = sym (ap (λ es. size == size_first (shown_index s.index) es) left_from) ∙ is in
          ap (chunk_from s) left_from ∙ rw (sent, next_chunk) refl ∙ ap after told

      pub goes_past : fits_at s.index i size ≡ true → chunk_from s (drop i s.index.entries.items) ≡ chunk_from s (drop (i + 1) s.index.entries.items)
      goes_past is = by_size true is

      pub mismatches : fits_at s.index i size ≡ false → chunk_from s (drop i s.index.entries.items) ≡ from_next s (nexts.Mismatched e.digest)
      mismatches is = by_size false is

    pub stops_at : size_sent (shown_stock s.stock) e ≡ None → chunk_from s (drop i s.index.entries.items) ≡ from_next s (nexts.Unsent i)
    unfolding next_chunk
    stops_at unsent =
        ap (chunk_from s) left_from ∙ rw (unsent, next_chunk) refl
        ∙ sym (ap (asks_at (λ x later. model.reading_chunk (shown_course s.course) (shown_stock s.stock) (shown_index s.index) x later)) left_from)

  pub chunks_end : (i : ℕ) → length s.index.entries.items ≤ i → chunk_from s (drop i s.index.entries.items) ≡ from_next s nexts.End
  unfolding next_chunk
  chunks_end i le = ap (chunk_from s) (drop_all i s.index.entries.items le)

  appends_some : (xs : List AppendEntry) → 0 < length xs
      → asks_at (λ x later. model.appending (shown_course s.course) (shown_stock s.stock) (shown_index s.index) x later) xs ≡ append_from s xs
  unfolding next_append
  appends_some [] lt = absurd (omega (arith, lt))
  appends_some (e ∷ later) lt = refl

  pub appends_at : (i : ℕ) → i < length s.index.entries.items
      → asks_at (λ x later. model.appending (shown_course s.course) (shown_stock s.stock) (shown_index s.index) x later) (drop i s.index.entries.items)
      ≡ append_from s (drop i s.index.entries.items)
  appends_at i lt = appends_some (drop i s.index.entries.items) (left_some s.index.entries.items i lt)

-- ---- at an entry

-- what holds of every entry at hand
first_entry : (make : AppendEntry → List AppendEntry → Pulling) (P : SyncJob → Type 0) (xs : List AppendEntry) → 0 < length xs
    → ((e : AppendEntry) (later : List AppendEntry) → P (asks (make e later))) → P (asks_at make xs)
first_entry make P [] lt h = absurd (omega (arith, lt))
first_entry make P (e ∷ later) lt h = h e later

pub at_entry : (make : AppendEntry → List AppendEntry → Pulling) (P : SyncJob → Type 0) (xs : List AppendEntry) (i : ℕ) → i < length xs
    → ((e : AppendEntry) (later : List AppendEntry) → P (asks (make e later))) → P (asks_at make (drop i xs))
at_entry make P xs i lt h = first_entry make P (drop i xs) (left_some xs i lt) h

-- the entry, and those behind it
pub none_entry : AppendEntry
none_entry = record { digest = record { 0 = [] }; offset = 0 }

abbrev pub head_at : AtEntry → AppendEntry
head_at a = get_or (a.sending).index.entries.items a.place none_entry

abbrev pub tail_at : AtEntry → List AppendEntry
tail_at a = drop (a.place + 1) (a.sending).index.entries.items

heads : (x y : AppendEntry) (xs ys : List AppendEntry) → x ∷ xs ≡ y ∷ ys → x ≡ y
heads x y xs ys e = cc

-- it is the first of those at hand
pub first_is : (a : AtEntry) (item e : AppendEntry) (later : List AppendEntry) → item ≡ get_or (a.sending).index.entries.items a.place item → entries_at a ≡ e ∷ later → e ≡ item
first_is a item e later is left =
    heads e item later _ (sym left ∙ drop_more (a.sending).index.entries.items a.place item (omega (arith, a.within, (a.sending).index.entries.ok.0))
    ∙ ap (λ x. x ∷ drop (a.place + 1) (a.sending).index.entries.items) (sym is))

pub entries_are : (a : AtEntry) → entries_at a ≡ head_at a ∷ tail_at a
entries_are a = drop_more (a.sending).index.entries.items a.place none_entry (omega (arith, a.within, (a.sending).index.entries.ok.0))

pub asks_first : (make : AppendEntry → List AppendEntry → Pulling) (a : AtEntry) → asks_at make (entries_at a) ≡ asks (make (head_at a) (tail_at a))
asks_first make a = ap (asks_at make) (entries_are a)

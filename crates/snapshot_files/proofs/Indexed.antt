-- What is told of an index, by what is there.
use Rattle.std.proofs.Common.{◌≡◌, ℕ, ◌<◌, ◌≤◌, Bool, List, length, Option, Some, None, Result, Ok, Err, option_map, refl, sym, ap, ◌∙◌, arith}
use Rattle.std.proofs.lemmas.Bool.{le-leb, lt-leb}
use Rattle.std.specs.FinMap.{get}
use Rattle.disk_trait.specs.Files.{Files}
use Rattle.store_types.specs.Chain.Refusing.{◌>>=◌, unless, or_else}
use Rattle.store_types.specs.declared.refusal.Refusal.{Refusal}
use Rattle.store_types.specs.declared.refusal.Refusal.TheVariants.{BadRange, Unreadable}
use Rattle.wire_commands.specs.declared.reply.Reply.{Reply}
use Rattle.store_files.specs.FixedIndex.{FixedIndex, fixed_of}
use Rattle.store_files.specs.DynamicIndex.{Ended, DynamicIndex, dynamic_of}
use Rattle.store_files.specs.declared.causes.IndexFault.{IndexFault}
use Rattle.store_model.specs.WriterSteps.{part_of}
use Rattle.snapshot_files.specs.Parts.{part_from}
use Rattle.snapshot_files.proofs.PartLemmas.{none_of, some_of}
use Rattle.paged_indexes.specs.declared.kinds.IndexKind.{IndexKind}
use Rattle.paged_indexes.specs.declared.kinds.IndexKind.TheVariants.{Fixed, Dynamic}
use Rattle.paged_indexes.specs.Fixed.{fixed_ends}
use Rattle.paged_indexes.specs.Index.{entries_in}
use Rattle.snapshot_files.specs.Indexes.{Indexed, index_in, index_at}

-- ---- entries

pub fixed_read : (text : List ℕ) (x : FixedIndex) → fixed_of text ≡ Ok x → entries_in Fixed text ≡ Some (fixed_ends x)
unfolding entries_in
fixed_read text x is = ap (λ r. elim r [ Ok y ↦ Some (fixed_ends y) | Err cause ↦ None ]) is

pub fixed_fault : (text : List ℕ) (cause : IndexFault) → fixed_of text ≡ Err cause → entries_in Fixed text ≡ None
unfolding entries_in
fixed_fault text cause is = ap (λ r. elim r [ Ok y ↦ Some (fixed_ends y) | Err cause ↦ None ]) is

pub dynamic_read : (text : List ℕ) (x : DynamicIndex) → dynamic_of text ≡ Ok x → entries_in Dynamic text ≡ Some x.entries
unfolding entries_in
dynamic_read text x is = ap (λ r. elim r [ Ok y ↦ Some y.entries | Err cause ↦ None ]) is

pub dynamic_fault : (text : List ℕ) (cause : IndexFault) → dynamic_of text ≡ Err cause → entries_in Dynamic text ≡ None
unfolding entries_in
dynamic_fault text cause is = ap (λ r. elim r [ Ok y ↦ Some y.entries | Err cause ↦ None ]) is

-- ---- a text

abbrev joined : List ℕ → Result Reply Refusal → Option (List Ended) → Result Indexed Refusal
joined path part entries = part >>= λ p. or_else (Unreadable path) entries >>= λ es. Ok (record { part = p; entries = es })

abbrev ranged : List ℕ → ℕ → Bool → Result Reply Refusal
ranged text offset b = unless (BadRange (length text)) b >>= λ _. Ok (part_of text offset)

in_parts : (path : List ℕ) (kind : IndexKind) (text : List ℕ) (offset : ℕ) → index_in path kind text offset ≡ joined path (part_from text offset) (entries_in kind text)
unfolding index_in
in_parts path kind text offset = refl

inside : (text : List ℕ) (offset : ℕ) → offset ≤ length text → part_from text offset ≡ Ok (part_of text offset)
inside text offset le = ap (ranged text offset) (le-leb offset (length text) le)

-- where the entries are these
pub index_with : (path : List ℕ) (kind : IndexKind) (text : List ℕ) (offset : ℕ) (found : Option (List Ended)) → entries_in kind text ≡ found →
    index_in path kind text offset ≡ joined path (part_from text offset) found
index_with path kind text offset found is = in_parts path kind text offset ∙ ap (joined path (part_from text offset)) is

pub index_is : (path : List ℕ) (kind : IndexKind) (text : List ℕ) (offset : ℕ) (entries : List Ended) → offset ≤ length text → entries_in kind text ≡ Some entries →
    index_in path kind text offset ≡ Ok (record { part = part_of text offset; entries = entries })
index_is path kind text offset entries le is =
    index_with path kind text offset (Some entries) is ∙ ap (λ p. joined path p (Some entries)) (inside text offset le)

pub no_index : (path : List ℕ) (kind : IndexKind) (text : List ℕ) (offset : ℕ) → offset ≤ length text → entries_in kind text ≡ None →
    index_in path kind text offset ≡ Err (Unreadable path)
no_index path kind text offset le is =
    index_with path kind text offset None is ∙ ap (λ p. joined path p None) (inside text offset le)

beyond : (path : List ℕ) (kind : IndexKind) (text : List ℕ) (offset : ℕ) → length text < offset → index_in path kind text offset ≡ Err (BadRange (length text))
beyond path kind text offset lt =
    in_parts path kind text offset ∙ ap (λ b. joined path (ranged text offset b) (entries_in kind text)) (lt-leb offset (length text) lt)

-- ---- a file

abbrev found : List ℕ → IndexKind → ℕ → Option (List ℕ) → Result Indexed Refusal
found path kind offset o = or_else (Unreadable path) o >>= λ text. index_in path kind text offset

pub at_text : (content : Files) (path : List ℕ) (kind : IndexKind) (offset : ℕ) (text : List ℕ) → get content path ≡ Some text →
    index_at content path kind offset ≡ index_in path kind text offset
unfolding index_at
at_text content path kind offset text is = ap (found path kind offset) is

pub at_nothing : (content : Files) (path : List ℕ) (kind : IndexKind) (offset : ℕ) → get content path ≡ None →
    index_at content path kind offset ≡ Err (Unreadable path)
unfolding index_at
at_nothing content path kind offset is = ap (found path kind offset) is

-- by the size
pub missing_at : (content : Files) (path : List ℕ) (kind : IndexKind) (offset : ℕ) → None ≡ option_map (λ t. length t) (get content path) →
    index_at content path kind offset ≡ Err (Unreadable path)
missing_at content path kind offset is = at_nothing content path kind offset (none_of (get content path) is)

pub beyond_at : (content : Files) (path : List ℕ) (kind : IndexKind) (offset size : ℕ) → Some size ≡ option_map (λ t. length t) (get content path) → size < offset →
    index_at content path kind offset ≡ Err (BadRange size)
beyond_at content path kind offset size is lt =
    let there = some_of (get content path) size is in
    let past : length there.0 < offset = omega (arith, there.2, lt) in
    at_text content path kind offset there.0 there.1 ∙ beyond path kind there.0 offset past ∙ ap (λ n. Err (BadRange n)) (sym there.2)

-- by a size that no index has
pub uneven_at : (content : Files) (path : List ℕ) (kind : IndexKind) (offset size : ℕ) → Some size ≡ option_map (λ t. length t) (get content path) → offset ≤ size
    → ((text : List ℕ) → length text ≡ size → entries_in kind text ≡ None) → index_at content path kind offset ≡ Err (Unreadable path)
uneven_at content path kind offset size is le none =
    let there = some_of (get content path) size is in
    at_text content path kind offset there.0 there.1 ∙ no_index path kind there.0 offset (omega (arith, there.2, le)) (none there.0 (sym there.2))

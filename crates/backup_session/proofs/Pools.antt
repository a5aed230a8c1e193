-- The pool, as a finite map's entries.
use Rattle.std.proofs.Common.{◌≡◌, ℕ, ◌≤◌, Bool, true, false, cond, List, [], ◌∷◌, ◌++◌, map, length, Some, None, Ok, Err, refl, sym, ap, ap₂, subst, eq-eqb, ◌∙◌, append_assoc, arith}
use Rattle.std.specs.Prelude.{◌==◌, Option, Result, is_some}
use Rattle.std.specs.Option.{option_map}
use Rattle.std.specs.List.{AllByRecursion}
use Rattle.std.specs.FinMap.{find, put, get, insert, remove, entries, empty, from_entries, get-entries, len-entries, len-empty, get-insert, get-remove, get-from_entries, entries-insert, from_entries_push, same_map, nat_cmp-IsAntisymmetric, slice_cmp-IsAntisymmetric}
use Rattle.std.specs.Cmp.Lexicographic.{nat_list_cmp_total}
use Rattle.std.specs.Ordering.{eq_by_cmp}
use Rattle.std.specs.Str.{bytes_eq}
use Rattle.std.proofs.lemmas.Map.Text.{is_eq-slice_cmp}
use Rattle.std.proofs.lemmas.Bool.{eqb-true}
use Rattle.std.proofs.lemmas.Slice.Eq.{bytes_eq-Decides}
use Rattle.std.proofs.lemmas.List.{append-nil}
use Rattle.sha2.specs.Sha256.{sha256}
use Rattle.store_types.specs.declared.names.Digest32.{Digest32}
use Rattle.store_types.specs.declared.piece.Piece.{Piece}
use Rattle.store_types.specs.Names.{text_cmp}
use Rattle.store_types.specs.declared.refusal.Refusal.{Refusal}
use Rattle.store_types.specs.declared.refusal.Refusal.TheVariants.{UnknownChunk, BadOffset, WrongSize}
use Rattle.store_types.specs.Chain.Refusing.{◌>>=◌, unless, or_else}
use Rattle.store_files.specs.Archive.{Layout, piece_with}
use Rattle.store_model.specs.Archives.{fits_layout, piece_named}
use Rattle.known_chunks.specs.Lengths.{Lengths}
use Rattle.known_chunks.specs.Lengths as chunks
use Rattle.known_chunks.proofs.Pools.{found_joined, joined_listed}
use Rattle.backup_session.specs.Session.{Pool, IsPool, IsLength, lengths_in, length_at, with_length, with_lengths, without_length}
use Rattle.backup_session.specs.Steps.{known_in}
use Rattle.backup_session.specs.Shown.{known_of, lengths_of, piece_of, pool_of}
use Rattle.backup_session.specs.Kept.{HasLengths}

text_same : (a b : List ℕ) → eq_by_cmp text_cmp a b ≡ bytes_eq a b
text_same a b = is_eq-slice_cmp a b

same_text : (a b : List ℕ) → bytes_eq a b ≡ true → a ≡ b
same_text a b e = (bytes_eq-Decides a b).0 e

turned : (a b : List ℕ) (t : Bool) → bytes_eq a b ≡ t → bytes_eq b a ≡ t
turned a b true e = (bytes_eq-Decides b a).1 (sym (same_text a b e))
turned a b false e = by_test (bytes_eq b a) refl
  where
    by_test : (t : Bool) → bytes_eq b a ≡ t → t ≡ false
    by_test true f =
        let back : bytes_eq a b ≡ true = (bytes_eq-Decides a b).1 (sym (same_text b a f)) in cc
    by_test false f = refl

-- ---- one more length

nothing : {A : Type 0} (xs : List A) → length xs ≡ 0 → xs ≡ []
nothing [] e = refl
nothing (x ∷ xs) e = absurd (omega (arith, e))

pub entries-empty : entries (empty {X = ℕ} {R = text_cmp}) ≡ []
entries-empty = nothing (entries (empty {X = ℕ} {R = text_cmp})) (sym (len-entries (empty {X = ℕ} {R = text_cmp})) ∙ len-empty text_cmp ℕ)

pub has_lengths-empty : HasLengths []
has_lengths-empty digest n e = cc

pub has_lengths-insert : (m : Lengths) (digest : List ℕ) (len : ℕ) → HasLengths (entries m) → (1 ≤ len) × (len ≤ 16_777_216) → HasLengths (entries (insert m digest len))
has_lengths-insert m digest len has fits q n is =
    by_test (eq_by_cmp text_cmp q digest) (sym (get-insert nat_list_cmp_total m digest len q) ∙ get-entries (insert m digest len) q ∙ is)
  where
    by_test : (b : Bool) → cond b (Some len) (get m q) ≡ Some n → (1 ≤ n) × (n ≤ 16_777_216)
    by_test true e = let same : len ≡ n = cc in subst (λ k. (1 ≤ k) × (k ≤ 16_777_216)) same fits
    by_test false e = has q n (sym (get-entries m q) ∙ e)

pub with_length-there : (m : Lengths) (digest : List ℕ) (len n : ℕ) → get m digest ≡ Some n → with_length (entries m) digest len ≡ entries m
with_length-there m digest len n e =
    ap (λ o. cond (is_some o) (entries m) (put text_cmp digest len (entries m))) (sym (get-entries m digest) ∙ e)

pub with_length-new : (m : Lengths) (digest : List ℕ) (len : ℕ) → get m digest ≡ None → with_length (entries m) digest len ≡ entries (insert m digest len)
with_length-new m digest len e =
    ap (λ o. cond (is_some o) (entries m) (put text_cmp digest len (entries m))) (sym (get-entries m digest) ∙ e)
    ∙ sym (entries-insert nat_list_cmp_total m digest len)

pub no_lengths : HasLengths (entries (empty {X = ℕ} {R = text_cmp}))
no_lengths = subst HasLengths (sym entries-empty) has_lengths-empty

-- ---- several lengths more

pub has_lengths-one : (m : Lengths) (k : List ℕ × ℕ) → HasLengths (entries m) → IsLength k → HasLengths (entries (chunks.with_length m k))
has_lengths-one m k has fits = by_test (is_some (get m k.0))
  where
    by_test : (b : Bool) → HasLengths (entries (cond b m (insert m k.0 k.1)))
    by_test true = has
    by_test false = has_lengths-insert m k.0 k.1 has fits

pub has_lengths-all : (m : Lengths) (ks : Pool) → HasLengths (entries m) → AllByRecursion IsLength ks → HasLengths (entries (chunks.with_lengths m ks))
has_lengths-all m [] has all = has
has_lengths-all m (k ∷ ks) has all = has_lengths-all (chunks.with_length m k) ks (has_lengths-one m k has all.0) all.1

entries_one : (m : Lengths) (k : List ℕ × ℕ) → entries (chunks.with_length m k) ≡ with_length (entries m) k.0 k.1
entries_one m k = by_found (get m k.0) refl
  where
    by_found : (o : Option ℕ) → get m k.0 ≡ o → entries (chunks.with_length m k) ≡ with_length (entries m) k.0 k.1
    by_found None e = ap (λ o. entries (cond (is_some o) m (insert m k.0 k.1))) e ∙ sym (with_length-new m k.0 k.1 e)
    by_found (Some n) e = ap (λ o. entries (cond (is_some o) m (insert m k.0 k.1))) e ∙ sym (with_length-there m k.0 k.1 n e)

pub entries_all : (m : Lengths) (ks : Pool) → entries (chunks.with_lengths m ks) ≡ with_lengths (entries m) ks
entries_all m [] = refl
entries_all m (k ∷ ks) = entries_all (chunks.with_length m k) ks ∙ ap (λ (p : Pool). with_lengths p ks) (entries_one m k)

-- ---- a map more

pub has_lengths-joined : (m n : Lengths) → HasLengths (entries m) → HasLengths (entries n) → HasLengths (entries (chunks.joined m n))
has_lengths-joined m n has fits q len is = by_found (get m q) refl (sym (found_joined m n q) ∙ get-entries (chunks.joined m n) q ∙ is)
  where
    by_found : (o : Option ℕ) → get m q ≡ o → chunks.first_of o (get n q) ≡ Some len → (1 ≤ len) × (len ≤ 16_777_216)
    by_found None e f = fits q len (sym (get-entries n q) ∙ f)
    by_found (Some x) e f = has q len (sym (get-entries m q) ∙ e ∙ f)

-- one that is made of a list adds what the list has
pub entries_listed : (m : Lengths) (ks : Pool) → with_lengths (entries m) (entries (chunks.with_lengths empty ks)) ≡ with_lengths (entries m) ks
entries_listed m ks = sym (entries_all m (entries (chunks.with_lengths empty ks))) ∙ ap entries (joined_listed m ks) ∙ entries_all m ks

-- ---- one length less

pub has_lengths-remove : (m : Lengths) (digest : List ℕ) → HasLengths (entries m) → HasLengths (entries (remove m digest))
has_lengths-remove m digest has q n is =
    by_test (eq_by_cmp text_cmp q digest) (sym (get-remove nat_list_cmp_total m digest q) ∙ get-entries (remove m digest) q ∙ is)
  where
    by_test : (b : Bool) → cond b None (get m q) ≡ Some n → (1 ≤ n) × (n ≤ 16_777_216)
    by_test true e = cc
    by_test false e = has q n (sym (get-entries m q) ∙ e)

entered : (m : Lengths) → lengths_in (entries m) ≡ m
entered m = same_map nat_list_cmp_total (slice_cmp-IsAntisymmetric nat_cmp-IsAntisymmetric) _ _
    (λ q. get-from_entries nat_list_cmp_total (entries m) q ∙ sym (get-entries m q))

pub without_length-is : (m : Lengths) (digest : List ℕ) → entries (remove m digest) ≡ without_length (entries m) digest
without_length-is m digest = ap (λ x. entries (remove x digest)) (sym (entered m))

taken_back : (m : Lengths) (digest : List ℕ) (len : ℕ) → get m digest ≡ None → remove (insert m digest len) digest ≡ m
taken_back m digest len none = same_map nat_list_cmp_total (slice_cmp-IsAntisymmetric nat_cmp-IsAntisymmetric) _ _
    (λ q. get-remove nat_list_cmp_total (insert m digest len) digest q
    ∙ ap (cond (eq_by_cmp text_cmp q digest) None) (get-insert nat_list_cmp_total m digest len q) ∙ by_test q (eq_by_cmp text_cmp q digest) refl)
  where
    by_test : (q : List ℕ) (b : Bool) → eq_by_cmp text_cmp q digest ≡ b → cond b None (cond b (Some len) (get m q)) ≡ get m q
    by_test q true e = sym none ∙ ap (get m) (sym (same_text q digest (sym (text_same q digest) ∙ e)))
    by_test q false e = refl

-- what was noted is forgotten
pub forgotten : (pool : Pool) (digest : List ℕ) (len : ℕ) → IsPool pool → length_at pool digest ≡ None → without_length (with_length pool digest len) digest ≡ pool
forgotten pool digest len (m, is) none =
    let absent : get m digest ≡ None = get-entries m digest ∙ ap (λ p. length_at p digest) (sym is) ∙ none in
    ap (λ p. without_length (with_length p digest len) digest) is
    ∙ ap (λ p. without_length p digest) (with_length-new m digest len absent)
    ∙ sym (without_length-is (insert m digest len) digest) ∙ ap entries (taken_back m digest len absent) ∙ sym is

-- ---- of pieces

abbrev pub piece_at : Digest32 → ℕ → Piece
piece_at digest len = record { digest = digest; length = len }

found_alike : (digest : Digest32) (pieces : List (List ℕ)) → option_map (piece_at digest) (find text_cmp digest.0 (map known_of pieces)) ≡ option_map piece_of (piece_with digest pieces)
found_alike digest [] = refl
found_alike digest (p ∷ ps) = by_test (bytes_eq (sha256 p) digest.0) refl (found_alike digest ps)
  where
    by_test : (b : Bool) → bytes_eq (sha256 p) digest.0 ≡ b
        → option_map (piece_at digest) (find text_cmp digest.0 (map known_of ps)) ≡ option_map piece_of (piece_with digest ps)
        → option_map (piece_at digest) (cond (eq_by_cmp text_cmp digest.0 (sha256 p)) (Some (length p)) (find text_cmp digest.0 (map known_of ps)))
        ≡ option_map piece_of (cond (bytes_eq (sha256 p) digest.0) (Some p) (piece_with digest ps))
    by_test true e rest =
        ap (λ b. option_map (piece_at digest) (cond b (Some (length p)) (find text_cmp digest.0 (map known_of ps)))) (text_same digest.0 (sha256 p) ∙ turned (sha256 p) digest.0 true e)
        ∙ ap (λ q. Some (piece_at (record { 0 = q }) (length p))) (sym (same_text (sha256 p) digest.0 e))
        ∙ sym (ap (λ b. option_map piece_of (cond b (Some p) (piece_with digest ps))) e)
    by_test false e rest =
        ap (λ b. option_map (piece_at digest) (cond b (Some (length p)) (find text_cmp digest.0 (map known_of ps)))) (text_same digest.0 (sha256 p) ∙ turned (sha256 p) digest.0 false e)
        ∙ rest
        ∙ sym (ap (λ b. option_map piece_of (cond b (Some p) (piece_with digest ps))) e)

-- what the pool knows is what its first piece of the digest shows
pub known_in-pool : (pieces : List (List ℕ)) (digest : Digest32) → known_in (pool_of pieces) digest ≡ option_map piece_of (piece_with digest pieces)
known_in-pool pieces digest =
    ap (option_map (piece_at digest)) (sym (get-entries (lengths_of pieces) digest.0) ∙ get-from_entries nat_list_cmp_total (map known_of pieces) digest.0)
    ∙ found_alike digest pieces

-- ---- one more piece

find_other : (es : List (List ℕ × ℕ)) (k q : List ℕ) (v : ℕ) → eq_by_cmp text_cmp q k ≡ false → find text_cmp q (es ++ (k, v) ∷ []) ≡ find text_cmp q es
find_other [] k q v e = ap (λ b. cond b (Some v) None) e
find_other (x ∷ es) k q v e = ap (cond (eq_by_cmp text_cmp q x.0) (Some x.1)) (find_other es k q v e)

find_there : (es : List (List ℕ × ℕ)) (k q : List ℕ) (v n : ℕ) → find text_cmp q es ≡ Some n → find text_cmp q (es ++ (k, v) ∷ []) ≡ find text_cmp q es
find_there [] k q v n e = cc
find_there (x ∷ es) k q v n e = by_test (eq_by_cmp text_cmp q x.0) refl e (λ is. find_there es k q v n is)
  where
    by_test : (b : Bool) → eq_by_cmp text_cmp q x.0 ≡ b → cond b (Some x.1) (find text_cmp q es) ≡ Some n
        → (find text_cmp q es ≡ Some n → find text_cmp q (es ++ (k, v) ∷ []) ≡ find text_cmp q es)
        → find text_cmp q ((x ∷ es) ++ (k, v) ∷ []) ≡ find text_cmp q (x ∷ es)
    by_test true t is go =
        ap (λ b. cond b (Some x.1) (find text_cmp q (es ++ (k, v) ∷ []))) t ∙ sym (ap (λ b. cond b (Some x.1) (find text_cmp q es)) t)
    by_test false t is go = ap (cond (eq_by_cmp text_cmp q x.0) (Some x.1)) (go is)

-- a length that is there stays
stays : (es : List (List ℕ × ℕ)) (k : List ℕ) (v n : ℕ) → find text_cmp k es ≡ Some n → from_entries {R = text_cmp} (es ++ (k, v) ∷ []) ≡ from_entries {R = text_cmp} es
stays es k v n there =
    same_map nat_list_cmp_total (slice_cmp-IsAntisymmetric nat_cmp-IsAntisymmetric) _ _
    (λ q. get-from_entries nat_list_cmp_total (es ++ (k, v) ∷ []) q ∙ by_test q (eq_by_cmp text_cmp q k) refl ∙ sym (get-from_entries nat_list_cmp_total es q))
  where
    by_test : (q : List ℕ) (b : Bool) → eq_by_cmp text_cmp q k ≡ b → find text_cmp q (es ++ (k, v) ∷ []) ≡ find text_cmp q es
    by_test q true e =
        let same = same_text q k (sym (text_same q k) ∙ e) in
        find_there es k q v n (ap (λ x. find text_cmp x es) same ∙ there)
    by_test q false e = find_other es k q v e

map_more : (pieces : List (List ℕ)) (piece : List ℕ) → map known_of (pieces ++ piece ∷ []) ≡ map known_of pieces ++ known_of piece ∷ []
map_more [] piece = refl
map_more (p ∷ ps) piece = ap (λ (ks : List (List ℕ × ℕ)). known_of p ∷ ks) (map_more ps piece)

pub pool_of-more : (pieces : List (List ℕ)) (piece : List ℕ) → pool_of (pieces ++ piece ∷ []) ≡ with_length (pool_of pieces) (sha256 piece) (length piece)
pool_of-more pieces piece = ap (λ es. entries (from_entries {R = text_cmp} es)) (map_more pieces piece) ∙ by_found (find text_cmp (sha256 piece) (map known_of pieces)) refl
  where
    is_there : get (lengths_of pieces) (sha256 piece) ≡ find text_cmp (sha256 piece) (map known_of pieces)
    is_there = get-from_entries nat_list_cmp_total (map known_of pieces) (sha256 piece)

    by_found : (o : Option ℕ) → find text_cmp (sha256 piece) (map known_of pieces) ≡ o
        → entries (from_entries {R = text_cmp} (map known_of pieces ++ known_of piece ∷ [])) ≡ with_length (pool_of pieces) (sha256 piece) (length piece)
    by_found None e =
        ap entries (from_entries_push nat_list_cmp_total (slice_cmp-IsAntisymmetric nat_cmp-IsAntisymmetric) (map known_of pieces) (sha256 piece) (length piece) e)
        ∙ sym (with_length-new (lengths_of pieces) (sha256 piece) (length piece) (is_there ∙ e))
    by_found (Some n) e =
        ap entries (stays (map known_of pieces) (sha256 piece) (length piece) n e)
        ∙ sym (with_length-there (lengths_of pieces) (sha256 piece) (length piece) n (is_there ∙ e))

-- several pieces more
pub pool_of-all : (pieces more : List (List ℕ)) → pool_of (pieces ++ more) ≡ with_lengths (pool_of pieces) (map known_of more)
pool_of-all pieces [] = ap pool_of (append-nil pieces)
pool_of-all pieces (p ∷ ps) =
    ap pool_of (sym (append_assoc pieces (p ∷ []) ps)) ∙ pool_of-all (pieces ++ p ∷ []) ps
    ∙ ap (λ (l : Pool). with_lengths l (map known_of ps)) (pool_of-more pieces p)

-- ---- one entry of an APPEND

module _ (m : Lengths) (layout : Layout) (place end : ℕ) (entry : Digest32 × ℕ) where
  known_is : (o : Option ℕ) → get m (entry.0).0 ≡ o → known_in (entries m) entry.0 ≡ option_map (piece_at entry.0) o
  known_is o e = ap (option_map (piece_at entry.0)) (sym (get-entries m (entry.0).0) ∙ e)

  fitting : Piece → Bool → Result Piece Refusal
  fitting piece fits = unless (WrongSize place piece.length) fits >>= λ _. Ok piece

  tests : Option Piece → Bool → Result Piece Refusal
  tests o at = or_else (UnknownChunk place) o >>= λ piece. unless (BadOffset place end) at >>= λ _. fitting piece (fits_layout layout end piece.length)

  tested : piece_named (known_in (entries m)) (λ p. p.length) layout place end entry ≡ tests (known_in (entries m) entry.0) (entry.1 == end)
  unfolding piece_named tests fitting
  tested = refl

  pub entry_unknown : get m (entry.0).0 ≡ None → piece_named (known_in (entries m)) (λ p. p.length) layout place end entry ≡ Err (UnknownChunk place)
  unfolding tests
  entry_unknown e = tested ∙ ap (λ o. tests o (entry.1 == end)) (known_is None e)

  pub entry_misplaced : (n : ℕ) → get m (entry.0).0 ≡ Some n → (entry.1 ≡ end → ⊥) → piece_named (known_in (entries m)) (λ p. p.length) layout place end entry ≡ Err (BadOffset place end)
  unfolding tests
  entry_misplaced n e apart = tested ∙ ap₂ tests (known_is (Some n) e) (not_equal (entry.1 == end) refl)
    where
      not_equal : (b : Bool) → (entry.1 == end) ≡ b → (entry.1 == end) ≡ false
      not_equal true is = absurd (apart (eqb-true entry.1 end is))
      not_equal false is = is

  placed : (n : ℕ) (b : Bool) → get m (entry.0).0 ≡ Some n → entry.1 ≡ end → fits_layout layout end n ≡ b
      → piece_named (known_in (entries m)) (λ p. p.length) layout place end entry ≡ fitting (piece_at entry.0 n) b
  unfolding tests
  placed n b e at fits = tested ∙ ap₂ tests (known_is (Some n) e) (eq-eqb entry.1 end at) ∙ ap (fitting (piece_at entry.0 n)) fits

  pub entry_unfit : (n : ℕ) → get m (entry.0).0 ≡ Some n → entry.1 ≡ end → fits_layout layout end n ≡ false
      → piece_named (known_in (entries m)) (λ p. p.length) layout place end entry ≡ Err (WrongSize place n)
  unfolding fitting
  entry_unfit n e at fits = placed n false e at fits

  pub entry_named : (n : ℕ) → get m (entry.0).0 ≡ Some n → entry.1 ≡ end → fits_layout layout end n ≡ true
      → piece_named (known_in (entries m)) (λ p. p.length) layout place end entry ≡ Ok (piece_at entry.0 n)
  unfolding fitting
  entry_named n e at fits = placed n true e at fits

-- What a SYNC sends of a file, by the pieces that were sent before: as it reads its files, and as `weave` has it.
use Rattle.std.proofs.Common.{◌≡◌, ℕ, Bool, true, false, List, [], ◌∷◌, ◌++◌, map, length, Option, Some, is_some, refl, sym, ap, ◌∙◌, cond, ◌||◌, if◌then◌else◌}
use Rattle.std.specs.FinMap.{FinMap, get, insert, entries as entries_of, get-from_entries, get-entries, get-insert}
use Rattle.std.proofs.lemmas.Cmp.{nat_list_cmp_total}
use Rattle.std.specs.Ordering.{eq_by_cmp}
use Rattle.std.specs.List.{Contains, list_any}
use Rattle.std.specs.Str.{bytes_eq}
use Rattle.std.proofs.lemmas.Slice.Eq.{bytes_eq-Decides}
use Rattle.std.proofs.lemmas.List.Folds.{list_any-append}
use Rattle.std.proofs.lemmas.Map.Text.{is_eq-slice_cmp}
use Rattle.sha2.specs.Sha256.{sha256}
use Rattle.store_types.specs.declared.append.AppendEntry.{AppendEntry}
use Rattle.store_types.specs.declared.names.Digest32.{Digest32}
use Rattle.store_types.specs.Names.{text_cmp}
use Rattle.blob_codec.specs.Blob as blobs
use Rattle.store_files.specs.Archive.{Content, archive, blob, File, digest_of, pieces_of, size_of, csum_of}
use Rattle.wire_commands.specs.declared.command.Command.{Command}
use Rattle.wire_commands.specs.declared.command.Command.TheVariants.{Chunk, CloseIndex}
use Rattle.store_model.specs.Clash.{NoClash}
use Rattle.store_model.specs.SyncJob.{has_digest_of, new_index, unsent, entries_from, appends, file_commands, uploads}
use Rattle.store_history.specs.Pulling.{Stock, sent_in, with_chunk}

-- ---- which pieces were sent

-- a piece with this one's digest is among them
abbrev pub was : List (List ℕ) → List ℕ → Bool
was sent p = list_any (has_digest_of p) sent

-- of the digests that are kept
abbrev pub known : Stock → List ℕ → Bool
known s p = is_some (get (sent_in s) (sha256 p))

abbrev pub Alike : (List ℕ → Bool) → (List ℕ → Bool) → Type 0
Alike f g = (p : List ℕ) → f p ≡ g p

-- both are of the same digest
pub same_digest : (p q : List ℕ) → has_digest_of p q ≡ true → (sent : List (List ℕ)) → was sent p ≡ was sent q
same_digest p q h sent = each sent
  where
    same : sha256 q ≡ sha256 p
    same = (bytes_eq-Decides (sha256 q) (sha256 p)).0 h

    each : (xs : List (List ℕ)) → list_any (has_digest_of p) xs ≡ list_any (has_digest_of q) xs
    each [] = refl
    each (x ∷ xs) = ap (λ d. bytes_eq (sha256 x) d || list_any (has_digest_of p) xs) (sym same) ∙ ap (λ b. bytes_eq (sha256 x) (sha256 q) || b) (each xs)

-- what is kept behind the reading of a chunk
size_more : (s : Stock) (e : AppendEntry) (p q bytes : List ℕ) → e.digest ≡ digest_of p
    → get (sent_in (with_chunk e bytes s)) (sha256 q) ≡ cond (bytes_eq (sha256 q) (sha256 p)) (Some (length bytes)) (get (sent_in s) (sha256 q))
size_more s e p q bytes is =
    get-from_entries {R = text_cmp} nat_list_cmp_total (entries_of more) (sha256 q) ∙ sym (get-entries more (sha256 q))
    ∙ get-insert {R = text_cmp} nat_list_cmp_total (sent_in s) (e.digest).0 (length bytes) (sha256 q)
    ∙ ap (λ (d : Digest32). cond (eq_by_cmp text_cmp (sha256 q) d.0) (Some (length bytes)) (get (sent_in s) (sha256 q))) is
    ∙ ap (λ b. cond b (Some (length bytes)) (get (sent_in s) (sha256 q))) (is_eq-slice_cmp (sha256 q) (sha256 p))
  where
    more : FinMap text_cmp ℕ
    more = insert (sent_in s) (e.digest).0 (length bytes)

-- so its digest is
known_more : (s : Stock) (e : AppendEntry) (p q bytes : List ℕ) → e.digest ≡ digest_of p → known (with_chunk e bytes s) q ≡ (bytes_eq (sha256 q) (sha256 p) || known s q)
known_more s e p q bytes is = ap is_some (size_more s e p q bytes is) ∙ by_test (bytes_eq (sha256 q) (sha256 p)) (get (sent_in s) (sha256 q))
  where
    by_test : (b : Bool) (o : Option ℕ) → is_some (cond b (Some (length bytes)) o) ≡ (b || is_some o)
    by_test true o = refl
    by_test false o = refl

turned_eq : (x y : List ℕ) → bytes_eq x y ≡ bytes_eq y x
turned_eq x y = by_test (bytes_eq x y) (bytes_eq y x) (λ h. (bytes_eq-Decides y x).1 (sym ((bytes_eq-Decides x y).0 h))) (λ h. (bytes_eq-Decides x y).1 (sym ((bytes_eq-Decides y x).0 h)))
  where
    by_test : (a b : Bool) → (a ≡ true → b ≡ true) → (b ≡ true → a ≡ true) → a ≡ b
    by_test true b f g = sym (f refl)
    by_test false true f g = g refl
    by_test false false f g = refl

pub known_sent : (s : Stock) (e : AppendEntry) (p bytes : List ℕ) (sent : List (List ℕ)) → e.digest ≡ digest_of p → Alike (known s) (was sent)
    → Alike (known (with_chunk e bytes s)) (was (p ∷ sent))
known_sent s e p bytes sent is h q =
    known_more s e p q bytes is
    ∙ ap (λ b. b || known s q) (turned_eq (sha256 q) (sha256 p))
    ∙ ap (λ b. bytes_eq (sha256 p) (sha256 q) || b) (h q)

-- ---- the sizes that are kept

-- of these pieces, of which no two have one digest, each that was sent is kept with the size of its blob
abbrev pub HasSizes : List (List ℕ) → Stock → Type 0
HasSizes ps s = (q : List ℕ) (n : ℕ) → Contains ps q → get (sent_in s) (sha256 q) ≡ Some n → n ≡ length (blobs.blob q)

pub sizes_sent : (ps : List (List ℕ)) (s : Stock) (e : AppendEntry) (p : List ℕ) → NoClash ps → Contains ps p → e.digest ≡ digest_of p
    → HasSizes ps s → HasSizes ps (with_chunk e (blobs.blob p) s)
sizes_sent ps s e p clear there is h q n here got =
    by_test (bytes_eq (sha256 q) (sha256 p)) refl (sym (size_more s e p q (blobs.blob p) is) ∙ got)
  where
    by_test : (b : Bool) → bytes_eq (sha256 q) (sha256 p) ≡ b → cond b (Some (length (blobs.blob p))) (get (sent_in s) (sha256 q)) ≡ Some n → n ≡ length (blobs.blob q)
    by_test true same has =
        let one : q ≡ p = clear q p here there ((bytes_eq-Decides (sha256 q) (sha256 p)).0 same) in
        (let sized : length (blobs.blob p) ≡ n = some_same has in sym sized) ∙ ap (λ x. length (blobs.blob x)) (sym one)
      where
        some_same : {x y : ℕ} → Some x ≡ Some y → x ≡ y
        some_same e = cc
    by_test false other has = h q n here has

-- ---- what is sent then

pub unsent_same : (xs ys ps : List (List ℕ)) → Alike (was xs) (was ys) → unsent xs ps ≡ unsent ys ps
unsent_same xs ys [] h = refl
unsent_same xs ys (p ∷ ps) h =
    ap (λ b. if b then unsent xs ps else p ∷ unsent (p ∷ xs) ps) (h p)
    ∙ by_test (was ys p) (unsent_same xs ys ps h) (unsent_same (p ∷ xs) (p ∷ ys) ps (λ q. ap (λ b. has_digest_of q p || b) (h q)))
  where
    by_test : (b : Bool) → unsent xs ps ≡ unsent ys ps → unsent (p ∷ xs) ps ≡ unsent (p ∷ ys) ps
        → (if b then unsent xs ps else p ∷ unsent (p ∷ xs) ps) ≡ (if b then unsent ys ps else p ∷ unsent (p ∷ ys) ps)
    by_test true same more = same
    by_test false same more = ap (λ l. p ∷ l) more

file_same : (xs ys : List (List ℕ)) (name : List ℕ) (c : Content) → Alike (was xs) (was ys) → file_commands xs name c ≡ file_commands ys name c
unfolding file_commands
file_same xs ys name (blob bytes) h = refl
file_same xs ys name (archive a) h = ap (λ l. file_with l) (unsent_same xs ys a.pieces h)
  where
    file_with : List (List ℕ) → List Command
    file_with ps =
        new_index a.layout name ∷ map (λ p. Chunk (digest_of p) (blobs.blob p)) ps
        ++ appends (length a.pieces) (entries_from 0 a.pieces)
        ++ CloseIndex 0 (length a.pieces) (size_of (archive a)) (csum_of (archive a)) ∷ []

more_same : (xs ys ps : List (List ℕ)) → Alike (was xs) (was ys) → Alike (was (ps ++ xs)) (was (ps ++ ys))
more_same xs ys ps h q =
    list_any-append (has_digest_of q) ps xs ∙ ap (λ b. list_any (has_digest_of q) ps || b) (h q) ∙ sym (list_any-append (has_digest_of q) ps ys)

pub uploads_same : (xs ys : List (List ℕ)) (fs : List File) → Alike (was xs) (was ys) → uploads xs fs ≡ uploads ys fs
unfolding uploads
uploads_same xs ys [] h = refl
uploads_same xs ys (f ∷ fs) h =
    ap (λ l. l ++ uploads (pieces_of f.content ++ xs) fs) (file_same xs ys f.name f.content h)
    ∙ ap (λ l. file_commands ys f.name f.content ++ l) (uploads_same (pieces_of f.content ++ xs) (pieces_of f.content ++ ys) fs (more_same xs ys (pieces_of f.content) h))

-- ---- pieces to come, behind which these are sent

abbrev pub IsBehind : List (List ℕ) → List (List ℕ) → List (List ℕ) → Type 0
IsBehind ps sent after = (q : List ℕ) → was after q ≡ (was ps q || was sent q)

pub all_behind : (ps sent : List (List ℕ)) → IsBehind ps sent (ps ++ sent)
all_behind ps sent q = list_any-append (has_digest_of q) ps sent

or_true : (c d : Bool) → d ≡ true → (c || d) ≡ true
or_true true d h = refl
or_true false d h = h

-- one of them was sent already
pub behind_known : (p : List ℕ) (ps sent after : List (List ℕ)) → was sent p ≡ true → IsBehind (p ∷ ps) sent after → IsBehind ps sent after
behind_known p ps sent after is h q = h q ∙ by_test (has_digest_of q p) refl (was ps q)
  where
    by_test : (b : Bool) → has_digest_of q p ≡ b → (c : Bool) → ((b || c) || was sent q) ≡ (c || was sent q)
    by_test true e c = sym (or_true c (was sent q) (same_digest q p e sent ∙ is))
    by_test false e c = refl

-- or is sent now
pub behind_sent : (p : List ℕ) (ps sent after : List (List ℕ)) → IsBehind (p ∷ ps) sent after → IsBehind ps (p ∷ sent) after
behind_sent p ps sent after h q = h q ∙ by_tests (has_digest_of q p) (was ps q) (was sent q)
  where
    by_tests : (a b c : Bool) → ((a || b) || c) ≡ (b || (a || c))
    by_tests true true c = refl
    by_tests true false c = refl
    by_tests false b c = refl

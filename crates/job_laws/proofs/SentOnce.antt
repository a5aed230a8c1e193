-- A snapshot that is pulled has one CHUNK of each digest of its files' pieces, and no other.
use Rattle.std.proofs.Common.{◌≡◌, ◌⊎◌, inl, inr, ℕ, zero, suc, Bool, true, false, List, [], ◌∷◌, ◌++◌, map, length, ◌||◌, refl, arith, sym, ap, subst, ◌∙◌, if◌then◌else◌}
use Rattle.std.specs.List.{All, AllPairs, Contains, flat_map, list_any}
use Rattle.std.specs.Str.{bytes_eq}
use Rattle.std.proofs.lemmas.List.{append-nil}
use Rattle.std.proofs.lemmas.List.Concat.{flat_map-append}
use Rattle.std.proofs.lemmas.List.Elements.{All-append, All-cons, All-head, All-nil, All-tail, All-weaker, Contains-append_cases, Contains-append_left, Contains-append_right, Contains-push, Contains-push_cases}
use Rattle.std.proofs.lemmas.List.Folds.{list_any-append}
use Rattle.std.proofs.lemmas.List.Kept.{AllPairs-cons}
use Rattle.std.proofs.lemmas.Slice.Eq.{bytes_eq-Decides}
use Rattle.sha2.specs.Sha256.{sha256}
use Rattle.store_types.specs.declared.append.AppendEntry.{AppendEntry}
use Rattle.store_types.specs.declared.names.Digest32.{Digest32}
use Rattle.blob_codec.specs.Blob as blobs
use Rattle.store_files.specs.Archive.{Layout, dynamic, fixed, Content, archive, blob, File, digest_of, pieces_of, size_of, csum_of}
use Rattle.wire_commands.specs.declared.command.Command.{Command}
use Rattle.wire_commands.specs.declared.command.Command.TheVariants.{Chunk, CloseIndex}
use Rattle.store_model.specs.SyncJob.{has_digest_of, unsent, entries_from, appends, new_index, file_commands, uploads, listed_files, commands_of}
use Rattle.job_laws.specs.Pulls.{ChunksAreSentOnce, digest_sent, digests_sent}
use Rattle.job_laws.proofs.Judged.{true_false}

-- ---- digests beside those of the pieces that were sent

-- a piece of this digest was sent
abbrev seen : List (List ℕ) → Digest32 → Bool
seen sent d = list_any (λ q. bytes_eq (sha256 q) d.0) sent

abbrev Differ : Digest32 → Digest32 → Type 0
Differ d e = d ≡ e → ⊥

abbrev Apart : List Digest32 → Type 0
Apart [] = Unit {0}
Apart (d ∷ ds) = All (Differ d) ds × Apart ds

-- none was sent before, and none is there twice
abbrev Once : List (List ℕ) → List Digest32 → Type 0
Once sent ds = All (λ d. seen sent d ≡ false) ds × Apart ds

neither : (a b : Bool) → (a || b) ≡ false → (a ≡ false) × (b ≡ false)
neither true b h = absurd (true_false h)
neither false b h = (refl, h)

either : (a b : Bool) → b ≡ true → (a || b) ≡ true
either true b h = refl
either false b h = h

true_is_not : (a : Bool) → a ≡ true → a ≡ false → ⊥
true_is_not a h k = true_false (sym h ∙ k)

same_bytes : (d e : Digest32) → d ≡ e → d.0 ≡ e.0
same_bytes d e h = ap (λ (x : Digest32). x.0) h

-- of the pieces
abbrev digests : List (List ℕ) → List Digest32
digests ps = map digest_of ps

-- ---- the pieces of an archive

unsent_once : (sent ps : List (List ℕ)) → Once sent (map digest_of (unsent sent ps))
unsent_once sent [] = (All-nil (λ d. seen sent d ≡ false), tt)
unsent_once sent (p ∷ ps) = by_test (seen sent (digest_of p)) refl (unsent_once sent ps) (unsent_once (p ∷ sent) ps)
  where
    ds : List Digest32
    ds = map digest_of (unsent (p ∷ sent) ps)

    differs : (d : Digest32) → seen (p ∷ sent) d ≡ false → Differ (digest_of p) d
    differs d h same =
        true_is_not (bytes_eq (sha256 p) d.0) ((bytes_eq-Decides (sha256 p) d.0).1 (same_bytes (digest_of p) d same))
        (neither (bytes_eq (sha256 p) d.0) (seen sent d) h).0

    by_test : (b : Bool) → seen sent (digest_of p) ≡ b → Once sent (map digest_of (unsent sent ps)) → Once (p ∷ sent) ds
        → Once sent (map digest_of (if b then unsent sent ps else p ∷ unsent (p ∷ sent) ps))
    by_test true is same more = same
    by_test false is same more = (
      All-cons (λ d. seen sent d ≡ false) (digest_of p) ds is (All-weaker (λ d. seen (p ∷ sent) d ≡ false) (λ d. seen sent d ≡ false) (λ d h. (neither (bytes_eq (sha256 p) d.0) (seen sent d) h).1) ds more.0),
      (All-weaker (λ d. seen (p ∷ sent) d ≡ false) (Differ (digest_of p)) differs ds more.0, more.1),
    )

-- they are pieces of it
unsent_seen : (sent ps : List (List ℕ)) → All (λ d. seen ps d ≡ true) (map digest_of (unsent sent ps))
unsent_seen sent [] = All-nil (λ d. seen [] d ≡ true)
unsent_seen sent (p ∷ ps) =
    by_test (list_any (has_digest_of p) sent) (more (map digest_of (unsent sent ps)) (unsent_seen sent ps)) (more (map digest_of (unsent (p ∷ sent) ps)) (unsent_seen (p ∷ sent) ps))
  where
    more : (ds : List Digest32) → All (λ d. seen ps d ≡ true) ds → All (λ d. seen (p ∷ ps) d ≡ true) ds
    more ds h = All-weaker (λ d. seen ps d ≡ true) (λ d. seen (p ∷ ps) d ≡ true) (λ d is. either (bytes_eq (sha256 p) d.0) (seen ps d) is) ds h

    itself : seen (p ∷ ps) (digest_of p) ≡ true
    itself = ap (λ b. b || seen ps (digest_of p)) ((bytes_eq-Decides (sha256 p) (sha256 p)).1 refl)

    by_test : (b : Bool) → All (λ d. seen (p ∷ ps) d ≡ true) (map digest_of (unsent sent ps)) → All (λ d. seen (p ∷ ps) d ≡ true) (map digest_of (unsent (p ∷ sent) ps))
        → All (λ d. seen (p ∷ ps) d ≡ true) (map digest_of (if b then unsent sent ps else p ∷ unsent (p ∷ sent) ps))
    by_test true same other = same
    by_test false same other = All-cons (λ d. seen (p ∷ ps) d ≡ true) (digest_of p) (map digest_of (unsent (p ∷ sent) ps)) itself other

-- ---- from file to file

module _ (sent more : List (List ℕ)) (es : List Digest32) (behind : Once (more ++ sent) es) where
  both : (d : Digest32) → seen (more ++ sent) d ≡ false → (seen more d ≡ false) × (seen sent d ≡ false)
  both d h = neither (seen more d) (seen sent d) (sym (list_any-append (λ q. bytes_eq (sha256 q) d.0) more sent) ∙ h)

  differ : (d e : Digest32) → seen more d ≡ true → seen (more ++ sent) e ≡ false → Differ d e
  differ d e is h same = true_is_not (seen more d) is (subst (λ a. seen more a ≡ false) (sym same) (both e h).0)

  apart : (ds : List Digest32) → All (λ d. seen more d ≡ true) ds → Apart ds → Apart (ds ++ es)
  apart [] is h = behind.1
  apart (d ∷ ds) is h = (
    All-append (Differ d) ds es h.0 (All-weaker (λ e. seen (more ++ sent) e ≡ false) (Differ d) (λ e. differ d e (All-head (λ a. seen more a ≡ true) d ds is)) es behind.0),
    apart ds (All-tail (λ a. seen more a ≡ true) d ds is) h.1,
  )

  once_more : (ds : List Digest32) → All (λ d. seen more d ≡ true) ds → Once sent ds → Once sent (ds ++ es)
  once_more ds is h = (
    All-append (λ d. seen sent d ≡ false) ds es h.0 (All-weaker (λ e. seen (more ++ sent) e ≡ false) (λ d. seen sent d ≡ false) (λ e no_more. (both e no_more).1) es behind.0),
    apart ds is h.1,
  )

chunks_sent : (ps : List (List ℕ)) → digests_sent (map (λ p. Chunk (digest_of p) (blobs.blob p)) ps) ≡ map digest_of ps
chunks_sent [] = refl
chunks_sent (p ∷ ps) = ap (λ ds. digest_of p ∷ ds) (chunks_sent ps)

index_sends_none : (l : Layout) (name : List ℕ) → digest_sent (new_index l name) ≡ []
index_sends_none dynamic name = refl
index_sends_none (fixed size chunk_size) name = refl

appends_send_none : (n : ℕ) (es : List AppendEntry) → digests_sent (appends n es) ≡ []
unfolding appends
appends_send_none zero es = refl
appends_send_none (suc n) [] = refl
appends_send_none (suc n) (e ∷ es) = appends_send_none n _

file_sends : (sent : List (List ℕ)) (name : List ℕ) (c : Content) → digests_sent (file_commands sent name c) ≡ map digest_of (unsent sent (pieces_of c))
unfolding file_commands
file_sends sent name (blob bytes) = refl
file_sends sent name (archive a) =
    ap (λ ds. ds ++ digests_sent (chunks ++ entries ++ last)) (index_sends_none a.layout name)
    ∙ flat_map-append digest_sent (chunks ++ entries) last
    ∙ append-nil (digests_sent (chunks ++ entries))
    ∙ flat_map-append digest_sent chunks entries
    ∙ ap (λ ds. ds ++ digests_sent entries) (chunks_sent (unsent sent a.pieces))
    ∙ ap (λ ds. map digest_of (unsent sent a.pieces) ++ ds) (appends_send_none (length a.pieces) (entries_from 0 a.pieces))
    ∙ append-nil (map digest_of (unsent sent a.pieces))
  where
    chunks : List Command
    chunks = map (λ p. Chunk (digest_of p) (blobs.blob p)) (unsent sent a.pieces)

    entries : List Command
    entries = appends (length a.pieces) (entries_from 0 a.pieces)

    last : List Command
    last = CloseIndex 0 (length a.pieces) (size_of (archive a)) (csum_of (archive a)) ∷ []

abbrev uploads_send : List (List ℕ) → List File → List Digest32
uploads_send sent fs = digests_sent (uploads sent fs)

-- of a file, and of those behind it
first_sends : (sent : List (List ℕ)) (f : File) (fs : List File)
    → uploads_send sent (f ∷ fs) ≡ digests (unsent sent (pieces_of f.content)) ++ uploads_send (pieces_of f.content ++ sent) fs
unfolding uploads
first_sends sent f fs =
    flat_map-append digest_sent (file_commands sent f.name f.content) (uploads (pieces_of f.content ++ sent) fs)
    ∙ ap (λ ds. ds ++ uploads_send (pieces_of f.content ++ sent) fs) (file_sends sent f.name f.content)

uploads_once : (sent : List (List ℕ)) (fs : List File) → Once sent (uploads_send sent fs)
unfolding uploads
uploads_once sent [] = (All-nil (λ d. seen sent d ≡ false), tt)
uploads_once sent (f ∷ fs) =
    subst (Once sent) (sym (first_sends sent f fs))
    (once_more sent (pieces_of f.content) (uploads_send (pieces_of f.content ++ sent) fs) (uploads_once (pieces_of f.content ++ sent) fs) (digests (unsent sent (pieces_of f.content)))
    (unsent_seen sent (pieces_of f.content)) (unsent_once sent (pieces_of f.content)))

-- ---- which digests these are

contains_none : {X : Type 0} (x : X) → Contains [] x → ⊥
contains_none x h = omega (arith, h.1)

contains_first : {X : Type 0} (x : X) (xs : List X) → Contains (x ∷ xs) x
contains_first x xs = Contains-append_left (x ∷ []) xs x (Contains-push [] x)

contains_later : {X : Type 0} (y x : X) (xs : List X) → Contains xs x → Contains (y ∷ xs) x
contains_later y x xs h = Contains-append_right (y ∷ []) xs x h

contains_cases : {X : Type 0} (y x : X) (xs : List X) → Contains (y ∷ xs) x → (y ≡ x) ⊎ Contains xs x
contains_cases y x xs h = by_part (Contains-append_cases (y ∷ []) xs x h)
  where
    by_first : Contains [] x ⊎ (y ≡ x) → (y ≡ x) ⊎ Contains xs x
    by_first (inl none) = absurd (contains_none x none)
    by_first (inr same) = inl same

    by_part : Contains (y ∷ []) x ⊎ Contains xs x → (y ≡ x) ⊎ Contains xs x
    by_part (inl first) = by_first (Contains-push_cases [] y x first)
    by_part (inr later) = inr later

same_digest : (p : List ℕ) (d : Digest32) → bytes_eq (sha256 p) d.0 ≡ true → digest_of p ≡ d
same_digest p d h = ap (λ bytes. let e : Digest32 = record { 0 = bytes } in e) ((bytes_eq-Decides (sha256 p) d.0).0 h)

seen_there : (ps : List (List ℕ)) (d : Digest32) → seen ps d ≡ true → Contains (digests ps) d
seen_there [] d h = absurd (true_false (sym h))
seen_there (p ∷ ps) d h = by_test (bytes_eq (sha256 p) d.0) refl h (seen_there ps d)
  where
    by_test : (b : Bool) → bytes_eq (sha256 p) d.0 ≡ b → (b || seen ps d) ≡ true → (seen ps d ≡ true → Contains (digests ps) d) → Contains (digests (p ∷ ps)) d
    by_test true is h go = subst (Contains (digests (p ∷ ps))) (same_digest p d is) (contains_first (digest_of p) (digests ps))
    by_test false is h go = contains_later (digest_of p) d (digests ps) (go h)

unsent_there : (sent ps : List (List ℕ)) (d : Digest32) → Contains (digests (unsent sent ps)) d → Contains (digests ps) d
unsent_there sent [] d h = h
unsent_there sent (p ∷ ps) d h = by_test (list_any (has_digest_of p) sent) h (unsent_there sent ps d) (unsent_there (p ∷ sent) ps d)
  where
    by_place : (digest_of p ≡ d) ⊎ Contains (digests (unsent (p ∷ sent) ps)) d → (Contains (digests (unsent (p ∷ sent) ps)) d → Contains (digests ps) d) → Contains (digests (p ∷ ps)) d
    by_place (inl same) go = subst (Contains (digests (p ∷ ps))) same (contains_first (digest_of p) (digests ps))
    by_place (inr later) go = contains_later (digest_of p) d (digests ps) (go later)

    by_test : (b : Bool) → Contains (digests (if b then unsent sent ps else p ∷ unsent (p ∷ sent) ps)) d
        → (Contains (digests (unsent sent ps)) d → Contains (digests ps) d) → (Contains (digests (unsent (p ∷ sent) ps)) d → Contains (digests ps) d) → Contains (digests (p ∷ ps)) d
    by_test true h same other = contains_later (digest_of p) d (digests ps) (same h)
    by_test false h same other = by_place (contains_cases (digest_of p) d (digests (unsent (p ∷ sent) ps)) h) other

-- it was sent before, or is now
abbrev IsSent : List (List ℕ) → List Digest32 → Digest32 → Type 0
IsSent sent ds d = (seen sent d ≡ true) ⊎ Contains ds d

each_sent : (sent ps : List (List ℕ)) (d : Digest32) → Contains (digests ps) d → IsSent sent (digests (unsent sent ps)) d
each_sent sent [] d h = absurd (contains_none d h)
each_sent sent (p ∷ ps) d h =
    by_test (seen sent (digest_of p)) refl (contains_cases (digest_of p) d (digests ps) h) (each_sent sent ps d) (each_sent (p ∷ sent) ps d)
  where
    rest : List Digest32
    rest = digests (unsent (p ∷ sent) ps)

    by_first : (b : Bool) → bytes_eq (sha256 p) d.0 ≡ b → (b || seen sent d) ≡ true → IsSent sent (digest_of p ∷ rest) d
    by_first true is h = inr (subst (Contains (digest_of p ∷ rest)) (same_digest p d is) (contains_first (digest_of p) rest))
    by_first false is h = inl h

    by_rest : IsSent (p ∷ sent) rest d → IsSent sent (digest_of p ∷ rest) d
    by_rest (inl before) = by_first (bytes_eq (sha256 p) d.0) refl before
    by_rest (inr now) = inr (contains_later (digest_of p) d rest now)

    by_test : (b : Bool) → seen sent (digest_of p) ≡ b → (digest_of p ≡ d) ⊎ Contains (digests ps) d
        → (Contains (digests ps) d → IsSent sent (digests (unsent sent ps)) d) → (Contains (digests ps) d → IsSent (p ∷ sent) rest d)
        → IsSent sent (digests (if b then unsent sent ps else p ∷ unsent (p ∷ sent) ps)) d
    by_test true is (inl same) go other = inl (subst (λ e. seen sent e ≡ true) same is)
    by_test true is (inr later) go other = go later
    by_test false is (inl same) go other = inr (subst (Contains (digest_of p ∷ rest)) same (contains_first (digest_of p) rest))
    by_test false is (inr later) go other = by_rest (other later)

-- those of the files
abbrev digests_of : List File → List Digest32
digests_of fs = flat_map (λ f. digests (pieces_of f.content)) fs

uploads_there : (sent : List (List ℕ)) (fs : List File) (d : Digest32) → Contains (uploads_send sent fs) d → Contains (digests_of fs) d
unfolding uploads
uploads_there sent [] d h = h
uploads_there sent (f ∷ fs) d h =
    by_part (Contains-append_cases now (uploads_send (ps ++ sent) fs) d (subst (λ ds. Contains ds d) (first_sends sent f fs) h)) (uploads_there (ps ++ sent) fs d)
  where
    ps : List (List ℕ)
    ps = pieces_of f.content

    now : List Digest32
    now = digests (unsent sent ps)

    by_part : Contains now d ⊎ Contains (uploads_send (ps ++ sent) fs) d → (Contains (uploads_send (ps ++ sent) fs) d → Contains (digests_of fs) d) → Contains (digests_of (f ∷ fs)) d
    by_part (inl first) go = Contains-append_left (digests ps) (digests_of fs) d (unsent_there sent ps d first)
    by_part (inr later) go = Contains-append_right (digests ps) (digests_of fs) d (go later)

each_uploaded : (sent : List (List ℕ)) (fs : List File) (d : Digest32) → Contains (digests_of fs) d → IsSent sent (uploads_send sent fs) d
each_uploaded sent [] d h = absurd (contains_none d h)
each_uploaded sent (f ∷ fs) d h =
    subst (λ ds. IsSent sent ds d) (sym (first_sends sent f fs))
    (by_part (Contains-append_cases (digests ps) (digests_of fs) d h) (each_uploaded (ps ++ sent) fs d))
  where
    ps : List (List ℕ)
    ps = pieces_of f.content

    now : List Digest32
    now = digests (unsent sent ps)

    later : List Digest32
    later = uploads_send (ps ++ sent) fs

    by_file : IsSent sent now d → IsSent sent (now ++ later) d
    by_file (inl before) = inl before
    by_file (inr first) = inr (Contains-append_left now later d first)

    by_seen : (b : Bool) → seen ps d ≡ b → (b || seen sent d) ≡ true → IsSent sent (now ++ later) d
    by_seen true is h = by_file (each_sent sent ps d (seen_there ps d is))
    by_seen false is h = inl h

    by_rest : IsSent (ps ++ sent) later d → IsSent sent (now ++ later) d
    by_rest (inl before) = by_seen (seen ps d) refl (sym (list_any-append (λ q. bytes_eq (sha256 q) d.0) ps sent) ∙ before)
    by_rest (inr behind) = inr (Contains-append_right now later d behind)

    by_part : Contains (digests ps) d ⊎ Contains (digests_of fs) d → (Contains (digests_of fs) d → IsSent (ps ++ sent) later d) → IsSent sent (now ++ later) d
    by_part (inl first) go = by_file (each_sent sent ps d first)
    by_part (inr behind) go = by_rest (go behind)

-- ---- a snapshot

all_pairs : (ds : List Digest32) → Apart ds → AllPairs (λ d e. d ≡ e → ⊥) ds
all_pairs [] h = λ i j d low within. absurd (omega (arith, within))
all_pairs (d ∷ ds) h = AllPairs-cons (λ d e. d ≡ e → ⊥) d ds h.0 (all_pairs ds h.1)

pub chunks_are_sent_once : ChunksAreSentOnce
unfolding commands_of
chunks_are_sent_once x = (
  all_pairs (digests_sent (commands_of x)) (subst Apart (sym are) (uploads_once [] (listed_files x)).1),
  λ d. (
    λ h. uploads_there [] (listed_files x) d (subst (λ ds. Contains ds d) are h),
    λ h. subst (λ ds. Contains ds d) (sym are) (none_before d (each_uploaded [] (listed_files x) d h)),
  ),
)
  where
    are : digests_sent (commands_of x) ≡ uploads_send [] (listed_files x)
    are = flat_map-append digest_sent (uploads [] (listed_files x)) _ ∙ append-nil (uploads_send [] (listed_files x))

    none_before : (d : Digest32) → IsSent [] (uploads_send [] (listed_files x)) d → Contains (uploads_send [] (listed_files x)) d
    none_before d (inl before) = absurd (true_false (sym before))
    none_before d (inr now) = now

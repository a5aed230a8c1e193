-- The parts stand for their store where a chunk goes that is not needed.
use Rattle.disk_trait.specs.declared.disk.Disk.{Ghosts}
use Rattle.std.proofs.Common.{◌≡◌, ◌≢◌, ◌⊎◌, ◌↔◌, inl, inr, ⊎_elim, ℕ, zero, suc, ◌<◌, Bool, true, false, cond, List, [], ◌∷◌, length, map, get_or, Option, Some, None, refl, sym, subst, ap, ◌∙◌, arith, true≢false}
use Rattle.std.specs.FinMap.{get, remove}
use Rattle.std.specs.List.{Contains, flat_map}
use Rattle.std.specs.Option.{IsSome}
use Rattle.std.specs.Str.{bytes_eq}
use Rattle.std.proofs.lemmas.Slice.Eq.{bytes_eq-Decides}
use Rattle.sha2.specs.Sha256.{sha256}
use Rattle.disk_trait.specs.Files.{Files}
use Rattle.disk_trait.specs.Laws.{placed_same, placed_other}
use Rattle.store_types.specs.declared.names.Digest32.{Digest32}
use Rattle.store_types.specs.declared.names.SnapshotKey.{SnapshotKey}
use Rattle.store_types.specs.FileNames.{manifest_name}
use Rattle.store_files.specs.Archive.{File, Snapshot, pieces_of}
use Rattle.store_files.specs.Folder.{IsDigest, chunk_name, file_path}
use Rattle.store_model.specs.Stands.{StandsFor, pieces_in}
use Rattle.store_model.specs.Store.{Store, Writer, session, writer}
use Rattle.chunk_store.proofs.Names.{file_not_chunk, same_digest}
use Rattle.snapshot_files.specs.Forgotten.{MayLose}
use Rattle.snapshot_files.proofs.Losing.{loses_one}
use Rattle.store_history.specs.LastTouches.{LastTouches}
use Rattle.store_history.specs.Saved.{book_name}
use Rattle.store_history.specs.Sweeping.{without}
use Rattle.store_history.proofs.Digests.{is_digest}
use Rattle.store_upkeep.specs.Safety.{Has, In, IsNeeded}
use Rattle.store_upkeep.proofs.Members.{flat_map_in, in_map, map_in}
use Rattle.core_state.specs.declared.kept.Listed.{Listed}
use Rattle.core_state.specs.declared.parts.Parts.{Parts}
use Rattle.core_state.specs.Changes.{Change, MayLeave, drops, installs, stays}
use Rattle.core_state.specs.Holds.{HasUploads, Holds, IsOnDisk, Shows}
use Rattle.core_state.specs.Indexed.{FitsRows}
use Rattle.core_state.specs.Locked.{Locked}
use Rattle.core_state.specs.Unchanged.{SameKept}
use Rattle.core_state.proofs.SavingNames.{SameStore, on_disk_same, same_installs, stands_same}
use Rattle.core_collect.specs.Beside.{IsPresent}
use Rattle.core_collect.specs.Stepping.{Spares}

-- ---- what is needed

-- an element of a list is in it
in_place : {A : Type 0} (xs : List A) (k : ℕ) (d : A) → k < length xs → In (get_or xs k d) xs
in_place [] k d lt = absurd (omega (arith, lt))
in_place (x ∷ xs) zero d lt = inl refl
in_place (x ∷ xs) (suc k) d lt = inr (in_place xs k d (omega (arith, lt)))

-- a piece of a snapshot is one of a file
piece_has : (files : List File) (p : List ℕ) → In p (flat_map (λ (f : File). pieces_of f.content) files) → Has files (sha256 p)
piece_has files p at =
    let (f, in_files, in_pieces) = flat_map_in (λ (f : File). pieces_of f.content) files p at in
    (f, in_files, in_map sha256 (pieces_of f.content) p in_pieces)

mapped_digest : (ps : List (List ℕ)) (x : List ℕ) → In x (map sha256 ps) → IsDigest x
mapped_digest ps x at = let (p, has, is) = map_in sha256 ps x at in subst IsDigest (sym is) (is_digest p)

pub needed_digest : (s : Store) (x : List ℕ) → IsNeeded s x → IsDigest x
needed_digest s x (inl (y, in_all, (f, in_files, at))) = mapped_digest (pieces_of f.content) x at
needed_digest s x (inr (lane, w, is, at)) = mapped_digest w.pool x at

-- no chunk of this name is needed
abbrev pub Unneeded : Store → List ℕ → Type 0
Unneeded s q = (x : List ℕ) → chunk_name x ≡ q → IsNeeded s x → ⊥

pub spares_name : (s : Store) (q : List ℕ) → Spares s (drops (q ∷ [])) → Unneeded s q
spares_name s q spares x is needed = spares (record { 0 = x }) (ap (λ n. drops (n ∷ [])) (sym is)) needed

same_first : (a b : List ℕ) → drops (a ∷ []) ≡ drops (b ∷ []) → a ≡ b
same_first a b e = cc

stays_apart : (a : List ℕ) → stays ≡ drops (a ∷ []) → ⊥
stays_apart a e = cc

installs_apart : (path bytes a : List ℕ) → installs path bytes ≡ drops (a ∷ []) → ⊥
installs_apart path bytes a e = cc

pub spares_same : (s : Store) → Spares s stays
spares_same s x is needed = stays_apart (chunk_name x.0) is

pub spares_install : (s : Store) (path bytes : List ℕ) → Spares s (installs path bytes)
spares_install s path bytes x is needed = installs_apart path bytes (chunk_name x.0) is

-- a chunk that is not needed goes
pub spares_one : (s : Store) (change : Change) (x : Digest32) → change ≡ drops (chunk_name x.0 ∷ []) → IsDigest x.0 → (IsNeeded s x.0 → ⊥) → Spares s change
spares_one s change x is digest unneeded y other needed =
    let same : y.0 ≡ x.0 = same_digest y.0 x.0 (needed_digest s y.0 needed) digest (same_first (chunk_name y.0) (chunk_name x.0) (sym other ∙ is)) in
    unneeded (subst (IsNeeded s) same needed)

-- ---- maps that differ at one chunk

-- nothing or what was there stands under the name, and all else is as it was
pub record LacksChunk (m n : Files) (q : List ℕ) : Type 0 where
  pub files : (key : SnapshotKey) (name : List ℕ) → get n (file_path key name) ≡ get m (file_path key name)
  pub chunks : (x : List ℕ) → chunk_name x ≢ q → get n (chunk_name x) ≡ get m (chunk_name x)
  pub left : (x bytes : List ℕ) → get n (chunk_name x) ≡ Some bytes → get m (chunk_name x) ≡ Some bytes

none_some : (bytes : List ℕ) → ◌≡◌ {A = Option (List ℕ)} None (Some bytes) → ⊥
none_some bytes e = cc

one_of : (q p : List ℕ) → Contains (q ∷ []) p → p ≡ q
one_of q p (zero, below, is) = sym is
one_of q p (suc k, below, is) = absurd (omega (arith, below))

lacks : (m n : Files) (x : List ℕ) → MayLose (chunk_name x ∷ []) m n → LacksChunk m n (chunk_name x)
lacks m n x lose = record {
  files = λ key name. same (file_path key name) (file_not_chunk key name x);
  chunks = λ y other. same (chunk_name y) other;
  left = λ y bytes there. ⊎_elim (λ (is : get n (chunk_name y) ≡ get m (chunk_name y)). sym is ∙ there)
      (λ (gone : (get n (chunk_name y) ≡ None) × Contains (chunk_name x ∷ []) (chunk_name y)). absurd (none_some bytes (sym gone.0 ∙ there))) (lose (chunk_name y));
}
  where
    same : (q : List ℕ) → q ≢ chunk_name x → get n q ≡ get m q
    same q other = ⊎_elim (λ (is : get n q ≡ get m q). is)
        (λ (gone : (get n q ≡ None) × Contains (chunk_name x ∷ []) q). absurd (other (one_of (chunk_name x) q gone.1))) (lose q)

module _ (m n : Files) (q : List ℕ) (lack : LacksChunk m n q) (s : Store) (unneeded : Unneeded s q) where
  needed_same : (x : List ℕ) → IsNeeded s x → get n (chunk_name x) ≡ get m (chunk_name x)
  needed_same x needed = lack.chunks x (λ is. unneeded x is needed)

  pub stands_lacking : StandsFor m s.snapshots → StandsFor n s.snapshots
  stands_lacking stands = record {
    order = stands.order;
    each = stands.each;
    groups = stands.groups;
    manifests = λ key is. subst (λ (o : Option (List ℕ)). IsSome o ↔ Contains (map (λ (x : Snapshot). x.key) s.snapshots) key) (sym (lack.files key manifest_name)) (stands.manifests key is);
    files = λ k y lt. λ i f lt2. lack.files (get_or s.snapshots k y).key (get_or (get_or s.snapshots k y).files i f).name ∙ stands.files k y lt i f lt2;
    pieces = λ k y lt. λ i p lt2.
        let x = get_or s.snapshots k y in
        let piece = get_or (pieces_in x) i p in
        needed_same (sha256 piece) (inl (x, in_place s.snapshots k y lt, piece_has x.files piece (in_place (pieces_in x) i p lt2))) ∙ stands.pieces k y lt i p lt2;
    chunks = λ x bytes digest there. stands.chunks x bytes digest (lack.left x bytes there);
  }

  uploads_lacking : (lane : ℕ) (w : Writer) → session s lane ≡ writer w → HasUploads m w → HasUploads n w
  uploads_lacking lane w at has = record {
    files = λ i f lt other. lack.files w.key (get_or w.files i f).name ∙ has.files i f lt other;
    pool = λ i p lt.
        let piece = get_or w.pool i p in
        needed_same (sha256 piece) (inr (lane, w, at, in_map sha256 w.pool piece (in_place w.pool i p lt))) ∙ has.pool i p lt;
  }

  pub on_disk_lacking : IsOnDisk m s → IsOnDisk n s
  on_disk_lacking disk = record {
    snapshots = stands_lacking disk.snapshots;
    writers = λ lane w at. uploads_lacking lane w at (disk.writers lane w at);
  }

removed_lacks : (m : Files) (x : List ℕ) → LacksChunk m (remove m (chunk_name x)) (chunk_name x)
removed_lacks m x =
    lacks m (remove m (chunk_name x)) x (loses_one (chunk_name x ∷ []) (chunk_name x) m (remove m (chunk_name x)) (0, omega arith, refl) (inr refl))

-- ---- what a crash leaves

-- a visit may lose a chunk, and the end puts the book
abbrev pub MayPass : Change → Type 0
MayPass change = (change ≡ stays) ⊎ (((x : Digest32) × (change ≡ drops (chunk_name x.0 ∷ []))) ⊎ ((text : List ℕ) × (change ≡ installs book_name text)))

pub spared_stands : (s : Store) (change : Change) (read b c : Files) → Spares s change → MayPass change → MayLeave change read b c → StandsFor b s.snapshots → StandsFor c s.snapshots
spared_stands s change read b c spares (inl is) left stands =
    let same : c ≡ b = subst (λ (z : Change). MayLeave z read b c) is left in
    subst (λ (m : Files). StandsFor m s.snapshots) (sym same) stands
spared_stands s change read b c spares (inr (inl (x, is))) left stands =
    let lose : MayLose (chunk_name x.0 ∷ []) b c = subst (λ (z : Change). MayLeave z read b c) is left in
    stands_lacking b c (chunk_name x.0) (lacks b c x.0 lose) s (spares_name s (chunk_name x.0) (subst (Spares s) is spares)) stands
spared_stands s change read b c spares (inr (inr (text, is))) left stands =
    stands_same b c (same_installs read text b c (subst (λ (z : Change). MayLeave z read b c) is left)) s.snapshots stands

-- ---- the parts

module _ {D : Type 0} (d : Ghosts D) (old new : Parts D) (s : Store) (kept : SameKept old new) where
  shows_kept : Shows old s → Shows new s
  shows_kept shows = record {
    catalogue = ap (map (λ (x : Listed). x.kept)) kept.catalogue ∙ shows.catalogue;
    sessions = kept.sessions ∙ shows.sessions;
    locks = subst (λ l. Locked l s) (sym kept.locks) shows.locks;
    indexes = subst (FitsRows s) (sym kept.indexes) shows.indexes;
    sound = shows.sound;
  }

  pub holds_files : Holds d old s → d.honest new.disk → IsOnDisk (d.content new.disk) s → Holds d new s
  holds_files holds honest files = record { honest = honest; shows = shows_kept holds.shows; files = files }

  pub holds_same : Holds d old s → d.honest new.disk → d.content new.disk ≡ d.content old.disk → Holds d new s
  holds_same holds honest same = holds_files holds honest (subst (λ (m : Files). IsOnDisk m s) (sym same) holds.files)

  pub holds_lacking : (x : List ℕ) → Holds d old s → d.honest new.disk → d.content new.disk ≡ remove (d.content old.disk) (chunk_name x) → Unneeded s (chunk_name x) → Holds d new s
  holds_lacking x holds honest lost unneeded =
      holds_files holds honest
      (subst (λ (m : Files). IsOnDisk m s) (sym lost)
      (on_disk_lacking (d.content old.disk) (remove (d.content old.disk) (chunk_name x)) (chunk_name x) (removed_lacks (d.content old.disk) x) s unneeded holds.files))

  -- the book's name matters for nothing
  pub holds_saved : Holds d old s → d.honest new.disk → SameStore (d.content old.disk) (d.content new.disk) → Holds d new s
  holds_saved holds honest same = holds_files holds honest (on_disk_same (d.content old.disk) (d.content new.disk) same s holds.files)

-- ---- the chunks that are there

pub present_lacking : (m : Files) (touches : LastTouches) (x : List ℕ) → IsDigest x → IsPresent m touches → IsPresent (remove m (chunk_name x)) (without (Some x) touches)
present_lacking m touches x digest present y is = by_test (bytes_eq x y) refl
  where
    by_test : (b : Bool) → bytes_eq x y ≡ b → IsSome (get (remove m (chunk_name x)) (chunk_name y)) ↔ IsSome (cond b None (touches.last y))
    by_test true same =
        let gone : get (remove m (chunk_name x)) (chunk_name y) ≡ None = ap (λ z. get (remove m (chunk_name x)) (chunk_name z)) (sym ((bytes_eq-Decides x y).0 same)) ∙ placed_same m (chunk_name x) None in
        subst (λ (o : Option (List ℕ)). IsSome o ↔ IsSome (cond true None (touches.last y))) (sym gone) (λ h. h, λ h. h)
    by_test false other =
        let apart : chunk_name y ≢ chunk_name x = λ e. true≢false (sym ((bytes_eq-Decides x y).1 (sym (same_digest y x is digest e))) ∙ other) in
        subst (λ (o : Option (List ℕ)). IsSome o ↔ IsSome (cond false None (touches.last y))) (sym (placed_other m (chunk_name x) None (chunk_name y) apart)) (present y is)

-- What a remote that stands for a list gives is what the list has.
use Rattle.std.proofs.Common.{◌≡◌, ⊎_elim, ℕ, Bool, true, false, ◌&&◌, if◌then◌else◌, List, [], ◌∷◌, filter, length, map, take, nat_le, Option, None, Some, option_map, IfSome, Ok, refl, sym, ap, subst, ◌∙◌, arith}
use Rattle.std.specs.FinMap.{get}
use Rattle.std.specs.List.{All, Contains, flat_map}
use Rattle.std.specs.Ordering.{is_lt}
use Rattle.std.specs.Str.{bytes_eq}
use Rattle.std.proofs.lemmas.List.Elements.{All-nil, All-cons, All-head, All-tail, All-append, All-weaker, All-contains, All-contains_itself, All-filter, filter_passes}
use Rattle.std.proofs.lemmas.Slice.Eq.{bytes_eq-Decides}
use Rattle.disk_trait.specs.Files.{Files}
use Rattle.disk_trait.specs.declared.disk.Disk.{Ghosts}
use Rattle.sha2.specs.Sha256.{sha256}
use Rattle.store_types.specs.Chain.Refusing.{◌>>=◌, or_else, unless}
use Rattle.store_types.specs.KeyOrder.{key_cmp_total}
use Rattle.store_types.specs.Names.{IsKey, group_of, key_cmp, key_of, key_text, same_key}
use Rattle.store_types.specs.declared.names.Digest32.{Digest32}
use Rattle.store_types.specs.declared.names.GroupKey.{GroupKey}
use Rattle.store_types.specs.declared.names.SnapshotKey.{SnapshotKey}
use Rattle.store_types.specs.declared.refusal.Refusal.TheVariants.{BadRange, Unreadable}
use Rattle.store_types.proofs.OrderLaws.{same_keys}
use Rattle.blob_codec.specs.Blob.{blob}
use Rattle.store_files.specs.Archive.{Content, File, Snapshot, archive, blob as blob_of, file_named, file_text, piece_with, pieces_of}
use Rattle.store_files.specs.Folder.{IsPiece, chunk_name, file_path}
use Rattle.wire_commands.specs.declared.reply.Reply.{Reply}
use Rattle.wire_commands.specs.declared.reply.Reply.TheVariants.{Data, Keys, Refused}
use Rattle.store_model.specs.AdminSteps.{group_texts}
use Rattle.store_model.specs.Stands.{FitsContent, HoldsFiles, IsSnapshot, StandsFor, group_limit, keys_rise, pieces_in}
use Rattle.store_model.specs.Store.{keys_in, snapshot_named}
use Rattle.store_model.specs.WriterSteps.{part_of}
use Rattle.store_model.proofs.Finding.{found_in, found_passes}
use Rattle.store_model.proofs.Insertions.{Contains-here, Contains-later, Contains-cases}
use Rattle.chunk_store.specs.Pieces.{found_at, found_in as piece_found}
use Rattle.chunk_store.proofs.Blobs.{piece_in_blob}
use Rattle.snapshot_files.specs.Grouped.{GroupKeys, is_in, keys_ascend}
use Rattle.snapshot_files.specs.Parts.{part_at, part_from}
use Rattle.snapshot_files.proofs.Rising.{one_list, rises, rises_filter}
use Rattle.store_history.specs.declared.act.Act.{Act}
use Rattle.store_history.specs.declared.act.Family.TheVariants.{Reaches}
use Rattle.store_history.specs.Acts.{IsWellFormed, family_of}
use Rattle.store_history.specs.Remote.{Reads, ReadsIn, part_told, piece_in, snapshot_in, text_in, text_named}
use Rattle.store_history.specs.RemoteDisk.{ShowsRemote}
use Rattle.store_history.specs.Replies.{reply_told}
use Rattle.core_remote.specs.RemoteActs.{GivesFrom, GivesRemote, blob_told, texts_of}
use Rattle.core_remote.proofs.RemoteLemmas.{by_read}

-- ---- a group's snapshots

ascend_is : (ks : List SnapshotKey) → keys_ascend ks ≡ rises key_cmp ks
ascend_is [] = refl
ascend_is (k ∷ []) = refl
ascend_is (k ∷ l ∷ ks) = ap (λ b. is_lt (key_cmp k l) && b) (ascend_is (l ∷ ks))

rise_is : (xs : List Snapshot) → keys_rise xs ≡ rises key_cmp (map (λ x. x.key) xs)
rise_is [] = refl
rise_is (x ∷ []) = refl
rise_is (x ∷ y ∷ xs) = ap (λ b. is_lt (key_cmp x.key y.key) && b) (rise_is (y ∷ xs))

filter_keys : (q : SnapshotKey → Bool) (xs : List Snapshot) → map (λ x. x.key) (filter (λ x. q x.key) xs) ≡ filter q (map (λ x. x.key) xs)
filter_keys q [] = refl
filter_keys q (x ∷ xs) = by_test (q x.key) refl (filter_keys q xs)
  where
    by_test : (b : Bool) → q x.key ≡ b → map (λ x. x.key) (filter (λ x. q x.key) xs) ≡ filter q (map (λ x. x.key) xs)
        → map (λ x. x.key) (filter (λ x. q x.key) (x ∷ xs)) ≡ filter q (map (λ x. x.key) (x ∷ xs))
    by_test true e rest =
        ap (λ b. map (λ (y : Snapshot). y.key) (if b then x ∷ filter (λ (y : Snapshot). q y.key) xs else filter (λ (y : Snapshot). q y.key) xs)) e
        ∙ ap (λ l. x.key ∷ l) rest
        ∙ sym (ap (λ b. if b then x.key ∷ filter q (map (λ (y : Snapshot). y.key) xs) else filter q (map (λ (y : Snapshot). y.key) xs)) e)
    by_test false e rest =
        ap (λ b. map (λ (y : Snapshot). y.key) (if b then x ∷ filter (λ (y : Snapshot). q y.key) xs else filter (λ (y : Snapshot). q y.key) xs)) e
        ∙ rest
        ∙ sym (ap (λ b. if b then x.key ∷ filter q (map (λ (y : Snapshot). y.key) xs) else filter q (map (λ (y : Snapshot). y.key) xs)) e)

contains_filter : {A : Type 0} (p : A → Bool) (xs : List A) (y : A) → p y ≡ true → Contains xs y → Contains (filter p xs) y
contains_filter p [] y is (k, lt, at) = absurd (omega (arith, lt))
contains_filter {A} p (x ∷ xs) y is has =
    ⊎_elim
    (λ (e : x ≡ y). subst (λ (b : Bool). Contains (if b then x ∷ filter p xs else filter p xs) y) (sym (ap p e ∙ is)) (subst (Contains (x ∷ filter p xs)) e (Contains-here x (filter p xs))))
    (λ (c : Contains xs y). by_test (p x) (contains_filter p xs y is c))
    (Contains-cases x xs y has)
  where
    by_test : (b : Bool) → Contains (filter p xs) y → Contains (if b then x ∷ filter p xs else filter p xs) y
    by_test true c = Contains-later x (filter p xs) y c
    by_test false c = c

filtered : {A : Type 0} (p : A → Bool) (xs : List A) (y : A) → Contains (filter p xs) y → (p y ≡ true) × Contains xs y
filtered p xs y has = (
  All-contains (λ z. p z ≡ true) (filter p xs) y (filter_passes p xs) has,
  All-contains (Contains xs) (filter p xs) y (All-filter p (Contains xs) xs (All-contains_itself xs)) has,
)

all_keys : (P : SnapshotKey → Type 0) (xs : List Snapshot) → All (λ x. P x.key) xs → All P (map (λ x. x.key) xs)
all_keys P [] h = All-nil P
all_keys P (x ∷ xs) h = All-cons P x.key (map (λ x. x.key) xs) (All-head (λ (y : Snapshot). P y.key) x xs h) (all_keys P xs (All-tail (λ (y : Snapshot). P y.key) x xs h))

abbrev TellsPart : Reply → ℕ → Option (List ℕ) → Type 0
TellsPart reply offset text = IfSome text (λ bytes. Some reply ≡ Some (part_told bytes offset))

module _ (m : Files) (snapshots : List Snapshot) (stands : StandsFor m snapshots) where
  abbrev keys_of : List SnapshotKey
  keys_of = map (λ x. x.key) snapshots

  are_keys : All IsKey keys_of
  are_keys = all_keys IsKey snapshots (All-weaker IsSnapshot (λ (x : Snapshot). IsKey x.key) (λ x is. is.key) snapshots stands.each)

  -- the keys that are there are the list's
  group_is : (g : GroupKey) (keys : List SnapshotKey) → GroupKeys m g keys → keys ≡ keys_in g snapshots
  group_is g keys has =
      one_list key_cmp key_cmp_total keys (filter (is_in g) keys_of) (sym (ascend_is keys) ∙ has.rising)
      (rises_filter key_cmp key_cmp_total (is_in g) keys_of (sym (rise_is snapshots) ∙ stands.order))
      (λ q at.
      let key = All-contains IsKey keys q has.each at in
      let is = (has.exactly q key).0 at in
      contains_filter (is_in g) keys_of q is.0 ((stands.manifests q key).0 is.1))
      (λ q at.
      let is = filtered (is_in g) keys_of q at in
      let key = All-contains IsKey keys_of q are_keys is.1 in
      (has.exactly q key).1 (is.0, (stands.manifests q key).1 is.1))
      ∙ sym (filter_keys (is_in g) snapshots)

  -- ---- a file

  there : (key : SnapshotKey) (name : List ℕ) (x : Snapshot) (f : File) → snapshot_named key snapshots ≡ Some x → file_named name x.files ≡ Some f → get m (file_path key name) ≡ Some (file_text f.content)
  there key name x f named filed =
      let same : x.key ≡ key = (same_keys x.key key).0 (found_passes (λ (y : Snapshot). same_key y.key key) snapshots x named) in
      let holds : HoldsFiles m x = found_in (HoldsFiles m) (λ (y : Snapshot). same_key y.key key) snapshots x stands.files named in
      let name_is : f.name ≡ name = (bytes_eq-Decides f.name name).0 (found_passes (λ (y : File). bytes_eq y.name name) x.files f filed) in
      let at : get m (file_path x.key f.name) ≡ Some (file_text f.content) =
      found_in (λ (y : File). get m (file_path x.key y.name) ≡ Some (file_text y.content)) (λ (y : File). bytes_eq y.name name) x.files f holds filed in
      ap (λ (k : SnapshotKey). get m (file_path k name)) (sym same) ∙ ap (λ (n : List ℕ). get m (file_path x.key n)) (sym name_is) ∙ at

  part_is : (text : List ℕ) (offset : ℕ) → reply_told (part_from text offset) ≡ part_told text offset
  part_is text offset = by_test (nat_le offset (length text))
    where
      by_test : (b : Bool) → reply_told (unless (BadRange (length text)) b >>= λ _. Ok (part_of text offset)) ≡ (if b then part_of text offset else Refused (BadRange (length text)))
      by_test true = refl
      by_test false = refl

  file_is : (text name : List ℕ) (offset : ℕ) (reply : Reply) → IfSome (key_of text) (λ key. reply ≡ reply_told (part_at m (file_path key name) offset))
      → IfSome (text_in snapshots text name) (λ bytes. Some reply ≡ Some (part_told bytes offset))
  unfolding text_in
  file_is text name offset reply gives = by_key (key_of text) gives
    where
      by_file : (key : SnapshotKey) (x : Snapshot) → snapshot_named key snapshots ≡ Some x → reply ≡ reply_told (part_at m (file_path key name) offset) → (o : Option File) → file_named name x.files ≡ o
          → TellsPart reply offset (option_map (λ f. file_text f.content) o)
      by_file key x named is None e = tt
      by_file key x named is (Some f) e =
          ap (λ r. Some r)
          (is ∙ ap (λ (o : Option (List ℕ)). reply_told (or_else (Unreadable (file_path key name)) o >>= λ bytes. part_from bytes offset)) (there key name x f named e)
          ∙ part_is (file_text f.content) offset)

      by_snapshot : (key : SnapshotKey) → reply ≡ reply_told (part_at m (file_path key name) offset) → (o : Option Snapshot) → snapshot_named key snapshots ≡ o → TellsPart reply offset (text_named name o)
      by_snapshot key is None e = tt
      by_snapshot key is (Some x) e = by_file key x e is (file_named name x.files) refl

      by_key : (o : Option SnapshotKey) → IfSome o (λ key. reply ≡ reply_told (part_at m (file_path key name) offset)) → TellsPart reply offset (text_named name (snapshot_in snapshots o))
      by_key None is = tt
      by_key (Some key) is = by_snapshot key is (snapshot_named key snapshots) refl

  -- ---- a piece

  all_flat : {X A : Type 0} (P : A → Type 0) (f : X → List A) (xs : List X) → All (λ x. All P (f x)) xs → All P (flat_map f xs)
  all_flat P f [] h = All-nil P
  all_flat P f (x ∷ xs) h = All-append P (f x) (flat_map f xs) (All-head (λ y. All P (f y)) x xs h) (all_flat P f xs (All-tail (λ y. All P (f y)) x xs h))

  pieces_fit : (content : Content) → FitsContent content → All IsPiece (pieces_of content)
  pieces_fit (blob_of bytes) fits = All-nil IsPiece
  pieces_fit (archive a) fits = fits.1

  abbrev Held : List ℕ → Type 0
  Held p = (get m (chunk_name (sha256 p)) ≡ Some (blob p)) × IsPiece p

  both : {A : Type 0} (P Q : A → Type 0) (xs : List A) → All P xs → All Q xs → All (λ x. P x × Q x) xs
  both P Q xs p q k d lt = (p k d lt, q k d lt)

  all_held : All Held (flat_map pieces_in snapshots)
  all_held =
      both (λ p. get m (chunk_name (sha256 p)) ≡ Some (blob p)) IsPiece (flat_map pieces_in snapshots)
      (all_flat (λ p. get m (chunk_name (sha256 p)) ≡ Some (blob p)) pieces_in snapshots stands.pieces)
      (all_flat IsPiece pieces_in snapshots
      (All-weaker IsSnapshot (λ (x : Snapshot). All IsPiece (pieces_in x))
      (λ x is. all_flat IsPiece (λ (f : File). pieces_of f.content) x.files (All-weaker (λ (f : File). FitsContent f.content) (λ (f : File). All IsPiece (pieces_of f.content)) (λ f fits. pieces_fit f.content fits) x.files is.contents))
      snapshots stands.each))

  chunk_is : (digest : Digest32) (reply : Reply) → reply ≡ blob_told digest (found_at m digest.0) → IfSome (piece_in snapshots digest) (λ piece. Some reply ≡ Some (Data (blob piece)))
  chunk_is digest reply is = by_piece (piece_in snapshots digest) refl
    where
      by_piece : (o : Option (List ℕ)) → piece_with digest (flat_map pieces_in snapshots) ≡ o → IfSome o (λ piece. Some reply ≡ Some (Data (blob piece)))
      by_piece None e = tt
      by_piece (Some p) e =
          let held : Held p = found_in Held (λ (q : List ℕ). bytes_eq (sha256 q) digest.0) (flat_map pieces_in snapshots) p all_held e in
          let named : sha256 p ≡ digest.0 = (bytes_eq-Decides (sha256 p) digest.0).0 (found_passes (λ (q : List ℕ). bytes_eq (sha256 q) digest.0) (flat_map pieces_in snapshots) p e) in
          let at : get m (chunk_name digest.0) ≡ Some (blob p) = ap (λ d. get m (chunk_name d)) (sym named) ∙ held.0 in
          let found : found_at m digest.0 ≡ Ok p = ap (piece_found digest.0) at ∙ piece_in_blob digest.0 (blob p) p refl (held.1).2 held.1 named in
          ap (λ r. Some r) (is ∙ ap (blob_told digest) found)

  -- ---- any read

  by_group : (reply : Reply) (o : Option GroupKey) → IfSome o (λ g. (keys : List SnapshotKey) × GroupKeys m g keys × (reply ≡ Keys (texts_of keys))) → IfSome o (λ g. Some reply ≡ Some (Keys (group_texts g snapshots)))
  by_group reply None gives = tt
  by_group reply (Some g) (keys, has, is) = ap (λ r. Some r) (is ∙ ap (λ ks. Keys (map key_text (take group_limit ks))) (group_is g keys has))

  reads_are : (reply : Reply) (act : Act) → family_of act ≡ Reaches → IsWellFormed act → GivesFrom m act reply → Reads snapshots act (Some reply)
  reads_are reply =
      by_read (λ act. GivesFrom m act reply → Reads snapshots act (Some reply)) (λ group. by_group reply (group_of group))
      (λ snapshot name offset named gives. (refl, file_is snapshot name offset reply gives)) (λ digest gives. (refl, chunk_is digest reply gives))

-- of a remote that stands for what the history's has
pub given_right : {E : Type 0} (e : Ghosts E) (remote : Option E) (R : Option (List Snapshot)) (act : Act) (reply : Reply) → family_of act ≡ Reaches → IsWellFormed act → ShowsRemote e remote R → GivesRemote e remote act (Ok reply) → ReadsIn R act (Some reply)
given_right e None None act reply is formed shown gives = tt
given_right e (Some r) (Some snapshots) act reply is formed shown gives = reads_are (e.content r) snapshots shown.1 reply act is formed (gives shown.0)
given_right e (Some r) None act reply is formed shown gives = absurd shown
given_right e None (Some snapshots) act reply is formed shown gives = absurd shown

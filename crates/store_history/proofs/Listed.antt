-- What the remote's list tells a read of a snapshot in it: its manifest's text, that of each of its files, and which files its manifest lists.
use Rattle.std.proofs.Common.{◌≡◌, ℕ, zero, suc, ◌≤◌, ◌<◌, Bool, true, false, cond, List, [], ◌∷◌, slice_index_or, map, filter, length, Option, Some, None, option_map, Ok, Err, Result, refl, sym, ap, subst, ◌∙◌, arith, not}
use Rattle.std.specs.List.{All, Contains, filter_map, cons_option, flat_map}
use Rattle.std.specs.Str.{bytes_eq}
use Rattle.std.proofs.lemmas.List.Elements.{Contains-append_left, Contains-append_right, All-cons, All-contains, All-contains_itself, All-head, All-nil, All-tail, All-weaker}
use Rattle.std.proofs.lemmas.List.{length-map}
use Rattle.std.proofs.Math.ListN.{get_or-map}
use Rattle.std.proofs.lemmas.Slice.Eq.{bytes_eq-Decides}
use Rattle.sha2.specs.Sha256.{sha256}
use Rattle.store_types.specs.declared.refusal.BadBlob.{BadBlob}
use Rattle.store_types.specs.FileNames.{manifest_name}
use Rattle.store_types.specs.Names.{key_of, key_text}
use Rattle.store_types.proofs.KeyLaws.{keys}
use Rattle.blob_codec.specs.Blob.{blob_limit}
use Rattle.blob_codec.specs.Blob as blobs
use Rattle.blob_codec.proofs.RoundTrips.{data_of-blob}
use Rattle.store_files.specs.Archive.{Content, archive, blob, File, Snapshot, digest_of, pieces_of, piece_with, file_named, file_text}
use Rattle.store_files.specs.Manifest.{Manifest, manifest_of}
use Rattle.store_files.specs.Manifest.Fields.{Fact}
use Rattle.store_model.specs.AdminSteps.{facts_in}
use Rattle.store_model.specs.Load.{read_manifest}
use Rattle.store_model.specs.Manifests.{blob_data, data_in}
use Rattle.store_model.specs.Stands.{IsSnapshot, FitsContent, pieces_in}
use Rattle.store_model.specs.Store.{snapshot_named}
use Rattle.store_model.specs.SyncJob.{listed_files, text_of}
use Rattle.store_history.specs.Remote.{IsList, piece_in, snapshot_in, text_in, text_named}
use Rattle.store_history.proofs.Found.{each_file, each_named}
use Rattle.store_history.proofs.SizeLimits.{blob_short}

-- ---- lists

true_false : true ≡ false → ⊥
true_false h = cc

contains_first : {X : Type 0} (x : X) (xs : List X) → Contains (x ∷ xs) x
contains_first x xs = (zero, omega arith, refl)

contains_next : {X : Type 0} (x y : X) (xs : List X) → Contains xs y → Contains (x ∷ xs) y
contains_next x y xs h = (suc h.0, omega (arith, h.1), h.2)

-- a name that is among those of the files is a file's
named_file : (name : List ℕ) (fs : List File) → Contains (map (λ f. f.name) fs) name → (f : File) × Contains fs f × (f.name ≡ name)
named_file name [] h = absurd (omega (arith, h.1))
named_file name (f ∷ fs) h = by_place h.0 h.1 h.2 (named_file name fs)
  where
    by_place : (i : ℕ) → i < length (map (λ x. x.name) (f ∷ fs)) → slice_index_or (map (λ x. x.name) (f ∷ fs)) i name ≡ name
        → (Contains (map (λ x. x.name) fs) name → (g : File) × Contains fs g × (g.name ≡ name)) → (g : File) × Contains (f ∷ fs) g × (g.name ≡ name)
    by_place zero lt is go = (f, contains_first f fs, is)
    by_place (suc i) lt is go =
        let rest = go (i, omega (arith, lt), is) in
        (rest.0, contains_next f rest.0 fs rest.1, rest.2)

same_file : (f g : File) → Some f ≡ Some g → f ≡ g
same_file f g h = cc

contains_map : {X Y : Type 0} (f : X → Y) (xs : List X) (x : X) → Contains xs x → Contains (map f xs) (f x)
contains_map f xs x h = (h.0, subst (λ n. h.0 < n) (sym (length-map xs f)) h.1, get_or-map f xs h.0 x ∙ ap f h.2)

-- what passes the test stays
in_filter : {X : Type 0} (p : X → Bool) (xs : List X) (x : X) → Contains xs x → p x ≡ true → Contains (filter p xs) x
in_filter p [] x h passes = absurd (omega (arith, h.1))
in_filter p (y ∷ ys) x h passes = by_place h.0 h.1 h.2 (λ k. in_filter p ys x k passes)
  where
    later : (b : Bool) → Contains (filter p ys) x → Contains (cond b (y ∷ filter p ys) (filter p ys)) x
    later true k = contains_next y x (filter p ys) k
    later false k = k

    by_place : (i : ℕ) → i < length (y ∷ ys) → slice_index_or (y ∷ ys) i x ≡ x → (Contains ys x → Contains (filter p ys) x) → Contains (filter p (y ∷ ys)) x
    by_place zero lt is go =
        subst (λ b. Contains (cond b (y ∷ filter p ys) (filter p ys)) x) (sym (ap p is ∙ passes))
        (subst (Contains (y ∷ filter p ys)) is (contains_first y (filter p ys)))
    by_place (suc i) lt is go = later (p y) (go (i, omega (arith, lt), is))

in_flat_map : {X Y : Type 0} (g : X → List Y) (xs : List X) (x : X) (y : Y) → Contains xs x → Contains (g x) y → Contains (flat_map g xs) y
in_flat_map g [] x y h k = absurd (omega (arith, h.1))
in_flat_map g (z ∷ zs) x y h k = by_place h.0 h.1 h.2 (λ later. in_flat_map g zs x y later k)
  where
    by_place : (i : ℕ) → i < length (z ∷ zs) → slice_index_or (z ∷ zs) i x ≡ x → (Contains zs x → Contains (flat_map g zs) y) → Contains (flat_map g (z ∷ zs)) y
    by_place zero lt is go = Contains-append_left (g z) (flat_map g zs) y (subst (λ w. Contains (g w) y) (sym is) k)
    by_place (suc i) lt is go = Contains-append_right (g z) (flat_map g zs) y (go (i, omega (arith, lt), is))

-- a piece is found by its digest, where each piece of that digest is the same
find_only : (ps : List (List ℕ)) (p : List ℕ) → Contains ps p → ((q : List ℕ) → Contains ps q → sha256 q ≡ sha256 p → q ≡ p) → piece_with (digest_of p) ps ≡ Some p
find_only [] p h only = absurd (omega (arith, h.1))
find_only (q ∷ qs) p h only = by_test (bytes_eq (sha256 q) (sha256 p)) refl (λ later. find_only qs p later (λ r within k. only r (contains_next q r qs within) k))
  where
    by_place : (i : ℕ) → i < length (q ∷ qs) → slice_index_or (q ∷ qs) i p ≡ p → bytes_eq (sha256 q) (sha256 p) ≡ false
        → (Contains qs p → piece_with (digest_of p) qs ≡ Some p) → piece_with (digest_of p) qs ≡ Some p
    by_place zero lt same is go = absurd (true_false (sym ((bytes_eq-Decides (sha256 q) (sha256 p)).1 (ap sha256 same)) ∙ is))
    by_place (suc i) lt same is go = go (i, omega (arith, lt), same)

    by_test : (b : Bool) → bytes_eq (sha256 q) (sha256 p) ≡ b → (Contains qs p → piece_with (digest_of p) qs ≡ Some p)
        → cond b (Some q) (piece_with (digest_of p) qs) ≡ Some p
    by_test true is go = ap Some (only q (contains_first q qs) ((bytes_eq-Decides (sha256 q) (sha256 p)).0 is))
    by_test false is go = by_place h.0 h.1 h.2 is go

-- the manifest's own name does not count
kept_name : (names : List (List ℕ)) (name : List ℕ) → Contains names name → Contains (manifest_name ∷ filter (λ n. not (bytes_eq n manifest_name)) names) name
kept_name names name h = by_test (bytes_eq name manifest_name) refl
  where
    by_test : (b : Bool) → bytes_eq name manifest_name ≡ b → Contains (manifest_name ∷ filter (λ n. not (bytes_eq n manifest_name)) names) name
    by_test true is =
        subst (Contains (manifest_name ∷ filter (λ n. not (bytes_eq n manifest_name)) names)) (sym ((bytes_eq-Decides name manifest_name).0 is))
        (contains_first manifest_name (filter (λ n. not (bytes_eq n manifest_name)) names))
    by_test false is =
        contains_next manifest_name name (filter (λ n. not (bytes_eq n manifest_name)) names)
        (in_filter (λ n. not (bytes_eq n manifest_name)) names name h (ap not is))

-- ---- a snapshot of the list

pub piece_there : (L : List Snapshot) (x : Snapshot) (f : File) (p : List ℕ) → Contains L x → Contains x.files f → Contains (pieces_of f.content) p → Contains (flat_map pieces_in L) p
piece_there L x f p there h k = in_flat_map pieces_in L x p there (in_flat_map (λ g. pieces_of g.content) x.files f p h k)

module _ (L : List Snapshot) (list : IsList L) (x : Snapshot) (there : Contains L x) where
  abbrev fits : IsSnapshot x
  fits = All-contains IsSnapshot L x list.each there

  snapshot_here : snapshot_in L (key_of (key_text x.key)) ≡ Some x
  snapshot_here =
      ap (snapshot_in L) (keys x.key fits.key)
      ∙ All-contains (λ y. snapshot_named y.key L ≡ Some y) L x (each_named L list.order) there

  file_here : (f : File) → Contains x.files f → file_named f.name x.files ≡ Some f
  file_here f h = All-contains (λ g. file_named g.name x.files ≡ Some g) x.files f (each_file x.files fits.names) h

  -- the text of a file of it
  pub text_here : (f : File) → Contains x.files f → text_in L (key_text x.key) f.name ≡ Some (file_text f.content)
  unfolding text_in
  text_here f h = ap (text_named f.name) snapshot_here ∙ ap (option_map (λ (g : File). file_text g.content)) (file_here f h)

  -- ---- its manifest

  -- a file of the manifest's name is a blob
  manifest_blob : (o : Option File) (bytes : List ℕ) → data_in o ≡ Some bytes → (f : File) × (o ≡ Some f) × (f.content ≡ blob bytes)
  manifest_blob None bytes h = cc
  manifest_blob (Some f) bytes h = by_content f.content refl h
    where
      by_content : (c : Content) → f.content ≡ c → blob_data c ≡ Some bytes → (g : File) × (Some f ≡ Some g) × (g.content ≡ blob bytes)
      by_content (archive a) is k = cc
      by_content (blob b) is k = (f, refl, is ∙ cc)

  abbrev bytes : List ℕ
  bytes = (fits.manifest).0

  abbrev pub manifest : Manifest
  manifest = (fits.manifest).1

  the_file : (f : File) × (file_named manifest_name x.files ≡ Some f) × (f.content ≡ blob bytes)
  the_file = manifest_blob (file_named manifest_name x.files) bytes (fits.manifest).2

  pub manifest_here : text_in L (key_text x.key) manifest_name ≡ Some (text_of (file_named manifest_name x.files))
  unfolding text_in
  manifest_here =
      ap (text_named manifest_name) snapshot_here
      ∙ ap (option_map (λ (g : File). file_text g.content)) the_file.1
      ∙ ap (λ o. Some (text_of o)) (sym the_file.1)

  text_is : text_of (file_named manifest_name x.files) ≡ blobs.blob bytes
  unfolding file_text
  text_is = ap text_of the_file.1 ∙ ap file_text the_file.2

  found_in : (name : List ℕ) (fs : List File) (f : File) → file_named name fs ≡ Some f → Contains fs f
  found_in name [] f h = cc
  found_in name (g ∷ fs) f h = by_test (bytes_eq g.name name) h (found_in name fs f)
    where
      by_test : (b : Bool) → cond b (Some g) (file_named name fs) ≡ Some f → (file_named name fs ≡ Some f → Contains fs f) → Contains (g ∷ fs) f
      by_test true is go = subst (Contains (g ∷ fs)) (same_file g f is) (contains_first g fs)
      by_test false is go = contains_next g f fs (go is)

  bytes_fit : FitsContent (blob bytes)
  bytes_fit =
      subst FitsContent the_file.2
      (All-contains (λ f. FitsContent f.content) x.files the_file.0 fits.contents (found_in manifest_name x.files the_file.0 the_file.1))

  pub manifest_short : length (text_of (file_named manifest_name x.files)) ≤ blob_limit
  manifest_short = subst (λ (t : List ℕ). length t ≤ blob_limit) (sym text_is) (blob_short bytes bytes_fit.0)

  pub manifest_read : read_manifest (text_of (file_named manifest_name x.files)) ≡ Some manifest
  manifest_read =
      ap read_manifest text_is
      ∙ ap (λ (r : Result (List ℕ) BadBlob). elim r [
        | Err cause ↦ None
        | Ok contents ↦ elim (manifest_of contents) [ Ok m ↦ Some m | Err cause ↦ None ]
      ]) (data_of-blob bytes bytes_fit.1 bytes_fit.0)
      ∙ ap (λ (r : Result Manifest ℕ). elim r [ Ok m ↦ Some m | Err cause ↦ None ]) (fits.manifest).3

  pub few : length manifest.files ≤ 63
  few = (fits.manifest).4

  facts_are : facts_in x.files ≡ manifest.files
  facts_are =
      ap (λ (o : Option (List ℕ)). elim o [
        | None ↦ []
        | Some b ↦ elim (manifest_of b) [ Ok m ↦ m.files | Err cause ↦ [] ]
      ]) (fits.manifest).2
      ∙ ap (λ (r : Result Manifest ℕ). elim r [ Ok m ↦ m.files | Err cause ↦ [] ]) (fits.manifest).3

  -- each file that the manifest lists is there
  listed_here : All (λ (t : Fact). Contains (map (λ f. f.name) x.files) t.name) manifest.files
  listed_here =
      All-weaker (Contains manifest.files) (λ (t : Fact). Contains (map (λ f. f.name) x.files) t.name)
      (λ t h. ((fits.manifest).5 t.name).1 (kept_name (map (λ f. f.name) manifest.files) t.name (contains_map (λ (f : Fact). f.name) manifest.files t h)))
      manifest.files (All-contains_itself manifest.files)

  abbrev among : List Fact → List File
  among ts = filter_map (λ (t : Fact). file_named t.name x.files) ts

  -- they are the files of these names
  each_listed : (ts : List Fact) → All (λ (t : Fact). Contains (map (λ f. f.name) x.files) t.name) ts
      → (map (λ (f : File). f.name) (among ts) ≡ map (λ (t : Fact). t.name) ts) × All (Contains x.files) (among ts)
  each_listed [] h = (refl, All-nil (Contains x.files))
  each_listed (t ∷ ts) h =
      let f = named_file t.name x.files (All-head (λ (u : Fact). Contains (map (λ g. g.name) x.files) u.name) t ts h) in
      let rest = each_listed ts (All-tail (λ (u : Fact). Contains (map (λ g. g.name) x.files) u.name) t ts h) in
      let found : file_named t.name x.files ≡ Some f.0 = subst (λ n. file_named n x.files ≡ Some f.0) f.2 (file_here f.0 f.1) in (
        ap (λ o. map (λ (g : File). g.name) (cons_option o (among ts))) found ∙ ap (λ n. n ∷ map (λ (g : File). g.name) (among ts)) f.2 ∙ ap (λ ns. t.name ∷ ns) rest.0,
        subst (λ o. All (Contains x.files) (cons_option o (among ts))) (sym found) (All-cons (Contains x.files) f.0 (among ts) f.1 rest.1),
      )

  pub names_listed : map (λ (t : Fact). t.name) manifest.files ≡ map (λ (f : File). f.name) (listed_files x)
  names_listed = sym (ap (λ ts. map (λ (f : File). f.name) (among ts)) facts_are ∙ (each_listed manifest.files listed_here).0)

  pub files_listed : All (Contains x.files) (listed_files x)
  files_listed = subst (λ ts. All (Contains x.files) (among ts)) (sym facts_are) (each_listed manifest.files listed_here).1

  -- ---- its pieces

  pub piece_here : (f : File) (p : List ℕ) → Contains x.files f → Contains (pieces_of f.content) p → piece_in L (digest_of p) ≡ Some p
  piece_here f p h k =
      let here = piece_there L x f p there h k in
      find_only (flat_map pieces_in L) p here (λ q within same. list.clear q p within here same)

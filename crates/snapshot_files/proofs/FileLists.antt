-- The files of a snapshot are read by names that are each listed once, in whichever order.
use Rattle.std.proofs.Common.{◌≡◌, ◌≢◌, ◌↔◌, ⊎_elim, ℕ, Bool, true, false, ◌&&◌, ◌||◌, cond, map, List, [], ◌∷◌, Option, Some, refl, sym, ap, subst, ◌∙◌}
use Rattle.std.specs.Cmp.{IsTotalOrder, on_total}
use Rattle.std.specs.FinMap.{entries}
use Rattle.std.specs.List.{All, AllPairs, Contains, list_any}
use Rattle.std.specs.Str.{bytes_eq}
use Rattle.std.specs.declared.cmp.Ordering.{Ordering}
use Rattle.std.proofs.lemmas.Bool.{cond_both}
use Rattle.std.proofs.lemmas.Cmp.{nat_list_cmp_total}
use Rattle.std.proofs.lemmas.List.Elements.{All-nil, All-head, All-tail, All-weaker, All-contains, All-contains_itself}
use Rattle.std.proofs.lemmas.Slice.Eq.{bytes_eq-Decides}
use Rattle.disk_trait.specs.Laws.{other_name}
use Rattle.store_types.specs.declared.names.SnapshotKey.{SnapshotKey}
use Rattle.store_types.specs.Names.{text_cmp, name_lt}
use Rattle.store_types.specs.Chain.Reading.{◌>>=◌}
use Rattle.store_files.specs.Archive.{Content, File, file_named, file_text}
use Rattle.store_files.specs.Folder.{Files, file_path}
use Rattle.store_model.specs.Load.{Entries, bytes_at, content_in, files_in}
use Rattle.store_model.specs.Stands.{names_rise}
use Rattle.store_model.specs.Store.{insert_file}
use Rattle.store_model.proofs.FileInsertions.{All-insert_file, IsOnly, is_free, names_rise-insert, only_named}
use Rattle.store_model.proofs.Insertions.{Contains-here, Contains-later, Contains-cases}
use Rattle.snapshot_files.proofs.Listing.{pairs_head, pairs_tail}
use Rattle.snapshot_files.proofs.Mapped.{contains_map}
use Rattle.snapshot_files.proofs.Rising.{rises, not_member, one_list}

-- ---- a file in its place among others

file_new : (new : File) (fs : List File) → Contains (insert_file new fs) new
file_new new [] = Contains-here new []
file_new new (f ∷ fs) =
    cond_both (name_lt new.name f.name) (new ∷ f ∷ fs) (f ∷ insert_file new fs) (λ l. Contains l new)
    (λ _. Contains-here new (f ∷ fs))
    (λ _. Contains-later f (insert_file new fs) new (file_new new fs))

file_kept : (new : File) (fs : List File) (g : File) → Contains fs g → Contains (insert_file new fs) g
file_kept new [] g h = Contains-later new [] g h
file_kept new (f ∷ fs) g h =
    cond_both (name_lt new.name f.name) (new ∷ f ∷ fs) (f ∷ insert_file new fs) (λ l. Contains l g)
    (λ _. Contains-later new (f ∷ fs) g h)
    (λ _. ⊎_elim
    (λ (e : f ≡ g). subst (Contains (f ∷ insert_file new fs)) e (Contains-here f (insert_file new fs)))
    (λ (c : Contains fs g). Contains-later f (insert_file new fs) g (file_kept new fs g c))
    (Contains-cases f fs g h))

free_from : (name : List ℕ) (fs : List File) → All (λ f. f.name ≢ name) fs → is_free name fs
free_from name [] all = refl
free_from name (f ∷ fs) all =
    ap (λ b. b || list_any (λ g. bytes_eq g.name name) fs) (other_name f.name name (All-head (λ g. g.name ≢ name) f fs all))
    ∙ free_from name fs (All-tail (λ g. g.name ≢ name) f fs all)

-- ---- the file of a name

abbrev names_of : List File → List (List ℕ)
names_of fs = map (λ (f : File). f.name) fs

record IsNamed (fs : List File) (name : List ℕ) : Type 0 where
  pub file : File
  pub found : file_named name fs ≡ Some file
  pub among : Contains fs file
  pub is : file.name ≡ name

true_false : true ≡ false → ⊥
true_false e = cc

named_there : (name : List ℕ) (fs : List File) → Contains (names_of fs) name → IsNamed fs name
named_there name [] h = absurd (not_member name h)
named_there name (f ∷ fs) h = by_test (bytes_eq f.name name) refl (named_there name fs)
  where
    behind : bytes_eq f.name name ≡ false → Contains (names_of fs) name
    behind e =
        ⊎_elim
        (λ (same : f.name ≡ name). absurd (true_false (sym ((bytes_eq-Decides f.name name).1 same) ∙ e)))
        (λ (c : Contains (names_of fs) name). c)
        (Contains-cases f.name (names_of fs) name h)

    by_test : (b : Bool) → bytes_eq f.name name ≡ b → (Contains (names_of fs) name → IsNamed fs name) → IsNamed (f ∷ fs) name
    by_test true e go = record {
      file = f;
      found = ap (λ b. cond b (Some f) (file_named name fs)) e;
      among = Contains-here f fs;
      is = (bytes_eq-Decides f.name name).0 e;
    }
    by_test false e go =
        let t = go (behind e) in
        record {
          file = t.file;
          found = ap (λ b. cond b (Some f) (file_named name fs)) e ∙ t.found;
          among = Contains-later f fs t.file t.among;
          is = t.is;
        }

-- ---- what is read by names

abbrev made : List ℕ → Content → File
made name content = record { name = name; content = content }

abbrev with_file : List ℕ → Content → Option (List File) → Option (List File)
with_file name content o = o >>= (λ others. Some (insert_file (made name content) others))

abbrev read_more_by : Entries → List ℕ → Option (List File) → Option (List ℕ) → Option (List File)
read_more_by m name others o = o >>= (λ bytes. with_file name (content_in m name bytes) others)

-- the file stands there, and reads as what it holds
abbrev pub IsRead : Files → SnapshotKey → File → Type 0
IsRead m key f = (bytes_at (entries m) (file_path key f.name) ≡ Some (file_text f.content)) × (content_in (entries m) f.name (file_text f.content) ≡ f.content)

-- the files that are read by these names are those of the snapshot that have them
record Reads (m : Files) (key : SnapshotKey) (fs : List File) (names : List (List ℕ)) : Type 0 where
  pub files : List File
  pub read : files_in (entries m) key names ≡ Some files
  pub among : All (Contains fs) files
  pub named : All (λ (f : File). Contains names f.name) files
  pub each : (f : File) → Contains fs f → Contains names f.name → Contains files f
  pub rising : names_rise files ≡ true

module _ (m : Files) (key : SnapshotKey) (fs : List File) (rise : names_rise fs ≡ true) (are_read : All (IsRead m key) fs) where
  the_one : (name : List ℕ) (f g : File) → file_named name fs ≡ Some f → Contains fs g → name ≡ g.name → f ≡ g
  the_one name f g found among e =
      let only : IsOnly name f g = All-contains (IsOnly name f) fs g (only_named name fs f rise found) among in
      sym (only (sym e))

  read_none : Reads m key fs []
  unfolding files_in
  read_none = record {
    files = [];
    read = refl;
    among = All-nil (Contains fs);
    named = All-nil (λ (f : File). Contains [] f.name);
    each = λ f among none. absurd (not_member f.name none);
    rising = refl;
  }

  read_one : (name : List ℕ) (names : List (List ℕ)) (t : IsNamed fs name) (r : Reads m key fs names) → files_in (entries m) key (name ∷ names) ≡ Some (insert_file t.file r.files)
  unfolding files_in
  read_one name names t r =
      let f = t.file in
      let here : IsRead m key f = All-contains (IsRead m key) fs f are_read t.among in
      let bytes : bytes_at (entries m) (file_path key name) ≡ Some (file_text f.content) = ap (λ q. bytes_at (entries m) (file_path key q)) (sym t.is) ∙ here.0 in
      let content : content_in (entries m) name (file_text f.content) ≡ f.content = ap (λ q. content_in (entries m) q (file_text f.content)) (sym t.is) ∙ here.1 in
      ap (read_more_by (entries m) name (files_in (entries m) key names)) bytes
      ∙ ap (with_file name (content_in (entries m) name (file_text f.content))) r.read
      ∙ ap (λ (c : Content). Some (insert_file (made name c) r.files)) content
      ∙ ap (λ (q : List ℕ). Some (insert_file (made q f.content) r.files)) (sym t.is)

  read_more : (name : List ℕ) (names : List (List ℕ)) → IsNamed fs name → All (λ q. name ≢ q) names → Reads m key fs names → Reads m key fs (name ∷ names)
  read_more name names t apart r =
      let f = t.file in
      let later : All (λ (g : File). Contains (name ∷ names) g.name) r.files =
      All-weaker (λ (g : File). Contains names g.name) (λ (g : File). Contains (name ∷ names) g.name) (λ g c. Contains-later name names g.name c) r.files r.named in
      let free : is_free f.name r.files =
      free_from f.name r.files
      (All-weaker (λ (g : File). Contains names g.name) (λ (g : File). g.name ≢ f.name) (λ g c same. All-contains (λ q. name ≢ q) names g.name apart c (sym t.is ∙ sym same)) r.files r.named) in
      record {
        files = insert_file f r.files;
        read = read_one name names t r;
        among = All-insert_file (Contains fs) f r.files t.among r.among;
        named = All-insert_file (λ (g : File). Contains (name ∷ names) g.name) f r.files (subst (Contains (name ∷ names)) (sym t.is) (Contains-here name names)) later;
        each = λ g among has.
            ⊎_elim
            (λ (e : name ≡ g.name). subst (Contains (insert_file f r.files)) (the_one name f g t.found among e) (file_new f r.files))
            (λ (c : Contains names g.name). file_kept f r.files g (r.each g among c))
            (Contains-cases name names g.name has);
        rising = names_rise-insert f r.files free r.rising;
      }

  read_all : (names : List (List ℕ)) → All (Contains (names_of fs)) names → AllPairs (λ a b. a ≢ b) names → Reads m key fs names
  read_all [] all once = read_none
  read_all (n ∷ ns) all once =
      read_more n ns (named_there n fs (All-head (Contains (names_of fs)) n ns all)) (pairs_head (λ a b. a ≢ b) n ns once)
      (read_all ns (All-tail (Contains (names_of fs)) n ns all) (pairs_tail (λ a b. a ≢ b) n ns once))

-- ---- in byte order they are one list

abbrev by_name : File → File → Ordering
by_name f g = text_cmp f.name g.name

by_name_total : IsTotalOrder by_name
by_name_total = on_total (λ (f : File). f.name) nat_list_cmp_total

files_rise : (fs : List File) → names_rise fs ≡ rises by_name fs
files_rise [] = refl
files_rise (f ∷ []) = refl
files_rise (f ∷ g ∷ fs) = ap (λ b. name_lt f.name g.name && b) (files_rise (g ∷ fs))

-- all files of the snapshot are read by their names
pub files_read : (m : Files) (key : SnapshotKey) (fs : List File) (names : List (List ℕ)) → names_rise fs ≡ true → All (IsRead m key) fs
    → ((q : List ℕ) → Contains (map (λ (f : File). f.name) fs) q ↔ Contains names q) → AllPairs (λ a b. a ≢ b) names → files_in (entries m) key names ≡ Some fs
files_read m key fs names rise are_read members once =
    let r = read_all m key fs rise are_read names (All-weaker (Contains names) (Contains (names_of fs)) (λ q c. (members q).1 c) names (All-contains_itself names)) once in
    let same : r.files ≡ fs =
    one_list by_name by_name_total r.files fs (sym (files_rise r.files) ∙ r.rising) (sym (files_rise fs) ∙ rise)
    (λ f c. All-contains (Contains fs) r.files f r.among c)
    (λ f c. r.each f c ((members f.name).0 (contains_map (λ (g : File). g.name) fs f c))) in
    r.read ∙ ap (λ (l : List File). Some l) same

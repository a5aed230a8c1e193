-- Which snapshot the name of a file tells.
use Rattle.std.proofs.Common.{◌≡◌, ℕ, Bool, true, false, List, ◌∷◌, ◌++◌, Some, None, sym, ap, ◌∙◌}
use Rattle.store_types.specs.declared.names.SnapshotKey.{SnapshotKey}
use Rattle.store_types.specs.FileNames.{is_file_name}
use Rattle.store_types.specs.Names.{key_of, key_text}
use Rattle.store_types.proofs.KeyLaws.{keys, key_one}
use Rattle.snapshot_files.specs.Removed.{TellsSnapshot}
use Rattle.snapshot_files.proofs.Slashes.{IsPlain, cut_once, no_path, name_plain, path_is}

-- a name without a slash
pub tells_plain : (q : List ℕ) → IsPlain q → TellsSnapshot q None
tells_plain q plain key is (name, grammar, e) = no_path (key_text key) name q plain (e ∙ path_is key name)

none_some : (key : SnapshotKey) → None ≡ Some key → ⊥
none_some key e = cc

false_true : (b : Bool) → b ≡ false → b ≡ true → ⊥
false_true b off on = cc

module _ (q folder file : List ℕ) (split : q ≡ folder ++ 47 ∷ file) (plain : IsPlain file) where
  -- the folder is no snapshot's
  pub tells_no_folder : key_of folder ≡ None → TellsSnapshot q None
  tells_no_folder none key is (name, grammar, e) =
      let same = cut_once folder file (key_text key) name (sym split ∙ e ∙ path_is key name) plain (name_plain name grammar) in
      none_some key (sym none ∙ ap key_of same.0 ∙ keys key is)

  -- the file's name is none
  pub tells_no_name : is_file_name file ≡ false → TellsSnapshot q None
  tells_no_name not key is (name, grammar, e) =
      let same = cut_once folder file (key_text key) name (sym split ∙ e ∙ path_is key name) plain (name_plain name grammar) in
      false_true (is_file_name file) not (ap is_file_name same.1 ∙ grammar)

  pub tells_it : (key : SnapshotKey) → key_of folder ≡ Some key → is_file_name file ≡ true → TellsSnapshot q (Some key)
  tells_it key found grammar =
      let whole = key_one folder key found in
      (whole.0, (file, grammar, split ∙ ap (λ (f : List ℕ). f ++ 47 ∷ file) whole.1 ∙ sym (path_is key file)))

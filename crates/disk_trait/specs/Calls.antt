-- What each call of a disk answers, and what it changes.
use Rattle.std.specs.Prelude.{◌≡◌, ◌-◌, ◌++◌, ℕ, List, Bool, true, false, eqb, Option, Some, length, take, drop, map, min, filter, is_some, option_map, String, Vec, string_bytes, Result, IfOk, OnOk, IsErrOf, MatchOption}
use Rattle.std.specs.List.{starts_with}
use Rattle.std.specs.FinMap.{get, keys, remove}
use Rattle.std.specs.declared.alloc.Global.{Global}
use Rattle.disk_trait.specs.Files.{Files, placed, renamed}
use Rattle.disk_trait.specs.Disk.{Steps, Same}
use Rattle.disk_trait.specs.declared.disk.DiskError.{DiskError}
use Rattle.disk_trait.specs.declared.disk.DiskError.TheVariants.{NoMemory}

-- a buffer with bytes of a file from an offset in front, as many as there are and go in
abbrev pub filled : List ℕ → ℕ → List ℕ → List ℕ
filled file offset into = take (length into) (drop offset file) ++ drop (length file - offset) into

-- they are the names that begin with the prefix, in byte order
abbrev pub AreNamesUnder : Files → List ℕ → Vec (String Global) Global → Type 0
AreNamesUnder files prefix names = map string_bytes names.items ≡ filter (λ name. starts_with eqb name prefix) (keys files)

module _ {D : Type 0} (honest : D → Type 0) (content : D → Files) where
  -- the bytes at the name, if something stands there
  abbrev pub ReadsAt : {E : Type 0} → D → List ℕ → Result (Option (Vec ℕ Global)) E → Type 0
  ReadsAt disk name result = honest disk → IfOk result (λ found. option_map (λ v. v.items) found ≡ get (content disk) name)

  -- a count exactly where something stands at the name
  abbrev pub FindsAt : {E : Type 0} → D → List ℕ → Result (Option ℕ) E → Type 0
  FindsAt disk name result = honest disk → IfOk result (λ n. is_some n ≡ is_some (get (content disk) name))

  -- The buffer is filled from the file at the name, and the result is how much; where nothing is there, the buffer stays.
  abbrev pub FillsAt : {E : Type 0} → D → List ℕ → ℕ → List ℕ → List ℕ → Result (Option ℕ) E → Type 0
  FillsAt disk name offset old new result = honest disk → IfOk result (λ n. MatchOption (get (content disk) name) (new ≡ old) (λ file.
      (n ≡ Some (min (length old) (length file - offset))) × (new ≡ filled file offset old)))

  -- how many bytes stand at the name
  abbrev pub CountsAt : {E : Type 0} → D → List ℕ → Result (Option ℕ) E → Type 0
  CountsAt disk name result = honest disk → IfOk result (λ n. n ≡ option_map (λ file. length file) (get (content disk) name))

  -- the names that begin with the prefix
  abbrev pub ListsNames : {E : Type 0} → D → List ℕ → Result (Vec (String Global) Global) E → Type 0
  ListsNames disk prefix result = honest disk → IfOk result (AreNamesUnder (content disk) prefix)

  -- whether something stands at the name
  abbrev pub TellsThere : {E : Type 0} → D → List ℕ → Result Bool E → Type 0
  TellsThere disk name result = honest disk → IfOk result (λ done. done ≡ is_some (get (content disk) name))

  -- after Ok the bytes stand at the name
  abbrev pub PutsWhole : {A E : Type 0} → D → D → List ℕ → List ℕ → Result A E → Type 0
  PutsWhole old new name bytes result = honest old → OnOk result (content new ≡ placed (content old) name (Some bytes))

  -- after `true` the file has its new name
  abbrev pub MovesFile : {E : Type 0} → D → D → List ℕ → List ℕ → Result Bool E → Type 0
  MovesFile old new from to result = honest old → IfOk result (λ done. done ≡ true → content new ≡ renamed (content old) from to)

  -- after Ok nothing stands at the name
  abbrev pub DropsFile : {A E : Type 0} → D → D → List ℕ → Result A E → Type 0
  DropsFile old new name result = honest old → OnOk result (content new ≡ remove (content old) name)

-- want of memory is no failure
abbrev pub WantKeepsFaults : {D A : Type 0} → (D → ℕ) → D → D → Result A DiskError → Type 0
WantKeepsFaults faults old new result = IsErrOf result NoMemory → faults new ≡ faults old

module _ {D : Type 0} (honest : D → Type 0) (content : D → Files) (calls : D → ℕ) (images : D → ℕ → Files → Type 0) (faults : D → ℕ) where
  -- for want of memory nothing is changed
  abbrev pub WantKeeps : {A : Type 0} → D → D → Result A DiskError → Type 0
  WantKeeps old new result = IsErrOf result NoMemory → (honest old → content new ≡ content old) × Steps calls images old new Same × (faults new ≡ faults old)

  -- where the answer is `false`, since nothing is there, nothing is changed
  abbrev pub NoneKeeps : {E : Type 0} → D → D → Result Bool E → Type 0
  NoneKeeps old new result = IfOk result (λ done. done ≡ false → (honest old → content new ≡ content old) × Steps calls images old new Same × (faults new ≡ faults old))

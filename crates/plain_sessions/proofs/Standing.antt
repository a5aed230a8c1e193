-- Files in byte order.
use Rattle.std.proofs.Common.{◌≡◌, ℕ, Bool, true, false, not, cond, ◌&&◌, List, [], ◌∷◌, Result, Ok, Err, refl, sym, ap, ◌∙◌}
use Rattle.std.specs.Prelude.{OnOk, OnErr}
use Rattle.std.proofs.lemmas.Bool.{and_parts, and_from}
use Rattle.store_types.specs.Names.{name_lt}
use Rattle.store_files.specs.Archive.{File}
use Rattle.store_model.specs.Store.{insert_file}
use Rattle.manifest.proofs.Ordered.{not_back}
use Rattle.plain_sessions.specs.Uploading.{names_stand}

abbrev pub stands_from : List ℕ → List File → Bool
stands_from name [] = true
stands_from name (f ∷ fs) = not (name_lt f.name name) && names_stand (f ∷ fs)

pub stands_from_is : (f : File) (fs : List File) → names_stand (f ∷ fs) ≡ stands_from f.name fs
stands_from_is f [] = refl
stands_from_is f (g ∷ fs) = refl

pub stand-tail : (f : File) (fs : List File) → names_stand (f ∷ fs) ≡ true → names_stand fs ≡ true
stand-tail f [] h = refl
stand-tail f (g ∷ fs) h = (and_parts (not (name_lt g.name f.name)) (names_stand (g ∷ fs)) h).1

stands_from-insert : (name : List ℕ) (new : File) (fs : List File) → name_lt new.name name ≡ false → stands_from name fs ≡ true → names_stand (insert_file new fs) ≡ true
    → stands_from name (insert_file new fs) ≡ true
stands_from-insert name new [] le h stand = and_from (not (name_lt new.name name)) true (ap not le) refl
stands_from-insert name new (f ∷ fs) le h stand = by_test (name_lt new.name f.name) stand
  where
    by_test : (b : Bool) → names_stand (cond b (new ∷ f ∷ fs) (f ∷ insert_file new fs)) ≡ true → stands_from name (cond b (new ∷ f ∷ fs) (f ∷ insert_file new fs)) ≡ true
    by_test true s = and_from (not (name_lt new.name name)) (names_stand (new ∷ f ∷ fs)) (ap not le) s
    by_test false s =
        and_from (not (name_lt f.name name)) (names_stand (f ∷ insert_file new fs)) (and_parts (not (name_lt f.name name)) (names_stand (f ∷ fs)) h).0 s

-- a file in its place leaves them in order
pub stand-insert : (new : File) (fs : List File) → names_stand fs ≡ true → names_stand (insert_file new fs) ≡ true
stand-insert new [] h = refl
stand-insert new (f ∷ fs) h = by_test (name_lt new.name f.name) refl (stand-insert new fs (stand-tail f fs h))
  where
    by_test : (b : Bool) → name_lt new.name f.name ≡ b → names_stand (insert_file new fs) ≡ true → names_stand (cond b (new ∷ f ∷ fs) (f ∷ insert_file new fs)) ≡ true
    by_test true e later = and_from (not (name_lt f.name new.name)) (names_stand (f ∷ fs)) (ap not (not_back new.name f.name e)) h
    by_test false e later = stands_from_is f (insert_file new fs) ∙ stands_from-insert f.name new fs e (sym (stands_from_is f fs) ∙ h) later

-- whether or not there was memory for it
pub stand-after : {E : Type 0} (result : Result (Unit {0}) E) (new : File) (fs after : List File) → names_stand fs ≡ true
    → OnOk result (after ≡ insert_file new fs) → OnErr result (after ≡ fs) → names_stand after ≡ true
stand-after (Ok u) new fs after h ok err = ap names_stand ok ∙ stand-insert new fs h
stand-after (Err e) new fs after h ok err = ap names_stand err ∙ h

-- What a reader answers beside a plain one.
use Rattle.std.proofs.Common.{◌≡◌, ℕ, Bool, true, false, cond, List, [], ◌∷◌, ◌++◌, length, map, Some, None, is_some, refl, sym, ap, ap₂, subst, ◌∙◌, arith}
use Rattle.std.specs.Prelude.{Option, Result, Ok, Err, IsErrAnd, ◌||◌, ◌+◌, take, drop}
use Rattle.std.specs.List.{concat, flat_map, find, list_any}
use Rattle.std.specs.Str.{bytes_eq}
use Rattle.std.proofs.lemmas.List.{length-append}
use Rattle.std.proofs.lemmas.Slice.Eq.{bytes_eq-Decides}
use Rattle.sha2.specs.Sha256.{sha256}
use Rattle.store_types.specs.declared.names.Digest32.{Digest32}
use Rattle.store_types.specs.declared.refusal.Refusal.{Refusal}
use Rattle.store_types.specs.declared.refusal.Refusal.TheVariants.{NotAllowed}
use Rattle.store_types.specs.Chain.Refusing.{◌>>=◌, unless, or_else}
use Rattle.store_files.specs.Archive.{Archive, Content, archive, File, piece_with, pieces_of, ends_from}
use Rattle.store_model.specs.Store.{Reader}
use Rattle.store_model.specs.ReaderSteps.{is_noted, note, content_at, pieces_at, want_range, range_of}
use Rattle.dynamic_index.specs.Pieces.{last_end}
use Rattle.std.specs.Borrow.{Bor}
use Rattle.store_types.specs.declared.names.SnapshotKey.{SnapshotKey}
use Rattle.store_files.specs.Archive.{file_text}
use Rattle.store_files.specs.Folder.{file_path}
use Rattle.paged_indexes.specs.declared.index.IndexPages.{IndexPages}
use Rattle.restore_reader.specs.declared.index.Table.{Table}
use Rattle.restore_reader.specs.Digests.{digests_in, distinct}
use Rattle.restore_reader.specs.Kept.{noted_by}
use Rattle.restore_reader.specs.Session.{Noted, Reading}
use Rattle.restore_reader.specs.Answers.{Lends, PlansBytes, TellsPlainly}
use Rattle.restore_reader.specs.Steps.{has_digest, downloaded, noted_as, range_plan}
use Rattle.restore_reader.specs.Shown.{is_allowed, pages_of, shown_noted, shown, IsOf, Shows}
use Rattle.restore_reader.proofs.Tables.{in_distinct}

-- ---- chunks

-- a piece has the digest exactly where it is noted
found_in : (q : List ℕ) (ps : List (List ℕ)) → list_any (λ d. bytes_eq d q) (map sha256 ps) ≡ is_some (find (λ p. bytes_eq (sha256 p) q) ps)
found_in q [] = refl
found_in q (p ∷ ps) = by_test (bytes_eq (sha256 p) q) (found_in q ps)
  where
    by_test : (b : Bool) → list_any (λ d. bytes_eq d q) (map sha256 ps) ≡ is_some (find (λ x. bytes_eq (sha256 x) q) ps)
        → (b || list_any (λ d. bytes_eq d q) (map sha256 ps)) ≡ is_some (cond b (Some p) (find (λ x. bytes_eq (sha256 x) q) ps))
    by_test true e = refl
    by_test false e = e

found_both : (test : List ℕ → Bool) (ps qs : List (List ℕ)) → is_some (find test (ps ++ qs)) ≡ (is_some (find test ps) || is_some (find test qs))
found_both test [] qs = refl
found_both test (p ∷ ps) qs = by_test (test p) (found_both test ps qs)
  where
    by_test : (b : Bool) → is_some (find test (ps ++ qs)) ≡ (is_some (find test ps) || is_some (find test qs))
        → is_some (cond b (Some p) (find test (ps ++ qs))) ≡ (is_some (cond b (Some p) (find test ps)) || is_some (find test qs))
    by_test true e = refl
    by_test false e = e

allowed_in : (key : SnapshotKey) (files : List File) (q : Digest32) (names : List (List ℕ))
    → list_any (has_digest q.0) (map (shown_noted key files) names) ≡ is_some (piece_with q (flat_map (pieces_at files) names))
allowed_in key files q [] = refl
allowed_in key files q (name ∷ names) =
    ap₂ (λ a b. a || b) (in_distinct q.0 (map sha256 (pieces_at files name)) ∙ found_in q.0 (pieces_at files name)) (allowed_in key files q names)
    ∙ sym (found_both (λ p. bytes_eq (sha256 p) q.0) (pieces_at files name) (flat_map (pieces_at files) names))

pub allowed_plainly : (files : List File) (r : Reader) (s : Reading) (q : Digest32) → Shows s files r → list_any (has_digest q.0) s.noted ≡ is_allowed files r q
allowed_plainly files r s q shows = ap (λ (t : Reading). list_any (has_digest q.0) t.noted) shows ∙ allowed_in r.key files q r.noted

-- ---- names

any_noted : (key : SnapshotKey) (files : List File) (name : List ℕ) (names : List (List ℕ))
    → list_any (λ x. bytes_eq name x.name) (map (shown_noted key files) names) ≡ list_any (bytes_eq name) names
any_noted key files name [] = refl
any_noted key files name (n ∷ ns) = ap (λ b. bytes_eq name n || b) (any_noted key files name ns)

found_noted : (key : SnapshotKey) (files : List File) (name : List ℕ) (names : List (List ℕ))
    → find (λ x. bytes_eq name x.name) (map (shown_noted key files) names) ≡ cond (list_any (bytes_eq name) names) (Some (shown_noted key files name)) None
found_noted key files name [] = refl
found_noted key files name (n ∷ ns) = by_test (bytes_eq name n) refl (found_noted key files name ns)
  where
    by_test : (b : Bool) → bytes_eq name n ≡ b
        → find (λ x. bytes_eq name x.name) (map (shown_noted key files) ns) ≡ cond (list_any (bytes_eq name) ns) (Some (shown_noted key files name)) None
        → cond b (Some (shown_noted key files n)) (find (λ x. bytes_eq name x.name) (map (shown_noted key files) ns)) ≡ cond (b || list_any (bytes_eq name) ns) (Some (shown_noted key files name)) None
    by_test true e go = ap (λ n. Some (shown_noted key files n)) (sym ((bytes_eq-Decides name n).0 e))
    by_test false e go = go

noted_in : (files : List File) (r : Reader) (s : Reading) (name : List ℕ) → Shows s files r → noted_as s name ≡ cond (is_noted r name) (Some (shown_noted r.key files name)) None
noted_in files r s name shows = ap (λ (t : Reading). noted_as t name) shows ∙ found_noted r.key files name r.noted

-- one of an archive that was not noted
pub range_none : (files : List File) (r : Reader) (s : Reading) (name : List ℕ) (offset len : ℕ) → Shows s files r → noted_as s name ≡ None → range_of files r name offset len ≡ Err NotAllowed
unfolding range_of
range_none files r s name offset len shows none = by_test (is_noted r name) (sym (noted_in files r s name shows) ∙ none)
  where
    by_test : (b : Bool) → cond b (Some (shown_noted r.key files name)) None ≡ None
        → (unless NotAllowed b >>= λ _. want_range (length (concat (pieces_at files name))) offset len >>= λ _. Ok (take len (drop offset (concat (pieces_at files name))))) ≡ Err NotAllowed
    by_test true e = cc
    by_test false e = refl

-- what is noted of an archive
pub record IsNotedAs (files : List File) (r : Reader) (name : List ℕ) (x : Noted) : Type 0 where
  pub noted : is_noted r name ≡ true
  pub same : shown_noted r.key files name ≡ x

noted_plainly : (files : List File) (r : Reader) (s : Reading) (name : List ℕ) (x : Noted) → Shows s files r → noted_as s name ≡ Some x → IsNotedAs files r name x
noted_plainly files r s name x shows is = by_test (is_noted r name) refl (sym (noted_in files r s name shows) ∙ is)
  where
    by_test : (b : Bool) → is_noted r name ≡ b → cond b (Some (shown_noted r.key files name)) None ≡ Some x → IsNotedAs files r name x
    by_test true e found = record { noted = e; same = cc }
    by_test false e found = cc

-- what its range is
range_noted : (files : List File) (r : Reader) (name : List ℕ) (x : Noted) (offset len : ℕ) (wanted : Result (Unit {0}) Refusal) → IsNotedAs files r name x → want_range x.size offset len ≡ wanted
    → range_of files r name offset len ≡ (wanted >>= λ _. Ok (take len (drop offset (concat (pieces_at files name)))))
unfolding range_of
range_noted files r name x offset len wanted is wants =
    ap (λ b. unless NotAllowed b >>= λ _. want_range (length (concat (pieces_at files name))) offset len >>= λ _. Ok (take len (drop offset (concat (pieces_at files name))))) is.noted
    ∙ ap (λ w. w >>= λ _. Ok (take len (drop offset (concat (pieces_at files name))))) (ap (λ (y : Noted). want_range y.size offset len) is.same ∙ wants)

-- ---- plans

pub plan_none : (s : Reading) (name : List ℕ) (offset len : ℕ) → noted_as s name ≡ None → range_plan s name offset len ≡ Err NotAllowed
unfolding range_plan
plan_none s name offset len none =
    ap (λ o. or_else NotAllowed o >>= λ x. want_range x.size offset len >>= λ _. Ok x.pages) none

pub plan_noted : (s : Reading) (name : List ℕ) (x : Noted) (offset len : ℕ) (wanted : Result (Unit {0}) Refusal) → noted_as s name ≡ Some x → want_range x.size offset len ≡ wanted
    → range_plan s name offset len ≡ (wanted >>= λ _. Ok x.pages)
unfolding range_plan
plan_noted s name x offset len wanted is wants =
    ap (λ o. or_else NotAllowed o >>= λ y. want_range y.size offset len >>= λ _. Ok y.pages) is
    ∙ ap (λ w. w >>= λ _. Ok x.pages) wants

pub refused : {A : Type 0} (step : Result A Refusal) (told : Result (Bor A) Refusal) (refusal : Refusal) → IsErrAnd told (λ e. e ≡ refusal) → step ≡ Err refusal → Lends step told
refused step (Ok x) refusal same is = absurd same
refused step (Err e) refusal same is = is ∙ ap (λ r. Err r) (sym same)

-- a refusal of both
same_refusal : (files : List File) (r : Reader) (name : List ℕ) (offset len : ℕ) (planned : Result IndexPages Refusal) (refusal : Refusal) (told : Result (Bor IndexPages) Refusal)
    → planned ≡ Err refusal → range_of files r name offset len ≡ Err refusal → Lends planned told → TellsPlainly files r name offset len told
same_refusal files r name offset len planned refusal (Ok a) p ranged does = cc
same_refusal files r name offset len planned refusal (Err e) p ranged does = let same : refusal ≡ e = cc in ranged ∙ ap (λ x. Err x) same

-- what a plan tells beside the plain reader's range
pub plan_plainly : (files : List File) (r : Reader) (s : Reading) (name : List ℕ) (offset len : ℕ) (told : Result (Bor IndexPages) Refusal) → Shows s files r
    → Lends (range_plan s name offset len) told → TellsPlainly files r name offset len told
plan_plainly files r s name offset len told shows does = by_noted (noted_as s name) refl
  where
    by_told : (t : Result (Bor IndexPages) Refusal) (x : Noted) → noted_as s name ≡ Some x → want_range x.size offset len ≡ Ok tt
        → Lends (range_plan s name offset len) t → TellsPlainly files r name offset len t
    by_told (Ok kept) x e f told_is =
        let is = noted_plainly files r s name x shows e in
        let planned = plan_noted s name x offset len (Ok tt) e f in
        let lent : x.pages ≡ kept.now = cc in
        record {
          stepped = range_noted files r name x offset len (Ok tt) is f;
          pages = sym lent ∙ sym (ap (λ (y : Noted). y.pages) is.same);
        }
    by_told (Err refusal) x e f told_is =
        let planned = plan_noted s name x offset len (Ok tt) e f in cc

    by_wanted : (w : Result (Unit {0}) Refusal) (x : Noted) → noted_as s name ≡ Some x → want_range x.size offset len ≡ w → TellsPlainly files r name offset len told
    by_wanted (Ok u) x e f = by_told told x e f does
    by_wanted (Err refusal) x e f =
        let is = noted_plainly files r s name x shows e in
        same_refusal files r name offset len (range_plan s name offset len) refusal told
        (plan_noted s name x offset len (Err refusal) e f) (range_noted files r name x offset len (Err refusal) is f) does

    by_noted : (o : Option Noted) → noted_as s name ≡ o → TellsPlainly files r name offset len told
    by_noted None e =
        same_refusal files r name offset len (range_plan s name offset len) NotAllowed told
        (plan_none s name offset len e) (range_none files r s name offset len shows e) does
    by_noted (Some x) e = by_wanted (want_range x.size offset len) x e refl

-- what a plan is beside the plain reader's range
abbrev pub PlansPlainly : List File → Reader → List ℕ → ℕ → ℕ → Result IndexPages Refusal → Type 0
PlansPlainly files r name offset len (Ok kept) = PlansBytes files r name offset len kept
PlansPlainly files r name offset len (Err refusal) = range_of files r name offset len ≡ Err refusal

pub planned_plainly : (files : List File) (r : Reader) (s : Reading) (name : List ℕ) (offset len : ℕ) → Shows s files r → PlansPlainly files r name offset len (range_plan s name offset len)
planned_plainly files r s name offset len shows = by_noted (noted_as s name) refl
  where
    by_wanted : (w : Result (Unit {0}) Refusal) (x : Noted) → noted_as s name ≡ Some x → want_range x.size offset len ≡ w → PlansPlainly files r name offset len (range_plan s name offset len)
    by_wanted (Ok u) x e f =
        let is = noted_plainly files r s name x shows e in
        subst (PlansPlainly files r name offset len) (sym (plan_noted s name x offset len (Ok tt) e f))
        (record { stepped = range_noted files r name x offset len (Ok tt) is f; pages = sym (ap (λ (y : Noted). y.pages) is.same) })
    by_wanted (Err refusal) x e f =
        let is = noted_plainly files r s name x shows e in
        subst (PlansPlainly files r name offset len) (sym (plan_noted s name x offset len (Err refusal) e f)) (range_noted files r name x offset len (Err refusal) is f)

    by_noted : (o : Option Noted) → noted_as s name ≡ o → PlansPlainly files r name offset len (range_plan s name offset len)
    by_noted None e = subst (PlansPlainly files r name offset len) (sym (plan_none s name offset len e)) (range_none files r s name offset len shows e)
    by_noted (Some x) e = by_wanted (want_range x.size offset len) x e refl

-- ---- downloads

map_push : {A B : Type 0} (f : A → B) (xs : List A) (y : A) → map f (xs ++ y ∷ []) ≡ map f xs ++ f y ∷ []
map_push f [] y = refl
map_push {A} {B} f (x ∷ xs) y = ap (λ (l : List B). f x ∷ l) (map_push f xs y)

digests_same : (start : ℕ) (ps : List (List ℕ)) → digests_in (ends_from start ps) ≡ map sha256 ps
digests_same start [] = refl
digests_same start (p ∷ ps) = ap (λ (l : List (List ℕ)). sha256 p ∷ l) (digests_same (start + length p) ps)

last_same : (start : ℕ) (ps : List (List ℕ)) → last_end start (ends_from start ps) ≡ start + length (concat ps)
last_same start [] = omega arith
last_same start (p ∷ ps) = omega (arith, last_same (start + length p) ps, length-append p (concat ps))

-- what is noted of an archive among the files
made_noted : (files : List File) (key : SnapshotKey) (name : List ℕ) (a : Archive) (table : Table) (kept : IndexPages) → content_at files name ≡ Some (archive a) → IsOf key name a table kept
    → noted_by name table kept ≡ shown_noted key files name
made_noted files key name a table kept is of =
    ap (λ ds. record { name = name; digests = distinct ds; size = table.size; pages = kept }) (of.entries.digests ∙ digests_same 0 a.pieces)
    ∙ ap (λ n. record { name = name; digests = distinct (map sha256 a.pieces); size = n; pages = kept }) (of.entries.size ∙ last_same 0 a.pieces ∙ omega arith)
    ∙ ap (λ p. record { name = name; digests = distinct (map sha256 a.pieces); size = length (concat a.pieces); pages = p }) of.pages
    ∙ ap by_content (sym is)
  where
    by_content : Option Content → Noted
    by_content o = record {
      name = name;
      digests = distinct (map sha256 (elim o [ None ↦ [] | Some content ↦ pieces_of content ]));
      size = length (concat (elim o [ None ↦ [] | Some content ↦ pieces_of content ]));
      pages = pages_of name (file_path key name) (elim o [ None ↦ [] | Some content ↦ file_text content ]);
    }

pub noted_also : (files : List File) (a : Archive) (r : Reader) (s new : Reading) (name : List ℕ) (table : Table) (kept : IndexPages) → new ≡ downloaded s name table kept → Shows s files r
    → content_at files name ≡ Some (archive a) → IsOf r.key name a table kept → Shows new files (note name (archive a) r)
noted_also files a r s new name table kept made shows is of =
    made ∙ ap (λ t. downloaded t name table kept) shows
    ∙ ap (λ b. cond b (shown files r) (record (shown files r) { noted = (shown files r).noted ++ noted_by name table kept ∷ [] })) (any_noted r.key files name r.noted)
    ∙ by_test (is_noted r name)
  where
    by_test : (b : Bool) → cond b (shown files r) (record (shown files r) { noted = (shown files r).noted ++ noted_by name table kept ∷ [] })
        ≡ shown files (cond b r (record r { noted = r.noted ++ name ∷ [] }))
    by_test true = refl
    by_test false =
        ap (λ (l : List Noted). record { key = r.key; noted = l })
        (ap (λ x. map (shown_noted r.key files) r.noted ++ x ∷ []) (made_noted files r.key name a table kept is of) ∙ sym (map_push (shown_noted r.key files) r.noted name))

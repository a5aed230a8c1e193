-- The book of a datastore that was opened is that of the history without events.
use Rattle.std.proofs.Common.{◌≡◌, ◌⊎◌, ◌↔◌, inl, inr, ⊎_elim, ℕ, Bool, true, false, cond, ◌&&◌, ◌||◌, if◌then◌else◌, filter, map, List, [], ◌∷◌, Option, Some, None, refl, sym, ap, subst, ◌∙◌, arith}
use Rattle.std.specs.Prelude.{is_none, is_some, unwrap_or, nat_le, length, drop}
use Rattle.std.specs.FinMap.{get, entries}
use Rattle.std.specs.List.{Contains}
use Rattle.std.specs.Option.{IsSome}
use Rattle.std.specs.Str.{bytes_eq}
use Rattle.std.proofs.lemmas.Bool.{and_parts}
use Rattle.std.proofs.lemmas.List.Elements.{All-contains}
use Rattle.std.proofs.lemmas.Slice.Eq.{bytes_eq-Decides}
use Rattle.sha2.specs.Sha256.{sha256}
use Rattle.disk_trait.specs.declared.disk.Disk.{Ghosts}
use Rattle.port_traits.specs.Readings.{Readings}
use Rattle.store_types.specs.declared.names.Digest32.{Digest32}
use Rattle.blob_codec.specs.Blob.{blob, data_limit}
use Rattle.store_files.specs.Archive.{Snapshot}
use Rattle.store_files.specs.Folder.{Files, IsDigest, HasWholeChunks, chunk_name}
use Rattle.atime_book.specs.Touches.{last_of}
use Rattle.atime_book.specs.Present.{IsOfPresent, is_among}
use Rattle.store_model.specs.Clash.{chunk_piece, chunk_pieces, is_chunk}
use Rattle.store_model.specs.Stands.{StandsFor as Stands}
use Rattle.store_model.proofs.Finding.{some_same}
use Rattle.store_model.proofs.Insertions.{Contains-here, Contains-later, Contains-cases}
use Rattle.snapshot_files.proofs.Mapped.{contains_map, map_contains, given_contains, entry_read}
use Rattle.snapshot_files.proofs.Rising.{not_member}
use Rattle.snapshot_files.specs.Leaving.{IsLeaving, IsTemporary, MayClean}
use Rattle.snapshot_files.proofs.Endings.{last, last_temporary}
use Rattle.snapshot_files.proofs.Leavers.{chunk_stays}
use Rattle.store_history.specs.History.{Opening}
use Rattle.store_history.specs.Saved.{book_in, book_name, saved_book}
use Rattle.store_history.specs.LastTouches.{SameTouches, is_one_of, touches_at_opening}
use Rattle.store_history.specs.Sweeping.{swept_all}
use Rattle.store_history.proofs.Naming.{book_apart}
use Rattle.core_state.specs.declared.state.Core.{Core}
use Rattle.core_state.specs.declared.upkeep.Upkeep.{Upkeep}
use Rattle.core_state.specs.History.{began, world}
use Rattle.core_state.specs.KeepsTouches.{KeepsTouches}
use Rattle.core_state.specs.Sweeps.{ShowsOpen}
use Rattle.core_state.specs.Upkeeps.{touches_kept}
use Rattle.core_state.proofs.Chunks.{is_digest, opened_only}
use Rattle.core_opening.specs.Opening.{IsBookOf, NumbersAll}
use Rattle.store_history.specs.Opened.{opening_of}

-- ---- the saved book stays

book_not_temporary : IsTemporary book_name → ⊥
book_not_temporary (name, e) =
    let is : last book_name ≡ 112 = ap last e ∙ last_temporary name in
    omega (arith, is)

pub book_stays : (m c : Files) → MayClean m m c → get c book_name ≡ get m book_name
book_stays m c may = told (may book_name)
  where
    told : (get c book_name ≡ get m book_name) ⊎ ((get c book_name ≡ None) × IsLeaving m book_name) → get c book_name ≡ get m book_name
    told (inl same) = same
    told (inr (none, inl temporary)) = absurd (book_not_temporary temporary)
    told (inr (none, inr (k, is_k, (name, grammar, at), lacks))) = absurd (book_apart k name at)

pub saved_stays : (m c : Files) → MayClean m m c → saved_book c ≡ saved_book m
saved_stays m c may = ap book_in (book_stays m c may)

-- ---- what is among digests

or_right : (a b : Bool) → b ≡ true → (a || b) ≡ true
or_right true b e = refl
or_right false b e = e

one_has : (q : List ℕ) (xs : List (List ℕ)) → is_one_of q xs ≡ true → Contains xs q
one_has q [] h = cc
one_has q (x ∷ xs) h = by_test (bytes_eq x q) refl h (one_has q xs)
  where
    by_test : (b : Bool) → bytes_eq x q ≡ b → (b || is_one_of q xs) ≡ true → (is_one_of q xs ≡ true → Contains xs q) → Contains (x ∷ xs) q
    by_test true e h later = subst (Contains (x ∷ xs)) ((bytes_eq-Decides x q).0 e) (Contains-here x xs)
    by_test false e h later = Contains-later x xs q (later h)

has_one : (q : List ℕ) (xs : List (List ℕ)) → Contains xs q → is_one_of q xs ≡ true
has_one q [] has = absurd (not_member q has)
has_one q (x ∷ xs) has =
    ⊎_elim
    (λ (e : x ≡ q). ap (λ b. b || is_one_of q xs) ((bytes_eq-Decides x q).1 e))
    (λ (c : Contains xs q). or_right (bytes_eq x q) (is_one_of q xs) (has_one q xs c))
    (Contains-cases x xs q has)

abbrev digest : List ℕ → Digest32
digest q = record { 0 = q }

among_has : (q : List ℕ) (ds : List Digest32) → is_among q ds ≡ true → Contains ds (digest q)
among_has q [] h = cc
among_has q (d ∷ ds) h = by_test (bytes_eq d.0 q) refl h (among_has q ds)
  where
    by_test : (b : Bool) → bytes_eq d.0 q ≡ b → (b || is_among q ds) ≡ true → (is_among q ds ≡ true → Contains ds (digest q)) → Contains (d ∷ ds) (digest q)
    by_test true e h later = subst (Contains (d ∷ ds)) (ap digest ((bytes_eq-Decides d.0 q).0 e)) (Contains-here d ds)
    by_test false e h later = Contains-later d ds (digest q) (later h)

has_among : (q : List ℕ) (ds : List Digest32) → Contains ds (digest q) → is_among q ds ≡ true
has_among q [] has = absurd (not_member (digest q) has)
has_among q (d ∷ ds) has =
    ⊎_elim
    (λ (e : d ≡ digest q). ap (λ b. b || is_among q ds) ((bytes_eq-Decides d.0 q).1 (ap (λ (x : Digest32). x.0) e)))
    (λ (c : Contains ds (digest q)). or_right (bytes_eq d.0 q) (is_among q ds) (has_among q ds c))
    (Contains-cases d ds (digest q) has)

and_false : (b : Bool) → (b && false) ≡ false
and_false true = refl
and_false false = refl

among_filter : (p : Digest32 → Bool) (q : List ℕ) (ds : List Digest32) → is_among q (filter p ds) ≡ (is_among q ds && p (digest q))
among_filter p q [] = refl
among_filter p q (d ∷ ds) = by_test (bytes_eq d.0 q) (p d) refl refl (among_filter p q ds)
  where
    own : bytes_eq d.0 q ≡ true → p (digest q) ≡ p d
    own at = ap p (sym (ap digest ((bytes_eq-Decides d.0 q).0 at)))

    by_test : (here kept : Bool) → bytes_eq d.0 q ≡ here → p d ≡ kept → is_among q (filter p ds) ≡ (is_among q ds && p (digest q))
        → is_among q (cond kept (d ∷ filter p ds) (filter p ds)) ≡ ((here || is_among q ds) && p (digest q))
    by_test true true at is rest = ap (λ b. b || is_among q (filter p ds)) at ∙ sym (own at ∙ is)
    by_test true false at is rest = rest ∙ ap (λ b. is_among q ds && b) (own at ∙ is) ∙ and_false (is_among q ds) ∙ sym (own at ∙ is)
    by_test false true at is rest = ap (λ b. b || is_among q (filter p ds)) at ∙ rest
    by_test false false at is rest = rest

same_test : (a b : Bool) → (a ≡ true → b ≡ true) → (b ≡ true → a ≡ true) → a ≡ b
same_test true true f g = refl
same_test true false f g = sym (f refl)
same_test false true f g = g refl
same_test false false f g = refl

-- ---- the digests of the chunks' pieces

-- an entry that gives a piece has the name of its chunk
named : (file : List ℕ × List ℕ) (p : List ℕ) → chunk_piece file ≡ Some p → file.0 ≡ chunk_name (sha256 p)
named file p e = by_test (is_chunk (drop 12 file.1) file) refl e
  where
    by_test : (b : Bool) → is_chunk (drop 12 file.1) file ≡ b → (if b then Some (drop 12 file.1) else None) ≡ Some p → file.0 ≡ chunk_name (sha256 p)
    by_test true is e =
        let piece = drop 12 file.1 in
        let same : piece ≡ p = some_same piece p e in
        let both = and_parts (nat_le (length piece) data_limit && bytes_eq file.1 (blob piece)) (bytes_eq file.0 (chunk_name (sha256 piece))) is in
        (bytes_eq-Decides file.0 (chunk_name (sha256 piece))).0 both.1 ∙ ap (λ q. chunk_name (sha256 q)) same
    by_test false is e = cc

-- the piece of a chunk's file that is there has its digest
pub there_one : (m : Files) (x : List ℕ) → HasWholeChunks m → IsDigest x → IsSome (get m (chunk_name x)) → is_one_of x (map sha256 (chunk_pieces m)) ≡ true
there_one m x whole is there = by_bytes (get m (chunk_name x)) refl there
  where
    by_bytes : (o : Option (List ℕ)) → get m (chunk_name x) ≡ o → IsSome o → is_one_of x (map sha256 (chunk_pieces m)) ≡ true
    by_bytes None at some = cc
    by_bytes (Some bytes) at some =
        let (p, piece, text, of) = whole x bytes is at in
        let here : get m (chunk_name (sha256 p)) ≡ Some (blob p) = ap (λ q. get m (chunk_name q)) of ∙ at ∙ ap (λ b. Some b) text in
        subst (λ q. is_one_of q (map sha256 (chunk_pieces m)) ≡ true) of
        (has_one (sha256 p) (map sha256 (chunk_pieces m)) (contains_map sha256 (chunk_pieces m) p (opened_only m whole p here)))

-- and where a piece has this digest, its chunk's file is there
pub record IsHeld (m : Files) (x : List ℕ) : Type 0 where
  pub is : IsDigest x
  pub there : IsSome (get m (chunk_name x))

pub one_there : (m : Files) (x : List ℕ) → is_one_of x (map sha256 (chunk_pieces m)) ≡ true → IsHeld m x
one_there m x one =
    let piece = map_contains sha256 (chunk_pieces m) x (one_has x (map sha256 (chunk_pieces m)) one) in
    let file = given_contains chunk_piece (entries m) piece.from piece.among in
    let name : (file.from).0 ≡ chunk_name x = named file.from piece.from file.gives ∙ ap chunk_name piece.gives in
    let read : get m (file.from).0 ≡ Some (file.from).1 = entry_read m (file.from).0 (file.from).1 file.among in
    record {
      is = subst IsDigest piece.gives (is_digest piece.from);
      there = ap is_some (ap (get m) (sym name) ∙ read);
    }

some_if : (b : Bool) (n : ℕ) → IsSome (if b then Some n else None) → b ≡ true
some_if true n some = refl
some_if false n some = some

-- ---- the core's book

-- it has the chunks whose files are there, where no file but such as opening takes away is gone
module _ (m c : Files) (u : Upkeep) (whole : HasWholeChunks m) (may : MayClean m m c) (book : IsBookOf c u) where
  keeps : IsOfPresent (saved_book m) u.book book.digests u.undated.items
  keeps = subst (λ saved. IsOfPresent saved u.book book.digests u.undated.items) (saved_stays m c may) book.keeps

  was_there : (x : List ℕ) → IsSome (get c (chunk_name x)) → IsSome (get m (chunk_name x))
  was_there x there = subst (λ (o : Option (List ℕ)). IsSome o) (chunk_stays m c may x) there

  is_there : (x : List ℕ) → IsSome (get m (chunk_name x)) → IsSome (get c (chunk_name x))
  is_there x there = subst (λ (o : Option (List ℕ)). IsSome o) (sym (chunk_stays m c may x)) there

  among_one : (x : List ℕ) → is_among x book.digests ≡ is_one_of x (map sha256 (chunk_pieces m))
  among_one x =
      same_test (is_among x book.digests) (is_one_of x (map sha256 (chunk_pieces m)))
      (λ among.
      let has = among_has x book.digests among in
      let is = All-contains (λ (d : Digest32). IsDigest d.0) book.digests (digest x) (book.lists).each has in
      there_one m x whole is (was_there x (((book.lists).exactly (digest x) is).0 has)))
      (λ one.
      let held = one_there m x one in
      has_among x book.digests (((book.lists).exactly (digest x) held.is).1 (is_there x held.there)))

  pub opened_moment : u.book.moment ≡ (saved_book m).moment
  opened_moment = keeps.read

  module _ (L : List Snapshot) (calls : ℕ) where
    abbrev opening : Opening
    opening = record { snapshots = L; moment = (saved_book m).moment; touches = (saved_book m).touches; calls = calls; chunks = chunk_pieces m }

    pub opened_touches_are : SameTouches (touches_kept u) (touches_at_opening opening)
    opened_touches_are = record {
      last = λ x. keeps.last x ∙ ap (λ b. if b then Some (unwrap_or (last_of (saved_book m) x) (saved_book m).moment) else None) (among_one x);
      undated = λ x.
          ap (is_among x) keeps.unknown ∙ among_filter (λ (d : Digest32). is_none (last_of (saved_book m) d.0)) x book.digests
          ∙ ap (λ b. b && is_none (last_of (saved_book m) x)) (among_one x);
    }

    pub opened_present : (x : List ℕ) → IsDigest x → IsSome (get c (chunk_name x)) ↔ IsSome ((touches_at_opening opening).last x)
    opened_present x is =
        let when = unwrap_or (last_of (saved_book m) x) (saved_book m).moment in (
          λ there. ap (λ b. is_some (if b then Some when else None)) (there_one m x whole is (was_there x there)),
          λ some. is_there x (one_there m x (some_if (is_one_of x (map sha256 (chunk_pieces m))) when some)).there,
        )

-- where an honest disk stands for a list
pub opened_touches : {D E C : Type 0} (d : Ghosts D) (readings : Option Readings) (old : D) (core : Core D E C) (L : List Snapshot) (R : Option (List Snapshot)) → Stands (d.content old) L
    → MayClean (d.content old) (d.content old) (d.content (core.parts).disk) → IsBookOf (d.content (core.parts).disk) core.upkeep
    → core.collector ≡ None → NumbersAll (core.parts).catalogue.listed
    → KeepsTouches d core (began (opening_of d old (core.parts).disk L) R readings)
unfolding swept_all
opened_touches d readings old core L R stands may book none numbers =
    let m = d.content old in
    let c = d.content (core.parts).disk in
    let acts = length (core.journal).entries.items in
    record {
      touches = opened_touches_are m c core.upkeep stands.chunks may book L (d.calls (core.parts).disk);
      present = λ calm. opened_present m c core.upkeep stands.chunks may book L (d.calls (core.parts).disk);
      sweep = subst (λ x. ShowsOpen acts (core.parts).catalogue.listed (world (began (opening_of d old (core.parts).disk L) R readings)).store.snapshots x None) (sym none) refl;
      is_swept = tt;
      numbers = numbers acts;
    }

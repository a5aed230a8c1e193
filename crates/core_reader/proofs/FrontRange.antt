-- A range whose front is of the page at hand.
use Rattle.std.proofs.Common.{◌≡◌, ℕ, ◌+◌, ◌-◌, ◌*◌, ◌<◌, ◌≤◌, ◌⊎◌, inl, inr, min, max, Bool, true, false, cond, List, [], ◌∷◌, ◌++◌, length, take, drop, nat_le, Option, Some, None, Result, Ok, Err, IsErrAnd, refl, sym, ap, ap₂, subst, ◌∙◌, arith}
use Rattle.std.specs.List.{Contains, concat}
use Rattle.std.proofs.lemmas.Bool.{cases_lt, leb-true}
use Rattle.std.proofs.lemmas.List.{drop-drop, drop-take, length-append, length-take, map-append}
use Rattle.std.proofs.lemmas.List.Elements.{Contains-append_cases, Contains-append_left, Contains-append_right}
use Rattle.std.proofs.Math.Seq.{drop-append_seam}
use Rattle.disk_trait.specs.Files.{Files}
use Rattle.store_types.specs.declared.names.Digest32.{Digest32}
use Rattle.store_types.specs.declared.refusal.ChunkFault.{ChunkFault}
use Rattle.store_types.specs.declared.refusal.Refusal.{Refusal}
use Rattle.store_types.specs.declared.refusal.Refusal.TheVariants.{Damaged, Unreadable}
use Rattle.store_types.specs.Chain.Refusing.{◌>>=◌}
use Rattle.store_files.specs.Archive.{ends_from}
use Rattle.store_files.specs.DynamicIndex.{Ended}
use Rattle.dynamic_index.specs.Pieces.{last_end}
use Rattle.paged_indexes.specs.Index.{start_by}
use Rattle.restore_reader.specs.declared.ranges.Part.{Part}
use Rattle.restore_reader.specs.Plan.{part_in, parts_in}
use Rattle.restore_reader.proofs.Apart.{no_part, one_part}
use Rattle.store_stops.specs.declared.stop.Stop.{Stop}
use Rattle.store_stops.specs.declared.stop.Stop.TheVariants.{Refused, NoMemory, DiskFailed}
use Rattle.store_stops.specs.Stops.{Gives, IfRefused}
use Rattle.core_state.specs.declared.pages.ReadPage.{ReadPage}
use Rattle.core_reader.specs.Chunks.{HoldsParts, StopsAmong, behind, digests_of, parts_at}
use Rattle.core_reader.specs.Ranges.{FitsHand, HoldsFront, IsHandOf, NeedsChunk, RangeAsked, RefusesAsked, RefusesFront, RefusesRead, StandsAsked, front_at, parts_on, range_at, range_with, rest_at}
use Rattle.core_reader.proofs.PageRanges.{page_bytes, page_holds, range_bytes_are}
use Rattle.core_reader.proofs.Pieces.{none_behind}

-- ---- lists

-- the front of a list's first ones, and then the rest of them
front_then : (front more all : List ℕ) (k : ℕ) → take k all ≡ front ++ more → front ++ take (k - length front) (drop (length front) all) ≡ take k all
front_then front more all k is =
    let n = length front in
    let short : n ≤ k = omega (arith, ap length is, length-append front more, length-take k all) in
    let both : n + (k - n) ≡ k = omega (arith, short) in
    let rest : take (k - n) (drop n all) ≡ more = sym (drop-take n (k - n) all) ∙ ap (λ j. drop n (take j all)) both ∙ ap (drop n) is ∙ drop-append_seam front more in
    ap (λ (l : List ℕ). front ++ l) rest ∙ sym is

same_bytes : (a b : List ℕ) → ◌≡◌ {A = Result (List ℕ) Refusal} (Ok a) (Ok b) → a ≡ b
same_bytes a b e = cc

-- ---- where the page at hand and the pieces are of the index

module _ (m : Files) (q : RangeAsked) (from to : ℕ) (st : StandsAsked m q) where
  abbrev pieces : List (List ℕ)
  pieces = (st.whole).pieces

  abbrev es : List Ended
  es = ends_from 0 pieces

  abbrev start_of : ℕ → ℕ
  start_of i = last_end 0 (take (i * 1024) es)

  abbrev page_of : ℕ → List Ended
  page_of i = take 1024 (drop (i * 1024) es)

  hand_start : (x : ReadPage) → IsHandOf (q.index).pages es x → x.start ≡ start_of x.number
  hand_start x fits = fits.start ∙ (((st.whole).index).pages x.number fits.below).start

  hand_parts : (x : ReadPage) → IsHandOf (q.index).pages es x → parts_on from to x ≡ parts_in from to (start_of x.number) (page_of x.number)
  hand_parts x fits = ap₂ (λ s (l : List Ended). parts_in from to s l) (hand_start x fits) fits.entries

  -- its parts are of pieces that stand there
  pub front_holds : HoldsFront m q.at_hand from to
  front_holds = by_hand q.at_hand st.hand
    where
      by_hand : (o : Option ReadPage) → FitsHand (q.index).pages es o → HoldsFront m o from to
      by_hand None fits = tt
      by_hand (Some x) fits = subst (HoldsParts m) (sym (hand_parts x fits)) (page_holds m q.index es (st.whole).index (st.whole).steps from to pieces refl (st.whole).held x.number)

  -- and what it has is the first of the range's bytes
  abbrev all : List ℕ
  all = drop from (concat pieces)

  abbrev IsFront : List ℕ → Type 0
  IsFront front = (more : List ℕ) × (take (to - from) all ≡ front ++ more)

  no_front : (front : List ℕ) → ◌≡◌ {A = Result (List ℕ) Refusal} (Ok []) (Ok front) → IsFront front
  no_front front is = (take (to - from) all, ap (λ (l : List ℕ). l ++ take (to - from) all) (same_bytes [] front is))

  front_is : (front : List ℕ) → front_at m q.at_hand from to ≡ Ok front → IsFront front
  front_is front = by_hand q.at_hand st.hand
    where
      by_low : (x : ReadPage) → IsHandOf (q.index).pages es x → (b : Bool) → nat_le x.start from ≡ b → cond b (parts_at m (parts_on from to x)) (Ok []) ≡ Ok front → IsFront front
      by_low x fits true low is =
          page_bytes m q.index es (st.whole).index (st.whole).steps from to pieces refl (st.whole).held x.number front
          (omega (arith, leb-true x.start from low, hand_start x fits)) (ap (parts_at m) (sym (hand_parts x fits)) ∙ is)
      by_low x fits false low is = no_front front is

      by_hand : (o : Option ReadPage) → FitsHand (q.index).pages es o → front_at m o from to ≡ Ok front → IsFront front
      by_hand None fits is = no_front front is
      by_hand (Some x) fits is = by_low x fits (nat_le x.start from) refl is

  -- the bytes that are given are the range
  pub asked_bytes_are : (bytes : List ℕ) → range_with m q from to ≡ Ok bytes → bytes ≡ take (to - from) all
  unfolding range_with
  asked_bytes_are bytes given = by_front (front_at m q.at_hand from to) refl given
    where
      by_rest : (front : List ℕ) → IsFront front → (r : Result (List ℕ) Refusal) → range_at m q.index (from + length front) to ≡ r → behind front r ≡ Ok bytes → bytes ≡ take (to - from) all
      by_rest front is (Ok rest) read joined =
          let n = length front in
          let are = range_bytes_are m q.index es (st.whole).index (st.whole).steps (from + n) to pieces refl (st.whole).held rest read in
          let left : to - (from + n) ≡ to - from - n = omega arith in
          sym (same_bytes (front ++ rest) bytes joined)
          ∙ ap (λ l. front ++ l) (are ∙ ap₂ (λ k (l : List ℕ). take k l) left (sym (drop-drop n from (concat pieces))))
          ∙ front_then front is.0 all (to - from) is.1
      by_rest front is (Err refusal) read joined = cc

      by_front : (r : Result (List ℕ) Refusal) → front_at m q.at_hand from to ≡ r → (r >>= rest_at m q.index from to) ≡ Ok bytes → bytes ≡ take (to - from) all
      by_front (Ok front) e is = by_rest front (front_is front e) (range_at m q.index (from + length front) to) refl is
      by_front (Err refusal) e is = cc

-- ---- what is given

module _ (m : Files) (q : RangeAsked) (from to : ℕ) where
  -- behind the front that is read
  pub rest_is : (front : List ℕ) → front_at m q.at_hand from to ≡ Ok front → range_with m q from to ≡ behind front (range_at m q.index (from + length front) to)
  unfolding range_with
  rest_is front is = ap (λ (r : Result (List ℕ) Refusal). r >>= rest_at m q.index from to) is

  -- the front is refused
  pub front_stops : {A B : Type 0} (f : A → List ℕ) (g : B → List ℕ) (stop : Stop) (result : Result B Stop) → IsErrAnd result (λ x. x ≡ stop) → Gives f (Err stop) (front_at m q.at_hand from to)
      → Gives g result (range_with m q from to)
  unfolding range_with
  front_stops {A} {B} f g stop (Ok x) is gives = absurd is
  front_stops {A} {B} f g stop (Err x) is gives = subst (λ s. Gives {A = B} g (Err s) (range_with m q from to)) (sym is) (by_stop stop gives)
    where
      by_stop : (stop : Stop) → Gives {A = A} f (Err stop) (front_at m q.at_hand from to) → Gives {A = B} g (Err stop) (range_with m q from to)
      by_stop (Refused refusal) gives = ap (λ (r : Result (List ℕ) Refusal). r >>= rest_at m q.index from to) gives
      by_stop NoMemory gives = tt
      by_stop DiskFailed gives = tt

-- what was read behind nothing
pub front_read : (old new : List ℕ) (r : Result (List ℕ) Refusal) → old ≡ [] → behind old r ≡ Ok new → r ≡ Ok new
front_read old new r none is = none_behind r ∙ ap (λ l. behind l r) (sym none) ∙ is

pub front_refused : {A B : Type 0} (f : A → List ℕ) (g : B → List ℕ) (old : List ℕ) (r : Result (List ℕ) Refusal) (stop : Stop) → old ≡ [] → Gives f (Err stop) (behind old r) → Gives g (Err stop) r
front_refused f g old r (Refused refusal) none gives = none_behind r ∙ ap (λ l. behind l r) (sym none) ∙ gives
front_refused f g old r NoMemory none gives = tt
front_refused f g old r DiskFailed none gives = tt

-- ---- what is refused

-- a piece of which a later part of the range has something, the range has too
module _ (from reached to : ℕ) (low : from ≤ reached) (digest : Digest32) where
  abbrev digest_in : Part → Digest32
  digest_in x = x.digest

  one_more : (start : ℕ) (e : Ended) → Contains (digests_of (part_in reached to start e)) digest → Contains (digests_of (part_in from to start e)) digest
  one_more start e has = by_case (cases_lt (max reached start) (min to e.end))
    where
      by_case : (max reached start < min to e.end) ⊎ (min to e.end ≤ max reached start) → Contains (digests_of (part_in from to start e)) digest
      by_case (inl h) =
          let wide : max from start < min to e.end = omega (arith, low, h) in
          subst (λ (l : List Digest32). Contains l digest) (ap digests_of (one_part reached to start e h) ∙ sym (ap digests_of (one_part from to start e wide))) has
      by_case (inr h) =
          let none : Contains (digests_of []) digest = subst (λ (l : List Part). Contains (digests_of l) digest) (no_part reached to start e h) has in
          absurd (omega (arith, none.1))

  pub needs_more : (start : ℕ) (es : List Ended) → Contains (digests_of (parts_in reached to start es)) digest → Contains (digests_of (parts_in from to start es)) digest
  needs_more start [] has = has
  needs_more start (e ∷ es) has =
      let here = part_in from to start e in
      let later = parts_in from to e.end es in
      subst (λ (l : List Digest32). Contains l digest) (sym (map-append digest_in here later))
      (by_side (Contains-append_cases (digests_of (part_in reached to start e)) (digests_of (parts_in reached to e.end es)) digest
      (subst (λ (l : List Digest32). Contains l digest) (map-append digest_in (part_in reached to start e) (parts_in reached to e.end es)) has))
      (needs_more e.end es))
    where
      by_side : Contains (digests_of (part_in reached to start e)) digest ⊎ Contains (digests_of (parts_in reached to e.end es)) digest
          → (Contains (digests_of (parts_in reached to e.end es)) digest → Contains (digests_of (parts_in from to e.end es)) digest)
          → Contains (digests_of (part_in from to start e) ++ digests_of (parts_in from to e.end es)) digest
      by_side (inl h) more = Contains-append_left (digests_of (part_in from to start e)) (digests_of (parts_in from to e.end es)) digest (one_more start e h)
      by_side (inr h) more = Contains-append_right (digests_of (part_in from to start e)) (digests_of (parts_in from to e.end es)) digest (more h)

-- by the page at hand
pub front_refuses : (q : RangeAsked) (from to : ℕ) (stop : Stop) → IfRefused (RefusesFront q.at_hand from to) stop → IfRefused (RefusesAsked q from to) stop
front_refuses q from to (Refused refusal) h = by_refusal refusal h
  where
    by_refusal : (refusal : Refusal) → RefusesFront q.at_hand from to refusal → RefusesAsked q from to refusal
    by_refusal (Damaged digest found) h = inl h
    by_refusal _ h = absurd h
front_refuses q from to NoMemory h = tt
front_refuses q from to DiskFailed h = tt

-- and by what is read behind it
pub rest_refuses : (q : RangeAsked) (from reached to : ℕ) (stop : Stop) → from ≤ reached → IfRefused (RefusesRead q.index reached to) stop → IfRefused (RefusesAsked q from to) stop
rest_refuses q from reached to (Refused refusal) low h = by_refusal refusal h
  where
    needs : (digest : Digest32) → NeedsChunk (q.index).pages reached to digest → NeedsChunk (q.index).pages from to digest
    needs digest n = record {
      place = n.place;
      entries = n.entries;
      kept = n.kept;
      has = needs_more from reached to low digest (start_by (q.index).pages n.place) n.entries n.has;
    }

    by_refusal : (refusal : Refusal) → RefusesRead q.index reached to refusal → RefusesAsked q from to refusal
    by_refusal (Unreadable name) h = h
    by_refusal (Damaged digest found) h = inr (needs digest h)
    by_refusal _ h = absurd h
rest_refuses q from reached to NoMemory low h = tt
rest_refuses q from reached to DiskFailed low h = tt

-- a chunk of the page at hand that is damaged
pub hand_needed : (x : ReadPage) (from to : ℕ) (stop : Stop) → StopsAmong (digests_of (parts_on from to x)) stop → IfRefused (RefusesFront (Some x) from to) stop
hand_needed x from to (Refused refusal) among = subst (RefusesFront (Some x) from to) (sym ((among.0).2).1) (needed (among.0).0 ((among.0).2).0 (among.0).1)
  where
    needed : (digest : Digest32) (found : ChunkFault) → Contains (digests_of (parts_on from to x)) digest → RefusesFront (Some x) from to (Damaged digest found)
    needed digest found has = has
hand_needed x from to NoMemory among = tt
hand_needed x from to DiskFailed among = tt

-- The chunks that are there are listed, each once, and however they are listed they are counted alike.
use Rattle.std.proofs.Common.{◌≡◌, ◌≢◌, ◌⊎◌, ◌↔◌, ◌<◌, inl, inr, ℕ, zero, suc, ◌+◌, Bool, true, false, not, cond, List, [], ◌∷◌, ◌++◌, length, map, get_or, Option, Some, None, refl, sym, subst, ap, ◌∙◌, arith, is_some, true≢false}
use Rattle.std.specs.List.{AllPairs, Contains, filter}
use Rattle.std.specs.Ordering.{is_eq, is_lt}
use Rattle.std.specs.declared.cmp.Ordering.{Ordering}
use Rattle.std.specs.declared.cmp.Ordering.TheVariants.{Less, Equal, Greater}
use Rattle.std.specs.Str.{bytes_eq}
use Rattle.std.proofs.lemmas.Bool.{false≢true}
use Rattle.std.proofs.lemmas.Cmp.{nat_list_cmp_total, tied_itself}
use Rattle.std.proofs.lemmas.List.Recursion.{is_count_by}
use Rattle.std.proofs.lemmas.List.Sums.{length-filter}
use Rattle.std.proofs.lemmas.Map.Text.{is_eq-slice_cmp}
use Rattle.std.proofs.lemmas.Slice.Eq.{bytes_eq-Decides}
use Rattle.sha2.specs.Sha256.{sha256}
use Rattle.store_types.specs.Names.{text_cmp, name_lt}
use Rattle.store_files.specs.Archive.{Snapshot}
use Rattle.wire_commands.specs.declared.reply.Reply.{Reply}
use Rattle.wire_commands.specs.declared.reply.Reply.TheVariants.{Done}
use Rattle.store_model.proofs.Insertions.{lt_back}
use Rattle.atime_book.specs.Counts.{is_since}
use Rattle.store_history.specs.declared.act.Act.{Act}
use Rattle.store_history.specs.declared.act.Act.TheVariants.{Chunk}
use Rattle.store_history.specs.declared.act.Event.{Event}
use Rattle.store_history.specs.History.{World, Opening, opened, after, reply}
use Rattle.store_history.specs.LastTouches.{LastTouches, is_one_of}
use Rattle.store_history.specs.Sweeping.{Swept, insert_digest, in_order, swept_at, is_there, chunks, taken_by, touched_after, without, known_after, swept_after, swept_all, swept, used_among, pending_among}
use Rattle.store_upkeep.specs.Safety.{In, IsThere}
use Rattle.store_upkeep.specs.Laws.{sent_in, Lists, Above, Rising}
use Rattle.store_upkeep.proofs.Members.{in_append, in_left, in_right, in_filter, filter_in, is_one_in}
use Rattle.store_upkeep.proofs.Taking.{after_from}

-- ---- byte order

less_of : (o : Ordering) → is_lt o ≡ true → o ≡ Less
less_of Less h = refl
less_of Equal h = absurd (false≢true h)
less_of Greater h = absurd (false≢true h)

lt_trans : (a b c : List ℕ) → name_lt a b ≡ true → name_lt b c ≡ true → name_lt a c ≡ true
lt_trans a b c h g = ap is_lt (nat_list_cmp_total.trans a b c (less_of (text_cmp a b) h) (less_of (text_cmp b c) g))

not_less : (o : Ordering) → is_eq o ≡ true → is_lt o ≡ true → ⊥
not_less Less e h = false≢true e
not_less Equal e h = false≢true h
not_less Greater e h = false≢true h

lt_itself : (a : List ℕ) → name_lt a a ≡ true → ⊥
lt_itself a h = not_less (text_cmp a a) (ap is_eq (tied_itself nat_list_cmp_total a)) h

-- each stands once
abbrev AllDiffer : List (List ℕ) → Type 0
AllDiffer [] = Unit {0}
AllDiffer (x ∷ xs) = (In x xs → ⊥) × AllDiffer xs

rising_differ : (ds : List (List ℕ)) → Rising ds → AllDiffer ds
rising_differ [] h = tt
rising_differ (d ∷ ds) h = (λ at. lt_itself d (h.0 d at), rising_differ ds h.1)

-- ---- digests put at their places

pub insert_in : (new : List ℕ) (ds : List (List ℕ)) (x : List ℕ) → In x (insert_digest new ds) → (x ≡ new) ⊎ In x ds
insert_in new [] x h = h
insert_in new (d ∷ ds) x h = by_same (bytes_eq new d) h (insert_in new ds x)
  where
    behind : (x ≡ new) ⊎ In x ds → (x ≡ new) ⊎ In x (d ∷ ds)
    behind (inl e) = inl e
    behind (inr later) = inr (inr later)

    by_order : (b : Bool) → In x (cond b (new ∷ d ∷ ds) (d ∷ insert_digest new ds)) → (In x (insert_digest new ds) → (x ≡ new) ⊎ In x ds) → (x ≡ new) ⊎ In x (d ∷ ds)
    by_order true h go = h
    by_order false (inl e) go = inr (inl e)
    by_order false (inr later) go = behind (go later)

    by_same : (b : Bool) → In x (cond b (d ∷ ds) (cond (name_lt new d) (new ∷ d ∷ ds) (d ∷ insert_digest new ds)))
        → (In x (insert_digest new ds) → (x ≡ new) ⊎ In x ds) → (x ≡ new) ⊎ In x (d ∷ ds)
    by_same true h go = inr h
    by_same false h go = by_order (name_lt new d) h go

pub in_insert : (new : List ℕ) (ds : List (List ℕ)) (x : List ℕ) → (x ≡ new) ⊎ In x ds → In x (insert_digest new ds)
in_insert new [] x h = h
in_insert new (d ∷ ds) x h = by_same (bytes_eq new d) refl h (in_insert new ds x)
  where
    by_order : (b : Bool) → (x ≡ new) ⊎ In x (d ∷ ds) → ((x ≡ new) ⊎ In x ds → In x (insert_digest new ds)) → In x (cond b (new ∷ d ∷ ds) (d ∷ insert_digest new ds))
    by_order true h go = h
    by_order false (inl e) go = inr (go (inl e))
    by_order false (inr (inl e)) go = inl e
    by_order false (inr (inr later)) go = inr (go (inr later))

    by_same : (b : Bool) → bytes_eq new d ≡ b → (x ≡ new) ⊎ In x (d ∷ ds) → ((x ≡ new) ⊎ In x ds → In x (insert_digest new ds))
        → In x (cond b (d ∷ ds) (cond (name_lt new d) (new ∷ d ∷ ds) (d ∷ insert_digest new ds)))
    by_same true is (inl e) go = inl (e ∙ (bytes_eq-Decides new d).0 is)
    by_same true is (inr old) go = old
    by_same false is h go = by_order (name_lt new d) h go

not_same : (a b : List ℕ) → bytes_eq a b ≡ false → bytes_eq b a ≡ false
not_same a b h = by_test (bytes_eq b a) refl
  where
    by_test : (c : Bool) → bytes_eq b a ≡ c → bytes_eq b a ≡ false
    by_test true is = absurd (true≢false (sym ((bytes_eq-Decides a b).1 (sym ((bytes_eq-Decides b a).0 is))) ∙ h))
    by_test false is = is

insert_rising : (new : List ℕ) (ds : List (List ℕ)) → Rising ds → Rising (insert_digest new ds)
insert_rising new [] h = (λ y at. absurd at, tt)
insert_rising new (d ∷ ds) h = by_same (bytes_eq new d) refl (insert_rising new ds h.1)
  where
    below : name_lt new d ≡ true → Above new (d ∷ ds)
    below lt y (inl e) = ap (name_lt new) e ∙ lt
    below lt y (inr later) = lt_trans new d y lt (h.0 y later)

    above : name_lt new d ≡ false → bytes_eq new d ≡ false → (y : List ℕ) → (y ≡ new) ⊎ In y ds → name_lt d y ≡ true
    above ge off y (inl e) = ap (name_lt d) e ∙ lt_back text_cmp nat_list_cmp_total new d ge (is_eq-slice_cmp d new ∙ not_same new d off)
    above ge off y (inr later) = h.0 y later

    by_order : (b : Bool) → name_lt new d ≡ b → bytes_eq new d ≡ false → Rising (insert_digest new ds) → Rising (cond b (new ∷ d ∷ ds) (d ∷ insert_digest new ds))
    by_order true lt off rest = (below lt, h)
    by_order false ge off rest = (λ y at. above ge off y (insert_in new ds y at), rest)

    by_same : (b : Bool) → bytes_eq new d ≡ b → Rising (insert_digest new ds) → Rising (cond b (d ∷ ds) (cond (name_lt new d) (new ∷ d ∷ ds) (d ∷ insert_digest new ds)))
    by_same true is rest = h
    by_same false off rest = by_order (name_lt new d) refl off rest

in_in_order : (ds : List (List ℕ)) (x : List ℕ) → In x ds → In x (in_order ds)
in_in_order [] x h = h
in_in_order (d ∷ ds) x (inl e) = in_insert d (in_order ds) x (inl e)
in_in_order (d ∷ ds) x (inr h) = in_insert d (in_order ds) x (inr (in_in_order ds x h))

in_order_rising : (ds : List (List ℕ)) → Rising (in_order ds)
in_order_rising [] = tt
in_order_rising (d ∷ ds) = insert_rising d (in_order ds) (in_order_rising ds)

-- ---- in the course of a history

-- the chunks that are there are known, and what is known is in order
pub record IsKnown (s : Swept) : Type 0 where
  pub there : (d : List ℕ) → IsThere s.touches d → In d s.known
  pub rising : Rising s.known

known_there : (a : Act) (r : Option Reply) (known : List (List ℕ)) (d : List ℕ) → In d known ⊎ In d (sent_in a r) → In d (known_after a r known)
known_there (Chunk digest checked) (Some Done) known d (inl old) = in_insert digest.0 known d (inr old)
known_there (Chunk digest checked) (Some Done) known d (inr (inl e)) = in_insert digest.0 known d (inl e)
known_there (Chunk digest checked) (Some Done) known d (inr (inr h)) = absurd h
known_there a r known d (inl old) = old
known_there a r known d (inr h) = absurd h

known_rising : (a : Act) (r : Option Reply) (known : List (List ℕ)) → Rising known → Rising (known_after a r known)
known_rising (Chunk digest checked) (Some Done) known h = insert_rising digest.0 known h
known_rising a r known h = h

pub left_there : (taken : Option (List ℕ)) (t : LastTouches) (d : List ℕ) → IsThere (without taken t) d → IsThere t d
left_there None t d h = h
left_there (Some digest) t d h = by_test (bytes_eq digest d) h
  where
    by_test : (b : Bool) → is_some (cond b None (t.last d)) ≡ true → is_some (t.last d) ≡ true
    by_test true h = absurd (false≢true h)
    by_test false h = h

-- a chunk that is there was there, or was sent
pub there_from : (R : Option (List Snapshot)) (w : World) (s : Swept) (e : Event) (d : List ℕ) → IsThere (swept_after R w s e).touches d → IsThere s.touches d ⊎ In d (sent_in e.act (reply e))
unfolding swept_after
there_from R w s e d h = after_from s e s.touches d (left_there (taken_by s e) (touched_after s e s.touches) d h)

pub known_next : (R : Option (List Snapshot)) (w : World) (s : Swept) (e : Event) → IsKnown s → IsKnown (swept_after R w s e)
unfolding swept_after
known_next R w s e h = record { there = there; rising = known_rising e.act (reply e) s.known h.rising }
  where
    by_part : (d : List ℕ) → IsThere s.touches d ⊎ In d (sent_in e.act (reply e)) → In d s.known ⊎ In d (sent_in e.act (reply e))
    by_part d (inl old) = inl (h.there d old)
    by_part d (inr sent) = inr sent

    there : (d : List ℕ) → IsThere (without (taken_by s e) (touched_after s e s.touches)) d → In d (known_after e.act (reply e) s.known)
    there d is = known_there e.act (reply e) s.known d (by_part d (there_from R w s e d is))

pub known_all : (R : Option (List Snapshot)) (w : World) (s : Swept) (es : List Event) → IsKnown s → IsKnown (swept_all R w s es)
unfolding swept_all
known_all R w s [] h = h
known_all R w s (e ∷ es) h = known_all R (after R w e) (swept_after R w s e) es (known_next R w s e h)

pub opened_known : (o : Opening) → IsKnown (swept_at o)
opened_known o = record { there = there; rising = in_order_rising (map sha256 o.chunks) }
  where
    by_test : (b : Bool) (when : ℕ) → is_some (cond b (Some when) None) ≡ true → b ≡ true
    by_test true when h = refl
    by_test false when h = absurd (false≢true h)

    there : (d : List ℕ) → IsThere ((swept_at o).touches) d → In d (in_order (map sha256 o.chunks))
    there d h = in_in_order (map sha256 o.chunks) d (is_one_in d (map sha256 o.chunks) (by_test (is_one_of d (map sha256 o.chunks)) _ h))

-- ---- a listing

filter_differ : (p : List ℕ → Bool) (xs : List (List ℕ)) → AllDiffer xs → AllDiffer (filter p xs)
filter_differ p [] h = tt
filter_differ p (x ∷ xs) h = by_test (p x) (filter_differ p xs h.1)
  where
    by_test : (b : Bool) → AllDiffer (filter p xs) → AllDiffer (cond b (x ∷ filter p xs) (filter p xs))
    by_test true rest = (λ at. h.0 (filter_in p xs x at).0, rest)
    by_test false rest = rest

in_from_contains : (xs : List (List ℕ)) (x : List ℕ) → Contains xs x → In x xs
in_from_contains [] x (k, below, e) = absurd (omega (arith, below))
in_from_contains (y ∷ ys) x (zero, below, e) = inl (sym e)
in_from_contains (y ∷ ys) x (suc k, below, e) = inr (in_from_contains ys x (k, omega (arith, below), e))

contains_from_in : (xs : List (List ℕ)) (x : List ℕ) → In x xs → Contains xs x
contains_from_in [] x h = absurd h
contains_from_in (y ∷ ys) x (inl e) = (0, omega arith, sym e)
contains_from_in (y ∷ ys) x (inr h) = let at = contains_from_in ys x h in (suc at.0, omega (arith, at.1), at.2)

pub in_at : (xs : List (List ℕ)) (j : ℕ) (d : List ℕ) → j < length xs → In (get_or xs j d) xs
in_at [] j d lt = absurd (omega (arith, lt))
in_at (x ∷ xs) zero d lt = inl refl
in_at (x ∷ xs) (suc j) d lt = inr (in_at xs j d (omega (arith, lt)))

pairs_differ : (xs : List (List ℕ)) → AllDiffer xs → AllPairs (λ a b. a ≢ b) xs
pairs_differ [] h i j d lt within = absurd (omega (arith, within))
pairs_differ (x ∷ xs) h i zero d lt within = absurd (omega (arith, lt))
pairs_differ (x ∷ xs) h zero (suc j) d lt within = λ e. h.0 (subst (λ y. In y xs) (sym e) (in_at xs j d (omega (arith, within))))
pairs_differ (x ∷ xs) h (suc i) (suc j) d lt within = pairs_differ xs h.1 i j d (omega (arith, lt)) (omega (arith, within))

differ : (xs : List (List ℕ)) → AllPairs (λ a b. a ≢ b) xs → AllDiffer xs
differ [] once = tt
differ (x ∷ xs) once = (
  λ h. let at = contains_from_in xs x h in once 0 (suc at.0) x (omega arith) (omega (arith, at.1)) (sym at.2),
  differ xs (λ i j d less below. once (suc i) (suc j) d (omega (arith, less)) (omega (arith, below))),
)

-- ---- in byte order

filter_rising : (p : List ℕ → Bool) (xs : List (List ℕ)) → Rising xs → Rising (filter p xs)
filter_rising p [] h = tt
filter_rising p (x ∷ xs) h = by_test (p x) (filter_rising p xs h.1)
  where
    by_test : (b : Bool) → Rising (filter p xs) → Rising (cond b (x ∷ filter p xs) (filter p xs))
    by_test true rest = (λ y at. h.0 y (filter_in p xs y at).0, rest)
    by_test false rest = rest

pub chunks_rising : (s : Swept) → IsKnown s → Rising (chunks s)
chunks_rising s h = filter_rising (is_there s.touches) s.known h.rising

first_same : (x y : List ℕ) (xs ys : List (List ℕ)) → Above x xs → Above y ys → In x (y ∷ ys) → In y (x ∷ xs) → x ≡ y
first_same x y xs ys ax ay (inl e) h = e
first_same x y xs ys ax ay (inr later) (inl e) = sym e
first_same x y xs ys ax ay (inr later) (inr behind) = absurd (lt_itself x (lt_trans x y x (ax y behind) (ay x later)))

rest_in : (x y : List ℕ) (xs ys : List (List ℕ)) → x ≡ y → Above x xs → ((d : List ℕ) → In d (x ∷ xs) → In d (y ∷ ys)) → (d : List ℕ) → In d xs → In d ys
rest_in x y xs ys same ax to d at = by_place (to d (inr at))
  where
    by_place : (d ≡ y) ⊎ In d ys → In d ys
    by_place (inl e) = absurd (lt_itself x (ax x (subst (λ z. In z xs) (e ∙ sym same) at)))
    by_place (inr later) = later

-- two such lists with the same members are one
pub rising_same : (a b : List (List ℕ)) → Rising a → Rising b → ((d : List ℕ) → In d a ↔ In d b) → a ≡ b
rising_same [] [] ra rb same = refl
rising_same [] (y ∷ ys) ra rb same = absurd ((same y).1 (inl refl))
rising_same (x ∷ xs) [] ra rb same = absurd ((same x).0 (inl refl))
rising_same (x ∷ xs) (y ∷ ys) ra rb same =
    let first = first_same x y xs ys ra.0 rb.0 ((same x).0 (inl refl)) ((same y).1 (inl refl)) in
    let rest = rising_same xs ys ra.1 rb.1 (λ d. (
      rest_in x y xs ys first ra.0 (λ z. (same z).0) d,
      rest_in y x ys xs (sym first) rb.0 (λ z. (same z).1) d,
    )) in
    ap (λ z. z ∷ xs) first ∙ ap (λ zs. y ∷ zs) rest

known_lists : (s : Swept) → IsKnown s → Lists s.touches (chunks s)
known_lists s h = record {
  once = pairs_differ (chunks s) (filter_differ (is_there s.touches) s.known (rising_differ s.known h.rising));
  each = λ d. (
    λ is. contains_from_in (chunks s) d (in_filter (is_there s.touches) s.known d (h.there d is) is),
    λ at. (filter_in (is_there s.touches) s.known d (in_from_contains (chunks s) d at)).1,
  );
}

pub lists_chunks : (R : Option (List Snapshot)) (o : Opening) (es : List Event) → Lists (swept_all R (opened o) (swept_at o) es).touches (chunks (swept_all R (opened o) (swept_at o) es))
lists_chunks R o es = known_lists (swept_all R (opened o) (swept_at o) es) (known_all R (opened o) (swept_at o) es (opened_known o))

pub swept_rising : (R : Option (List Snapshot)) (o : Opening) (es : List Event) → Rising (chunks (swept R o es))
swept_rising R o es = chunks_rising (swept R o es) (known_all R (opened o) (swept_at o) es (opened_known o))

-- ---- counts

-- where it stands
IsAt : List ℕ → List (List ℕ) → Type 0
IsAt x xs = (front : List (List ℕ)) × (back : List (List ℕ)) × (xs ≡ front ++ x ∷ back)

found : (x : List ℕ) (xs : List (List ℕ)) → In x xs → IsAt x xs
unfolding IsAt
found x [] h = absurd h
found x (y ∷ ys) (inl e) = ([], ys, ap (λ z. z ∷ ys) (sym e))
found x (y ∷ ys) (inr h) = let at = found x ys h in (y ∷ at.0, at.1, ap (λ zs. y ∷ zs) at.2)

-- how many pass, by recursion
tally : (List ℕ → Bool) → List (List ℕ) → ℕ
tally p [] = 0
tally p (x ∷ xs) = cond (p x) (1 + tally p xs) (tally p xs)

tally_is : (p : List ℕ → Bool) (xs : List (List ℕ)) → tally p xs ≡ length (filter p xs)
unfolding tally
tally_is p xs = is_count_by (tally p) p refl (λ _ _. refl) xs ∙ sym (length-filter p xs)

count_out : (p : List ℕ → Bool) (front : List (List ℕ)) (x : List ℕ) (back : List (List ℕ)) → tally p (front ++ x ∷ back) ≡ tally p (x ∷ front ++ back)
unfolding tally
count_out p [] x back = refl
count_out p (y ∷ ys) x back = turned (p y) (p x) (tally p (ys ++ x ∷ back)) (tally p (ys ++ back)) (count_out p ys x back)
  where
    turned : (b c : Bool) (n m : ℕ) → n ≡ cond c (1 + m) m → cond b (1 + n) n ≡ cond c (1 + cond b (1 + m) m) (cond b (1 + m) m)
    turned true true n m e = omega (arith, e)
    turned true false n m e = omega (arith, e)
    turned false true n m e = e
    turned false false n m e = e

-- without the one element the others stand once, and are the others
without_once : (front : List (List ℕ)) (x : List ℕ) (back : List (List ℕ)) → AllDiffer (front ++ x ∷ back) → AllDiffer (front ++ back) × (In x (front ++ back) → ⊥)
without_once [] x back h = (h.1, h.0)
without_once (y ∷ ys) x back h =
    let rest = without_once ys x back h.1 in (
      (λ is. elim (in_append ys back y is) [ inl a ↦ h.0 (in_left ys (x ∷ back) y a) | inr b ↦ h.0 (in_right ys (x ∷ back) y (inr b)) ], rest.0),
      λ is. elim is [ inl e ↦ h.0 (in_right ys (x ∷ back) y (inl (sym e))) | inr i ↦ rest.1 i ],
    )

in_without : (front : List (List ℕ)) (x : List ℕ) (back : List (List ℕ)) (z : List ℕ) → In z (front ++ x ∷ back) → (z ≡ x) ⊎ In z (front ++ back)
in_without front x back z h = by_part (in_append front (x ∷ back) z h)
  where
    by_part : In z front ⊎ ((z ≡ x) ⊎ In z back) → (z ≡ x) ⊎ In z (front ++ back)
    by_part (inl a) = inr (in_left front back z a)
    by_part (inr (inl e)) = inl e
    by_part (inr (inr b)) = inr (in_right front back z b)

in_with : (front : List (List ℕ)) (x : List ℕ) (back : List (List ℕ)) (z : List ℕ) → In z (front ++ back) → In z (front ++ x ∷ back)
in_with front x back z h = elim (in_append front back z h) [ inl a ↦ in_left front (x ∷ back) z a | inr b ↦ in_right front (x ∷ back) z (inr b) ]

tally_same : (p : List ℕ → Bool) (xs ys : List (List ℕ)) → AllDiffer xs → AllDiffer ys → ((x : List ℕ) → In x xs ↔ In x ys) → tally p xs ≡ tally p ys
unfolding IsAt tally
tally_same p [] [] dx dy same = refl
tally_same p [] (y ∷ ys) dx dy same = absurd ((same y).1 (inl refl))
tally_same p (x ∷ xs) ys dx dy same =
    let at = found x ys ((same x).0 (inl refl)) in
    let diff = without_once at.0 x at.1 (subst AllDiffer at.2 dy) in
    ap (λ n. cond (p x) (1 + n) n) (tally_same p xs (at.0 ++ at.1) dx.1 diff.0 (λ z. (there at.0 at.1 at.2 z, back at.0 at.1 at.2 diff.1 z)))
    ∙ sym (count_out p at.0 x at.1) ∙ ap (tally p) (sym at.2)
  where
    there : (front rest : List (List ℕ)) → ys ≡ front ++ x ∷ rest → (z : List ℕ) → In z xs → In z (front ++ rest)
    there front rest is z h = elim (in_without front x rest z (subst (In z) is ((same z).0 (inr h)))) [ inl e ↦ absurd (dx.0 (subst (λ y. In y xs) e h)) | inr i ↦ i ]

    back : (front rest : List (List ℕ)) → ys ≡ front ++ x ∷ rest → (In x (front ++ rest) → ⊥) → (z : List ℕ) → In z (front ++ rest) → In z xs
    back front rest is out z h = elim ((same z).1 (subst (In z) (sym is) (in_with front x rest z h))) [ inl e ↦ absurd (out (subst (λ y. In y (front ++ rest)) e h)) | inr i ↦ i ]

module _ (touches : LastTouches) (a b : List (List ℕ)) (la : Lists touches a) (lb : Lists touches b) where
  members : (d : List ℕ) → In d a ↔ In d b
  members d = (
    λ h. in_from_contains b d ((lb.each d).0 ((la.each d).1 (contains_from_in a d h))),
    λ h. in_from_contains a d ((la.each d).0 ((lb.each d).1 (contains_from_in b d h))),
  )

  counted : (p : List ℕ → Bool) → length (filter p a) ≡ length (filter p b)
  counted p = sym (tally_is p a) ∙ tally_same p a b (differ a la.once) (differ b lb.once) members ∙ tally_is p b

pub counts_one : (touches : LastTouches) (start : ℕ) (a b : List (List ℕ)) → Lists touches a → Lists touches b
    → (used_among touches start a ≡ used_among touches start b) × (pending_among touches start a ≡ pending_among touches start b)
counts_one touches start a b la lb = (
  counted touches a b la lb (λ d. is_since start (touches.last d)),
  counted touches a b la lb (λ d. not (is_since start (touches.last d))),
)

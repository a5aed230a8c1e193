-- A row that comes into one chunk of many; rows of chunks, one after another.
use Rattle.std.proofs.Common.{◌≡◌, ◌≤◌, ◌<◌, ◌-◌, ◌⊎◌, inl, inr, ⊎_elim, ◌∙◌, ℕ, zero, suc, ◌+◌, Bool, true, false, not, cond, ◌||◌, ◌==◌, vec_len, length, take, drop, filter, get_or, List, [], ◌∷◌, ◌++◌, Some, None, refl, sym, ap, subst, append-nil, append_assoc, arith}
use Rattle.std.proofs.lemmas.List.{nil_from_length, length-append, length-take, take_all, take-append-le, take_more, drop_more, take-append-drop}
use Rattle.std.proofs.lemmas.List.Elements.{filter-append}
use Rattle.std.specs.List.{insert, position_or_len}
use Rattle.std.proofs.lemmas.Bool.{eqb-true, ltb-false, or_parts}
use Rattle.std.proofs.lemmas.List.Sums.{prefix_len-le-length}
use Rattle.std.specs.Prelude.{nat_lt, position, unwrap_or}
use Rattle.std.specs.declared.sync.Arc.{Arc}
use Rattle.std.specs.declared.alloc.Global.{Global}
use Rattle.std.specs.declared.vec.Vec.{Vec}
use Rattle.store_types.specs.Names.{key_lt, same_key}
use Rattle.store_types.specs.declared.names.SnapshotKey.{SnapshotKey}
use Rattle.listing_views.specs.declared.chunk.Chunk.{Chunk}
use Rattle.listing_views.specs.declared.listed.Listed.{Listed}
use Rattle.listing_views.specs.Rows.{GoesInto, all_rows, any_behind, chunk_rows, insert_row, rows_without}

-- ---- a row at its place

pub insert_past : (new : Listed) (xs ys : List Listed) → any_behind new.key xs ≡ false → insert_row new (xs ++ ys) ≡ xs ++ insert_row new ys
insert_past new [] ys none = refl
insert_past new (x ∷ xs) ys none = by_test (key_lt new.key x.key) none (insert_past new xs ys)
  where
    by_test : (b : Bool) → b || any_behind new.key xs ≡ false → (any_behind new.key xs ≡ false → insert_row new (xs ++ ys) ≡ xs ++ insert_row new ys)
        → cond b (new ∷ x ∷ (xs ++ ys)) (x ∷ insert_row new (xs ++ ys)) ≡ x ∷ (xs ++ insert_row new ys)
    by_test true e later = cc
    by_test false e later = ap (λ (l : List Listed). x ∷ l) (later e)

pub insert_within : (new : Listed) (xs ys : List Listed) → any_behind new.key xs ≡ true → insert_row new (xs ++ ys) ≡ insert_row new xs ++ ys
insert_within new [] ys some = cc
insert_within new (x ∷ xs) ys some = by_test (key_lt new.key x.key) some (insert_within new xs ys)
  where
    by_test : (b : Bool) → b || any_behind new.key xs ≡ true → (any_behind new.key xs ≡ true → insert_row new (xs ++ ys) ≡ insert_row new xs ++ ys)
        → cond b (new ∷ x ∷ (xs ++ ys)) (x ∷ insert_row new (xs ++ ys)) ≡ cond b (new ∷ x ∷ xs) (x ∷ insert_row new xs) ++ ys
    by_test true e later = refl
    by_test false e later = ap (λ (l : List Listed). x ∷ l) (later e)

-- the first that stands behind it is in these rows, or there are no others
pub insert_here : (new : Listed) (xs ys : List Listed) → (any_behind new.key xs ≡ true) ⊎ (ys ≡ []) → insert_row new (xs ++ ys) ≡ insert_row new xs ++ ys
insert_here new xs ys (inl some) = insert_within new xs ys some
insert_here new xs ys (inr none) =
    ap (λ (l : List Listed). insert_row new (xs ++ l)) none ∙ ap (insert_row new) (append-nil xs) ∙ sym (append-nil (insert_row new xs))
    ∙ ap (λ (l : List Listed). insert_row new xs ++ l) (sym none)

-- ---- chunks

pub rows_of_both : (cs ds : List (Arc Chunk Global)) → all_rows (cs ++ ds) ≡ all_rows cs ++ all_rows ds
rows_of_both [] ds = refl
rows_of_both (c ∷ cs) ds =
    ap (λ (l : List Listed). chunk_rows c ++ l) (rows_of_both cs ds) ∙ sym (append_assoc (chunk_rows c) (all_rows cs) (all_rows ds))

pub rows_push : (cs : List (Arc Chunk Global)) (c : Arc Chunk Global) → all_rows (cs ++ c ∷ []) ≡ all_rows cs ++ chunk_rows c
rows_push cs c = rows_of_both cs (c ∷ []) ∙ ap (λ (l : List Listed). all_rows cs ++ l) (append-nil (chunk_rows c))

-- these are the others, and behind them one with these rows
pub pushed : (cs ds : List (Arc Chunk Global)) (c : Arc Chunk Global) (xs : List Listed) → ds ≡ cs ++ c ∷ [] → chunk_rows c ≡ xs → all_rows ds ≡ all_rows cs ++ xs
pushed cs ds c xs is rows = ap all_rows is ∙ rows_push cs c ∙ ap (λ (l : List Listed). all_rows cs ++ l) rows

-- the rows up to the next chunk
pub rows_more : (cs : List (Arc Chunk Global)) (i : ℕ) (c : Arc Chunk Global) → i < length cs → c ≡ get_or cs i c → all_rows (take (i + 1) cs) ≡ all_rows (take i cs) ++ chunk_rows c
rows_more cs i c lt at =
    ap all_rows (take_more cs i c lt) ∙ rows_push (take i cs) (get_or cs i c) ∙ ap (λ (d : Arc Chunk Global). all_rows (take i cs) ++ chunk_rows d) (sym at)

-- a row is put into the chunk between these
pub put_between : (new : Listed) (front old back : List Listed) → any_behind new.key front ≡ false → (any_behind new.key old ≡ true) ⊎ (back ≡ [])
    → (front ++ insert_row new old) ++ back ≡ insert_row new (front ++ (old ++ back))
put_between new front old back none here =
    append_assoc front (insert_row new old) back ∙ ap (λ (l : List Listed). front ++ l) (sym (insert_here new old back here))
    ∙ sym (insert_past new front (old ++ back) none)

nil_rows : (cs : List (Arc Chunk Global)) → length cs ≡ 0 → all_rows cs ≡ []
nil_rows [] e = refl
nil_rows (c ∷ cs) e = absurd (omega arith)

pub goes_here : (key : SnapshotKey) (chunks : List (Arc Chunk Global)) (place : ℕ) (c : Arc Chunk Global) (cs : List (Arc Chunk Global)) → GoesInto key chunks place → drop place chunks ≡ c ∷ cs
    → (any_behind key (chunk_rows c) ≡ true) ⊎ (all_rows cs ≡ [])
goes_here key chunks place c cs g at =
    ⊎_elim (λ (last : length chunks ≤ place + 1). inr (nil_rows cs (none last))) (λ (some : (d : Arc Chunk Global) → (ds : List (Arc Chunk Global)) → drop place chunks ≡ d ∷ ds → any_behind key (chunk_rows d) ≡ true). inl (some c cs at)) g.here
  where
    none : length chunks ≤ place + 1 → length cs ≡ 0
    none last =
        let whole = ap length (take-append-drop place chunks) in
        let both = length-append (take place chunks) (drop place chunks) in
        let front = length-take place chunks in
        let back = ap length at in
        let within = g.within in omega (arith, whole, both, front, back, within, last)

-- ---- none behind a key

any_or : (a b : Bool) → a ≡ false → b ≡ false → a || b ≡ false
any_or true b e f = e
any_or false b e f = f

pub none_of_both : (key : SnapshotKey) (xs ys : List Listed) → any_behind key xs ≡ false → any_behind key ys ≡ false → any_behind key (xs ++ ys) ≡ false
none_of_both key [] ys e f = f
none_of_both key (x ∷ xs) ys e f =
    let parts = or_parts (key_lt key x.key) (any_behind key xs) e in any_or (key_lt key x.key) (any_behind key (xs ++ ys)) parts.0 (none_of_both key xs ys parts.1 f)

none_of_first : (key : SnapshotKey) (xs ys : List Listed) → any_behind key (xs ++ ys) ≡ false → any_behind key xs ≡ false
none_of_first key [] ys e = refl
none_of_first key (x ∷ xs) ys e =
    let parts = or_parts (key_lt key x.key) (any_behind key (xs ++ ys)) e in any_or (key_lt key x.key) (any_behind key xs) parts.0 (none_of_first key xs ys parts.1)

-- none in the chunks up to the next
pub none_up_to : (key : SnapshotKey) (cs : List (Arc Chunk Global)) (i : ℕ) (c : Arc Chunk Global) → i < length cs → c ≡ get_or cs i c → any_behind key (all_rows (take i cs)) ≡ false → any_behind key (chunk_rows c) ≡ false
    → any_behind key (all_rows (take (i + 1) cs)) ≡ false
none_up_to key cs i c lt at before here = ap (any_behind key) (rows_more cs i c lt at) ∙ none_of_both key (all_rows (take i cs)) (chunk_rows c) before here

-- where none has any, it is the last
pub goes_last : (key : SnapshotKey) (cs : List (Arc Chunk Global)) (i n : ℕ) → length cs ≤ i → any_behind key (all_rows (take i cs)) ≡ false → n ≡ length cs - 1 → GoesInto key cs n
goes_last key cs i n end none is = record {
  within = omega (arith, is);
  before = none_of_first key (all_rows (take n cs)) (all_rows (drop n cs))
      (ap (any_behind key) (sym (rows_of_both (take n cs) (drop n cs)) ∙ ap all_rows (take-append-drop n cs ∙ sym (take_all i cs end))) ∙ none);
  here = inl (omega (arith, is));
}

-- it is the first that has one
pub goes_first : (key : SnapshotKey) (cs : List (Arc Chunk Global)) (i : ℕ) (c : Arc Chunk Global) → i < length cs → c ≡ get_or cs i c → any_behind key (all_rows (take i cs)) ≡ false → any_behind key (chunk_rows c) ≡ true → GoesInto key cs i
goes_first key cs i c lt at before here = record {
  within = omega (arith, lt);
  before = before;
  here = inr (λ d ds back.
      let head : c ∷ drop (i + 1) cs ≡ d ∷ ds = ap (λ (e : Arc Chunk Global). e ∷ drop (i + 1) cs) at ∙ sym (drop_more cs i c lt) ∙ back in
      let same : c ≡ d = cc in ap (λ (e : Arc Chunk Global). any_behind key (chunk_rows e)) (sym same) ∙ here);
}

-- ---- without a key

pub no_items : (v : Vec Listed Global) (b : Bool) → b ≡ (vec_len v == 0) → b ≡ true → v.items ≡ []
no_items v b is empty = let n = eqb-true (vec_len v) 0 (sym is ∙ empty) in nil_from_length v.items (omega (arith, v.ok.0, n))

-- the chunks up to the next, where what is put for it has its other rows
pub without_more : (key : SnapshotKey) (cs : List (Arc Chunk Global)) (i : ℕ) (c : Arc Chunk Global) (next next' : List (Arc Chunk Global)) → i < length cs → c ≡ get_or cs i c
    → all_rows next ≡ rows_without key (all_rows (take i cs)) → all_rows next' ≡ all_rows next ++ rows_without key (chunk_rows c) → all_rows next' ≡ rows_without key (all_rows (take (i + 1) cs))
without_more key cs i c next next' lt at before here =
    here ∙ ap (λ (l : List Listed). l ++ rows_without key (chunk_rows c)) before
    ∙ sym (filter-append (λ x. not (same_key x.key key)) (all_rows (take i cs)) (chunk_rows c)) ∙ ap (rows_without key) (sym (rows_more cs i c lt at))

-- ---- up to so many

pub take_both : (n : ℕ) (xs ys : List Listed) → take n (take n xs ++ ys) ≡ take n (xs ++ ys)
take_both zero xs ys = refl
take_both (suc n) [] ys = refl
take_both (suc n) (x ∷ xs) ys = ap (λ (l : List Listed). x ∷ l) (take_both n xs ys)

pub take_full : (n : ℕ) (xs ys : List Listed) → n ≤ length (take n xs) → take n (xs ++ ys) ≡ take n xs
take_full n xs ys full = let m = length-take n xs in take-append-le n xs ys (omega (arith, m, full))

-- one more, where there is room
pub take_push : (n : ℕ) (xs : List Listed) (y : Listed) → length (take n xs) < n → take n xs ++ y ∷ [] ≡ take n (xs ++ y ∷ [])
take_push n xs y room =
    let m = length-take n xs in
    let few : length xs < n = omega (arith, m, room) in
    ap (λ (l : List Listed). l ++ y ∷ []) (take_all n xs (omega (arith, few)))
    ∙ sym (take_all n (xs ++ y ∷ []) (omega (arith, few, length-append xs (y ∷ []))))

-- ---- what passes

filter_one : (p : Listed → Bool) (x : Listed) (b : Bool) → p x ≡ b → filter p (x ∷ []) ≡ cond b (x ∷ []) []
filter_one p x b is = ap (λ t. cond t (x ∷ []) []) is

pub filter_more : (p : Listed → Bool) (xs : List Listed) (i : ℕ) (x : Listed) (b : Bool) → i < length xs → x ≡ get_or xs i x → p x ≡ b → filter p (take (i + 1) xs) ≡ filter p (take i xs) ++ cond b (x ∷ []) []
filter_more p xs i x b lt at is =
    ap (filter p) (take_more xs i x lt) ∙ filter-append p (take i xs) (get_or xs i x ∷ []) ∙ ap (λ (l : List Listed). filter p (take i xs) ++ l) (ap (λ (y : Listed). filter p (y ∷ [])) (sym at) ∙ filter_one p x b is)

-- none of these is behind the key
pub none_tells : (key : SnapshotKey) (xs : List Listed) → any_behind key xs ≡ false → filter (λ x. key_lt key x.key) xs ≡ []
none_tells key [] e = refl
none_tells key (x ∷ xs) e = by_test (key_lt key x.key) e (none_tells key xs)
  where
    by_test : (b : Bool) → b || any_behind key xs ≡ false → (any_behind key xs ≡ false → filter (λ x. key_lt key x.key) xs ≡ []) → cond b (x ∷ filter (λ x. key_lt key x.key) xs) (filter (λ x. key_lt key x.key) xs) ≡ []
    by_test true e later = cc
    by_test false e later = later e

-- ---- a row is put into the chunks

-- before the first that is behind it, in the chunk between these
pub placed : (row : Listed) (chunks : List (Arc Chunk Global)) (place : ℕ) (c : Arc Chunk Global) (cs next mid : List (Arc Chunk Global)) → GoesInto row.key chunks place → drop place chunks ≡ c ∷ cs
    → all_rows mid ≡ all_rows (take place chunks) ++ insert_row row (chunk_rows c) → all_rows next ≡ all_rows mid ++ all_rows cs → all_rows next ≡ insert_row row (all_rows chunks)
placed row chunks place c cs next mid g at put more =
    more ∙ ap (λ (l : List Listed). l ++ all_rows cs) put ∙ put_between row (all_rows (take place chunks)) (chunk_rows c) (all_rows cs) g.before (goes_here row.key chunks place c cs g at)
    ∙ ap (insert_row row) (ap (λ (l : List (Arc Chunk Global)). all_rows (take place chunks) ++ all_rows l) (sym at) ∙ sym (rows_of_both (take place chunks) (drop place chunks)) ∙ ap all_rows (take-append-drop place chunks))

-- behind all others
pub placed_last : (row : Listed) (chunks : List (Arc Chunk Global)) (place : ℕ) (next : List (Arc Chunk Global)) → GoesInto row.key chunks place → drop place chunks ≡ []
    → all_rows next ≡ all_rows (take place chunks) ++ insert_row row [] → all_rows next ≡ insert_row row (all_rows chunks)
placed_last row chunks place next g at put =
    put ∙ sym (insert_past row (all_rows (take place chunks)) [] g.before)
    ∙ ap (insert_row row) (ap (λ (l : List (Arc Chunk Global)). all_rows (take place chunks) ++ all_rows l) (sym at) ∙ sym (rows_of_both (take place chunks) (drop place chunks)) ∙ ap all_rows (take-append-drop place chunks))

-- ---- rows that are told

-- what was told is that of the first rows; it is full
pub full_tells : (n i : ℕ) (p : Listed → Bool) (old rows told : List Listed) → told ≡ take n (old ++ filter p (take i rows)) → n ≤ length told → told ≡ take n (old ++ filter p rows)
full_tells n i p old rows told is full =
    is
    ∙ sym (take_full n (old ++ filter p (take i rows)) (filter p (drop i rows)) (subst (λ (l : List Listed). n ≤ length l) is full))
    ∙ ap (take n) (append_assoc old (filter p (take i rows)) (filter p (drop i rows))
    ∙ ap (λ (l : List Listed). old ++ l) (sym (filter-append p (take i rows) (drop i rows)) ∙ ap (filter p) (take-append-drop i rows)))

-- one more row is told
pub more_tells : (n i : ℕ) (p : Listed → Bool) (old rows told : List Listed) (x : Listed) → told ≡ take n (old ++ filter p (take i rows)) → length told < n → i < length rows → x ≡ get_or rows i x → p x ≡ true
    → told ++ x ∷ [] ≡ take n (old ++ filter p (take (i + 1) rows))
more_tells n i p old rows told x is room lt at passes =
    ap (λ (l : List Listed). l ++ x ∷ []) is
    ∙ take_push n (old ++ filter p (take i rows)) x (subst (λ (l : List Listed). length l < n) is room)
    ∙ ap (take n) (append_assoc old (filter p (take i rows)) (x ∷ []) ∙ ap (λ (l : List Listed). old ++ l) (sym (filter_more p rows i x true lt at passes)))

-- one is passed over
pub same_tells : (n i : ℕ) (p : Listed → Bool) (old rows told : List Listed) (x : Listed) → told ≡ take n (old ++ filter p (take i rows)) → i < length rows → x ≡ get_or rows i x → p x ≡ false
    → told ≡ take n (old ++ filter p (take (i + 1) rows))
same_tells n i p old rows told x is lt at fails =
    is ∙ ap (λ (l : List Listed). take n (old ++ l)) (sym (filter_more p rows i x false lt at fails ∙ append-nil (filter p (take i rows))))

-- one chunk more is told
pub chunk_tells : (n : ℕ) (p : Listed → Bool) (cs : List (Arc Chunk Global)) (i : ℕ) (c : Arc Chunk Global) (told told' : List Listed) → i < length cs → c ≡ get_or cs i c
    → told ≡ take n (filter p (all_rows (take i cs))) → told' ≡ take n (told ++ filter p (chunk_rows c)) → told' ≡ take n (filter p (all_rows (take (i + 1) cs)))
chunk_tells n p cs i c told told' lt at before here =
    here ∙ ap (λ (l : List Listed). take n (l ++ filter p (chunk_rows c))) before ∙ take_both n (filter p (all_rows (take i cs))) (filter p (chunk_rows c))
    ∙ ap (take n) (sym (filter-append p (all_rows (take i cs)) (chunk_rows c)) ∙ ap (filter p) (sym (rows_more cs i c lt at)))

-- and one that has nothing to tell
pub none_more : (n : ℕ) (p : Listed → Bool) (cs : List (Arc Chunk Global)) (i : ℕ) (c : Arc Chunk Global) (told : List Listed) → i < length cs → c ≡ get_or cs i c
    → told ≡ take n (filter p (all_rows (take i cs))) → filter p (chunk_rows c) ≡ [] → told ≡ take n (filter p (all_rows (take (i + 1) cs)))
none_more n p cs i c told lt at before none =
    before
    ∙ ap (take n) (sym (append-nil (filter p (all_rows (take i cs)))) ∙ ap (λ (l : List Listed). filter p (all_rows (take i cs)) ++ l) (sym none)
    ∙ sym (filter-append p (all_rows (take i cs)) (chunk_rows c)) ∙ ap (filter p) (sym (rows_more cs i c lt at)))

-- what was told is not too much
pub few_told : (n : ℕ) (xs told : List Listed) → told ≡ take n xs → length told ≤ n
few_told n xs told is = let m = length-take n xs in let same = ap length is in omega (arith, m, same)

-- ---- where the first stands that is behind a key

found_or_end : (b : Bool) (n m : ℕ) → (b ≡ false → m ≡ n) → unwrap_or (cond b (Some n) None) m ≡ n
found_or_end true n m e = refl
found_or_end false n m e = e refl

pub place_is : (p : Listed → Bool) (xs : List Listed) → unwrap_or (position p xs) (length xs) ≡ position_or_len p xs
place_is p xs =
    found_or_end (nat_lt (position_or_len p xs) (length xs)) (position_or_len p xs) (length xs)
    (λ e. omega (arith, prefix_len-le-length (λ x. not (p x)) xs, ltb-false (position_or_len p xs) (length xs) e))

place_here : (n : ℕ) (new x : Listed) (xs : List Listed) → n ≡ 0 → insert (x ∷ xs) n new ≡ new ∷ x ∷ xs
place_here n new x xs e = ap (λ k. insert (x ∷ xs) k new) e

place_later : (n k : ℕ) (new x : Listed) (xs zs : List Listed) → n ≡ suc k → insert xs k new ≡ zs → insert (x ∷ xs) n new ≡ x ∷ zs
place_later n k new x xs zs e f = ap (λ m. insert (x ∷ xs) m new) e ∙ ap (λ (l : List Listed). x ∷ l) f

first_here : (b : Bool) (k : ℕ) → b ≡ true → cond (not b) (1 + k) 0 ≡ 0
first_here true k e = refl
first_here false k e = cc

first_later : (b : Bool) (k : ℕ) → b ≡ false → cond (not b) (1 + k) 0 ≡ suc k
first_later true k e = cc
first_later false k e = omega arith

pub insert_is : (new : Listed) (xs : List Listed) → insert xs (position_or_len (λ x. key_lt new.key x.key) xs) new ≡ insert_row new xs
insert_is new [] = refl
insert_is new (x ∷ xs) = by_test (key_lt new.key x.key) refl (insert_is new xs)
  where
    by_test : (b : Bool) → key_lt new.key x.key ≡ b → insert xs (position_or_len (λ y. key_lt new.key y.key) xs) new ≡ insert_row new xs
        → insert (x ∷ xs) (position_or_len (λ y. key_lt new.key y.key) (x ∷ xs)) new ≡ cond b (new ∷ x ∷ xs) (x ∷ insert_row new xs)
    by_test true e go = place_here (position_or_len (λ y. key_lt new.key y.key) (x ∷ xs)) new x xs (first_here (key_lt new.key x.key) (position_or_len (λ y. key_lt new.key y.key) xs) e)
    by_test false e go = place_later (position_or_len (λ y. key_lt new.key y.key) (x ∷ xs)) (position_or_len (λ y. key_lt new.key y.key) xs) new x xs (insert_row new xs) (first_later (key_lt new.key x.key) (position_or_len (λ y. key_lt new.key y.key) xs) e) go

-- Several maps as one.
use Rattle.std.proofs.Common.{◌≡◌, ℕ, Bool, true, false, cond, refl, sym, ap, ap₂, ◌∙◌, List, [], ◌∷◌, ◌++◌, map, Option, Some, None, is_some}
use Rattle.std.specs.FinMap.{empty, entries, find, get, insert, remove, get-empty, get-entries, get-remove, get-insert, same_map, nat_cmp-IsAntisymmetric, slice_cmp-IsAntisymmetric}
use Rattle.std.specs.Cmp.Lexicographic.{nat_list_cmp_total}
use Rattle.std.specs.Ordering.{eq_by_cmp}
use Rattle.std.proofs.lemmas.Map.Text.{is_eq-slice_cmp}
use Rattle.std.proofs.lemmas.Slice.Eq.{bytes_eq-Decides}
use Rattle.store_types.specs.Names.{text_cmp}
use Rattle.known_chunks.specs.Lengths.{Lengths, first_of, found_in, joined, joined_all, with_length, with_lengths}

-- two maps in which the same is found
pub same : (m n : Lengths) → ((q : List ℕ) → get m q ≡ get n q) → m ≡ n
same m n is = same_map nat_list_cmp_total (slice_cmp-IsAntisymmetric nat_cmp-IsAntisymmetric) m n is

pub same_text : (a b : List ℕ) → eq_by_cmp text_cmp a b ≡ true → a ≡ b
same_text a b e = (bytes_eq-Decides a b).0 (sym (is_eq-slice_cmp a b) ∙ e)

-- ---- what is found

first_none : (o : Option ℕ) → first_of o None ≡ o
first_none None = refl
first_none (Some x) = refl

first_first : (a b c : Option ℕ) → first_of (first_of a b) c ≡ first_of a (first_of b c)
first_first None b c = refl
first_first (Some x) b c = refl

-- with a length more
found_one : (m : Lengths) (k : List ℕ × ℕ) (q : List ℕ) → get (with_length m k) q ≡ first_of (get m q) (cond (eq_by_cmp text_cmp q k.0) (Some k.1) None)
found_one m k q = by_there (get m k.0) refl
  where
    by_some : (x : ℕ) → get m k.0 ≡ Some x → (b : Bool) → eq_by_cmp text_cmp q k.0 ≡ b → get m q ≡ first_of (get m q) (cond b (Some k.1) None)
    by_some x e true f = let at : get m q ≡ Some x = ap (get m) (same_text q k.0 f) ∙ e in at ∙ sym (ap (λ o. first_of o (Some k.1)) at)
    by_some x e false f = sym (first_none (get m q))

    by_none : get m k.0 ≡ None → (b : Bool) → eq_by_cmp text_cmp q k.0 ≡ b → cond b (Some k.1) (get m q) ≡ first_of (get m q) (cond b (Some k.1) None)
    by_none e true f = sym (ap (λ o. first_of o (Some k.1)) (ap (get m) (same_text q k.0 f) ∙ e))
    by_none e false f = sym (first_none (get m q))

    by_there : (o : Option ℕ) → get m k.0 ≡ o → get (with_length m k) q ≡ first_of (get m q) (cond (eq_by_cmp text_cmp q k.0) (Some k.1) None)
    by_there None e =
        ap (λ o. get (cond (is_some o) m (insert m k.0 k.1)) q) e ∙ get-insert nat_list_cmp_total m k.0 k.1 q ∙ by_none e (eq_by_cmp text_cmp q k.0) refl
    by_there (Some x) e = ap (λ o. get (cond (is_some o) m (insert m k.0 k.1)) q) e ∙ by_some x e (eq_by_cmp text_cmp q k.0) refl

next : (b : Bool) (n : ℕ) (o : Option ℕ) → first_of (cond b (Some n) None) o ≡ cond b (Some n) o
next true n o = refl
next false n o = refl

-- with several
pub found_all : (m : Lengths) (ks : List (List ℕ × ℕ)) (q : List ℕ) → get (with_lengths m ks) q ≡ first_of (get m q) (find text_cmp q ks)
found_all m [] q = sym (first_none (get m q))
found_all m (k ∷ ks) q =
    found_all (with_length m k) ks q ∙ ap (λ o. first_of o (find text_cmp q ks)) (found_one m k q)
    ∙ first_first (get m q) (cond (eq_by_cmp text_cmp q k.0) (Some k.1) None) (find text_cmp q ks)
    ∙ ap (first_of (get m q)) (next (eq_by_cmp text_cmp q k.0) k.1 (find text_cmp q ks))

pub found_joined : (m n : Lengths) (q : List ℕ) → get (joined m n) q ≡ first_of (get m q) (get n q)
found_joined m n q = found_all m (entries n) q ∙ ap (first_of (get m q)) (sym (get-entries n q))

pub found_pool : (m : Lengths) (ns : List Lengths) (q : List ℕ) → get (joined_all m ns) q ≡ first_of (get m q) (found_in q ns)
found_pool m [] q = sym (first_none (get m q))
found_pool m (n ∷ ns) q =
    found_pool (joined m n) ns q ∙ ap (λ o. first_of o (found_in q ns)) (found_joined m n q) ∙ first_first (get m q) (get n q) (found_in q ns)

-- ---- a map that is made of a list

-- what joins is what the list has
pub joined_listed : (m : Lengths) (ks : List (List ℕ × ℕ)) → joined m (with_lengths empty ks) ≡ with_lengths m ks
joined_listed m ks = same _ _ (λ q.
    found_joined m (with_lengths empty ks) q
    ∙ ap (first_of (get m q)) (found_all empty ks q ∙ ap (λ o. first_of o (find text_cmp q ks)) (get-empty text_cmp q))
    ∙ sym (found_all m ks q))

-- one more
pub listed_more : (m : Lengths) (ks : List (List ℕ × ℕ)) (k : List ℕ × ℕ) → with_lengths m (ks ++ k ∷ []) ≡ with_length (with_lengths m ks) k
listed_more m [] k = refl
listed_more m (x ∷ ks) k = listed_more (with_length m x) ks k

-- ---- the calls

pub pool_insert : (m : Lengths) (ns : List Lengths) (k : List ℕ) (v : ℕ) → joined_all (insert m k v) ns ≡ insert (joined_all m ns) k v
pool_insert m ns k v = same _ _ (λ q.
    found_pool (insert m k v) ns q ∙ ap (λ o. first_of o (found_in q ns)) (get-insert nat_list_cmp_total m k v q)
    ∙ by_test q (eq_by_cmp text_cmp q k) ∙ ap (cond (eq_by_cmp text_cmp q k) (Some v)) (sym (found_pool m ns q))
    ∙ sym (get-insert nat_list_cmp_total (joined_all m ns) k v q))
  where
    by_test : (q : List ℕ) (b : Bool) → first_of (cond b (Some v) (get m q)) (found_in q ns) ≡ cond b (Some v) (first_of (get m q) (found_in q ns))
    by_test q true = refl
    by_test q false = refl

removed_in : (ns : List Lengths) (k q : List ℕ) → found_in q (map (λ n. remove n k) ns) ≡ cond (eq_by_cmp text_cmp q k) None (found_in q ns)
removed_in [] k q = by_test (eq_by_cmp text_cmp q k)
  where
    by_test : (b : Bool) → None ≡ cond b None (found_in q [])
    by_test true = refl
    by_test false = refl
removed_in (n ∷ ns) k q =
    ap₂ first_of (get-remove nat_list_cmp_total n k q) (removed_in ns k q) ∙ by_test (eq_by_cmp text_cmp q k)
  where
    by_test : (b : Bool) → first_of (cond b None (get n q)) (cond b None (found_in q ns)) ≡ cond b None (first_of (get n q) (found_in q ns))
    by_test true = refl
    by_test false = refl

pub pool_remove : (m : Lengths) (ns : List Lengths) (k : List ℕ) → joined_all (remove m k) (map (λ n. remove n k) ns) ≡ remove (joined_all m ns) k
pool_remove m ns k = same _ _ (λ q.
    found_pool (remove m k) (map (λ n. remove n k) ns) q
    ∙ ap₂ first_of (get-remove nat_list_cmp_total m k q) (removed_in ns k q) ∙ by_test q (eq_by_cmp text_cmp q k)
    ∙ ap (cond (eq_by_cmp text_cmp q k) None) (sym (found_pool m ns q)) ∙ sym (get-remove nat_list_cmp_total (joined_all m ns) k q))
  where
    by_test : (q : List ℕ) (b : Bool) → first_of (cond b None (get m q)) (cond b None (found_in q ns)) ≡ cond b None (first_of (get m q) (found_in q ns))
    by_test q true = refl
    by_test q false = refl

pub pool_push : (m : Lengths) (ns : List Lengths) (n : Lengths) → joined_all m (ns ++ n ∷ []) ≡ joined (joined_all m ns) n
pool_push m [] n = refl
pool_push m (x ∷ ns) n = pool_push (joined m x) ns n

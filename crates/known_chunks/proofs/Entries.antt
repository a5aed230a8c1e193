-- An ordered map from digests, and the finite map from their bytes that it stands for.
use Rattle.std.proofs.Common.{◌≡◌, ℕ, Bool, true, false, cond, refl, sym, ap, ◌∙◌, List, [], ◌∷◌, map, Option, Some, None}
use Rattle.std.specs.FinMap.{find, get, insert, remove, get-remove, get-from_entries, get-insert, same_map, nat_cmp-IsAntisymmetric, slice_cmp-IsAntisymmetric}
use Rattle.std.specs.Cmp.{eq_by_cmp_equiv}
use Rattle.std.specs.Cmp.Lexicographic.{nat_list_cmp_total}
use Rattle.std.specs.Map.{lookup}
use Rattle.std.specs.BTreeMap.{is_at}
use Rattle.std.specs.Option.{unwrap_or}
use Rattle.std.specs.Ordering.{eq_by_cmp}
use Rattle.std.specs.declared.cmp.Ordering.{Ordering}
use Rattle.store_types.specs.declared.names.Digest32.{Digest32}
use Rattle.store_types.specs.Names.{text_cmp}
use Rattle.known_chunks.specs.Lengths.{Lengths, lengths_of, with_length}
use Rattle.known_chunks.proofs.Pools.{same, same_text}

abbrev digest_cmp : Digest32 → Digest32 → Ordering
digest_cmp a b = text_cmp a.0 b.0

find_by_bytes : (q : Digest32) (es : List (Digest32 × ℕ)) →
    find text_cmp q.0 (map (λ e. ((e.0).0, e.1)) es) ≡ lookup (is_at (digest_cmp q)) es
find_by_bytes q [] = refl
find_by_bytes q (e ∷ es) = ap (cond (is_at (digest_cmp q) e.0) (Some e.1)) (find_by_bytes q es)

-- both find the same
pub get-lengths_of : (q : Digest32) (es : List (Digest32 × ℕ)) → get (lengths_of es) q.0 ≡ lookup (is_at (digest_cmp q)) es
get-lengths_of q es = get-from_entries nat_list_cmp_total _ _ ∙ find_by_bytes q es

-- entries that find the new length there, and elsewhere what was found before
pub lengths_of-insert : (k : Digest32) (n : ℕ) (old new : List (Digest32 × ℕ)) →
    ((q : Digest32) → lookup (is_at (digest_cmp q)) new ≡ cond (is_at (digest_cmp k) q) (Some n) (lookup (is_at (digest_cmp q)) old)) →
    lengths_of new ≡ insert (lengths_of old) k.0 n
lengths_of-insert k n old new updates =
    same_map nat_list_cmp_total (slice_cmp-IsAntisymmetric nat_cmp-IsAntisymmetric) _ _
    (λ q. let digest : Digest32 = record { 0 = q } in
    get-lengths_of digest new ∙ updates digest
    ∙ ap (cond (eq_by_cmp text_cmp k.0 q) (Some n)) (sym (get-lengths_of digest old))
    ∙ ap (λ b. cond b (Some n) (get (lengths_of old) q)) ((eq_by_cmp_equiv nat_list_cmp_total).symm k.0 q)
    ∙ sym (get-insert nat_list_cmp_total _ k.0 n q))

-- a length that is there, noted again
insert_same : (m : Lengths) (k : List ℕ) (x : ℕ) → get m k ≡ Some x → insert m k x ≡ m
insert_same m k x at = same _ _ (λ q. get-insert nat_list_cmp_total m k x q ∙ by_test q (eq_by_cmp text_cmp q k) refl)
  where
    by_test : (q : List ℕ) (b : Bool) → eq_by_cmp text_cmp q k ≡ b → cond b (Some x) (get m q) ≡ get m q
    by_test q true e = sym (ap (get m) (same_text q k e) ∙ at)
    by_test q false e = refl

insert_kept : (m : Lengths) (k : List ℕ) (n : ℕ) (o : Option ℕ) → get m k ≡ o → insert m k (unwrap_or o n) ≡ with_length m (k, n)
insert_kept m k n None at = rw at refl
insert_kept m k n (Some x) at = rw at (insert_same m k x at)

-- entries that find there the length that was found, or else the new one, and elsewhere what was found before
pub lengths_of-kept : (k : Digest32) (n v : ℕ) (old new : List (Digest32 × ℕ)) → v ≡ unwrap_or (lookup (is_at (digest_cmp k)) old) n →
    ((q : Digest32) → lookup (is_at (digest_cmp q)) new ≡ cond (is_at (digest_cmp k) q) (Some v) (lookup (is_at (digest_cmp q)) old)) →
    lengths_of new ≡ with_length (lengths_of old) (k.0, n)
lengths_of-kept k n v old new is updates =
    lengths_of-insert k v old new updates ∙ ap (insert (lengths_of old) k.0) is
    ∙ insert_kept (lengths_of old) k.0 n (lookup (is_at (digest_cmp k)) old) (get-lengths_of k old)

-- entries that find nothing there, and elsewhere what was found before
pub lengths_of-remove : (k : Digest32) (old new : List (Digest32 × ℕ)) →
    ((q : Digest32) → lookup (is_at (digest_cmp q)) new ≡ cond (is_at (digest_cmp k) q) None (lookup (is_at (digest_cmp q)) old)) →
    lengths_of new ≡ remove (lengths_of old) k.0
lengths_of-remove k old new updates =
    same_map nat_list_cmp_total (slice_cmp-IsAntisymmetric nat_cmp-IsAntisymmetric) _ _
    (λ q. let digest : Digest32 = record { 0 = q } in
    get-lengths_of digest new ∙ updates digest
    ∙ ap (cond (eq_by_cmp text_cmp k.0 q) None) (sym (get-lengths_of digest old))
    ∙ ap (λ b. cond b None (get (lengths_of old) q)) ((eq_by_cmp_equiv nat_list_cmp_total).symm k.0 q)
    ∙ sym (get-remove nat_list_cmp_total _ k.0 q))

-- The digests of the names that are of a chunk's form.
use Rattle.std.proofs.Common.{◌≡◌, ◌<◌, ⊎_elim, ℕ, zero, suc, List, [], ◌∷◌, Bool, true, false, T, cond, ◌&&◌, ◌||◌, if◌then◌else◌, length, drop, map, filter, eqb, Option, Some, None, Result, Ok, Err, refl, sym, ap, subst, ◌∙◌, arith, length-drop, take_all, ◌-◌}
use Rattle.std.specs.Prelude.{codes, slice_range}
use Rattle.std.specs.List.{All, Contains, cons_option, filter_map, list_any, starts_with}
use Rattle.std.specs.Result.{result_ok}
use Rattle.std.specs.Str.{bytes_eq}
use Rattle.std.specs.Ordering.{is_lt, eq_by_cmp}
use Rattle.std.specs.FinMap.{keys, entries, entries_sorted, contains_key-keys}
use Rattle.std.specs.FinMap.Entries.{is_sorted, below_all}
use Rattle.std.proofs.lemmas.Bool.{and_parts}
use Rattle.std.proofs.lemmas.List.Elements.{All-nil, All-cons, All-head, All-from_get_or, Contains-append_left, Contains-append_right, Contains-append_cases, Contains-push}
use Rattle.std.proofs.lemmas.Slice.Eq.{bytes_eq-Decides}
use Rattle.std.proofs.lemmas.Map.Text.{is_eq-slice_cmp}
use Rattle.hex.specs.Hex.{decode_sized}
use Rattle.hex.specs.declared.error.FromHexError.{FromHexError}
use Rattle.hex.proofs.HexLemmas.{decode_sized-ok, decode_sized-twice, decode_of-ok, decode_sized-encode_lower}
use Rattle.disk_trait.specs.Files.{Files}
use Rattle.store_types.specs.declared.names.Digest32.{Digest32}
use Rattle.store_types.specs.Names.{text_cmp, name_lt}
use Rattle.store_files.specs.Folder.{IsDigest, chunk_name}
use Rattle.chunk_store.specs.Listed.{Lists, digests_rise, digest_named, by_digits}
use Rattle.chunk_store.proofs.Names.{bytes_of, digits_behind}
use Rattle.chunk_store.proofs.Order.{name_order}

-- ---- one name

pub behind_folder : (name : List ℕ) → slice_range name 13 (length name) ≡ drop 13 name
behind_folder name = take_all (length name - 13) (drop 13 name) (omega (arith, length-drop 13 name))

pub ok_from : (r : Result (List ℕ) FromHexError) (d : List ℕ) → Some d ≡ result_ok r → r ≡ Ok d
ok_from (Ok x) d e = cc
ok_from (Err cause) d e = cc

chosen : (t : Bool) (x y : Digest32) → (if t then Some x else None) ≡ Some y → (t ≡ true) × (x ≡ y)
chosen true x y e = (refl, cc)
chosen false x y e = cc

digest_read : (text d : List ℕ) → decode_sized text 32 ≡ Ok d → IsDigest d
digest_read text d e =
    let long = decode_sized-ok text 32 d e in
    let ok = decode_of-ok text d (sym (decode_sized-twice text 32 long) ∙ e) in
    (omega (arith, long, ok.2), All-from_get_or (λ b. b < 256) d 0 (λ i lt. ok.3 i))

pub named_is : (name : List ℕ) (d : Digest32) → digest_named name ≡ Some d → (name ≡ chunk_name d.0) × IsDigest d.0
named_is name d is = by_case (decode_sized (drop 13 name) 32) refl is
  where
    by_case : (r : Result (List ℕ) FromHexError) → decode_sized (drop 13 name) 32 ≡ r → by_digits name r ≡ Some d → (name ≡ chunk_name d.0) × IsDigest d.0
    by_case (Ok x) e is =
        let test = chosen (bytes_eq name (chunk_name x)) (record { 0 = x }) d is in
        let same : x ≡ d.0 = ap (λ (y : Digest32). y.0) test.1 in
        ((bytes_eq-Decides name (chunk_name x)).0 test.0 ∙ ap chunk_name same, subst IsDigest same (digest_read (drop 13 name) x e))
    by_case (Err cause) e is = cc

pub named_of : (d : Digest32) → IsDigest d.0 → digest_named (chunk_name d.0) ≡ Some d
named_of d is =
    ap (by_digits (chunk_name d.0)) (ap (λ t. decode_sized t 32) (digits_behind d.0 is) ∙ decode_sized-encode_lower d.0 32 is.0 (bytes_of d.0 is.1))
    ∙ ap (λ (t : Bool). if t then Some d else None) ((bytes_eq-Decides (chunk_name d.0) (chunk_name d.0)).1 refl)

-- ---- a list of names

abbrev digests : List (List ℕ) → List Digest32
digests names = filter_map digest_named names

abbrev in_folder : List ℕ → Bool
in_folder name = starts_with eqb name (codes ".chunks/")

-- other names than those of the folder give none
outside : (name : List ℕ) → in_folder name ≡ false → digest_named name ≡ None
outside name out = by_case (digest_named name) refl
  where
    by_case : (o : Option Digest32) → digest_named name ≡ o → digest_named name ≡ None
    by_case None e = e
    by_case (Some d) e = absurd (not_both (sym out ∙ ap in_folder (named_is name d e).0))
      where
        not_both : false ≡ true → ⊥
        not_both e = cc

pub digests_in_folder : (names : List (List ℕ)) → digests (filter in_folder names) ≡ digests names
digests_in_folder [] = refl
digests_in_folder (n ∷ ns) = by_case (in_folder n) refl (digests_in_folder ns)
  where
    by_case : (t : Bool) → in_folder n ≡ t → digests (filter in_folder ns) ≡ digests ns → digests (cond t (n ∷ filter in_folder ns) (filter in_folder ns)) ≡ digests (n ∷ ns)
    by_case true e rest = ap (cons_option (digest_named n)) rest
    by_case false e rest = rest ∙ ap (λ o. cons_option o (digests ns)) (sym (outside n e))

-- ---- which digests

same_text : (a b : List ℕ) → eq_by_cmp text_cmp a b ≡ true → a ≡ b
same_text a b e = (bytes_eq-Decides a b).0 (sym (is_eq-slice_cmp a b) ∙ e)

tied : (a b : List ℕ) → a ≡ b → eq_by_cmp text_cmp a b ≡ true
tied a b e = is_eq-slice_cmp a b ∙ (bytes_eq-Decides a b).1 e

one : (d e : Digest32) → Contains (d ∷ []) e → d ≡ e
one d e (zero, lt, is) = is
one d e (suc k, lt, is) = absurd (omega (arith, lt))

-- whether the name stands in the list
abbrev has_name : List ℕ → List (List ℕ) → Bool
has_name name names = list_any (eq_by_cmp text_cmp name) names

module _ (d : Digest32) (is : IsDigest d.0) where
  later : (o : Option Digest32) (ds : List Digest32) → Contains ds d → Contains (cons_option o ds) d
  later None ds has = has
  later (Some e) ds has = Contains-append_right (e ∷ []) ds d has

  pub listed : (names : List (List ℕ)) → has_name (chunk_name d.0) names ≡ true → Contains (digests names) d
  listed [] h = cc
  listed (n ∷ ns) h = by_case (eq_by_cmp text_cmp (chunk_name d.0) n) refl (listed ns) h
    where
      by_case : (t : Bool) → eq_by_cmp text_cmp (chunk_name d.0) n ≡ t → (has_name (chunk_name d.0) ns ≡ true → Contains (digests ns) d) → (t || has_name (chunk_name d.0) ns) ≡ true → Contains (digests (n ∷ ns)) d
      by_case true e rest h =
          subst (λ o. Contains (cons_option o (digests ns)) d) (sym (ap digest_named (sym (same_text (chunk_name d.0) n e)) ∙ named_of d is))
          (Contains-append_left (d ∷ []) (digests ns) d (Contains-push [] d))
      by_case false e rest h = later (digest_named n) (digests ns) (rest h)

  found_here : (n : List ℕ) (ns : List (List ℕ)) → chunk_name d.0 ≡ n → has_name (chunk_name d.0) (n ∷ ns) ≡ true
  found_here n ns e = ap (λ t. t || has_name (chunk_name d.0) ns) (tied (chunk_name d.0) n e)

  found_later : (t : Bool) (b : Bool) → b ≡ true → (t || b) ≡ true
  found_later true b e = refl
  found_later false b e = e

  pub unlisted : (names : List (List ℕ)) → Contains (digests names) d → has_name (chunk_name d.0) names ≡ true
  unlisted [] (k, lt, at) = absurd (omega (arith, lt))
  unlisted (n ∷ ns) has = by_case (digest_named n) refl (unlisted ns) has
    where
      by_case : (o : Option Digest32) → digest_named n ≡ o → (Contains (digests ns) d → has_name (chunk_name d.0) ns ≡ true) → Contains (cons_option o (digests ns)) d → has_name (chunk_name d.0) (n ∷ ns) ≡ true
      by_case None e rest has = found_later (eq_by_cmp text_cmp (chunk_name d.0) n) (has_name (chunk_name d.0) ns) (rest has)
      by_case (Some x) e rest has =
          ⊎_elim
          (λ (c : Contains (x ∷ []) d). found_here n ns (ap (λ (y : Digest32). chunk_name y.0) (sym (one x d c)) ∙ sym (named_is n x e).0))
          (λ (c : Contains (digests ns) d). found_later (eq_by_cmp text_cmp (chunk_name d.0) n) (has_name (chunk_name d.0) ns) (rest c))
          (Contains-append_cases (x ∷ []) (digests ns) d has)

-- ---- their order

abbrev names_of : List (List ℕ × List ℕ) → List (List ℕ)
names_of es = map (λ e. e.0) es

abbrev IsAfter : List ℕ → Digest32 → Type 0
IsAfter name d = (is_lt (text_cmp name (chunk_name d.0)) ≡ true) × IsDigest d.0

to_true : (b : Bool) → T b → b ≡ true
to_true true h = refl
to_true false h = absurd h

of_true : (b : Bool) → b ≡ true → T b
of_true b e = subst T (sym e) tt

split : (a b : Bool) → T (a && b) → T a × T b
split a b h = let parts = and_parts a b (to_true (a && b) h) in (of_true a parts.0, of_true b parts.1)

both : (name : List ℕ) (e : List ℕ × List ℕ) (es : List (List ℕ × List ℕ)) → T (below_all text_cmp name (e ∷ es)) → T (is_lt (text_cmp name e.0)) × T (below_all text_cmp name es)
both name e es h = split (is_lt (text_cmp name e.0)) (below_all text_cmp name es) h

after : (name : List ℕ) (es : List (List ℕ × List ℕ)) → T (below_all text_cmp name es) → All (IsAfter name) (digests (names_of es))
after name [] h = All-nil (IsAfter name)
after name (e ∷ es) h = by_case (digest_named e.0) refl (after name es (both name e es h).1)
  where
    by_case : (o : Option Digest32) → digest_named e.0 ≡ o → All (IsAfter name) (digests (names_of es)) → All (IsAfter name) (cons_option o (digests (names_of es)))
    by_case None is rest = rest
    by_case (Some d) is rest =
        let named = named_is e.0 d is in
        All-cons (IsAfter name) d (digests (names_of es))
        (ap (λ n. is_lt (text_cmp name n)) (sym named.0) ∙ to_true (is_lt (text_cmp name e.0)) (both name e es h).0, named.1) rest

rise_more : (d : Digest32) (ds : List Digest32) → IsDigest d.0 → All (IsAfter (chunk_name d.0)) ds → digests_rise ds ≡ true → digests_rise (d ∷ ds) ≡ true
rise_more d [] is after h = refl
rise_more d (e ∷ ds) is after h =
    let first = All-head (IsAfter (chunk_name d.0)) e ds after in
    let less : name_lt d.0 e.0 ≡ true = ap is_lt (sym (name_order d.0 e.0 is first.1)) ∙ first.0 in
    ap (λ t. t && digests_rise (e ∷ ds)) less ∙ h

sorted : (e : List ℕ × List ℕ) (es : List (List ℕ × List ℕ)) → T (is_sorted text_cmp (e ∷ es)) → T (below_all text_cmp e.0 es) × T (is_sorted text_cmp es)
sorted e es h = split (below_all text_cmp e.0 es) (is_sorted text_cmp es) h

rise : (es : List (List ℕ × List ℕ)) → T (is_sorted text_cmp es) → digests_rise (digests (names_of es)) ≡ true
rise [] h = refl
rise (e ∷ es) h = by_case (digest_named e.0) refl (rise es (sorted e es h).1)
  where
    by_case : (o : Option Digest32) → digest_named e.0 ≡ o → digests_rise (digests (names_of es)) ≡ true → digests_rise (cons_option o (digests (names_of es))) ≡ true
    by_case None is rest = rest
    by_case (Some d) is rest =
        let named = named_is e.0 d is in
        rise_more d (digests (names_of es)) named.1 (subst (λ n. All (IsAfter n) (digests (names_of es))) named.0 (after e.0 es (sorted e es h).0)) rest

each_is : (names : List (List ℕ)) → All (λ d. IsDigest d.0) (digests names)
each_is [] = All-nil (λ d. IsDigest d.0)
each_is (n ∷ ns) = by_case (digest_named n) refl (each_is ns)
  where
    by_case : (o : Option Digest32) → digest_named n ≡ o → All (λ d. IsDigest d.0) (digests ns) → All (λ d. IsDigest d.0) (cons_option o (digests ns))
    by_case None is rest = rest
    by_case (Some d) is rest = All-cons (λ d. IsDigest d.0) d (digests ns) (named_is n d is).1 rest

-- ---- the disk's names

pub lists_all : (files : Files) → Lists files (digests (keys files))
lists_all files = record {
  rising = rise (entries files) (entries_sorted files);
  each = each_is (keys files);
  exactly = λ d is. (
    λ has. contains_key-keys files (chunk_name d.0) ∙ unlisted d is (keys files) has,
    λ there. listed d is (keys files) (sym (contains_key-keys files (chunk_name d.0)) ∙ there),
  );
}

pub lists : (files : Files) → Lists files (digests (filter in_folder (keys files)))
lists files = subst (Lists files) (sym (digests_in_folder (keys files))) (lists_all files)

-- names that are texts
pub filter_map-map : {A B C : Type 0} (f : B → Option C) (g : A → B) (xs : List A) → filter_map (λ x. f (g x)) xs ≡ filter_map f (map g xs)
filter_map-map f g [] = refl
filter_map-map f g (x ∷ xs) = ap (cons_option (f (g x))) (filter_map-map f g xs)

-- The book of the chunks that are there, made one by one.
use Rattle.std.proofs.Common.{◌≡◌, ℕ, ◌+◌, ◌<◌, max, Bool, true, false, not, ◌||◌, cond, List, [], ◌∷◌, ◌++◌, length, get_or, take, refl, sym, ap, subst, ◌∙◌, Option, Some, None, arith}
use Rattle.std.specs.Prelude.{filter, is_none, is_some, unwrap_or}
use Rattle.std.specs.Str.{bytes_eq}
use Rattle.std.proofs.lemmas.List.{take_more}
use Rattle.std.proofs.lemmas.Slice.Eq.{bytes_eq-Decides}
use Rattle.store_types.specs.declared.names.Digest32.{Digest32}
use Rattle.store_files.specs.Book.{Book}
use Rattle.atime_book.specs.Touches.{last_of, greatest, TouchedAt}
use Rattle.atime_book.specs.Present.{is_among, IsOfPresent}

among-push : (q : List ℕ) (ds : List Digest32) (d : Digest32) → is_among q (ds ++ d ∷ []) ≡ (is_among q ds || bytes_eq d.0 q)
among-push q [] d = by_test (bytes_eq d.0 q)
  where
    by_test : (b : Bool) → (b || false) ≡ b
    by_test true = refl
    by_test false = refl
among-push q (e ∷ ds) d = ap (λ b. bytes_eq e.0 q || b) (among-push q ds d) ∙ by_test (bytes_eq e.0 q)
  where
    by_test : (b : Bool) → (b || (is_among q ds || bytes_eq d.0 q)) ≡ ((b || is_among q ds) || bytes_eq d.0 q)
    by_test true = refl
    by_test false = refl

filter-push : (p : Digest32 → Bool) (ds : List Digest32) (d : Digest32) → filter p (ds ++ d ∷ []) ≡ cond (p d) (filter p ds ++ d ∷ []) (filter p ds)
filter-push p [] d = by_test (p d)
  where
    by_test : (b : Bool) → cond b (d ∷ []) [] ≡ cond b ([] ++ d ∷ []) []
    by_test true = refl
    by_test false = refl
filter-push p (e ∷ ds) d = ap (λ rest. cond (p e) (e ∷ rest) rest) (filter-push p ds d) ∙ by_test (p e) (p d)
  where
    by_test : (b c : Bool) → cond b (e ∷ cond c (filter p ds ++ d ∷ []) (filter p ds)) (cond c (filter p ds ++ d ∷ []) (filter p ds))
        ≡ cond c (cond b (e ∷ filter p ds) (filter p ds) ++ d ∷ []) (cond b (e ∷ filter p ds) (filter p ds))
    by_test true true = refl
    by_test true false = refl
    by_test false true = refl
    by_test false false = refl

module _ (saved book new : Book) (ds undated more : List Digest32) (d : Digest32) where
  -- its touch in the saved book, or that book's moment
  abbrev value : List ℕ → ℕ
  value q = unwrap_or (last_of saved q) saved.moment

  noted : (q : List ℕ) (among here : Bool) → bytes_eq d.0 q ≡ here → last_of book q ≡ cond among (Some (value q)) None →
      cond here (Some (greatest (last_of book q) (value d.0))) (last_of book q) ≡ cond (among || here) (Some (value q)) None
  noted q among false is last = last ∙ ap (λ b. cond b (Some (value q)) None) (by_test among)
    where
      by_test : (b : Bool) → b ≡ (b || false)
      by_test true = refl
      by_test false = refl
  noted q true true is last =
      let same = (bytes_eq-Decides d.0 q).0 is in
      let itself : max (value q) (value q) ≡ value q = omega arith in
      ap (λ o. Some (greatest o (value d.0))) last ∙ ap (λ x. Some (max (value q) (value x))) same ∙ ap Some itself
  noted q false true is last =
      let same = (bytes_eq-Decides d.0 q).0 is in
      ap (λ o. Some (greatest o (value d.0))) last ∙ ap (λ x. Some (value x)) same

  present_more : IsOfPresent saved book ds undated → TouchedAt book new d.0 (value d.0) →
      more ≡ cond (is_none (last_of saved d.0)) (undated ++ d ∷ []) undated → IsOfPresent saved new (ds ++ d ∷ []) more
  present_more is touched told = record {
    read = touched.read ∙ is.read;
    last = λ q. touched.last q ∙ noted q (is_among q ds) (bytes_eq d.0 q) refl (is.last q)
        ∙ ap (λ b. cond b (Some (value q)) None) (sym (among-push q ds d));
    unknown = told ∙ ap (λ xs. cond (is_none (last_of saved d.0)) (xs ++ d ∷ []) xs) is.unknown
        ∙ sym (filter-push (λ x. is_none (last_of saved x.0)) ds d);
  }

pub present_next : (saved book new : Book) (present undated more : List Digest32) (i when : ℕ) (none : Digest32) → i < length present →
    IsOfPresent saved book (take i present) undated → TouchedAt book new (get_or present i none).0 when →
    when ≡ unwrap_or (last_of saved (get_or present i none).0) saved.moment →
    more ≡ cond (is_none (last_of saved (get_or present i none).0)) (undated ++ get_or present i none ∷ []) undated →
    IsOfPresent saved new (take (i + 1) present) more
present_next saved book new present undated more i when none below is touched value_is told =
    let d = get_or present i none in
    subst (λ ds. IsOfPresent saved new ds more) (sym (take_more present i none below))
    (present_more saved book new (take i present) undated more d is (subst (TouchedAt book new d.0) value_is touched) told)

pub none_by : (o p : Option ℕ) (b : Bool) → o ≡ p → is_some o ≡ not b → is_none p ≡ b
none_by None p b same is = ap is_none (sym same) ∙ flipped b is
  where
    flipped : (b : Bool) → false ≡ not b → true ≡ b
    flipped true e = refl
    flipped false e = sym e
none_by (Some n) p b same is = ap is_none (sym same) ∙ flipped b is
  where
    flipped : (b : Bool) → true ≡ not b → false ≡ b
    flipped true e = sym e
    flipped false e = refl

-- The pieces that entries name, one by one.
use Rattle.std.proofs.Common.{◌≡◌, ℕ, zero, suc, ◌+◌, ◌<◌, ◌≤◌, List, [], ◌∷◌, ◌++◌, length, get_or, map, drop, Ok, Err, refl, sym, ap, ◌∙◌, append_assoc, add-one, arith}
use Rattle.std.specs.Prelude.{Result}
use Rattle.std.proofs.lemmas.List.{append-nil, length-map}
use Rattle.store_types.specs.declared.append.AppendEntry.{AppendEntry}
use Rattle.store_types.specs.declared.names.Digest32.{Digest32}
use Rattle.store_types.specs.declared.refusal.Refusal.{Refusal}
use Rattle.store_types.specs.Chain.Refusing.{◌>>=◌}
use Rattle.store_files.specs.Archive.{Layout}
use Rattle.store_model.specs.Archives.{pieces_named}
use Rattle.store_model.specs.ArchiveSteps.{named}
use Rattle.plain_sessions.specs.Archiving.{piece_at, pieces_from}

-- an element is the one at its place, whatever stands for none
pub own_default : {A : Type 0} (xs : List A) (i : ℕ) (d : A) → i < length xs → get_or xs i d ≡ get_or xs i (get_or xs i d)
own_default [] i d below = absurd (omega (arith, below))
own_default (x ∷ xs) zero d below = refl
own_default (x ∷ xs) (suc i) d below = own_default xs i d (omega (arith, below))

-- from an entry on
named_from : (es : List AppendEntry) (i : ℕ) (e : AppendEntry) → i < length es → e ≡ get_or es i e → drop i (map named es) ≡ named e ∷ drop (i + 1) (map named es)
named_from [] i e below is = absurd (omega (arith, below))
named_from (x ∷ es) zero e below is = ap (λ (y : AppendEntry). named y ∷ map named es) (sym is)
named_from (x ∷ es) (suc i) e below is =
    named_from es i e (omega (arith, below)) is ∙ ap (λ k. named e ∷ drop k (map named es)) (add-one i)
    ∙ sym (ap (λ k. named e ∷ drop k (named x ∷ map named es)) (add-one (suc i)))

module _ (pool : List (List ℕ)) (layout : Layout) where
  -- the pieces before, and those that are named from an entry on
  abbrev pub behind : List (List ℕ) → ℕ → ℕ → List (Digest32 × ℕ) → Result (List (List ℕ)) Refusal
  behind before place end rest = pieces_from pool layout place end rest >>= λ others. Ok (before ++ others)

  more_by : (before : List (List ℕ)) (p : List ℕ) (r : Result (List (List ℕ)) Refusal)
      → ((r >>= λ others. Ok (p ∷ others)) >>= λ rest. Ok (before ++ rest)) ≡ (r >>= λ rest. Ok ((before ++ p ∷ []) ++ rest))
  more_by before p (Ok others) = ap (λ ks. Ok ks) (sym (append_assoc before (p ∷ []) others))
  more_by before p (Err e) = refl

  -- the entry is named
  pub behind_more : (before : List (List ℕ)) (place end i : ℕ) (es : List AppendEntry) (e : AppendEntry) (p : List ℕ) → i < length es → e ≡ get_or es i e
      → piece_at pool layout place end (named e) ≡ Ok p → behind before place end (drop i (map named es)) ≡ behind (before ++ p ∷ []) (place + 1) (end + length p) (drop (i + 1) (map named es))
  unfolding pieces_named
  behind_more before place end i es e p below is found =
      ap (behind before place end) (named_from es i e below is)
      ∙ ap (λ r. (r >>= λ x. pieces_from pool layout (place + 1) (end + length x) (drop (i + 1) (map named es)) >>= λ others. Ok (x ∷ others)) >>= λ rest. Ok (before ++ rest)) found
      ∙ more_by before p (pieces_from pool layout (place + 1) (end + length p) (drop (i + 1) (map named es)))

  -- or it is refused
  pub behind_refused : (before : List (List ℕ)) (place end i : ℕ) (es : List AppendEntry) (e : AppendEntry) (refusal : Refusal) → i < length es → e ≡ get_or es i e
      → piece_at pool layout place end (named e) ≡ Err refusal → behind before place end (drop i (map named es)) ≡ Err refusal
  unfolding pieces_named
  behind_refused before place end i es e refusal below is found =
      ap (behind before place end) (named_from es i e below is)
      ∙ ap (λ r. (r >>= λ x. pieces_from pool layout (place + 1) (end + length x) (drop (i + 1) (map named es)) >>= λ others. Ok (x ∷ others)) >>= λ rest. Ok (before ++ rest)) found

  dropped : {A : Type 0} (xs : List A) (i : ℕ) → length xs ≤ i → drop i xs ≡ []
  dropped [] zero le = refl
  dropped [] (suc i) le = refl
  dropped (x ∷ xs) zero le = absurd (omega (arith, le))
  dropped (x ∷ xs) (suc i) le = dropped xs i (omega (arith, le))

  -- or there is none
  pub behind_all : (before : List (List ℕ)) (place end i : ℕ) (es : List AppendEntry) → length es ≤ i → behind before place end (drop i (map named es)) ≡ Ok before
  unfolding pieces_named
  behind_all before place end i es le =
      ap (behind before place end) (dropped (map named es) i (omega (arith, le, length-map es named))) ∙ ap (λ ks. Ok ks) (append-nil before)

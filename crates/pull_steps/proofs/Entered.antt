-- The entries of an index of the remote.
use Rattle.std.proofs.Common.{◌≡◌, ◌<◌, ◌≤◌, ◌+◌, ◌*◌, ℕ, zero, suc, true, false, List, [], ◌∷◌, ◌++◌, drop, take, length, get_or, Option, Some, Ok, refl, sym, ap, ◌∙◌, append_assoc, append-nil, add-one, arith}
use Rattle.std.specs.Prelude.{slice_index_or}
use Rattle.std.proofs.lemmas.List.{drop_all, drop_more}
use Rattle.store_types.specs.declared.append.AppendEntry.{AppendEntry}
use Rattle.store_types.specs.declared.names.Digest32.{Digest32}
use Rattle.store_types.specs.FileNames.{is_fixed_name}
use Rattle.store_files.specs.Archive.{dynamic}
use Rattle.store_files.specs.FixedIndex.{FixedIndex, fixed_of}
use Rattle.store_files.specs.DynamicIndex as dynamic_index
use Rattle.store_files.specs.DynamicIndex.{DynamicIndex, Ended, dynamic_of}
use Rattle.fixed_index.specs.Viewing.{start_of}
use Rattle.fixed_index.proofs.Reading.{fixed_of-fits}
use Rattle.dynamic_index.specs.Pieces as pieces
use Rattle.dynamic_index.proofs.Reading.{dynamic_of-fits}
use Rattle.store_model.specs.VerifyJob.{digest, last_end}
use Rattle.store_history.specs.Pulling as model
use Rattle.store_history.specs.Pulling.{dynamic_entries, dynamic_in, fixed_entries, fixed_in, index_in}

one_more : (xs ys : List AppendEntry) (e : AppendEntry) (zs : List AppendEntry) → ys ≡ xs ++ e ∷ [] → ys ++ zs ≡ xs ++ e ∷ zs
one_more xs ys e zs is = ap (λ l. l ++ zs) is ∙ append_assoc xs (e ∷ []) zs

entry_is : (e : AppendEntry) (bytes : List ℕ) (offset : ℕ) → (e.digest).0 ≡ bytes → e.offset ≡ offset
    → e ≡ (let x : AppendEntry = record { digest = digest bytes; offset = offset } in x)
entry_is e bytes offset d o =
    ap (λ b. (let x : AppendEntry = record { digest = digest b; offset = e.offset } in x)) d
    ∙ ap (λ n. (let x : AppendEntry = record { digest = digest bytes; offset = n } in x)) o

-- ---- fixed

-- the entries so far, and those of the digests to come
unfoldable pub fixed_left : FixedIndex → ℕ → List AppendEntry → List AppendEntry
fixed_left x i es = es ++ fixed_entries x.chunk_size (i * x.chunk_size) (drop i x.digests)

module _ (x : FixedIndex) (i : ℕ) where
  pub fixed_more : (es new : List AppendEntry) (e : AppendEntry) → i < length x.digests → new ≡ es ++ e ∷ []
      → (e.digest).0 ≡ slice_index_or x.digests i [] → e.offset ≡ start_of x i → fixed_left x (i + 1) new ≡ fixed_left x i es
  unfolding fixed_left
  fixed_more es new e lt pushed read begins =
      let next : i * x.chunk_size + x.chunk_size ≡ (i + 1) * x.chunk_size = omega arith in
      one_more es new e _ pushed
      ∙ ap (λ y. es ++ y ∷ fixed_entries x.chunk_size ((i + 1) * x.chunk_size) (drop (i + 1) x.digests)) (entry_is e _ _ read begins)
      ∙ ap (λ n. es ++ (let y : AppendEntry = record { digest = digest (slice_index_or x.digests i []); offset = start_of x i } in y)
      ∷ fixed_entries x.chunk_size n (drop (i + 1) x.digests)) (sym next)
      ∙ sym (ap (λ ds. es ++ fixed_entries x.chunk_size (i * x.chunk_size) ds) (drop_more x.digests i [] lt))

  pub fixed_none : fixed_left x 0 [] ≡ fixed_entries x.chunk_size 0 x.digests
  unfolding fixed_left
  fixed_none =
      let first : 0 * x.chunk_size ≡ 0 = omega arith in
      ap (λ n. fixed_entries x.chunk_size n x.digests) first

  pub fixed_done : (es : List AppendEntry) → length x.digests ≤ i → fixed_left x i es ≡ es
  unfolding fixed_left
  fixed_done es le = ap (λ ds. es ++ fixed_entries x.chunk_size (i * x.chunk_size) ds) (drop_all i x.digests le) ∙ append-nil es

length_fixed : (chunk_size offset : ℕ) (ds : List (List ℕ)) → length (fixed_entries chunk_size offset ds) ≡ length ds
length_fixed chunk_size offset [] = refl
length_fixed chunk_size offset (d ∷ ds) = ap suc (length_fixed chunk_size (offset + chunk_size) ds)

pub fixed_few : (bytes : List ℕ) (x : FixedIndex) (es : List AppendEntry) → fixed_of bytes ≡ Ok x → es ≡ fixed_entries x.chunk_size 0 x.digests → length es ≤ 1_048_576
fixed_few bytes x es is made = omega (arith, (fixed_of-fits bytes x is).limit, ap length made, length_fixed x.chunk_size 0 x.digests)

-- ---- dynamic

-- where the entries of a dynamic index end
pub last_same : (es : List Ended) → pieces.last_end 0 es ≡ last_end es
last_same [] = refl
last_same (e ∷ []) = refl
last_same (e ∷ f ∷ es) = last_same (f ∷ es)

take_end : (start : ℕ) (es : List Ended) (i : ℕ) (none : Ended) → i < length es → pieces.last_end start (take (suc i) es) ≡ (get_or es i none).end
take_end start [] i none lt = absurd (omega (arith, lt))
take_end start (e ∷ es) zero none lt = refl
take_end start (e ∷ es) (suc i) none lt = take_end e.end es i none (omega (arith, lt))

unfoldable pub dynamic_left : DynamicIndex → ℕ → List AppendEntry → List AppendEntry
dynamic_left x i es = es ++ dynamic_entries (pieces.start_of x i) (drop i x.entries)

module _ (x : DynamicIndex) (i : ℕ) where
  pub dynamic_more : (es new : List AppendEntry) (e : AppendEntry) → i < length x.entries → new ≡ es ++ e ∷ []
      → (e.digest).0 ≡ (pieces.entry_at x i).digest → e.offset ≡ pieces.start_of x i → dynamic_left x (i + 1) new ≡ dynamic_left x i es
  unfolding dynamic_left
  dynamic_more es new e lt pushed read begins =
      let none : Ended = record { end = 0; digest = [] } in
      let next : pieces.start_of x (i + 1) ≡ (pieces.entry_at x i).end = ap (pieces.start_of x) (add-one i) ∙ take_end 0 x.entries i none lt in
      one_more es new e _ pushed
      ∙ ap (λ y. es ++ y ∷ dynamic_entries (pieces.start_of x (i + 1)) (drop (i + 1) x.entries)) (entry_is e _ _ read begins)
      ∙ ap (λ n. es ++ (let y : AppendEntry = record { digest = digest (pieces.entry_at x i).digest; offset = pieces.start_of x i } in y)
      ∷ dynamic_entries n (drop (i + 1) x.entries)) next
      ∙ sym (ap (λ ds. es ++ dynamic_entries (pieces.start_of x i) ds) (drop_more x.entries i none lt))

  pub dynamic_none : dynamic_left x 0 [] ≡ dynamic_entries 0 x.entries
  unfolding dynamic_left
  dynamic_none = refl

  pub dynamic_done : (es : List AppendEntry) → length x.entries ≤ i → dynamic_left x i es ≡ es
  unfolding dynamic_left
  dynamic_done es le = ap (λ ds. es ++ dynamic_entries (pieces.start_of x i) ds) (drop_all i x.entries le) ∙ append-nil es

length_dynamic : (start : ℕ) (es : List Ended) → length (dynamic_entries start es) ≡ length es
length_dynamic start [] = refl
length_dynamic start (e ∷ es) = ap suc (length_dynamic e.end es)

pub dynamic_few : (bytes : List ℕ) (x : DynamicIndex) (es : List AppendEntry) → dynamic_of bytes ≡ Ok x → es ≡ dynamic_entries 0 x.entries → length es ≤ 1_048_576
dynamic_few bytes x es is made = omega (arith, (dynamic_of-fits bytes x is).0, ap length made, length_dynamic 0 x.entries)

-- the index as it is sent
pub dynamic_read : (name bytes : List ℕ) (x : DynamicIndex) (n : List ℕ) (es : List AppendEntry) (size : ℕ) (csum : Digest32) → dynamic_of bytes ≡ Ok x → n ≡ name
    → es ≡ dynamic_entries 0 x.entries → size ≡ pieces.size_of x → csum.0 ≡ dynamic_index.csum_of x
    → (let given : Option model.Index = Some (record { name = n; layout = dynamic; entries = es; size = size; csum = csum }) in given) ≡ dynamic_in name bytes
dynamic_read name bytes x n es size csum reads named made sized summed =
    let index : List ℕ → List AppendEntry → ℕ → List ℕ → Option model.Index =
    λ m l s d. Some (record { name = m; layout = dynamic; entries = l; size = s; csum = digest d }) in
    rw (reads, dynamic_in)
    (ap (λ m. index m es size csum.0) named ∙ ap (λ l. index name l size csum.0) made ∙ ap (λ s. index name (dynamic_entries 0 x.entries) s csum.0) (sized ∙ last_same x.entries)
    ∙ ap (index name (dynamic_entries 0 x.entries) (last_end x.entries)) summed)

-- ---- by the file's name

module _ (name bytes : List ℕ) where
  pub by_fixed : is_fixed_name name ≡ true → fixed_in name bytes ≡ index_in name bytes
  unfolding index_in
  by_fixed h = rw h refl

  pub by_dynamic : is_fixed_name name ≡ false → dynamic_in name bytes ≡ index_in name bytes
  unfolding index_in
  by_dynamic h = rw h refl

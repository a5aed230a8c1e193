-- The size of a chunk's blob, by the index.
use Rattle.std.proofs.Common.{◌≡◌, ◌<◌, ◌≤◌, ◌+◌, ◌-◌, ℕ, Bool, true, false, ◌∷◌, drop, length, get_or, refl, sym, ap, ◌∙◌, arith}
use Rattle.std.specs.Prelude.{◌==◌}
use Rattle.std.proofs.lemmas.Bool.{eq-eqb, eqb-false, eqb-true, ne_eqb}
use Rattle.std.proofs.lemmas.List.{drop_all, drop_more}
use Rattle.store_types.specs.declared.append.AppendEntry.{AppendEntry}
use Rattle.store_history.specs.Pulling as model
use Rattle.store_history.specs.Pulling.{end_before}
use Rattle.pull_steps.specs.declared.stages.Index.{Index}
use Rattle.pull_steps.specs.Indexes.{end_at, fits_at, size_first}
use Rattle.pull_steps.specs.States.{shown_index}

-- behind a header of 12 bytes there are so many
data_more : (size m : ℕ) → 12 ≤ size → (size - 12 == m) ≡ (size == 12 + m)
data_more size m long = by_size (size - 12 == m) refl
  where
    by_size : (b : Bool) → (size - 12 == m) ≡ b → b ≡ (size == 12 + m)
    by_size true h = sym (eq-eqb size (12 + m) (omega (arith, eqb-true (size - 12) m h)))
    by_size false h = sym (ne_eqb size (12 + m) (λ e. eqb-false (size - 12) m h (omega (arith, e))))

module _ (x : Index) (i : ℕ) where
  -- the piece ends where that of the next entry begins, or with the archive
  pub ends_before : (next : AppendEntry) → i + 1 < length x.entries.items → next ≡ get_or x.entries.items (i + 1) next → next.offset ≡ end_at x i
  ends_before next more is =
      sym (ap (end_before (shown_index x)) (drop_more x.entries.items (i + 1) next more ∙ ap (λ y. y ∷ drop (i + 1 + 1) x.entries.items) (sym is)))

  pub ends_last : length x.entries.items ≤ i + 1 → x.size ≡ end_at x i
  ends_last last = sym (ap (end_before (shown_index x)) (drop_all (i + 1) x.entries.items last))

  -- whether the blob is as long as the index says
  module _ (e : AppendEntry) (lt : i < length x.entries.items) (is : e ≡ get_or x.entries.items i e) (size : ℕ) where
    left_from : drop i x.entries.items ≡ e ∷ drop (i + 1) x.entries.items
    left_from = drop_more x.entries.items i e lt ∙ ap (λ y. y ∷ drop (i + 1) x.entries.items) (sym is)

    fits_is : (size == model.blob_size (shown_index x) e (drop (i + 1) x.entries.items)) ≡ fits_at x i size
    fits_is = sym (ap (λ es. size == size_first (shown_index x) es) left_from)

    pub fits_more : (len : ℕ) → 12 ≤ size → len ≡ end_at x i - e.offset → (size - 12 == len) ≡ fits_at x i size
    fits_more len long is = data_more size len long ∙ ap (λ n. size == 12 + n) is ∙ fits_is

    pub fits_less : size < 12 → false ≡ fits_at x i size
    fits_less short = sym (ne_eqb size (model.blob_size (shown_index x) e (drop (i + 1) x.entries.items)) (λ is. absurd (omega (arith, is, short)))) ∙ fits_is

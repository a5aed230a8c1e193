-- What fits the pages that a collector has at hand fits them still as its chunks are listed and visited.
use Rattle.disk_trait.specs.declared.disk.Disk.{Ghosts}
use Rattle.std.proofs.Common.{◌≡◌, ◌<◌, ◌≤◌, ◌⊎◌, ℕ, [], ◌∷◌, Option, inl, inr, refl, sym, subst, arith}
use Rattle.std.specs.Prelude.{IsSome}
use Rattle.gc_plan.specs.Plan.{Plan, Stage, behind_visit, entry_limit, marking, sweeping, visited, with_removal}
use Rattle.core_state.specs.declared.marked.MarkedPages.{MarkedPages}
use Rattle.core_state.specs.Entries.{FitsPages, count_at_hand, marked_in}
use Rattle.core_collect.specs.Visiting.{IsListed}

same_marked : (stage : Stage) → marked_in (behind_visit stage) ≡ marked_in stage
same_marked (marking place first) = refl
same_marked (sweeping []) = refl
same_marked (sweeping (d ∷ ds)) = refl

none_marked : 0 < 0 → ⊥
none_marked some = omega (arith, some)

some_left : (marked count : ℕ) → marked < count → 0 < count
some_left marked count lt = omega (arith, lt)

module _ (pages : Option MarkedPages) where
  pub visited_fits : (p : Plan) → FitsPages p pages → FitsPages (visited p) pages
  visited_fits p fits = record {
    named = fits.named;
    begun = subst (λ n. 0 < n → IsSome pages) (sym (same_marked p.stage)) fits.begun;
    within = subst (λ n. IsSome pages → n < count_at_hand pages) (sym (same_marked p.stage)) fits.within;
    few = subst (λ n. n ≤ entry_limit) (sym (same_marked p.stage)) fits.few;
  }

  pub removal_fits : (p : Plan) → FitsPages p pages → FitsPages (with_removal p) pages
  removal_fits p fits = record { named = fits.named; begun = fits.begun; within = fits.within; few = fits.few }

  pub listed_fits : {D : Type 0} (d : Ghosts D) (disk : D) (p listed : Plan) → IsListed d disk p listed → FitsPages p pages → FitsPages listed pages
  listed_fits d disk p listed (inl (has, same)) fits = subst (λ x. FitsPages x pages) (sym same) fits
  listed_fits d disk p listed (inr (none, (names, is, are))) fits =
      subst (λ x. FitsPages x pages) (sym is) (record {
        named = fits.named;
        begun = λ some. absurd (none_marked some);
        within = λ some. some_left (marked_in p.stage) (count_at_hand pages) (fits.within some);
        few = omega arith;
      })

  -- the first of the chunks was visited, and may have been removed
  pub first_fits : {D : Type 0} (d : Ghosts D) (disk : D) (p listed q : Plan) → IsListed d disk p listed → (q ≡ visited listed) ⊎ (q ≡ with_removal (visited listed)) → FitsPages p pages → FitsPages q pages
  first_fits d disk p listed q are (inl is) fits = subst (λ x. FitsPages x pages) (sym is) (visited_fits listed (listed_fits d disk p listed are fits))
  first_fits d disk p listed q are (inr is) fits = subst (λ x. FitsPages x pages) (sym is) (removal_fits (visited listed) (visited_fits listed (listed_fits d disk p listed are fits)))

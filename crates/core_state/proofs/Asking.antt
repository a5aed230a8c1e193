-- How often a disk is called for the file that an act asks for.
use Rattle.std.proofs.Common.{◌≡◌, ℕ, List, Option, None, Some, sym, ap, subst, ◌∙◌, arith}
use Rattle.disk_trait.specs.declared.disk.Disk.{Ghosts}
use Rattle.paged_indexes.specs.declared.kinds.IndexKind.{IndexKind}
use Rattle.snapshot_files.specs.Calls.{CallsForPart}
use Rattle.core_state.specs.Calls.{CallsForAsked}
use Rattle.core_state.specs.Unreadables.{Asked, from_offset}

abbrev some_part : List ℕ → Option IndexKind → ℕ → Option Asked
some_part path whole offset = Some (record { path = path; way = from_offset whole offset })

none_some : {A : Type 0} (x : A) → None ≡ Some x → ⊥
none_some x e = cc

same_asked : (a b : Asked) → Some a ≡ Some b → a ≡ b
same_asked a b e = cc

same_kind : (whole kind : Option IndexKind) (offset i : ℕ) → from_offset whole offset ≡ from_offset kind i → whole ≡ kind
same_kind whole kind offset i e = cc

module _ {D : Type 0} (d : Ghosts D) (old new : D) (asked : Option Asked) where
  -- it was not called, whatever is asked for
  pub uncalled : new ≡ old → CallsForAsked d old new asked
  uncalled is = subst (λ x. CallsForAsked d old x asked) (sym is) (record { none = λ e h. omega arith; part = λ path whole offset e h. omega arith })

  -- a part of the file was read that is asked for
  pub called : (path : List ℕ) (whole : Option IndexKind) (offset : ℕ) → asked ≡ some_part path whole offset → CallsForPart d old new path whole → CallsForAsked d old new asked
  called path whole offset is calls = record {
    none = λ e. absurd (none_some _ (sym e ∙ is));
    part = λ q kind i e.
        let same = same_asked _ _ (sym is ∙ e) in
        subst (λ p. CallsForPart d old new p kind) (ap (λ a. a.path) same)
        (subst (λ k. CallsForPart d old new path k) (same_kind whole kind offset i (ap (λ a. a.way) same)) calls);
  }

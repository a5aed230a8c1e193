-- The snapshot of the catalogue that a text names.
use Rattle.std.proofs.Common.{◌≡◌, ◌≤◌, ℕ, true, List, map, length, Option, Some, None, Result, Ok, Err, IsTrue, refl, sym, ap, ◌∙◌}
use Rattle.std.proofs.lemmas.Bool.{and_parts, leb-true}
use Rattle.std.proofs.lemmas.List.Sums.{AllPass-from_list_all}
use Rattle.std.specs.List.{find, list_all}
use Rattle.store_types.specs.declared.names.SnapshotKey.{SnapshotKey}
use Rattle.store_types.specs.declared.refusal.Refusal.{Refusal}
use Rattle.store_types.specs.declared.refusal.Refusal.TheVariants.{BadName, NoSnapshot}
use Rattle.store_types.specs.Chain.Refusing.{◌>>=◌, or_else}
use Rattle.store_types.specs.Names.{key_of, same_key}
use Rattle.store_types.proofs.OrderLaws.{same_keys}
use Rattle.store_files.specs.Archive.{Snapshot}
use Rattle.store_model.specs.Store.{snapshot_named}
use Rattle.core_state.specs.declared.kept.Kept.{Kept}
use Rattle.core_state.specs.declared.kept.Listed.{Listed}
use Rattle.core_state.specs.Found.{kept_named}
use Rattle.core_state.specs.Heads.{key_in, named_kept}
use Rattle.core_state.specs.Kept.{KeptAt}
use Rattle.core_state.specs.Named.{has_text, is_named_snapshot, is_short_name}
use Rattle.core_state.specs.Shown.{shown_snapshot}
use Rattle.core_state.proofs.Finding.{found_in, found_passes, mapped}
use Rattle.core_state.proofs.Found.{kept_is}

abbrev pub kept_by : List Listed → Option SnapshotKey → Result Kept Refusal
kept_by catalogue o = or_else BadName o >>= λ key. or_else NoSnapshot (kept_named key catalogue)

module _ (text : List ℕ) (at : KeptAt) where
  pub named_by : named_kept text at ≡ kept_by at.catalogue (key_of text)
  unfolding named_kept key_in
  named_by = refl

  pub none_named : key_of text ≡ None → named_kept text at ≡ Err BadName
  none_named none = named_by ∙ ap (kept_by at.catalogue) none

  pub none_kept : (key : SnapshotKey) → key_of text ≡ Some key → kept_named key at.catalogue ≡ None → named_kept text at ≡ Err NoSnapshot
  none_kept key some none = named_by ∙ ap (kept_by at.catalogue) some ∙ ap (or_else NoSnapshot) none

  pub named_is : (key : SnapshotKey) (k : Kept) → key_of text ≡ Some key → kept_named key at.catalogue ≡ Some k → named_kept text at ≡ Ok k
  named_is key k some there = named_by ∙ ap (kept_by at.catalogue) some ∙ ap (or_else NoSnapshot) there

-- ---- what was found

module _ (catalogue : List Listed) (key : SnapshotKey) (k : Kept) (there : kept_named key catalogue ≡ Some k) where
  found : (x : Listed) × (find (λ (x : Listed). same_key (x.kept).key key) catalogue ≡ Some x) × (k ≡ x.kept)
  found = mapped (λ (x : Listed). x.kept) (find (λ (x : Listed). same_key (x.kept).key key) catalogue) k there

  pub kept_key : k.key ≡ key
  kept_key = ap (λ (k : Kept). k.key) found.2 ∙ (same_keys ((found.0).kept).key key).0 (found_passes (λ (x : Listed). same_key (x.kept).key key) catalogue found.0 found.1)

  -- it is whole, where it is the plain store's
  pub kept_whole : (snapshots : List Snapshot) → map (λ x. x.kept) catalogue ≡ map shown_snapshot snapshots → k.unreadable ≡ None
  kept_whole snapshots shown =
      let x = mapped shown_snapshot (snapshot_named key snapshots) k (sym (kept_is catalogue snapshots key shown) ∙ there) in
      ap (λ (k : Kept). k.unreadable) x.2

  -- the name of what makes it damaged is short
  pub damage_short : (name : List ℕ) → IsTrue (list_all is_named_snapshot catalogue) → k.unreadable ≡ Some name → length name ≤ 251
  damage_short name named damage =
      let is : is_named_snapshot found.0 ≡ true =
      found_in (λ (x : Listed). is_named_snapshot x ≡ true) (λ (x : Listed). same_key (x.kept).key key) catalogue found.0 (AllPass-from_list_all is_named_snapshot catalogue named) found.1 in
      let short = (and_parts (has_text ((found.0).kept).key) (is_short_name ((found.0).kept).unreadable) is).1 in
      leb-true (length name) 251 (sym (ap is_short_name (sym (ap (λ (k : Kept). k.unreadable) found.2) ∙ damage)) ∙ short)

-- What is kept of an index is its file's, and its pages are read while the file stands there.
use Rattle.std.proofs.Common.{◌≡◌, ℕ, List, Some, None, Option, Result, Ok, Err, IsTrue, refl, sym, ap, ap₂, subst, ◌∙◌}
use Rattle.std.proofs.lemmas.Slice.Eq.{bytes_eq-Decides}
use Rattle.std.specs.FinMap.{get}
use Rattle.std.specs.Str.{bytes_eq}
use Rattle.disk_trait.specs.Files.{Files}
use Rattle.store_types.specs.declared.names.SnapshotKey.{SnapshotKey}
use Rattle.store_types.specs.declared.refusal.Refusal.{Refusal}
use Rattle.store_types.specs.Names.{same_key}
use Rattle.store_types.proofs.OrderLaws.{same_keys}
use Rattle.store_files.specs.Archive.{Archive, Snapshot, archive, archive_text, ends_from, file_text}
use Rattle.store_files.specs.DynamicIndex.{Ended}
use Rattle.store_files.specs.Folder.{file_path}
use Rattle.store_model.specs.Stands.{FitsContent, names_content}
use Rattle.index_pages.specs.declared.fault.PageFault.{PageFault}
use Rattle.paged_indexes.specs.declared.index.IndexPages.{IndexPages}
use Rattle.paged_indexes.specs.declared.kinds.IndexKind.{IndexKind}
use Rattle.paged_indexes.specs.Index.{entries_in, opened}
use Rattle.paged_indexes.specs.Laws.{IsIndex}
use Rattle.paged_indexes.proofs.Indexing.{unopened_entries}
use Rattle.paged_indexes.proofs.PagesRead.{opened_is_index}
use Rattle.restore_reader.specs.Shown.{pages_of}
use Rattle.restore_reader.proofs.Opened.{opened_is_kept}
use Rattle.snapshot_files.specs.Indexes.{index_opened, kind_of_index, pages_at}
use Rattle.snapshot_files.proofs.Archives.{archive_read, layout_index}
use Rattle.core_state.proofs.Finding.{found_passes}
use Rattle.core_state.proofs.Found.{IsThere}

-- where the file stands
pub there_path : (snapshots : List Snapshot) (key : SnapshotKey) (name path : List ℕ) (t : IsThere snapshots key name path) → path ≡ file_path key name
there_path snapshots key name path t =
    let x = t.snapshot in
    let keyed : x.key ≡ key = (same_keys x.key key).0 (found_passes (λ y. same_key y.key key) snapshots x t.kept) in
    let named : (t.file).name ≡ name = (bytes_eq-Decides (t.file).name name).0 (found_passes (λ f. bytes_eq f.name name) x.files t.file t.named) in
    t.path_is ∙ ap₂ file_path keyed named

pub opens_as : (m : Files) (path : List ℕ) (kind : IndexKind) (p : IndexPages) → index_opened m path kind ≡ Ok p → opened m path kind ≡ Ok p
unfolding index_opened
opens_as m path kind p is = by_pages (opened m path kind) is
  where
    same : (a b : IndexPages) → ◌≡◌ {A = Result IndexPages Refusal} (Ok a) (Ok b) → a ≡ b
    same a b e = cc

    by_pages : (r : Result IndexPages PageFault) → pages_at path r ≡ Ok p → r ≡ Ok p
    by_pages (Ok q) e = ap Ok (same q p e)
    by_pages (Err fault) e = cc

module _ (m : Files) (snapshots : List Snapshot) (key : SnapshotKey) (name path : List ℕ) (t : IsThere snapshots key name path) (a : Archive)
    (there : get m path ≡ Some (file_text (archive a))) where
  pub kept_is : (p : IndexPages) → opened m path (kind_of_index name) ≡ Ok p → p ≡ pages_of name (file_path key name) (file_text (archive a))
  kept_is p is = opened_is_kept m name path (file_text (archive a)) p there is ∙ ap (λ q. pages_of name q (file_text (archive a))) (there_path snapshots key name path t)

  entries_are : FitsContent (archive a) → IsTrue (names_content (archive a) name) → entries_in (kind_of_index name) (archive_text a) ≡ Some (ends_from 0 a.pieces)
  entries_are fits kind = ap (λ k. entries_in k (archive_text a)) (layout_index a name kind) ∙ archive_read a fits

  -- it is opened
  is_opened : FitsContent (archive a) → IsTrue (names_content (archive a) name) → (p : IndexPages) × (opened m path (kind_of_index name) ≡ Ok p)
  unfolding file_text
  is_opened fits kind = by_pages (opened m path (kind_of_index name)) refl
    where
      some_none : (es : List Ended) → ◌≡◌ {A = Option (List Ended)} (Some es) None → ⊥
      some_none es e = cc

      by_pages : (r : Result IndexPages PageFault) → opened m path (kind_of_index name) ≡ r → (p : IndexPages) × (opened m path (kind_of_index name) ≡ Ok p)
      by_pages (Ok p) e = (p, e)
      by_pages (Err fault) e = absurd (some_none (ends_from 0 a.pieces) (sym (entries_are fits kind) ∙ unopened_entries m path (kind_of_index name) (archive_text a) fault there e))

  pub index_is_kept : FitsContent (archive a) → IsTrue (names_content (archive a) name) → IsIndex m (pages_of name (file_path key name) (file_text (archive a))) (ends_from 0 a.pieces)
  unfolding file_text
  index_is_kept fits kind =
      let (p, e) = is_opened fits kind in
      subst (λ q. IsIndex m q (ends_from 0 a.pieces)) (kept_is p e)
      (opened_is_index m path (archive_text a) (kind_of_index name) p (ends_from 0 a.pieces) there e (entries_are fits kind))

  pub index_opens : FitsContent (archive a) → IsTrue (names_content (archive a) name) → index_opened m path (kind_of_index name) ≡ Ok (pages_of name (file_path key name) (file_text (archive a)))
  unfolding index_opened
  index_opens fits kind = let (p, e) = is_opened fits kind in ap (pages_at path) e ∙ ap Ok (kept_is p e)

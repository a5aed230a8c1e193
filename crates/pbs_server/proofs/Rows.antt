-- The snapshots that the core keeps are told as LIST tells those of the plain store.
use Rattle.std.proofs.Common.{◌≡◌, false, List, get_or, length, map, min, sym, ap, ◌∙◌, arith}
use Rattle.std.specs.List.{All}
use Rattle.std.proofs.lemmas.List.{length-map}
use Rattle.store_types.specs.Names.{key_text}
use Rattle.store_files.specs.Archive.{Snapshot}
use Rattle.store_model.specs.AdminSteps.{list_row}
use Rattle.store_model.specs.Stands.{IsSnapshot}
use Rattle.store_model.specs.Store.{Store}
use Rattle.core_state.specs.declared.kept.Listed.{Listed}
use Rattle.core_state.specs.Shown.{shown_file, shown_snapshot}
use Rattle.core_admin.specs.Listings.{row_of}
use Rattle.core_admin.proofs.Filtering.{map_agree, map_twice}
use Rattle.pbs_server.specs.Ended.{rows_of}

-- a snapshot has 64 files at most
row_shown : (x : Snapshot) → IsSnapshot x → row_of (shown_snapshot x) ≡ list_row x
row_shown x is =
    let few = is.count in
    let count : min (length (map (shown_file x.key) x.files)) 255 ≡ length x.files = omega (arith, length-map x.files (shown_file x.key), few) in
    ap (λ n. record { snapshot = key_text x.key; damaged = false; files = n }) count

pub rows_shown : (listed : List Listed) (s : Store) → map (λ x. x.kept) listed ≡ map shown_snapshot s.snapshots → All IsSnapshot s.snapshots → rows_of listed ≡ map list_row s.snapshots
rows_shown listed s shown each =
    sym (map_twice (λ (x : Listed). x.kept) row_of listed)
    ∙ ap (map row_of) shown
    ∙ map_twice shown_snapshot row_of s.snapshots
    ∙ map_agree (λ x. row_of (shown_snapshot x)) list_row s.snapshots (λ i d lt. row_shown (get_or s.snapshots i d) (each i d lt))

use Rattle.std.proofs.Common.{◌≡◌, ◌∙◌, List, ℕ, map, string_bytes, ap, subst}
use Rattle.std.specs.List.{filter_map}
use Rattle.std.proofs.lemmas.List.Sorted.{All-permutation}
use Rattle.disk_trait.specs.Files.{Files}
use Rattle.snapshot_files.specs.Grouped.{AreOrdered, IsOfGroup, group_folder, key_among}
use Rattle.snapshot_files.specs.Scanned.{names_under}
use Rattle.snapshot_files.proofs.GroupKeys.{lists_group}
use Rattle.snapshot_files.proofs.grouping.keys_in_group.Goals as goal

pub returns-clause-keys : goal.returns-clause-keys
returns-clause-keys g c =
    let d = g.D.Disk in
    let now : Files = d.content c.args.disk.now in
    let group = c.args.group.now in
    let sorted = c.ordered.result.items in
    λ h.
    let folder : c.as_str.result.now ≡ group_folder group = c.as_str.ensures.value ∙ c.in_ok-folder.ensures in
    let listed : map string_bytes c.deref.result.now ≡ names_under (group_folder group) now =
    ap (map string_bytes) c.deref.ensures.value ∙ c.in_ok-names.ensures.names h ∙ ap (λ (f : List ℕ). names_under f now) folder in
    lists_group now group sorted
    (subst (λ xs. AreOrdered xs sorted) (c.in_ok-keys.ensures.value ∙ ap (filter_map (key_among group)) listed) c.ordered.ensures)

pub returns-clause-named : goal.returns-clause-named
returns-clause-named g c =
    All-permutation (IsOfGroup c.args.group.now) c.in_ok-keys.keys.items c.ordered.result.items c.ordered.ensures.same c.in_ok-keys.ensures.named

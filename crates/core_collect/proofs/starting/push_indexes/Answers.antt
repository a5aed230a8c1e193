use Rattle.std.proofs.Common.{◌≡◌, ◌∙◌, ◌++◌, ◌∷◌, [], filter, map, sym, ap, arith, rules}
use Rattle.std.proofs.lemmas.List.{take_all}
use Rattle.store_types.specs.FileNames.{is_index_name}
use Rattle.core_collect.proofs.StartLemmas.{index_of, indexes_kept, indexes_pushed}
use Rattle.core_collect.proofs.starting.push_indexes.Goals as goal
use Rattle.core_collect.proofs.starting.push_indexes.Goals.{then-is_index+in_ok-clone+in_ok-push, else-is_index}

pub loop-file-preserved : goal.loop-file-preserved
loop-file-preserved c =
    let xs = c.as_slice-file-items.result.now in
    let i = c.loop-file.file-index in
    let x = c.file-item.result in
    let old = c.args.indexes.now.items in
    elim c.if-is_index.branch [
      | then-is_index+in_ok-clone+in_ok-push w ↦
          let cloned : w.in_ok-clone.field-0 ≡ x.name = search rules in
          indexes_pushed c.args.listed.now.number xs i x old c.loop-file.indexes.items c.if-is_index.indexes.items (omega arith) c.file-item.is (sym c.is_index.ensures ∙ w.if-is_index.true)
          (ap (λ v. v.items) w.indexes-is ∙ w.in_ok-push.ensures.items ∙ ap (λ name. c.loop-file.indexes.items ++ record { snapshot = c.args.listed.now.number; name = name } ∷ []) cloned) c.loop-file.invariant
      | else-is_index w ↦
          indexes_kept c.args.listed.now.number xs i x old c.loop-file.indexes.items c.if-is_index.indexes.items (omega arith) c.file-item.is (sym c.is_index.ensures ∙ w.if-is_index.false)
          (ap (λ v. v.items) w.indexes-is) c.loop-file.invariant
    ]

pub returns : goal.returns
returns c =
    let xs = c.as_slice-file-items.result.now in
    c.loop-file.invariant
    ∙ ap (λ fs. c.args.indexes.now.items ++ map (index_of c.args.listed.now.number) (filter (λ f. is_index_name f.name) fs)) (take_all c.loop-file.file-index xs (omega arith) ∙ c.as_slice-file-items.ensures)

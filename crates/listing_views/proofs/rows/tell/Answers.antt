use Rattle.std.proofs.Common.{◌≡◌, ◌≤◌, ◌<◌, ◌∙◌, ◌++◌, ◌∷◌, [], true, false, ap, sym, length, take, append-nil, get_or, rules}
use Rattle.std.proofs.lemmas.List.{take_all}
use Rattle.store_types.specs.declared.limits.TheConstants.{LIST_LIMIT}
use Rattle.listing_views.specs.Rows.{is_behind, lent_key}
use Rattle.listing_views.proofs.Chunking.{full_tells, more_tells, same_tells}
use Rattle.listing_views.proofs.rows.tell.Goals.{then-is_behind+in_ok-clone+in_ok-push, else-is_behind}
use Rattle.listing_views.proofs.rows.tell.Goals as goal

pub loop-row-init : goal.loop-row-init
loop-row-init c = sym (ap (take LIST_LIMIT) (append-nil c.args.told.now.items) ∙ take_all LIST_LIMIT c.args.told.now.items c.requires.few)

pub returns-then-len-ge-LIST_LIMIT : goal.returns-then-len-ge-LIST_LIMIT
returns-then-len-ge-LIST_LIMIT c =
    let full : LIST_LIMIT ≤ length c.loop-row.told.items = search rules in
    full_tells LIST_LIMIT c.loop-row.row-index (is_behind (lent_key c.args.after)) c.args.told.now.items c.args.rows.now c.loop-row.told.items c.loop-row.invariant full

pub loop-row-preserved : goal.loop-row-preserved
loop-row-preserved c =
    let p = is_behind (lent_key c.args.after) in
    let old = c.args.told.now.items in
    let rows = c.args.rows.now in
    let i = c.loop-row.row-index in
    let x = c.row-item.result in
    let room : length c.loop-row.told.items < LIST_LIMIT = search rules in
    let within : i < length rows = search rules in
    let at : x ≡ get_or rows i x = search rules in
    elim c.if-is_behind.branch [
      | then-is_behind+in_ok-clone+in_ok-push w ↦
          let passes : p x ≡ true = sym c.is_behind.ensures ∙ w.if-is_behind.true in
          let copy : w.in_ok-clone.field-0 ≡ x = search rules in
          ap (λ v. v.items) w.told-is ∙ w.in_ok-push.ensures.items ∙ ap (λ y. c.loop-row.told.items ++ y ∷ []) copy
          ∙ more_tells LIST_LIMIT i p old rows c.loop-row.told.items x c.loop-row.invariant room within at passes
      | else-is_behind w ↦
          let fails : p x ≡ false = sym c.is_behind.ensures ∙ w.if-is_behind.false in
          ap (λ v. v.items) w.told-is ∙ same_tells LIST_LIMIT i p old rows c.loop-row.told.items x c.loop-row.invariant within at fails
    ]

use Rattle.std.proofs.Common.{◌/◌, ◌∙◌, ◌++◌, ap, drop, sym, subst, take, append_assoc}
use Rattle.std.proofs.lemmas.List.{take-append-drop}
use Rattle.listing_views.specs.declared.rows.TheConstants.{MOST}
use Rattle.listing_views.specs.Rising.{Rises}
use Rattle.listing_views.specs.Rows.{all_rows}
use Rattle.listing_views.proofs.Chunking.{pushed}
use Rattle.listing_views.proofs.Ordered.{rises_drop, rises_take}
use Rattle.listing_views.proofs.chunks.push_rows.Goals as goal

pub invariant_of-new : goal.invariant_of-new
invariant_of-new c = record { rises = subst Rises (sym c.in_ok-back.ensures.items) (rises_take (MOST / 2) c.args.listed.items c.requires.rises) }

pub invariant_of-new-then-len-gt-MOST : goal.invariant_of-new-then-len-gt-MOST
invariant_of-new-then-len-gt-MOST c = record { rises = subst Rises (sym c.in_ok-back.ensures.tail) (rises_drop (MOST / 2) c.args.listed.items c.requires.rises) }

pub returns-in_ok-push-2 : goal.returns-in_ok-push-2
returns-in_ok-push-2 c =
    let into = c.args.into.now.items in
    let front = take (MOST / 2) c.args.listed.items in
    let back = drop (MOST / 2) c.args.listed.items in
    pushed c.push.new.self.items c.push-then-len-gt-MOST.new.self.items c.in_ok-new-2.field-0 back c.in_ok-push-2.ensures.items (ap (λ z. z.rows.items) c.in_ok-new-2.ensures.ok ∙ c.in_ok-back.ensures.tail)
    ∙ ap (λ l. l ++ back) (pushed into c.push.new.self.items c.in_ok-new.field-0 front c.in_ok-push.ensures.items (ap (λ z. z.rows.items) c.in_ok-new.ensures.ok ∙ c.in_ok-back.ensures.items))
    ∙ append_assoc (all_rows into) front back ∙ ap (λ l. all_rows into ++ l) (take-append-drop (MOST / 2) c.args.listed.items)

pub returns-in_ok-push-3 : goal.returns-in_ok-push-3
returns-in_ok-push-3 c =
    pushed c.args.into.now.items c.push-else-len-gt-MOST.new.self.items c.in_ok-new-3.field-0 c.args.listed.items c.in_ok-push-3.ensures.items (ap (λ z. z.rows.items) c.in_ok-new-3.ensures.ok)

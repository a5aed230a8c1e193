use Rattle.std.proofs.Common.{◌≡◌, ◌≤◌, ◌-◌, ◌∙◌, [], Ok, IfErr, Some, None, cond, sym, ap, subst, refl, rules, arith}
use Rattle.std.proofs.lemmas.Bool.{le-leb, lt-leb}
use Rattle.std.proofs.lemmas.Result.{on_ok_weaker}
use Rattle.std.specs.Option.{option_map}
use Rattle.restore_reader.specs.Cutting.{total_of}
use Rattle.restore_reader.specs.Plan.{ends_of}
use Rattle.restore_reader.proofs.Apart.{total_by}
use Rattle.store_stops.specs.Stops.{Gives, IfRefused}
use Rattle.core_reader.specs.Chunks.{behind, digests_of, parts_at}
use Rattle.core_reader.specs.Ranges.{HoldsFront, RefusesFront, front_at, parts_on}
use Rattle.core_reader.proofs.FrontRange.{hand_needed}
use Rattle.core_reader.proofs.Loads.{among_text}
use Rattle.core_reader.proofs.PageReads.{behind_none, if_err}
use Rattle.core_reader.proofs.paging.read_front.Goals as goal

-- ---- nothing is at hand, or a page that begins behind the front

pub returns-in_default-clause-exact : goal.returns-in_default-clause-exact
returns-in_default-clause-exact g c = λ h.
    let m = g.D.Disk.content c.args.disk.now in
    let none : option_map (λ p. p.now) c.args.at_hand ≡ None = search rules in
    behind_none c.args.bytes.now.items _ (ap (λ o. front_at m o c.args.from c.args.to) none)

pub returns-then-page-from-clause-exact : goal.returns-then-page-from-clause-exact
returns-then-page-from-clause-exact g c = λ h.
    let m = g.D.Disk.content c.args.disk.now in
    let x = c.in-Some.page.now in
    let some : option_map (λ p. p.now) c.args.at_hand ≡ Some x = search rules in
    behind_none c.args.bytes.now.items _
    (ap (λ o. front_at m o c.args.from c.args.to) some ∙ ap (λ b. cond b (parts_at m (parts_on c.args.from c.args.to x)) (Ok [])) (lt-leb x.start c.args.from (omega arith)))

-- ---- its chunks are read

pub returns-clause-exact : goal.returns-clause-exact
returns-clause-exact g c = λ h.
    let m = g.D.Disk.content c.args.disk.now in
    let x = c.in-Some.page.now in
    let some : option_map (λ p. p.now) c.args.at_hand ≡ Some x = search rules in
    subst (λ r. Gives (λ _. c.read_pieces.new.bytes.items) c.read_pieces.result (behind c.args.bytes.now.items r))
    (sym (ap (λ o. front_at m o c.args.from c.args.to) some ∙ ap (λ b. cond b (parts_at m (parts_on c.args.from c.args.to x)) (Ok [])) (le-leb x.start c.args.from (omega arith))))
    (c.read_pieces.ensures.value h)

pub returns-clause-held : goal.returns-clause-held
returns-clause-held g c = λ h holds.
    let some : option_map (λ p. p.now) c.args.at_hand ≡ Some c.in-Some.page.now = search rules in
    c.read_pieces.ensures.held h (subst (λ o. HoldsFront (g.D.Disk.content c.args.disk.now) o c.args.from c.args.to) some holds)

pub returns-clause-size : goal.returns-clause-size
returns-clause-size g c =
    let x = c.in-Some.page.now in
    let total : total_of (parts_on c.args.from c.args.to x) ≤ c.args.to - c.args.from = total_by c.args.from c.args.to x.start (ends_of x.entries.items) (parts_on c.args.from c.args.to x) refl x.steps in
    on_ok_weaker c.read_pieces.result (λ size. omega (arith, size, total)) c.read_pieces.ensures.size

pub returns-clause-refusal : goal.returns-clause-refusal
returns-clause-refusal g c =
    let x = c.in-Some.page.now in
    let some : option_map (λ p. p.now) c.args.at_hand ≡ Some x = search rules in
    subst (λ o. IfErr c.read_pieces.result (IfRefused (RefusesFront o c.args.from c.args.to))) (sym some)
    (if_err c.read_pieces.result (λ stop. hand_needed x c.args.from c.args.to stop) c.read_pieces.ensures.damage)

pub returns-clause-text : goal.returns-clause-text
returns-clause-text g c = if_err c.read_pieces.result (λ stop. among_text (digests_of (parts_on c.args.from c.args.to c.in-Some.page.now)) stop) c.read_pieces.ensures.damage

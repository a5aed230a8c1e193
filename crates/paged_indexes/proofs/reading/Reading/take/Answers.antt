use Rattle.std.proofs.Common.{◌≡◌, Option, Some, IfSome, sym, subst, ◌∙◌}
use Rattle.paged_indexes.specs.Handing.{HandsOn}
use Rattle.paged_indexes.specs.declared.reading.Reading.{Reading}
use Rattle.paged_indexes.specs.Steps.{entries_of, stepped}
use Rattle.paged_indexes.proofs.Stepping.{rise_more, stepped_rises}
use Rattle.paged_indexes.proofs.reading.Reading.take.Goals as goal

if_some : {A : Type 0} (o : Option A) (x : A) (P : A → Type 0) → o ≡ Some x → IfSome o P → P x
if_some o x P is h = subst (λ q. IfSome q P) is h

pub returns-clause-rises : goal.returns-clause-rises
returns-clause-rises g c = λ h.
    let old = c.args.self.now in
    let new : Reading = record { opening = c.take.new.self; ends = c.push.new.self; end = c.in-Some.end } in
    let up = stepped_rises old.end c.in-Some.end (entries_of c.as_slice.result.now) (sym c.in_ok-end.ensures.value ∙ c.in-Some.is) in
    rise_more old new up c.in_ok-push.ensures.items h

pub returns-clause-hands : goal.returns-clause-hands
returns-clause-hands g c =
    let taken = g.T.TakesEntries.taken in
    let start = c.args.self.now.end in
    let page = c.as_slice.ensures.value in
    record {
      len = c.in_ok-take.ensures.size;
      small = c.in_ok-take.ensures.bytes;
      notes = c.in_ok-take.ensures.notes;
      ends = c.in_ok-push.ensures.items;
      steps = subst (λ b. stepped start (entries_of b) ≡ Some c.in-Some.end) page (sym c.in_ok-end.ensures.value ∙ c.in-Some.is);
      hands = subst (λ b. HandsOn taken start (entries_of b) c.args.taker.now c.hand_on.new.taker) page
          (if_some c.in_ok-end.field-0 c.in-Some.end (λ _. HandsOn taken start (entries_of c.as_slice.result.now) c.args.taker.now c.hand_on.new.taker) c.in-Some.is c.in_ok-end.ensures.hands);
    }

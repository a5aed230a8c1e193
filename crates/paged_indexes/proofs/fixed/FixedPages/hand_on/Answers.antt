use Rattle.std.proofs.Common.{length, sym, ap, subst}
use Rattle.store_files.specs.Cells.{cells}
use Rattle.paged_indexes.specs.declared.pieces.Cut.{Cut}
use Rattle.paged_indexes.specs.Fixed.{Cuts, FixedPaged, HasSizes, cut_of, ends_in, start_in}
use Rattle.paged_indexes.specs.Handing.{HandsOn}
use Rattle.paged_indexes.proofs.Paging.{fixed_page}
use Rattle.paged_indexes.proofs.fixed.FixedPages.hand_on.Goals as goal

pub hand_on-requires : goal.hand_on-requires
hand_on-requires g c =
    let p = c.args.self.now in
    let has : HasSizes p.pages p.size p.chunk_size = subst (λ (q : FixedPaged). HasSizes q.pages q.size q.chunk_size) c.self.view_is c.self.invariant in
    let cuts = (fixed_page p c.args.i c.args.page.now has c.requires.place c.requires.len).cuts in
    subst (λ (k : Cut). Cuts k c.start.result (length (cells 32 c.as_slice.result.now))) (sym (ap cut_of c.self.view_is))
    (subst (λ s. Cuts (cut_of p) s (length (cells 32 c.as_slice.result.now))) (sym c.start.ensures)
    (subst (λ b. Cuts (cut_of p) (start_in p c.args.i) (length (cells 32 b))) (sym c.as_slice.ensures.value) cuts))

pub returns : goal.returns
returns g c =
    let p = c.args.self.now in
    let taken = g.T.TakesEntries.taken in
    let kept : FixedPaged = record { pages = c.self.inside.pages; size = c.self.inside.size; chunk_size = c.self.inside.chunk_size } in
    let has : HasSizes p.pages p.size p.chunk_size = subst (λ (q : FixedPaged). HasSizes q.pages q.size q.chunk_size) c.self.view_is c.self.invariant in
    record {
      entries = ends_in (cut_of p) (start_in p c.args.i) c.args.page.now;
      told_is = (fixed_page p c.args.i c.args.page.now has c.requires.place c.requires.len).told;
      hands = subst (λ (k : Cut). HandsOn taken (start_in p c.args.i) (ends_in k (start_in p c.args.i) c.args.page.now) c.args.taker.now c.hand_on.new.taker) (ap cut_of c.self.view_is)
          (subst (λ b. HandsOn taken (start_in p c.args.i) (ends_in (cut_of kept) (start_in p c.args.i) b) c.args.taker.now c.hand_on.new.taker) c.as_slice.ensures.value
          (subst (λ s. HandsOn taken s (ends_in (cut_of kept) s c.as_slice.result.now) c.args.taker.now c.hand_on.new.taker) c.start.ensures c.in_ok-hand_on.ensures.hands));
    }

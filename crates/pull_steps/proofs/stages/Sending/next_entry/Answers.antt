use Rattle.std.proofs.Common.{◌≡◌, ◌<◌, length, None, Some, sym, ap, ◌∙◌, arith}
use Rattle.store_history.specs.Pulling.{size_sent}
use Rattle.pull_steps.specs.Indexes.{fits_at}
use Rattle.pull_steps.specs.States.{shown_stock}
use Rattle.pull_steps.proofs.Sent.{chunks_end, goes_past, mismatches, size_is, stops_at}
use Rattle.pull_steps.proofs.stages.Sending.next_entry.Goals as goal

pub returns-in_default : goal.returns-in_default
returns-in_default c =
    let s = c.args.self.now in
    let e = c.index.result.now in
    let lt : c.loop-place.place < length s.index.entries.items = omega (arith, c.len-place-end.ensures, s.index.entries.ok.0) in
    let unsent : size_sent (shown_stock s.stock) e ≡ None = size_is s e ∙ sym c.find.ensures ∙ c.in_default.is in
    record { next = sym c.loop-place.invariant ∙ stops_at s c.loop-place.place e lt c.index.ensures unsent; within = lt }

pub returns-then-not-fits : goal.returns-then-not-fits
returns-then-not-fits c =
    let s = c.args.self.now in
    let e = c.index.result.now in
    let lt : c.loop-place.place < length s.index.entries.items = omega (arith, c.len-place-end.ensures, s.index.entries.ok.0) in
    let sent : size_sent (shown_stock s.stock) e ≡ Some c.in-Some.size = size_is s e ∙ sym c.find.ensures ∙ c.in-Some.is in
    record { next = sym c.loop-place.invariant ∙ mismatches s c.loop-place.place e lt c.index.ensures c.in-Some.size sent (sym (ap (fits_at s.index c.loop-place.place) c.from.ensures) ∙ sym c.fits.ensures ∙ c.if-not-fits.true); within = tt }

pub loop-place-preserved : goal.loop-place-preserved
loop-place-preserved c =
    let s = c.args.self.now in
    let e = c.index.result.now in
    let lt : c.loop-place.place < length s.index.entries.items = omega (arith, c.len-place-end.ensures, s.index.entries.ok.0) in
    let sent : size_sent (shown_stock s.stock) e ≡ Some c.in-Some.size = size_is s e ∙ sym c.find.ensures ∙ c.in-Some.is in
    sym (goes_past s c.loop-place.place e lt c.index.ensures c.in-Some.size sent (sym (ap (fits_at s.index c.loop-place.place) c.from.ensures) ∙ sym c.fits.ensures ∙ c.if-not-fits.false)) ∙ c.loop-place.invariant

pub returns : goal.returns
returns c =
    let s = c.args.self.now in
    record { next = sym c.loop-place.invariant ∙ chunks_end s c.loop-place.place (omega (arith, c.len-place-end.ensures, s.index.entries.ok.0)); within = tt }

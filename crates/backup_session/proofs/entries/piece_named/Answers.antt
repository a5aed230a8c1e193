use Rattle.std.proofs.Common.{◌≡◌, None, sym, ◌∙◌, rules}
use Rattle.std.specs.FinMap.{get, get-entries}
use Rattle.backup_session.specs.Indexes.{layout_view}
use Rattle.backup_session.proofs.Pools.{entry_unknown, entry_misplaced, entry_unfit, entry_named}
use Rattle.backup_session.proofs.entries.piece_named.Goals as goal

pub returns-in_default-clause-exact : goal.returns-in_default-clause-exact
returns-in_default-clause-exact c =
    let none : get c.args.pool.now (c.args.entry.now.0).0 ≡ None = search rules in
    sym (entry_unknown c.args.pool.now (layout_view c.args.layout) c.args.place c.args.end c.args.entry.now none)

pub returns-then-entry-end-clause-exact : goal.returns-then-entry-end-clause-exact
returns-then-entry-end-clause-exact c =
    sym (entry_misplaced c.args.pool.now (layout_view c.args.layout) c.args.place c.args.end c.args.entry.now c.in-Some.length (sym c.in-Some.ensures) c.if-entry-end.true)

pub returns-then-not-fits-clause-exact : goal.returns-then-not-fits-clause-exact
returns-then-not-fits-clause-exact c =
    sym (entry_unfit c.args.pool.now (layout_view c.args.layout) c.args.place c.args.end c.args.entry.now c.in-Some.length (sym c.in-Some.ensures) c.if-entry-end.false
    (sym c.fits.ensures ∙ c.if-not-fits.true))

pub returns-clause-exact : goal.returns-clause-exact
returns-clause-exact c =
    sym (entry_named c.args.pool.now (layout_view c.args.layout) c.args.place c.args.end c.args.entry.now c.in-Some.length (sym c.in-Some.ensures) c.if-entry-end.false
    (sym c.fits.ensures ∙ c.if-not-fits.false))

pub returns-clause-short : goal.returns-clause-short
returns-clause-short c = (c.requires (c.args.entry.now.0).0 c.in-Some.length (sym (get-entries c.args.pool.now (c.args.entry.now.0).0) ∙ sym c.in-Some.ensures)).1

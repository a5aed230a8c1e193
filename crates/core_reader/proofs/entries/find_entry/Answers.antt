use Rattle.std.proofs.Common.{◌≡◌, ◌∙◌, None, Some, IfOk, sym, ap, ap₂, subst}
use Rattle.std.specs.FinMap.{get}
use Rattle.std.specs.Option.{option_map}
use Rattle.snapshot_files.specs.Indexes.{kind_of_index}
use Rattle.core_state.specs.Indexed.{open_of}
use Rattle.core_reader.specs.Entries.{IsNext, at_hand}
use Rattle.core_reader.specs.EntryReads.{FindsNext, entry_calls}
use Rattle.core_reader.proofs.Called.{calls_as}
use Rattle.core_reader.proofs.EntryFound.{finds_first, finds_next, turns_first, turns_next}
use Rattle.core_reader.proofs.entries.find_entry.Goals as goal

pub returns-in-Some-clause-exact : goal.returns-in-Some-clause-exact
returns-in-Some-clause-exact g c =
    let d = g.D.Disk in
    let row = c.args.row.now in
    let name = c.args.name.now in
    let place = c.args.place in
    let is : open_of name row ≡ Some c.in-Some.index.now = sym c.open_named.ensures ∙ ap (option_map (λ o. o.now)) c.in-Some.is in
    let hand = c.page_at_hand-at_hand.ensures in
    finds_next d c.args.disk.now c.args.path.now name row place _ c.in-Some.index.now is
    (subst (λ o. FindsNext d c.args.disk.now c.args.path.now c.in-Some.index.now.pages o place c.find_next.result) hand c.find_next.ensures.exact)

pub returns-in-Some-clause-turn : goal.returns-in-Some-clause-turn
returns-in-Some-clause-turn g c =
    let d = g.D.Disk in
    let row = c.args.row.now in
    let name = c.args.name.now in
    let place = c.args.place in
    let is : open_of name row ≡ Some c.in-Some.index.now = sym c.open_named.ensures ∙ ap (option_map (λ o. o.now)) c.in-Some.is in
    let hand = c.page_at_hand-at_hand.ensures in
    turns_next d c.args.disk.now c.args.path.now name row place _ c.in-Some.index.now is
    (subst (λ o. IfOk c.find_next.result (λ f. IsNext c.in-Some.index.now.pages o name place f.turn)) hand c.find_next.ensures.turn)

pub returns-in-None-clause-exact : goal.returns-in-None-clause-exact
returns-in-None-clause-exact g c =
    let d = g.D.Disk in
    let row = c.args.row.now in
    let name = c.args.name.now in
    let place = c.args.place in
    let none : open_of name row ≡ None = sym c.open_named.ensures ∙ ap (option_map (λ o. o.now)) c.in-None.is in
    finds_first d c.args.disk.now c.args.path.now name row place _ none c.find_first.ensures.exact

pub returns-in-None-clause-turn : goal.returns-in-None-clause-turn
returns-in-None-clause-turn g c =
    let d = g.D.Disk in
    let row = c.args.row.now in
    let name = c.args.name.now in
    let place = c.args.place in
    let none : open_of name row ≡ None = sym c.open_named.ensures ∙ ap (option_map (λ o. o.now)) c.in-None.is in
    turns_first d c.args.disk.now c.args.path.now name row place _ none c.find_first.ensures.turn

-- ---- how often the disk is called

pub returns-in-Some-clause-calls : goal.returns-in-Some-clause-calls
returns-in-Some-clause-calls g c =
    let d = g.D.Disk in
    let disk = c.args.disk.now in
    let name = c.args.name.now in
    let is : open_of name c.args.row.now ≡ Some c.in-Some.index.now = sym c.open_named.ensures ∙ ap (option_map (λ o. o.now)) c.in-Some.is in
    calls_as d disk _ _ _ (ap₂ (λ o p. entry_calls o p (kind_of_index name) (get (d.content disk) c.args.path.now)) (sym is) c.page_at_hand-at_hand.ensures) c.find_next.ensures.calls

pub returns-in-None-clause-calls : goal.returns-in-None-clause-calls
returns-in-None-clause-calls g c =
    let d = g.D.Disk in
    let disk = c.args.disk.now in
    let row = c.args.row.now in
    let name = c.args.name.now in
    let none : open_of name row ≡ None = sym c.open_named.ensures ∙ ap (option_map (λ o. o.now)) c.in-None.is in
    calls_as d disk _ _ _ (ap (λ o. entry_calls o (at_hand row name c.args.place) (kind_of_index name) (get (d.content disk) c.args.path.now)) (sym none)) c.find_first.ensures.calls

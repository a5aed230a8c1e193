use Rattle.std.proofs.Common.{◌≡◌, ◌∙◌, None, Some, Err, refl, sym, ap, subst, rules}
use Rattle.std.specs.Option.{option_map}
use Rattle.snapshot_files.specs.Indexes.{page_entries}
use Rattle.restore_reader.specs.Plan.{ends_of}
use Rattle.store_stops.specs.Stops.{Gives}
use Rattle.core_state.specs.declared.indexes.OpenPage.{OpenPage}
use Rattle.core_reader.specs.Entries.{entries_on}
use Rattle.core_reader.specs.EntryReads.{calls_beside}
use Rattle.core_reader.specs.declared.entries.Found.{Found}
use Rattle.core_reader.specs.declared.entries.Turn.TheVariants.{Stay, ToPage}
use Rattle.core_reader.proofs.Called.{calls_as}
use Rattle.core_reader.proofs.EntryFound.{finds_it, finds_no_digest, finds_no_page, finds_none, read_as}
use Rattle.core_reader.proofs.entries.find_next.Goals as goal

pub returns-in_err-want_entry-clause-exact : goal.returns-in_err-want_entry-clause-exact
returns-in_err-want_entry-clause-exact g c =
    let d = g.D.Disk in
    let disk = c.args.disk.now in
    let path = c.args.path.now in
    let place = c.args.place in
    let pages = c.args.pages.now in
    finds_none d disk _ _ pages (option_map (λ p. p.now) c.args.at_hand) place path (λ h. refl) c.in_err-want_entry.field-0.0 _ c.from_residual.ensures.1 (sym c.want_entry.ensures.value ∙ c.in_err-want_entry.was)

pub returns-in_err-digest-clause-exact : goal.returns-in_err-digest-clause-exact
returns-in_err-digest-clause-exact g c =
    let d = g.D.Disk in
    let disk = c.args.disk.now in
    let path = c.args.path.now in
    let place = c.args.place in
    let pages = c.args.pages.now in
    let wanted = sym c.want_entry.ensures.value ∙ c.in_ok-want_entry.was in
    let some : option_map (λ p. p.now) c.args.at_hand ≡ Some c.in-Some.page.now = search rules in
    let es = c.deref.result.now in
    let read = λ (h : d.honest disk). read_as _ es c.in-Some.page.now.entries.items (ap (λ o. entries_on o place (d.content disk) path pages) some) c.deref.ensures.value in
    finds_no_digest d disk _ _ pages (option_map (λ p. p.now) c.args.at_hand) place path (λ h. refl) wanted (ends_of es) read c.in_err-digest.field-0.0 _ c.from_residual-in_err-digest.ensures.1 c.in_err-digest.ensures.value

pub returns-in-Some-clause-exact : goal.returns-in-Some-clause-exact
returns-in-Some-clause-exact g c =
    let d = g.D.Disk in
    let disk = c.args.disk.now in
    let path = c.args.path.now in
    let place = c.args.place in
    let pages = c.args.pages.now in
    let wanted = sym c.want_entry.ensures.value ∙ c.in_ok-want_entry.was in
    let some : option_map (λ p. p.now) c.args.at_hand ≡ Some c.in-Some.page.now = search rules in
    let es = c.deref.result.now in
    let read = λ (h : d.honest disk). read_as _ es c.in-Some.page.now.entries.items (ap (λ o. entries_on o place (d.content disk) path pages) some) c.deref.ensures.value in
    let found : Found = record { digest = c.in_ok-digest.digest; turn = Stay } in
    finds_it d disk _ _ pages (option_map (λ p. p.now) c.args.at_hand) place path (λ h. refl) wanted (ends_of es) read found c.in_ok-digest.ensures.value (λ h. tt)

pub returns-in_err-page-clause-exact : goal.returns-in_err-page-clause-exact
returns-in_err-page-clause-exact g c =
    let d = g.D.Disk in
    let disk = c.args.disk.now in
    let path = c.args.path.now in
    let place = c.args.place in
    let pages = c.args.pages.now in
    let wanted = sym c.want_entry.ensures.value ∙ c.in_ok-want_entry.was in
    let none : option_map (λ p. p.now) c.args.at_hand ≡ None = search rules in
    finds_no_page d disk _ _ pages (option_map (λ p. p.now) c.args.at_hand) place path (λ h. refl) wanted (λ (p : OpenPage). ends_of p.entries.items) c.in_err-page.field-0.0 _ c.from_residual-in_err-page.ensures.1
    (λ h. subst (λ o. Gives (λ (p : OpenPage). ends_of p.entries.items) (Err c.in_err-page.field-0.0) (entries_on o place (d.content disk) path pages)) (sym none) (c.in_err-page.ensures.exact h))

pub returns-in_err-digest-2-clause-exact : goal.returns-in_err-digest-2-clause-exact
returns-in_err-digest-2-clause-exact g c =
    let d = g.D.Disk in
    let disk = c.args.disk.now in
    let path = c.args.path.now in
    let place = c.args.place in
    let pages = c.args.pages.now in
    let wanted = sym c.want_entry.ensures.value ∙ c.in_ok-want_entry.was in
    let none : option_map (λ p. p.now) c.args.at_hand ≡ None = search rules in
    let es = c.deref-2.result.now in
    let read = λ (h : d.honest disk). read_as _ es c.in_ok-page.page.entries.items (ap (λ o. entries_on o place (d.content disk) path pages) none ∙ c.in_ok-page.ensures.exact h) c.deref-2.ensures.value in
    finds_no_digest d disk _ _ pages (option_map (λ p. p.now) c.args.at_hand) place path (λ h. refl) wanted (ends_of es) read c.in_err-digest-2.field-0.0 _ c.from_residual-in_err-digest-2.ensures.1 c.in_err-digest-2.ensures.value

pub returns-clause-exact : goal.returns-clause-exact
returns-clause-exact g c =
    let d = g.D.Disk in
    let disk = c.args.disk.now in
    let path = c.args.path.now in
    let place = c.args.place in
    let pages = c.args.pages.now in
    let wanted = sym c.want_entry.ensures.value ∙ c.in_ok-want_entry.was in
    let none : option_map (λ p. p.now) c.args.at_hand ≡ None = search rules in
    let es = c.deref-2.result.now in
    let read = λ (h : d.honest disk). read_as _ es c.in_ok-page.page.entries.items (ap (λ o. entries_on o place (d.content disk) path pages) none ∙ c.in_ok-page.ensures.exact h) c.deref-2.ensures.value in
    let found : Found = record { digest = c.in_ok-digest-2.digest; turn = ToPage c.in_ok-page.page } in
    finds_it d disk _ _ pages (option_map (λ p. p.now) c.args.at_hand) place path (λ h. refl) wanted (ends_of es) read found c.in_ok-digest-2.ensures.value
    (λ h. ap (page_entries (d.content disk) path pages) c.in_ok-page.ensures.page.number ∙ c.in_ok-page.ensures.exact h)

pub returns-clause-turn : goal.returns-clause-turn
returns-clause-turn g c =
    let none : option_map (λ p. p.now) c.args.at_hand ≡ None = search rules in
    (none, c.in_ok-page.ensures.page)

-- ---- how often the disk is called

pub returns-in_err-page-clause-calls : goal.returns-in_err-page-clause-calls
returns-in_err-page-clause-calls g c =
    let none : option_map (λ p. p.now) c.args.at_hand ≡ None = search rules in
    calls_as g.D.Disk c.args.disk.now _ _ _ (ap calls_beside (sym none)) c.read_page.ensures.calls

pub returns-in_err-digest-2-clause-calls : goal.returns-in_err-digest-2-clause-calls
returns-in_err-digest-2-clause-calls g c =
    let none : option_map (λ p. p.now) c.args.at_hand ≡ None = search rules in
    calls_as g.D.Disk c.args.disk.now _ _ _ (ap calls_beside (sym none)) c.read_page.ensures.calls

pub returns-clause-calls : goal.returns-clause-calls
returns-clause-calls g c =
    let none : option_map (λ p. p.now) c.args.at_hand ≡ None = search rules in
    calls_as g.D.Disk c.args.disk.now _ _ _ (ap calls_beside (sym none)) c.read_page.ensures.calls

use Rattle.std.proofs.Common.{◌∙◌, ◌*◌, ◌/◌, None, refl, sym, ap}
use Rattle.std.specs.FinMap.{get}
use Rattle.snapshot_files.specs.Indexes.{index_opened, kind_of_index}
use Rattle.index_pages.specs.Calls.{opening_calls}
use Rattle.paged_indexes.specs.Calls.{entry_width}
use Rattle.restore_reader.specs.Plan.{ends_of}
use Rattle.core_state.specs.declared.indexes.OpenIndex.{OpenIndex}
use Rattle.core_state.specs.declared.indexes.OpenPage.{OpenPage}
use Rattle.core_reader.specs.declared.entries.Found.{Found}
use Rattle.core_reader.specs.declared.entries.PageTaken.{PageTaken}
use Rattle.core_reader.specs.declared.entries.Turn.TheVariants.{ToIndex}
use Rattle.core_reader.proofs.Called.{calls_as}
use Rattle.core_reader.proofs.EntryFound.{finds_it, finds_no_digest, finds_none, finds_short, finds_unopened, opened_told, read_as}
use Rattle.core_reader.proofs.FirstPage.{first_kept, first_read, want_below}
use Rattle.core_reader.proofs.entries.find_first.Goals as goal

pub returns-in_err-pages-clause-exact : goal.returns-in_err-pages-clause-exact
returns-in_err-pages-clause-exact g c =
    let d = g.D.Disk in
    let disk = c.args.disk.now in
    let path = c.args.path.now in
    let place = c.args.place in
    finds_unopened d disk path c.args.name.now c.index_kind.result place c.in_err-pages.field-0.0 _ c.index_kind.ensures c.from_residual.ensures.1 c.in_err-pages.ensures.exact

pub returns-in_err-want_entry-clause-exact : goal.returns-in_err-want_entry-clause-exact
returns-in_err-want_entry-clause-exact g c =
    let d = g.D.Disk in
    let disk = c.args.disk.now in
    let path = c.args.path.now in
    let place = c.args.place in
    let name = c.args.name.now in
    let pages = c.in_ok-pages.pages in
    let told = opened_told d disk path c.index_kind.result (kind_of_index name) place pages c.index_kind.ensures c.in_ok-pages.ensures.exact in
    finds_none d disk _ _ pages None place path told c.in_err-want_entry.field-0.0 _ c.from_residual-in_err-want_entry.ensures.1 (sym c.want_entry.ensures.value ∙ c.in_err-want_entry.was)

pub returns-in_err-digest-clause-exact : goal.returns-in_err-digest-clause-exact
returns-in_err-digest-clause-exact g c =
    let d = g.D.Disk in
    let disk = c.args.disk.now in
    let path = c.args.path.now in
    let place = c.args.place in
    let name = c.args.name.now in
    let pages = c.in_ok-pages.pages in
    let told = opened_told d disk path c.index_kind.result (kind_of_index name) place pages c.index_kind.ensures c.in_ok-pages.ensures.exact in
    let wanted = sym c.want_entry.ensures.value ∙ c.in_ok-want_entry.was in
    let old : PageTaken = record { skip = place / 1024 * 1024; entries = c.new.result } in
    let new = c.open_index.new.taker in
    let read = λ (h : d.honest disk). first_read pages place old new refl c.new.ensures.items (want_below pages place wanted) c.in_ok-pages.ensures.some (d.content disk) path c.index_kind.result
    (c.in_ok-pages.ensures.exact h) (c.in_ok-pages.ensures.those h) in
    let es = c.deref.result.now in
    let read_es = λ (h : d.honest disk). read_as _ es new.entries.items (read h) c.deref.ensures.value in
    finds_no_digest d disk _ _ pages None place path told wanted (ends_of es) read_es c.in_err-digest.field-0.0 _ c.from_residual-in_err-digest.ensures.1 c.in_err-digest.ensures.value

pub returns-in_err-name-clause-exact : goal.returns-in_err-name-clause-exact
returns-in_err-name-clause-exact g c =
    let d = g.D.Disk in
    let disk = c.args.disk.now in
    let path = c.args.path.now in
    let place = c.args.place in
    let name = c.args.name.now in
    let pages = c.in_ok-pages.pages in
    let told = opened_told d disk path c.index_kind.result (kind_of_index name) place pages c.index_kind.ensures c.in_ok-pages.ensures.exact in
    finds_short d disk _ _ pages None place path told _ c.from_residual-in_err-name.ensures.1

pub returns-in_err-clone-clause-exact : goal.returns-in_err-clone-clause-exact
returns-in_err-clone-clause-exact g c =
    let d = g.D.Disk in
    let disk = c.args.disk.now in
    let path = c.args.path.now in
    let place = c.args.place in
    let name = c.args.name.now in
    let pages = c.in_ok-pages.pages in
    let told = opened_told d disk path c.index_kind.result (kind_of_index name) place pages c.index_kind.ensures c.in_ok-pages.ensures.exact in
    finds_short d disk _ _ pages None place path told _ c.from_residual-in_err-clone.ensures.1

pub returns-clause-exact : goal.returns-clause-exact
returns-clause-exact g c =
    let d = g.D.Disk in
    let disk = c.args.disk.now in
    let path = c.args.path.now in
    let place = c.args.place in
    let name = c.args.name.now in
    let pages = c.in_ok-pages.pages in
    let told = opened_told d disk path c.index_kind.result (kind_of_index name) place pages c.index_kind.ensures c.in_ok-pages.ensures.exact in
    let wanted = sym c.want_entry.ensures.value ∙ c.in_ok-want_entry.was in
    let old : PageTaken = record { skip = place / 1024 * 1024; entries = c.new.result } in
    let new = c.open_index.new.taker in
    let read = λ (h : d.honest disk). first_read pages place old new refl c.new.ensures.items (want_below pages place wanted) c.in_ok-pages.ensures.some (d.content disk) path c.index_kind.result
    (c.in_ok-pages.ensures.exact h) (c.in_ok-pages.ensures.those h) in
    let es = c.deref.result.now in
    let read_es = λ (h : d.honest disk). read_as _ es new.entries.items (read h) c.deref.ensures.value in
    let opened : OpenIndex = record { name = c.in_ok-name.name; pages = pages } in
    let page : OpenPage = record { name = c.in_ok-clone.field-0; number = place / 1024; entries = new.entries } in
    let found : Found = record { digest = c.in_ok-digest.digest; turn = ToIndex opened page } in
    finds_it d disk _ _ pages None place path told wanted (ends_of es) read_es found c.in_ok-digest.ensures.value
    (λ h. (ap (index_opened (d.content disk) path) (sym c.index_kind.ensures) ∙ c.in_ok-pages.ensures.exact h, read h))

pub returns-clause-turn : goal.returns-clause-turn
returns-clause-turn g c =
    let place = c.args.place in
    let pages = c.in_ok-pages.pages in
    let old : PageTaken = record { skip = place / 1024 * 1024; entries = c.new.result } in
    let below = want_below pages place (sym c.want_entry.ensures.value ∙ c.in_ok-want_entry.was) in (
      c.in_ok-name.ensures.cases,
      record {
        named = c.in_ok-clone.ensures.cases ∙ c.in_ok-name.ensures.cases;
        number = refl;
        below = below;
        spelled = first_kept pages place old c.open_index.new.taker refl c.new.ensures.items below c.in_ok-pages.ensures.some;
      },
    )

-- ---- how often the disk is called

pub returns-in_err-pages-clause-calls : goal.returns-in_err-pages-clause-calls
returns-in_err-pages-clause-calls g c =
    calls_as g.D.Disk c.args.disk.now _ _ _ (ap (λ k. opening_calls (entry_width k) (get (g.D.Disk.content c.args.disk.now) c.args.path.now)) c.index_kind.ensures) c.open_index.ensures.calls

pub returns-in_err-want_entry-clause-calls : goal.returns-in_err-want_entry-clause-calls
returns-in_err-want_entry-clause-calls g c =
    calls_as g.D.Disk c.args.disk.now _ _ _ (ap (λ k. opening_calls (entry_width k) (get (g.D.Disk.content c.args.disk.now) c.args.path.now)) c.index_kind.ensures) c.open_index.ensures.calls

pub returns-in_err-digest-clause-calls : goal.returns-in_err-digest-clause-calls
returns-in_err-digest-clause-calls g c =
    calls_as g.D.Disk c.args.disk.now _ _ _ (ap (λ k. opening_calls (entry_width k) (get (g.D.Disk.content c.args.disk.now) c.args.path.now)) c.index_kind.ensures) c.open_index.ensures.calls

pub returns-in_err-name-clause-calls : goal.returns-in_err-name-clause-calls
returns-in_err-name-clause-calls g c =
    calls_as g.D.Disk c.args.disk.now _ _ _ (ap (λ k. opening_calls (entry_width k) (get (g.D.Disk.content c.args.disk.now) c.args.path.now)) c.index_kind.ensures) c.open_index.ensures.calls

pub returns-in_err-clone-clause-calls : goal.returns-in_err-clone-clause-calls
returns-in_err-clone-clause-calls g c =
    calls_as g.D.Disk c.args.disk.now _ _ _ (ap (λ k. opening_calls (entry_width k) (get (g.D.Disk.content c.args.disk.now) c.args.path.now)) c.index_kind.ensures) c.open_index.ensures.calls

pub returns-clause-calls : goal.returns-clause-calls
returns-clause-calls g c =
    calls_as g.D.Disk c.args.disk.now _ _ _ (ap (λ k. opening_calls (entry_width k) (get (g.D.Disk.content c.args.disk.now) c.args.path.now)) c.index_kind.ensures) c.open_index.ensures.calls

use Rattle.std.proofs.Common.{refl}
use Rattle.core_reader.proofs.EntryFound.{below_pages}
use Rattle.core_reader.proofs.entries.read_page.Goals as goal

pub page_entries-requires-clause-place : goal.page_entries-requires-clause-place
page_entries-requires-clause-place g c = below_pages c.args.place _ c.requires.place

pub returns-clause-page : goal.returns-clause-page
returns-clause-page g c = record { named = c.in_ok-name.ensures.cases; number = refl; below = c.requires.place; spelled = c.in_ok-entries.ensures.kept }

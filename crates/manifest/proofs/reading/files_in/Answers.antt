use Rattle.std.proofs.Common.{◌≡◌, ◌++◌, ◌∷◌, [], ◌+◌, ◌<◌, ◌≤◌, drop, map, sym, ap, subst, ◌∙◌, length, arith}
use Rattle.std.proofs.lemmas.List.{map-append}
use Rattle.serde_json.specs.Data.{item}
use Rattle.serde_json.specs.View.{view, items_view}
use Rattle.store_files.specs.Manifest.{files_in}
use Rattle.manifest.specs.Reading.{HasNames}
use Rattle.manifest.specs.Views.{fact_view}
use Rattle.manifest.proofs.Entries.{names-none}
use Rattle.manifest.proofs.Files.{names_of, names_of-more, after, files-begin, files-more, files-bad, files-end, entries-at, entries-past}
use Rattle.manifest.proofs.reading.files_in.Goals as goal

pub loop-entry-init : goal.loop-entry-init
loop-entry-init c =
    let none = c.new-files.ensures.items in
    record {
      names = rw none (names-none c.new-names.result c.new-names.ensures.empty);
      rest = rw none (files-begin (items_view c.args.entries.now));
    }

pub loop-entry-preserved : goal.loop-entry-preserved
loop-entry-preserved c =
    let entries = c.args.entries.now in
    let i = c.loop-entry.entry-index in
    let done = map fact_view c.loop-entry.files.items in
    let file = fact_view c.in-Ok.file in
    let behind = items_view (drop (i + 1) entries) in
    let lt : i < length entries = omega arith in
    let at : items_view (drop i entries) ≡ item (view c.entry-item.result) behind = entries-at entries i c.entry-item.result lt c.entry-item.is in
    let read = (rw c.in-Ok.is at c.in_ok-file.ensures) (names_of done) c.loop-entry.invariant.names in
    let grown : map fact_view c.push.new.self.items ≡ done ++ file ∷ [] = ap (map fact_view) c.in_ok-push-in-Ok.ensures.items ∙ map-append fact_view c.loop-entry.files.items (c.in-Ok.file ∷ []) in
    record {
      names = subst (HasNames c.entry_in.new.names) (sym (ap names_of grown ∙ names_of-more done file)) read.1;
      rest =
          ap (λ fs. after fs (files_in (names_of fs) behind)) grown
          ∙ sym (files-more done (view c.entry-item.result) behind file read.0)
          ∙ ap (λ ds. after done (files_in (names_of done) ds)) (sym at)
          ∙ c.loop-entry.invariant.rest;
    }

pub returns-in-Err : goal.returns-in-Err
returns-in-Err c =
    let entries = c.args.entries.now in
    let i = c.loop-entry.entry-index in
    let done = map fact_view c.loop-entry.files.items in
    let behind = items_view (drop (i + 1) entries) in
    let lt : i < length entries = omega arith in
    let at : items_view (drop i entries) ≡ item (view c.entry-item.result) behind = entries-at entries i c.entry-item.result lt c.entry-item.is in
    let bad = (rw c.in-Err.is at c.in_ok-file.ensures) (names_of done) c.loop-entry.invariant.names in
    sym c.loop-entry.invariant.rest ∙ ap (λ ds. after done (files_in (names_of done) ds)) at
    ∙ files-bad done (view c.entry-item.result) behind c.in-Err.bad.cause bad

pub returns : goal.returns
returns c =
    let entries = c.args.entries.now in
    let i = c.loop-entry.entry-index in
    let done = map fact_view c.loop-entry.files.items in
    let past : length entries ≤ i = omega arith in
    sym c.loop-entry.invariant.rest ∙ ap (λ ds. after done (files_in (names_of done) ds)) (entries-past entries i past) ∙ files-end done (names_of done)

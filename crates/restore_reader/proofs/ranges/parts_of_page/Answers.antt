use Rattle.std.proofs.Common.{◌≡◌, ◌+◌, ◌<◌, ◌≤◌, IsTrue, List, [], ◌∷◌, ◌++◌, length, drop, get_or, subst, ap, ◌∙◌, arith}
use Rattle.std.proofs.lemmas.List.{drop_more, drop_all}
use Rattle.store_files.specs.DynamicIndex.{steps_fit}
use Rattle.restore_reader.specs.declared.ranges.Part.{Part}
use Rattle.paged_indexes.specs.declared.kinds.IndexEntry.{IndexEntry}
use Rattle.paged_indexes.specs.Handing.{ended_of}
use Rattle.restore_reader.specs.Plan.{ends_of, part_in, parts_in}
use Rattle.restore_reader.proofs.Apart.{rest_steps, parts_behind, parts_more, parts_done, total_by}
use Rattle.restore_reader.proofs.ranges.parts_of_page.Goals as goal

pub loop-entry-preserved : goal.loop-entry-preserved
loop-entry-preserved c =
    let xs = c.args.entries.now in
    let i = c.loop-entry.entry-index in
    let below : i < length xs = omega arith in
    let none : IndexEntry = record { digest = record { 0 = [] }; end = 0 } in
    let x = get_or xs i none in
    let rest = drop (i + 1) xs in
    let next : drop i xs ≡ x ∷ rest = drop_more xs i none below in
    let from = c.args.from in
    let to = c.args.to in
    let reached = c.loop-entry.reached in
    let pushed : c.push_part.new.parts.items ≡ c.loop-entry.parts.items ++ part_in from to reached (ended_of x) = c.in_ok-push_part.ensures in
    record {
      so_far =
          ap (λ (l : List Part). l ++ parts_in from to x.end (ends_of rest)) pushed
          ∙ parts_more from to reached c.loop-entry.parts.items _ (drop i xs) rest x next c.loop-entry.invariant.so_far;
      steps = rest_steps reached (ended_of x) (ends_of rest) (subst (λ l. IsTrue (steps_fit reached (ends_of l))) next c.loop-entry.invariant.steps);
    }

pub returns-then-reached-to-clause-value : goal.returns-then-reached-to-clause-value
returns-then-reached-to-clause-value c =
    let xs = drop c.loop-entry.entry-index c.args.entries.now in
    let behind : c.args.to ≤ c.loop-entry.reached = omega arith in
    parts_done c.args.from c.args.to c.loop-entry.reached c.loop-entry.parts.items _ xs
    (parts_behind c.args.from c.args.to c.loop-entry.reached (ends_of xs) behind c.loop-entry.invariant.steps) c.loop-entry.invariant.so_far

pub returns-then-reached-to-clause-total : goal.returns-then-reached-to-clause-total
returns-then-reached-to-clause-total c =
    let xs = drop c.loop-entry.entry-index c.args.entries.now in
    let behind : c.args.to ≤ c.loop-entry.reached = omega arith in
    total_by c.args.from c.args.to c.args.start (ends_of c.args.entries.now) c.loop-entry.parts.items
    (parts_done c.args.from c.args.to c.loop-entry.reached c.loop-entry.parts.items _ xs
    (parts_behind c.args.from c.args.to c.loop-entry.reached (ends_of xs) behind c.loop-entry.invariant.steps) c.loop-entry.invariant.so_far) c.requires

pub returns-clause-total : goal.returns-clause-total
returns-clause-total c =
    let none : drop c.loop-entry.entry-index c.args.entries.now ≡ [] = drop_all c.loop-entry.entry-index c.args.entries.now (omega arith) in
    total_by c.args.from c.args.to c.args.start (ends_of c.args.entries.now) c.loop-entry.parts.items
    (parts_done c.args.from c.args.to c.loop-entry.reached c.loop-entry.parts.items _ (drop c.loop-entry.entry-index c.args.entries.now)
    (ap (λ l. parts_in c.args.from c.args.to c.loop-entry.reached (ends_of l)) none) c.loop-entry.invariant.so_far) c.requires

use Rattle.std.proofs.Common.{◌∷◌, [], refl, take, drop, sym, ap, ◌∙◌}
use Rattle.store_files.specs.DynamicIndex.{Ended, entry_of}
use Rattle.paged_indexes.specs.Handing.{ended_of}
use Rattle.paged_indexes.specs.Steps.{entries_of, is_step, stepped}
use Rattle.paged_indexes.proofs.Entries.{entries_more, entries_none}
use Rattle.paged_indexes.proofs.Handed.{rest_less, rest_none, rest_whole, step_is}
use Rattle.paged_indexes.proofs.Stepping.{stepped_entry, stepped_no_entry}
use Rattle.paged_indexes.proofs.steps.hand_on.Goals as goal

pub loop-rest-init : goal.loop-rest-init
loop-rest-init g c = record { value = refl; hands = rest_whole g.T.TakesEntries.taken c.args.start (entries_of c.args.bytes.now) c.args.taker.now }

pub returns-then-not-is_step-clause-value : goal.returns-then-not-is_step-clause-value
returns-then-not-is_step-clause-value g c =
    let rest = c.loop-rest.rest.now in
    let end = c.loop-rest.end in
    let e = entry_of (take 40 rest) in
    let entry = c.entry_in-entry.ensures ∙ ap entry_of c.split_at.ensures.front in
    let is = ap (λ (x : Ended). is_step end x.end) (sym entry) ∙ sym c.if-not-is_step.ensures in
    sym (stepped_no_entry end e (entries_of (drop 40 rest)) is) ∙ ap (stepped end) (sym (entries_more rest c.loop-rest-test.true)) ∙ c.loop-rest.invariant.value

pub take-requires : goal.take-requires
take-requires g c = step_is c.loop-rest.end c.entry_in-entry.result.end (sym c.if-not-is_step.ensures)

pub loop-rest-preserved : goal.loop-rest-preserved
loop-rest-preserved g c =
    let rest = c.loop-rest.rest.now in
    let end = c.loop-rest.end in
    let e = entry_of (take 40 rest) in
    let entry = c.entry_in-entry.ensures ∙ ap entry_of c.split_at.ensures.front in
    let next = ap (λ (x : Ended). x.end) entry in
    let is = ap (λ (x : Ended). is_step end x.end) (sym entry) ∙ sym c.if-not-is_step.ensures in
    let back = c.split_at.ensures.back in
    let more = entries_more rest c.loop-rest-test.true in
    record {
      value =
          ap (λ b. stepped c.entry_in-entry.result.end (entries_of b)) back
          ∙ ap (λ n. stepped n (entries_of (drop 40 rest))) next
          ∙ sym (stepped_entry end e (entries_of (drop 40 rest)) is) ∙ ap (stepped end) (sym more) ∙ c.loop-rest.invariant.value;
      hands = rest_less g.T.TakesEntries.taken c.args.start (entries_of c.args.bytes.now) c.args.taker.now end c.entry_in-entry.result.end
          (entries_of rest) (ended_of c.entry_in-entry.result ∷ []) (entries_of c.split_at.result.1.now) c.loop-rest.taker c.take.new.self
          (more ∙ ap (λ x. x ∷ entries_of (drop 40 rest)) (sym entry) ∙ ap (λ b. ended_of c.entry_in-entry.result ∷ entries_of b) (sym back)) refl
          c.loop-rest.invariant.hands c.in_ok-take.ensures;
    }

pub returns-clause-value : goal.returns-clause-value
returns-clause-value g c = ap (stepped c.loop-rest.end) (sym (entries_none c.loop-rest.rest.now c.loop-rest-test.false)) ∙ c.loop-rest.invariant.value

pub returns-clause-hands : goal.returns-clause-hands
returns-clause-hands g c =
    rest_none g.T.TakesEntries.taken c.args.start (entries_of c.args.bytes.now) c.args.taker.now c.loop-rest.end (entries_of c.loop-rest.rest.now) c.loop-rest.taker
    (entries_none c.loop-rest.rest.now c.loop-rest-test.false) c.loop-rest.invariant.hands

use Rattle.std.proofs.Common.{◌≡◌, ◌+◌, ◌≤◌, ◌<◌, ℕ, List, ◌∷◌, not, cond, take, drop, ap, ◌∙◌, arith}
use Rattle.std.proofs.lemmas.Bool.{lt-ltb, le-ltb}
use Rattle.store_files.specs.DynamicIndex.{Ended, entry_of}
use Rattle.paged_indexes.specs.Steps.{ended_before, entries_of}
use Rattle.paged_indexes.proofs.Entries.{entries_more, entries_none}
use Rattle.paged_indexes.proofs.steps.ended_in.Goals as goal

ends_behind : (offset : ℕ) (e : Ended) (es : List Ended) → offset < e.end → ended_before offset (e ∷ es) ≡ 0
ends_behind offset e es lt = ap (λ b. cond (not b) (1 + ended_before offset es) 0) (lt-ltb offset e.end lt)

ends_here : (offset : ℕ) (e : Ended) (es : List Ended) → e.end ≤ offset → ended_before offset (e ∷ es) ≡ 1 + ended_before offset es
ends_here offset e es le = ap (λ b. cond (not b) (1 + ended_before offset es) 0) (le-ltb offset e.end le)

pub returns-then-offset-entry_in-clause-value : goal.returns-then-offset-entry_in-clause-value
returns-then-offset-entry_in-clause-value c =
    let rest = c.loop-rest.rest.now in
    let offset = c.args.offset in
    let e = entry_of (take 40 rest) in
    let end = ap (λ (x : Ended). x.end) c.entry_in.ensures ∙ ap (λ b. (entry_of b).end) c.split_at.ensures.front in
    let behind : offset < e.end = omega (arith, c.if-offset-entry_in.true, end) in
    let none : ended_before offset (entries_of rest) ≡ 0 = ap (ended_before offset) (entries_more rest c.loop-rest-test.true) ∙ ends_behind offset e (entries_of (drop 40 rest)) behind in
    omega (arith, none, c.loop-rest.invariant.value)

pub loop-rest-preserved : goal.loop-rest-preserved
loop-rest-preserved c =
    let rest = c.loop-rest.rest.now in
    let offset = c.args.offset in
    let e = entry_of (take 40 rest) in
    let end = ap (λ (x : Ended). x.end) c.entry_in.ensures ∙ ap (λ b. (entry_of b).end) c.split_at.ensures.front in
    let here : e.end ≤ offset = omega (arith, c.if-offset-entry_in.false, end) in
    let one : ended_before offset (entries_of rest) ≡ 1 + ended_before offset (entries_of (drop 40 rest)) =
    ap (ended_before offset) (entries_more rest c.loop-rest-test.true) ∙ ends_here offset e (entries_of (drop 40 rest)) here in
    let next = ap (λ b. ended_before offset (entries_of b)) c.split_at.ensures.back in
    record {
      value = omega (arith, one, next, c.loop-rest.invariant.value);
      limit = omega (arith, c.loop-rest.invariant.limit, c.split_at.ensures.back_len);
    }

pub returns-clause-value : goal.returns-clause-value
returns-clause-value c =
    let rest = c.loop-rest.rest.now in
    let none : ended_before c.args.offset (entries_of rest) ≡ 0 = ap (ended_before c.args.offset) (entries_none rest c.loop-rest-test.false) in
    omega (arith, none, c.loop-rest.invariant.value)

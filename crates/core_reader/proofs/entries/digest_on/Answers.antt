use Rattle.std.proofs.Common.{◌≡◌, ◌<◌, ◌≤◌, ◌%◌, ◌∙◌, length, get_or, Some, Err, ap, sym, rules, arith}
use Rattle.std.proofs.lemmas.Option.{slice_get-get_or, slice_get_past}
use Rattle.core_reader.proofs.EntryFound.{digest_none, digest_there}
use Rattle.core_reader.proofs.entries.digest_on.Goals as goal

pub returns-in-Some-clause-value : goal.returns-in-Some-clause-value
returns-in-Some-clause-value c =
    let es = c.args.entries.now in
    let i = c.args.place % 1024 in
    let e = c.in-Some.entry.now in
    let inside : i < length es = search (rules, arith) in
    let is : e ≡ get_or es i e = search rules in
    digest_there c.args.path.now c.args.place es e (slice_get-get_or es i e inside ∙ ap (λ x. Some x) (sym is))

pub returns-in_ok-unreadable-in-None-clause-value : goal.returns-in_ok-unreadable-in-None-clause-value
returns-in_ok-unreadable-in-None-clause-value c =
    let es = c.args.entries.now in
    let i = c.args.place % 1024 in
    let past : length es ≤ i = search (rules, arith) in
    digest_none c.args.path.now c.args.place es (slice_get_past es i past) ∙ ap Err (sym c.in_ok-unreadable-in-None.ensures.value)

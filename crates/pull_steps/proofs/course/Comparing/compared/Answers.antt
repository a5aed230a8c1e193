use Rattle.std.proofs.Common.{ap, ◌∙◌, arith, rules}
use Rattle.std.proofs.lemmas.Fn.{filter_same}
use Rattle.std.proofs.lemmas.List.{nil_from_length}
use Rattle.store_history.specs.Pulling.{is_later, newest_in}
use Rattle.pull_steps.proofs.Chosen.{compared_keys, later_short}
use Rattle.pull_steps.proofs.course.Comparing.compared.Goals as goal

pub next_snapshot-requires-clause-later : goal.next_snapshot-requires-clause-later
next_snapshot-requires-clause-later c =
    let newest = c.newest_in-newest.result in
    let kept = filter_same _ (is_later newest) _ (λ x b f h. search rules) _ _ c.retain.ensures.filtered in
    later_short newest c.args.self.remote.items c.from_vec.result.items (c.from_vec.ensures.items ∙ kept) c.requires.texts

pub returns-clause-job : goal.returns-clause-job
returns-clause-job c =
    let s = c.args.self in
    let newest = c.newest_in-newest.result in
    let kept = filter_same _ (is_later newest) _ (λ x b f h. search rules) _ _ c.retain.ensures.filtered in
    let empty = nil_from_length s.room.items (omega (arith, s.empty, s.room.ok.0)) in
    c.next_snapshot.ensures.job
    ∙ compared_keys s.remote.items c.in-Keys.here s.room.items c.from_vec.result.items newest c.args.reply c.in-Keys.is (c.newest_in-newest.ensures ∙ ap newest_in c.as_slice.ensures)
    empty (c.from_vec.ensures.items ∙ kept)

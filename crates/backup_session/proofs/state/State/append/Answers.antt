use Rattle.std.proofs.Common.{◌≡◌, None, Ok, Err, get_or, set, rules, refl, sym, ap, subst, ◌∙◌}
use Rattle.std.specs.Prelude.{◌==◌, Bool, position}
use Rattle.std.specs.FinMap.{entries}
use Rattle.store_types.specs.declared.refusal.Refusal.TheVariants.{NoFile}
use Rattle.backup_session.specs.Indexes.{with_pieces}
use Rattle.backup_session.specs.declared.state.Begun.{Begun}
use Rattle.backup_session.specs.Session.{Open, Writing}
use Rattle.backup_session.specs.Steps as steps
use Rattle.backup_session.specs.Kept.{open_of, opens_of}
use Rattle.backup_session.proofs.Places.{place_first, place_none, first_within, first_changed}
use Rattle.backup_session.proofs.Stops.{does_stop, stops_by}
use Rattle.backup_session.proofs.StateSteps.{no_number, number_at, append_by, append_refused, append_done}
use Rattle.backup_session.proofs.Lifting.{other_default}
use Rattle.backup_session.proofs.state.State.append.Goals as goal

pub returns-in_default-clause-does : goal.returns-in_default-clause-does
returns-in_default-clause-does c =
    let s = c.self.inside in
    let number = c.args.number in
    let items = s.begun.items in
    let passes : Begun → Bool = λ b. b.number == number in
    let v : Writing = record { key = s.key; start = s.start; base = s.base; pool = entries s.pool; begun = opens_of s.begun.items; files = s.files.items; manifest = s.manifest } in
    let none : c.place_of.result ≡ None = search rules in
    let absent = no_number number items (place_none passes items (sym (c.place_of.ensures ∙ ap (position passes) c.deref.ensures.value) ∙ none)) in
    (subst (λ w. steps.append w number c.args.entries.now ≡ Err NoFile) c.self.view_is (append_by v number c.args.entries.now None absent), refl)

pub returns-in_err-pieces-clause-does : goal.returns-in_err-pieces-clause-does
returns-in_err-pieces-clause-does c =
    let s = c.self.inside in
    let number = c.args.number in
    let items = s.begun.items in
    let passes : Begun → Bool = λ b. b.number == number in
    let v : Writing = record { key = s.key; start = s.start; base = s.base; pool = entries s.pool; begun = opens_of s.begun.items; files = s.files.items; manifest = s.manifest } in
    let first = place_first passes items c.in-Some.place (sym (c.in-Some.ensures ∙ ap (position passes) c.deref.ensures.value)) in
    let b = c.index.result.now in
    let there = number_at number items c.in-Some.place b first (sym c.index.ensures) in
    let es = c.args.entries.now in
    let w = c.args.self.now in
    let stop = c.in_err-pieces.field-0.0 in
    does_stop (λ (u : Unit {0}). u) (λ x. x) w w c.from_residual.result (steps.append w number es) stop c.from_residual.ensures.1
    (stops_by (λ refusal. steps.pieces_for (entries s.pool) b.index es ≡ Err refusal) w w (steps.append w number es) stop refl
    (λ refusal told. subst (λ x. steps.append x number es ≡ Err refusal) c.self.view_is (append_refused v number es (open_of b) refusal there told))
    c.in_err-pieces.ensures.exact)

pub returns-clause-does : goal.returns-clause-does
returns-clause-does c =
    let s = c.self.inside in
    let number = c.args.number in
    let items = s.begun.items in
    let passes : Begun → Bool = λ b. b.number == number in
    let v : Writing = record { key = s.key; start = s.start; base = s.base; pool = entries s.pool; begun = opens_of s.begun.items; files = s.files.items; manifest = s.manifest } in
    let first = place_first passes items c.in-Some.place (sym (c.in-Some.ensures ∙ ap (position passes) c.deref.ensures.value)) in
    let b = c.index.result.now in
    let there = number_at number items c.in-Some.place b first (sym c.index.ensures) in
    let es = c.args.entries.now in
    let known = c.in_ok-pieces.pieces.items in
    let told = c.in_ok-pieces.ensures.exact in
    let m = c.index_mut.result.now in
    let new : Begun = record { number = m.number; name = m.name; index = c.append_all.new.self } in
    let same : m ≡ get_or items c.in-Some.place b = c.index_mut.ensures.value ∙ other_default items c.in-Some.place m b (first_within first) in
    let named : Open → Open = steps.grown known in
    let grows : open_of new ≡ named (open_of (get_or items c.in-Some.place b)) =
    ap (λ x. record { number = m.number; name = m.name; index = x })
    (c.in_ok-append_all.ensures.ok ∙ ap (λ ps. with_pieces ps m.index) c.deref-2.ensures.value)
    ∙ ap (λ (x : Begun). named (open_of x)) same in
    let after : Writing = record v { begun = opens_of (set items c.in-Some.place new) } in
    record {
      after = after;
      stepped =
          ap (λ w. steps.append w number es) (sym c.self.view_is) ∙ append_done v number es (open_of b) known there told
          ∙ ap (λ l. Ok (record v { begun = l }, tt)) (first_changed open_of (steps.has_number number) named new b first grows);
      left = refl;
    }

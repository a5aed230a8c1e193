use Rattle.std.proofs.Common.{◌≡◌, ℕ, None, Ok, Err, rules, refl, sym, ap, ap₂, subst, ◌∙◌, arith}
use Rattle.std.specs.Prelude.{◌==◌, Bool, Vec, position}
use Rattle.std.specs.declared.alloc.Global.{Global}
use Rattle.std.specs.FinMap.{entries}
use Rattle.std.specs.List.{remove}
use Rattle.std.proofs.lemmas.List.{length-map}
use Rattle.store_types.specs.declared.refusal.Refusal.TheVariants.{NoFile, NoMemory}
use Rattle.backup_session.specs.declared.state.Begun.{Begun}
use Rattle.backup_session.specs.declared.state.Pending.{Pending}
use Rattle.backup_session.specs.Calls.{TellsClosed}
use Rattle.backup_session.specs.Session.{Writing}
use Rattle.backup_session.specs.Steps as steps
use Rattle.backup_session.specs.Kept.{open_of, opens_of, Ascends}
use Rattle.backup_session.specs.Indexes.{text_of}
use Rattle.backup_session.proofs.FileLemmas.{ascends-insert}
use Rattle.backup_session.proofs.Places.{place_first, place_none, first_within, first_gone}
use Rattle.backup_session.proofs.Stops.{holds_stop, stops_by}
use Rattle.backup_session.proofs.StateSteps.{no_number, number_at, close_none, close_refused, close_done}
use Rattle.backup_session.proofs.state.State.close_index.Goals as goal

pub invariant_of-self-2 : goal.invariant_of-self-2
invariant_of-self-2 c = record {
  key = c.self.invariant.key;
  lengths = c.self.invariant.lengths;
  begun = c.self.invariant.begun;
  files = subst Ascends (sym c.in_ok-insert.ensures.ok) (ascends-insert _ c.self.inside.files.items c.self.invariant.files);
  manifest = c.self.invariant.manifest;
}

pub returns-in_default-clause-does : goal.returns-in_default-clause-does
returns-in_default-clause-does c =
    let s = c.self.inside in
    let number = c.args.number in
    let items = s.begun.items in
    let passes : Begun → Bool = λ b. b.number == number in
    let v : Writing = record { key = s.key; start = s.start; base = s.base; pool = entries s.pool; begun = opens_of s.begun.items; files = s.files.items; manifest = s.manifest } in
    let none : c.place_of.result ≡ None = search rules in
    let absent = no_number number items (place_none passes items (sym (c.place_of.ensures ∙ ap (position passes) c.deref.ensures.value) ∙ none)) in
    (subst (λ w. steps.close_index w number c.args.count c.args.size c.args.csum.now ≡ Err NoFile) c.self.view_is (close_none v number c.args.count c.args.size c.args.csum.now absent), refl)

pub returns-in_err-file-clause-does : goal.returns-in_err-file-clause-does
returns-in_err-file-clause-does c =
    let s = c.self.inside in
    let number = c.args.number in
    let items = s.begun.items in
    let passes : Begun → Bool = λ b. b.number == number in
    let v : Writing = record { key = s.key; start = s.start; base = s.base; pool = entries s.pool; begun = opens_of s.begun.items; files = s.files.items; manifest = s.manifest } in
    let first = place_first passes items c.in-Some.place (sym (c.in-Some.ensures ∙ ap (position passes) c.deref.ensures.value)) in
    let b = c.index.result.now in
    let there = number_at number items c.in-Some.place b first (sym c.index.ensures) in
    let w = c.args.self.now in
    let stop = c.in_err-file.field-0.0 in
    holds_stop (λ (a : Vec ℕ Global × Pending). a.0.items) (λ (a : Vec ℕ Global × Pending). a.1) w w c.from_residual.result (steps.close_index w number c.args.count c.args.size c.args.csum.now) stop c.from_residual.ensures.1
    (stops_by (λ refusal. TellsClosed b c.args.count c.args.size c.args.csum.now (Err refusal)) w w (steps.close_index w number c.args.count c.args.size c.args.csum.now) stop refl
    (λ refusal told. subst (λ x. steps.close_index x number c.args.count c.args.size c.args.csum.now ≡ Err refusal) c.self.view_is
    (close_refused v number c.args.count c.args.size c.args.csum.now (open_of b) refusal there told))
    c.in_err-file.ensures.exact)

pub returns-in_err-insert-clause-does : goal.returns-in_err-insert-clause-does
returns-in_err-insert-clause-does c =
    let w = c.args.self.now in
    holds_stop (λ (a : Vec ℕ Global × Pending). a.0.items) (λ (a : Vec ℕ Global × Pending). a.1) w _ c.from_residual-in_err-insert.result (steps.close_index w c.args.number c.args.count c.args.size c.args.csum.now) NoMemory c.from_residual-in_err-insert.ensures.1
    (tt, search rules)

pub returns-clause-does : goal.returns-clause-does
returns-clause-does c =
    let s = c.self.inside in
    let number = c.args.number in
    let items = s.begun.items in
    let passes : Begun → Bool = λ b. b.number == number in
    let v : Writing = record { key = s.key; start = s.start; base = s.base; pool = entries s.pool; begun = opens_of s.begun.items; files = s.files.items; manifest = s.manifest } in
    let first = place_first passes items c.in-Some.place (sym (c.in-Some.ensures ∙ ap (position passes) c.deref.ensures.value)) in
    let b = c.index.result.now in
    let there = number_at number items c.in-Some.place b first (sym c.index.ensures) in
    let told = c.in_ok-file.ensures.exact in
    let files = c.in_ok-insert.ensures.ok ∙ ap (λ f. steps.insert_fact f s.files.items) told.2 in
    record {
      stepped =
          ap (λ w. steps.close_index w number c.args.count c.args.size c.args.csum.now) (sym c.self.view_is)
          ∙ close_done v number c.args.count c.args.size c.args.csum.now (open_of b) there told.0
          ∙ ap₂ (λ l fs. Ok (record v { begun = l; files = fs }, text_of b.index)) (first_gone open_of (steps.has_number number) first) (sym files)
          ∙ ap (λ text. Ok (record v { begun = remove (opens_of items) c.in-Some.place; files = c.insert.new.files.items }, text)) (sym told.1);
      back = ap (λ fs. record v { files = fs }) c.in_ok-insert.ensures.place.1 ∙ c.self.view_is;
      placed = (c.in_ok-insert.ensures.place.0, omega (arith, first_within first, length-map items open_of), tt);
    }

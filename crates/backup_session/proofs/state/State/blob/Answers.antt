use Rattle.std.proofs.Common.{◌≡◌, Ok, refl, sym, ap, ap₂, subst, ◌∙◌}
use Rattle.std.specs.FinMap.{entries}
use Rattle.std.specs.Str.{bytes_eq}
use Rattle.store_types.specs.FileNames.{manifest_name}
use Rattle.store_types.specs.declared.refusal.Refusal.TheVariants.{NoMemory}
use Rattle.backup_session.specs.declared.state.Pending.{Pending}
use Rattle.backup_session.specs.Session.{Writing}
use Rattle.backup_session.specs.Steps as steps
use Rattle.backup_session.specs.Kept.{opens_of, text_of, HoldsBlob, Ascends}
use Rattle.backup_session.proofs.FileLemmas.{ascends-insert, kept_blob}
use Rattle.backup_session.proofs.StateSteps.{blob_refused, blob_done}
use Rattle.backup_session.proofs.Stops.{holds_stop, refuses}
use Rattle.backup_session.proofs.Lifting.{text_kept}
use Rattle.backup_session.proofs.state.State.blob.Goals as goal

pub invariant_of-self-2 : goal.invariant_of-self-2
invariant_of-self-2 c = record {
  key = c.self.invariant.key;
  lengths = c.self.invariant.lengths;
  begun = c.self.invariant.begun;
  files = subst Ascends (sym c.in_ok-insert.ensures.ok) (ascends-insert _ c.self.inside.files.items c.self.invariant.files);
  manifest = c.self.invariant.manifest;
}

pub returns-in_err-want_blob : goal.returns-in_err-want_blob
returns-in_err-want_blob c =
    let w = c.args.self.now in
    let refusal = c.in_err-want_blob.field-0.0 in
    holds_stop (λ (p : Pending). tt) (λ p. p) w w c.from_residual.result (steps.blob w c.args.name c.args.text.now) refusal c.from_residual.ensures.1
    (refuses w w (steps.blob w c.args.name c.args.text.now) refusal (blob_refused w c.args.name c.args.text.now refusal (sym c.want_blob.ensures ∙ c.in_err-want_blob.was)) refl)

pub returns-in_err-manifest : goal.returns-in_err-manifest
returns-in_err-manifest c =
    let w = c.args.self.now in
    holds_stop (λ (p : Pending). tt) (λ p. p) w w c.from_residual-in_err-manifest.result (steps.blob w c.args.name c.args.text.now) NoMemory c.from_residual-in_err-manifest.ensures.1 (tt, refl)

pub returns : goal.returns
returns c =
    let s = c.self.inside in
    let name = c.args.name in
    let text = c.args.text.now in
    let v : Writing = record { key = s.key; start = s.start; base = s.base; pool = entries s.pool; begun = opens_of s.begun.items; files = s.files.items; manifest = s.manifest } in
    let passed : steps.want_blob name c.args.self.now ≡ Ok tt = sym c.want_blob.ensures ∙ c.in_ok-want_blob.was in
    let files = c.in_ok-insert.ensures.ok ∙ ap (λ f. steps.insert_fact f s.files.items) c.blob_fact.ensures in
    let kept : steps.manifest_with name text s.manifest ≡ text_of c.in_ok-manifest.manifest s.manifest =
    text_kept (bytes_eq name manifest_name) text s.manifest ∙ ap (λ t. text_of t s.manifest) (sym c.in_ok-manifest.ensures) in
    record {
      stepped =
          blob_done c.args.self.now name text tt passed
          ∙ ap (λ w. Ok (record w { files = steps.insert_fact (steps.blob_fact name text) w.files; manifest = steps.manifest_with name text w.manifest }, tt)) (sym c.self.view_is)
          ∙ ap₂ (λ fs m. Ok (record v { files = fs; manifest = m }, tt)) (sym files) kept;
      back = ap (λ fs. record v { files = fs }) c.in_ok-insert.ensures.place.1 ∙ c.self.view_is;
      placed = (c.in_ok-insert.ensures.place.0, tt, subst HoldsBlob (sym c.in_ok-manifest.ensures) (kept_blob (bytes_eq name manifest_name) text c.requires));
    }

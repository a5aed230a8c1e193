use Rattle.std.proofs.Common.{◌≡◌, ◌∙◌, Ok, Err, None, Some, ap, map, sym, rules}
use Rattle.store_types.specs.Chain.Refusing.{if_none}
use Rattle.store_model.specs.Store.{Writer}
use Rattle.store_model.specs.Manifests.{fact_of, manifest_data, want_manifest, mismatch_refusal, want_listed, listing_of}
use Rattle.manifest.specs.Views.{manifest_view}
use Rattle.manifest.specs.Checking.{first_mismatch}
use Rattle.plain_sessions.proofs.Stopping.{gives_stop}
use Rattle.plain_sessions.proofs.Finished.{listed_is, listing_none, listing_bad, listing_refused, listing_goes}
use Rattle.plain_sessions.proofs.writer.Writer.want_listing.Goals as goal

pub returns-in_default-clause-gives : goal.returns-in_default-clause-gives
returns-in_default-clause-gives c =
    let w = c.args.self.now in
    let none : manifest_data w.files ≡ None = search rules in
    listing_none w.key w.files none

pub returns-in_err-manifest-clause-gives : goal.returns-in_err-manifest-clause-gives
returns-in_err-manifest-clause-gives c =
    let w = c.args.self.now in
    let bytes = c.in-Some.contents.now in
    let there : manifest_data w.files ≡ Some bytes = search rules in
    let is : c.from_residual.result ≡ Err c.in_err-manifest.field-0.0 = search rules in
    gives_stop manifest_view manifest_view _ c.in_err-manifest.field-0.0 (listing_of w.key w.files) (want_manifest bytes) is c.in_err-manifest.ensures.gives (listing_bad w.key w.files bytes there)

pub returns-in_err-want_listed-clause-gives : goal.returns-in_err-want_listed-clause-gives
returns-in_err-want_listed-clause-gives c =
    let w = c.args.self.now in
    let bytes = c.in-Some.contents.now in
    let m = c.in_ok-manifest.manifest in
    let key = c.as_key.result.now in
    let there : manifest_data w.files ≡ Some bytes = search rules in
    let files = ap (λ (x : Writer). x.files) c.self.view_is in
    let own = c.as_key.ensures ∙ ap (λ (x : Writer). x.key) c.self.view_is in
    let listed = listed_is m key c.in_ok-facts.facts.items c.self.inside.uploads (c.in_ok-facts.ensures ∙ ap (map fact_of) c.as_slice-2.ensures.value) c.as_slice-2.ensures.order
    ∙ ap (λ fs. want_listed (manifest_view m) key fs) files ∙ ap (λ k. want_listed (manifest_view m) k w.files) own in
    let is : c.from_residual-in_err-want_listed.result ≡ Err c.in_err-want_listed.field-0.0 = search rules in
    gives_stop manifest_view (λ u. u) _ c.in_err-want_listed.field-0.0 (listing_of w.key w.files) (if_none mismatch_refusal (first_mismatch m key c.deref.result.now)) is c.in_err-want_listed.ensures.gives
    (λ r h. listing_refused w.key w.files bytes there (manifest_view m) c.in_ok-manifest.ensures.gives r (sym listed ∙ sym (ap (λ fs. if_none mismatch_refusal (first_mismatch m key fs)) c.deref.ensures.value) ∙ h))

pub returns-clause-gives : goal.returns-clause-gives
returns-clause-gives c =
    let w = c.args.self.now in
    let bytes = c.in-Some.contents.now in
    let m = c.in_ok-manifest.manifest in
    let key = c.as_key.result.now in
    let there : manifest_data w.files ≡ Some bytes = search rules in
    let files = ap (λ (x : Writer). x.files) c.self.view_is in
    let own = c.as_key.ensures ∙ ap (λ (x : Writer). x.key) c.self.view_is in
    let listed = listed_is m key c.in_ok-facts.facts.items c.self.inside.uploads (c.in_ok-facts.ensures ∙ ap (map fact_of) c.as_slice-2.ensures.value) c.as_slice-2.ensures.order
    ∙ ap (λ fs. want_listed (manifest_view m) key fs) files ∙ ap (λ k. want_listed (manifest_view m) k w.files) own in
    let passes : if_none mismatch_refusal (first_mismatch m key c.in_ok-facts.facts.items) ≡ Ok tt = search rules in
    listing_goes w.key w.files bytes there (manifest_view m) c.in_ok-manifest.ensures.gives (sym listed ∙ passes)

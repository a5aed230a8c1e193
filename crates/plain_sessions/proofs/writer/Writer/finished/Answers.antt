use Rattle.std.proofs.Common.{◌≡◌, ◌∙◌, Err, refl, length, rules, arith}
use Rattle.store_model.specs.Manifests.{listing_of}
use Rattle.manifest.specs.Views.{manifest_view}
use Rattle.plain_sessions.specs.Finishing.{finished_of}
use Rattle.plain_sessions.proofs.Stopping.{gives_stop}
use Rattle.plain_sessions.proofs.Finished.{finished_open, finished_refused, finished_goes}
use Rattle.plain_sessions.proofs.writer.Writer.finished.Goals as goal

pub returns-then-count-gt0-clause-gives : goal.returns-then-count-gt0-clause-gives
returns-then-count-gt0-clause-gives c =
    let count : c.len-count.result ≡ length c.args.self.now.begun = search rules in
    finished_open c.args.self.now c.len-count.result count c.if-count-gt0.true

pub returns-in_err-want_listing-clause-gives : goal.returns-in_err-want_listing-clause-gives
returns-in_err-want_listing-clause-gives c =
    let w = c.args.self.now in
    let count : c.len-count.result ≡ length w.begun = search rules in
    let closed : length w.begun ≡ 0 = omega (arith, count, c.if-count-gt0.false) in
    let is : c.from_residual.result ≡ Err c.in_err-want_listing.field-0.0 = search rules in
    gives_stop (λ x. x) manifest_view _ c.in_err-want_listing.field-0.0 (finished_of w) (listing_of w.key w.files) is c.in_err-want_listing.ensures.gives (finished_refused w closed)

pub returns-clause-gives : goal.returns-clause-gives
returns-clause-gives c =
    let w = c.args.self.now in
    let count : c.len-count.result ≡ length w.begun = search rules in
    let closed : length w.begun ≡ 0 = omega (arith, count, c.if-count-gt0.false) in
    let key : c.in_ok-clone.field-0 ≡ w.key = search rules in
    let files : c.in_ok-to_vec.field-0.items ≡ w.files = search rules in
    finished_goes w closed (manifest_view c.in_ok-want_listing.field-0) c.in_ok-want_listing.ensures.gives ∙ rw (key, files) refl

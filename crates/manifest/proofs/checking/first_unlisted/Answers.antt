use Rattle.std.proofs.Common.{◌≡◌, ℕ, ◌<◌, ◌≤◌, ◌+◌, ◌∷◌, Option, List, drop, length, sym, ap, ◌∙◌, arith}
use Rattle.std.specs.Prelude.{option_map}
use Rattle.std.proofs.lemmas.List.{drop_all}
use Rattle.manifest.specs.Checking.{of_file}
use Rattle.manifest.specs.Least.{lesser}
use Rattle.manifest.proofs.Ordered.{lesser-none}
use Rattle.manifest.proofs.Uploads.{from_place, first_name, first-passed, first-told, unlisted-first, viewed-name}
use Rattle.manifest.proofs.checking.first_unlisted.Goals as goal
use Rattle.manifest.proofs.checking.first_unlisted.Goals.{then-is_unlisted, else-is_unlisted}

pub loop-upload-preserved : goal.loop-upload-preserved
loop-upload-preserved c =
    let listed = c.args.listed.now in
    let uploads = c.args.uploads.now in
    let i = c.loop-upload.upload-index in
    let u = c.upload-item.result in
    let behind = drop (i + 1) uploads in
    let first : Option (List ℕ) = option_map (λ n. n.now) c.loop-upload.first in
    let lt : i < length uploads = omega arith in
    let at = from_place uploads i u lt c.upload-item.is in
    let next : lesser (option_map (λ n. n.now) c.if-is_unlisted.first) (first_name listed behind) ≡ lesser first (first_name listed (u ∷ behind)) =
    elim c.if-is_unlisted.branch [
      | then-is_unlisted w ↦
          ap (λ f. lesser (option_map (λ n. n.now) f) (first_name listed behind)) w.first-is
          ∙ ap (λ f. lesser f (first_name listed behind)) w.lesser-first.ensures
          ∙ first-told listed u behind first (sym c.is_unlisted.ensures ∙ w.if-is_unlisted.true)
      | else-is_unlisted w ↦
          ap (λ f. lesser (option_map (λ n. n.now) f) (first_name listed behind)) w.first-is
          ∙ first-passed listed u behind first (sym c.is_unlisted.ensures ∙ w.if-is_unlisted.false)
    ] in
    next ∙ ap (λ us. lesser first (first_name listed us)) (sym at) ∙ c.loop-upload.invariant

pub returns : goal.returns
returns c =
    let listed = c.args.listed.now in
    let uploads = c.args.uploads.now in
    let first : Option (List ℕ) = option_map (λ n. n.now) c.loop-upload.first in
    let past : length uploads ≤ c.loop-upload.upload-index = omega arith in
    let found : first ≡ first_name listed uploads =
    sym (ap (λ us. lesser first (first_name listed us)) (drop_all c.loop-upload.upload-index uploads past) ∙ lesser-none first) ∙ c.loop-upload.invariant in
    viewed-name c.loop-upload.first ∙ ap (option_map (λ n. of_file n 5)) found ∙ sym (unlisted-first listed uploads)

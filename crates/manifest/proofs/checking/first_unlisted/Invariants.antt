use Rattle.std.proofs.Common.{◌≡◌, drop}
use Rattle.std.specs.Prelude.{option_map}
use Rattle.manifest.specs.Least.{lesser}
use Rattle.manifest.proofs.Uploads.{first_name}
use Rattle.manifest.proofs.checking.first_unlisted.Given as goal

abbrev pub invariant-loop-upload : goal.invariant-loop-upload
invariant-loop-upload l = lesser (option_map (λ n. n.now) l.first) (first_name l.listed (drop l.upload-index l.uploads)) ≡ first_name l.listed l.uploads

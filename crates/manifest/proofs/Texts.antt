-- The bytes of a manifest are JSON in UTF-8, or not.
use Rattle.std.proofs.Common.{◌≡◌, ℕ, List, Bool, true, false, cond, Option, Some, None, Err, refl, ap, ◌∙◌}
use Rattle.std.specs.Str.{IsUtf8, is_utf8}
use Rattle.std.proofs.lemmas.Str.{IsUtf8-from_is_utf8, is_utf8-from_IsUtf8}
use Rattle.serde_json.specs.Data.{Data}
use Rattle.serde_json.specs.Read as json
use Rattle.store_types.specs.Chain.Refusing.{◌>>=◌, or_else}
use Rattle.store_files.specs.Manifest.{bad_json, manifest_of}
use Rattle.manifest.specs.Reading.{manifest_in}

pub manifest-of_json : (bytes : List ℕ) (d : Data) → IsUtf8 bytes → json.read bytes ≡ Some d → manifest_of bytes ≡ manifest_in d
unfolding manifest_of
manifest-of_json bytes d is_text reads =
    ap (λ b. or_else bad_json (cond b (json.read bytes) None) >>= manifest_in) (is_utf8-from_IsUtf8 bytes is_text)
    ∙ ap (λ o. or_else bad_json o >>= manifest_in) reads

pub manifest-no_json : (bytes : List ℕ) → (IsUtf8 bytes → json.read bytes ≡ None) → manifest_of bytes ≡ Err bad_json
unfolding manifest_of
manifest-no_json bytes none = by_test (is_utf8 bytes) (json.read bytes) (λ e. none (IsUtf8-from_is_utf8 bytes e))
  where
    by_test : (b : Bool) (o : Option Data) → (b ≡ true → o ≡ None) → (or_else bad_json (cond b o None) >>= manifest_in) ≡ Err bad_json
    by_test true o h = ap (λ o. or_else bad_json o >>= manifest_in) (h refl)
    by_test false o h = refl

-- 64 hexadecimal digits are read into a digest of 32 bytes.
use Rattle.std.proofs.Common.{◌≡◌, ℕ, ◌*◌, List, length, Bool, true, false, Option, Some, None, Result, Ok, Err, refl, sym, ap, ◌∙◌, arith}
use Rattle.std.specs.Prelude.{◌==◌}
use Rattle.std.specs.Result.{result_ok}
use Rattle.std.proofs.lemmas.Bool.{eq-eqb, eqb-true}
use Rattle.hex.specs.Hex.{decode_of, decode_sized}
use Rattle.hex.specs.declared.error.FromHexError.{FromHexError}
use Rattle.hex.proofs.HexLemmas.{decode_of-ok, decode_sized-ok, decode_sized-twice}
use Rattle.store_types.specs.declared.names.Digest32.{Digest32}
use Rattle.store_types.specs.Chain.Reading.{◌>>=◌, only_if}
use Rattle.manifest.specs.Fields.{digest_of}

-- the digest that these bytes are, where there are 32
abbrev digest_from : Result (List ℕ) FromHexError → Option Digest32
digest_from r = do
  bytes ← result_ok r
  _ ← only_if (length bytes == 32)
  Some (record { 0 = bytes })

pub digest-some : (text bytes : List ℕ) → decode_sized text 32 ≡ Ok bytes → digest_of text ≡ Some (record { 0 = bytes })
digest-some text bytes h =
    let long = decode_sized-ok text 32 bytes h in
    let read : decode_of text ≡ Ok bytes = sym (decode_sized-twice text 32 long) ∙ h in
    let size : length bytes ≡ 32 = omega (arith, long, (decode_of-ok text bytes read).2) in
    ap digest_from read ∙ ap (λ b. only_if b >>= (λ _. Some (record { 0 = bytes }))) (eq-eqb (length bytes) 32 size)

not_sized : (text bytes : List ℕ) (e : FromHexError) → decode_sized text 32 ≡ Err e → decode_of text ≡ Ok bytes → (b : Bool) → (length bytes == 32) ≡ b → digest_from (Ok bytes) ≡ None
not_sized text bytes e h read true is =
    let long : length text ≡ 2 * 32 = omega (arith, eqb-true (length bytes) 32 is, (decode_of-ok text bytes read).2) in
    let other = sym h ∙ decode_sized-twice text 32 long ∙ read in
    cc
not_sized text bytes e h read false is = ap (λ b. only_if b >>= (λ _. Some (record { 0 = bytes }))) is

pub digest-none : (text : List ℕ) (e : FromHexError) → decode_sized text 32 ≡ Err e → digest_of text ≡ None
digest-none text e h = by_result (decode_of text) refl
  where
    by_result : (r : Result (List ℕ) FromHexError) → decode_of text ≡ r → digest_of text ≡ None
    by_result (Ok bytes) read = ap digest_from read ∙ not_sized text bytes e h read (length bytes == 32) refl
    by_result (Err f) read = ap digest_from read

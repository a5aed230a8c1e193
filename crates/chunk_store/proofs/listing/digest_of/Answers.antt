use Rattle.std.proofs.Common.{◌≡◌, ◌∙◌, Bool, true, false, Some, None, Ok, if◌then◌else◌, length, drop, sym, ap, rules}
use Rattle.std.specs.Prelude.{slice_range}
use Rattle.std.specs.Str.{bytes_eq}
use Rattle.hex.specs.Hex.{decode_sized}
use Rattle.store_types.specs.declared.names.Digest32.{Digest32}
use Rattle.store_files.specs.Folder.{chunk_name}
use Rattle.chunk_store.specs.Listed.{by_digits}
use Rattle.chunk_store.proofs.Scanning.{behind_folder, ok_from}
use Rattle.chunk_store.proofs.listing.digest_of.Goals as goal

pub returns-then-eq : goal.returns-then-eq
returns-then-eq c =
    let digits : c.in_ok-digits.digits.now ≡ drop 13 c.args.name.now =
    c.in_ok-digits.ensures.lookup.0.2 ∙ ap (λ x. slice_range x 13 (length x)) c.as_bytes.ensures.value ∙ behind_folder c.args.name.now in
    let read : decode_sized (drop 13 c.args.name.now) 32 ≡ Ok c.in_ok-ok.field-0 =
    ap (λ t. decode_sized t 32) (sym digits) ∙ sym c.from_hex.ensures ∙ ok_from c.from_hex.result c.in_ok-ok.field-0 c.in_ok-ok.ensures.value in
    let same : bytes_eq c.args.name.now (chunk_name c.in_ok-ok.field-0) ≡ true = search rules in
    let d : Digest32 = record { 0 = c.in_ok-ok.field-0 } in
    sym (ap (by_digits c.args.name.now) read ∙ ap (λ (t : Bool). if t then Some d else None) same)

pub returns-else-eq : goal.returns-else-eq
returns-else-eq c =
    let digits : c.in_ok-digits.digits.now ≡ drop 13 c.args.name.now =
    c.in_ok-digits.ensures.lookup.0.2 ∙ ap (λ x. slice_range x 13 (length x)) c.as_bytes.ensures.value ∙ behind_folder c.args.name.now in
    let read : decode_sized (drop 13 c.args.name.now) 32 ≡ Ok c.in_ok-ok.field-0 =
    ap (λ t. decode_sized t 32) (sym digits) ∙ sym c.from_hex.ensures ∙ ok_from c.from_hex.result c.in_ok-ok.field-0 c.in_ok-ok.ensures.value in
    let other : bytes_eq c.args.name.now (chunk_name c.in_ok-ok.field-0) ≡ false = search rules in
    let d : Digest32 = record { 0 = c.in_ok-ok.field-0 } in
    sym (ap (by_digits c.args.name.now) read ∙ ap (λ (t : Bool). if t then Some d else None) other)

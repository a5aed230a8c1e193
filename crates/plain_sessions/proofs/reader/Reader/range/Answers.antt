use Rattle.std.proofs.Common.{◌≡◌, ◌∙◌, true, false, Ok, Err, ap, sym, take, drop, length, rules}
use Rattle.std.specs.List.{concat}
use Rattle.store_model.specs.ReaderSteps.{is_noted, pieces_at, want_range}
use Rattle.plain_sessions.specs.declared.stop.Stop.TheVariants.{Refused}
use Rattle.plain_sessions.proofs.Stopping.{gives_refusal}
use Rattle.plain_sessions.proofs.Noted.{range_not_noted, range_refused, range_goes}
use Rattle.plain_sessions.proofs.reader.Reader.range.Goals as goal

pub returns-then-not-is_noted-clause-gives : goal.returns-then-not-is_noted-clause-gives
returns-then-not-is_noted-clause-gives c =
    let no : is_noted c.args.self.now c.args.name.now ≡ false = search rules in
    range_not_noted c.args.files.now c.args.self.now c.args.name.now c.args.offset c.args.count no

pub returns-in_err-want_range-clause-gives : goal.returns-in_err-want_range-clause-gives
returns-in_err-want_range-clause-gives c =
    let files = c.args.files.now in
    let name = c.args.name.now in
    let r = c.in_err-want_range.field-0.0 in
    let noted : is_noted c.args.self.now name ≡ true = search rules in
    let refused : want_range (length (concat (pieces_at files name))) c.args.offset c.args.count ≡ Err r = search rules in
    let is : c.from_residual-in_err-want_range.result ≡ Err (Refused r) = search rules in
    gives_refusal (λ b. b) _ r _ is (range_refused files c.args.self.now name c.args.offset c.args.count noted r refused)

pub returns-clause-gives : goal.returns-clause-gives
returns-clause-gives c =
    let files = c.args.files.now in
    let name = c.args.name.now in
    let offset = c.args.offset in
    let count = c.args.count in
    let noted : is_noted c.args.self.now name ≡ true = search rules in
    let fits : want_range (length (concat (pieces_at files name))) offset count ≡ Ok tt = search rules in
    range_goes files c.args.self.now name offset count noted fits
    ∙ sym (ap (λ b. Ok b) (c.in_ok-bytes.ensures.bytes ∙ ap (λ ps. take count (drop offset (concat ps))) c.pieces_at-pieces.ensures))

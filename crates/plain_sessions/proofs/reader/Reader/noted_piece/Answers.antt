use Rattle.std.proofs.Common.{◌+◌, ◌∙◌, ap, drop, sym, arith}
use Rattle.std.specs.Prelude.{option_map}
use Rattle.std.specs.List.{flat_map}
use Rattle.std.specs.Str.{bytes_eq}
use Rattle.sha2.specs.Sha256.{sha256}
use Rattle.store_files.specs.Archive.{piece_with}
use Rattle.store_model.specs.Store.{Reader}
use Rattle.store_model.specs.ReaderSteps.{pieces_at}
use Rattle.plain_sessions.proofs.Noted.{found_there, asked_on}
use Rattle.plain_sessions.proofs.reader.Reader.noted_piece.Goals as goal

pub returns-in-Some : goal.returns-in-Some
returns-in-Some c =
    let files = c.args.files.now in
    let digest = c.args.digest.now in
    let i = c.loop-name.name-index in
    let xs = c.deref-name-items.result.now in
    let x = c.name-item.result in
    let same = c.deref-name-items.ensures.value ∙ ap (λ (r : Reader). r.noted) c.self.view_is in
    let has = sym (c.piece_with.ensures ∙ ap (piece_with digest) c.pieces_at.ensures) ∙ ap (option_map (λ p. p.now)) c.in-Some.is in
    sym (found_there (λ p. bytes_eq (sha256 p) digest.0) (pieces_at files) xs i x c.in-Some.piece.now (omega arith) c.name-item.is has)
    ∙ ap (λ ns. piece_with digest (flat_map (pieces_at files) (drop i ns))) same ∙ c.loop-name.invariant

pub loop-name-preserved : goal.loop-name-preserved
loop-name-preserved c =
    let files = c.args.files.now in
    let digest = c.args.digest.now in
    let i = c.loop-name.name-index in
    let xs = c.deref-name-items.result.now in
    let x = c.name-item.result in
    let same = c.deref-name-items.ensures.value ∙ ap (λ (r : Reader). r.noted) c.self.view_is in
    let none = sym (c.piece_with.ensures ∙ ap (piece_with digest) c.pieces_at.ensures) ∙ ap (option_map (λ p. p.now)) c.in_default.is in
    sym (ap (λ ns. piece_with digest (flat_map (pieces_at files) (drop (i + 1) ns))) same)
    ∙ sym (asked_on (λ p. bytes_eq (sha256 p) digest.0) (pieces_at files) xs i x (omega arith) c.name-item.is none)
    ∙ ap (λ ns. piece_with digest (flat_map (pieces_at files) (drop i ns))) same ∙ c.loop-name.invariant

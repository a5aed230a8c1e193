use Rattle.std.proofs.Common.{◌≡◌, ◌∙◌, ℕ, List, refl, sym, true, false, rules}
use Rattle.store_types.specs.declared.refusal.Refusal.TheVariants.{NotAllowed}
use Rattle.wire_commands.specs.declared.command.Command.TheVariants.{GetChunk}
use Rattle.store_history.specs.declared.act.Act.TheVariants.{Plain}
use Rattle.core_state.proofs.Commanding.{none_refused, read_does, refused_does, same_kept, stopped_does, stopped_leaves, unread_does}
use Rattle.core_state.proofs.Texts.{not_allowed_has_text, data_has_text}
use Rattle.core_reader.proofs.Getting.{allowed_piece, blob_short, get_given, get_unread, not_allowed}
use Rattle.core_reader.proofs.Loads.{at_called, at_got, at_text}
use Rattle.core_reader.proofs.chunks.get_chunk.Goals as goal

pub returns-in_err-reader-clause-does : goal.returns-in_err-reader-clause-does
returns-in_err-reader-clause-does g c =
    unread_does g.D.Disk c.args.parts.now c.args.at (Plain (GetChunk c.args.digest.now)) _ _ c.from_residual.ensures.1 c.requires
    c.in_err-reader.ensures.value c.in_err-reader.ensures.text (λ state. refl) (λ s. get_unread s c.args.at.lane c.args.at.moment c.args.digest.now _)

pub returns-then-not-allowed-clause-does : goal.returns-then-not-allowed-clause-does
returns-then-not-allowed-clause-does g c =
    let no : c.allowed.result ≡ false = search rules in
    refused_does g.D.Disk c.args.parts.now _ c.args.at (Plain (GetChunk c.args.digest.now)) NotAllowed _ refl refl (same_kept _) not_allowed_has_text refl
    (λ s shows. not_allowed c.args.parts.now s c.args.at.lane c.args.at.moment c.args.digest.now _ shows c.requires c.in_ok-reader.ensures.value (λ files r is. sym no ∙ c.allowed.ensures.plain files r is))

pub returns-in_err-chunk-clause-does : goal.returns-in_err-chunk-clause-does
returns-in_err-chunk-clause-does g c =
    let yes : c.allowed.result ≡ true = search rules in
    stopped_does g.D.Disk c.args.parts.now _ c.args.at (Plain (GetChunk c.args.digest.now)) c.read_chunk.result _ _ c.from_residual-in_err-chunk.ensures.1 c.in_err-chunk.was
    c.read_chunk.ensures.reads (record { catalogue = refl; sessions = refl; locks = refl; indexes = refl })
    (at_text c.args.digest.now _ c.in_err-chunk.ensures.damage) (at_got c.args.digest.now _ c.in_err-chunk.ensures.damage)
    (λ s h.
    let (p, held, named, is) = allowed_piece g.D.Disk c.args.parts.now s c.args.at.lane c.args.at.moment c.args.digest.now _ h c.requires c.in_ok-reader.ensures.value (λ files r is. sym yes ∙ c.allowed.ensures.plain files r is) in
    none_refused {A = List ℕ} (λ chunk. chunk) p _ _ (c.in_err-chunk.ensures.held h.honest p held named))

pub returns-in_err-chunk-clause-leaves : goal.returns-in_err-chunk-clause-leaves
returns-in_err-chunk-clause-leaves g c =
    stopped_leaves g.D.Disk c.args.parts.now _ c.args.at (Plain (GetChunk c.args.digest.now)) _ _ _ c.from_residual-in_err-chunk.ensures.1
    c.read_chunk.ensures.reads (record { catalogue = refl; sessions = refl; locks = refl; indexes = refl }) refl
    (at_called c.args.digest.now _ _ c.in_err-chunk.ensures.damage) (λ e. cc)

pub returns-clause-does : goal.returns-clause-does
returns-clause-does g c =
    let yes : c.allowed.result ≡ true = search rules in
    let blob = c.from_vec.ensures ∙ c.into_blob.ensures in
    read_does g.D.Disk c.args.parts.now _ c.args.at (Plain (GetChunk c.args.digest.now)) _ _ c.read_chunk.ensures.reads (record { catalogue = refl; sessions = refl; locks = refl; indexes = refl })
    (data_has_text c.from_vec.result (blob_short _ c.from_vec.result blob c.in_ok-chunk.ensures.size)) refl tt
    (λ s h.
    let (p, held, named, is) = allowed_piece g.D.Disk c.args.parts.now s c.args.at.lane c.args.at.moment c.args.digest.now _ h c.requires c.in_ok-reader.ensures.value (λ files r is. sym yes ∙ c.allowed.ensures.plain files r is) in
    get_given s c.args.at.lane c.args.at.moment c.args.digest.now p _ c.from_vec.result is (c.in_ok-chunk.ensures.held h.honest p held named) blob)

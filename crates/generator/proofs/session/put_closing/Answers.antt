use Rattle.std.proofs.Common.{◌≡◌, ℕ, ◌∷◌, ◌++◌, List, [], length, ap, sym, subst, arith, ◌∙◌}
use Rattle.store_types.specs.declared.names.Digest32.{Digest32}
use Rattle.wire_commands.specs.HasText.{HasText}
use Rattle.wire_commands.specs.declared.command.Command.TheVariants as commands
use Rattle.generator.specs.Pieces.{pieces}
use Rattle.generator.specs.Archives.{AreLengths, size_of, csum_of}
use Rattle.generator.specs.Sessions.{append, close, manifest_sent, input_of}
use Rattle.generator.proofs.PieceLemmas.{all_fit, length-facts, lengths_fit, size_is, csum_is}
use Rattle.generator.proofs.CommandTexts.{has_text, close_fits, finish_fits}
use Rattle.generator.proofs.SessionLemmas.{both_put, puts_then}
use Rattle.generator.proofs.session.put_closing.Goals as goal

abbrev digest_with : List ℕ → Digest32
digest_with bytes = record { 0 = bytes }

pub index_of-requires-clause-count : goal.index_of-requires-clause-count
index_of-requires-clause-count c = omega (arith, ap length c.requires.made ∙ length-facts c.args.k c.args.j)

pub index_of-requires-clause-lengths : goal.index_of-requires-clause-lengths
index_of-requires-clause-lengths c = subst AreLengths (sym c.requires.made) (lengths_fit (pieces c.args.k c.args.j) (all_fit c.args.k c.args.j))

pub put-requires : goal.put-requires
put-requires c =
    let ps = pieces c.args.k c.args.j in
    let sized : c.in_ok-size.size ≡ size_of ps = c.in_ok-size.ensures.size ∙ size_is c.args.k c.args.j c.args.made.now c.requires.made in
    let summed : c.in_ok-size.csum ≡ csum_of ps = ap digest_with (c.in_ok-size.ensures.csum ∙ csum_is c.args.k c.args.j c.args.made.now c.requires.made) in
    let sent = subst (λ d. HasText (commands.CloseIndex 0 64 (size_of ps) d)) (sym summed) (has_text _ (close_fits c.args.k c.args.j)) in
    subst (λ n. HasText (commands.CloseIndex 0 64 n c.in_ok-size.csum)) (sym sized) sent

pub put-requires-2 : goal.put-requires-2
put-requires-2 c = has_text _ finish_fits

pub returns : goal.returns
returns c =
    let old = c.args.input.now.items in
    let k = c.args.k in
    let j = c.args.j in
    let ps = pieces k j in
    let sized : c.in_ok-size.size ≡ size_of ps = c.in_ok-size.ensures.size ∙ size_is k j c.args.made.now c.requires.made in
    let summed : c.in_ok-size.csum ≡ csum_of ps = ap digest_with (c.in_ok-size.ensures.csum ∙ csum_is k j c.args.made.now c.requires.made) in
    let one = c.put_append.new.input.items in
    let two = c.put.new.input.items in
    let three = c.put_manifest.new.input.items in
    let by_size = subst (λ n. two ≡ one ++ input_of (commands.CloseIndex 0 64 n c.in_ok-size.csum ∷ [])) sized c.in_ok-put.ensures in
    let closed = subst (λ d. two ≡ one ++ input_of (commands.CloseIndex 0 64 (size_of ps) d ∷ [])) summed by_size in
    let by_csum = subst (λ d. three ≡ two ++ input_of (manifest_sent k j d c.in_ok-size.size ∷ [])) summed c.in_ok-put_manifest.ensures in
    let sent = subst (λ n. three ≡ two ++ input_of (manifest_sent k j (csum_of ps) n ∷ [])) sized by_csum in
    let first = both_put old one two (append k j ∷ []) (close k j ∷ []) c.in_ok-put_append.ensures closed in
    let manifest = manifest_sent k j (csum_of ps) (size_of ps) in
    let second = both_put old two three (append k j ∷ close k j ∷ []) (manifest ∷ []) first sent in
    puts_then old three c.put-2.new.input.items (append k j ∷ close k j ∷ manifest ∷ []) (commands.Finish ∷ []) c.put-2.result second c.put-2.ensures

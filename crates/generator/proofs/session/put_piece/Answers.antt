use Rattle.std.proofs.Common.{◌≡◌, ◌-◌, ◌∷◌, ◌++◌, [], false, if◌then◌else◌, length, sym, ap, arith, ◌∙◌}
use Rattle.generator.specs.Pieces.{is_sent, piece_at}
use Rattle.generator.specs.Sessions.{chunk_of, chunk_at, input_of}
use Rattle.generator.proofs.PieceLemmas.{not_sent, length-facts, kept_fact}
use Rattle.generator.proofs.SessionLemmas.{puts_none}
use Rattle.generator.proofs.session.put_piece.Goals as goal

pub bounds-before-i : goal.bounds-before-i
bounds-before-i c =
    let kept = not_sent c.args.k c.args.j c.args.i (sym c.is_sent.ensures ∙ c.if-is_sent.false) in
    omega (arith, ap length (c.requires.before kept.later), length-facts c.args.k (c.args.j - 1), c.requires.piece)

pub returns-else-is_sent-clause-puts : goal.returns-else-is_sent-clause-puts
returns-else-is_sent-clause-puts c =
    let old = c.args.input.now.items in
    let sent : is_sent c.args.j c.args.i ≡ false = sym c.is_sent.ensures ∙ c.if-is_sent.false in
    let none : chunk_at c.args.k c.args.j c.args.i ≡ [] = ap (λ b. if b then chunk_of (piece_at c.args.k c.args.j c.args.i) ∷ [] else []) sent in
    puts_none old ∙ ap (λ cs. old ++ input_of cs) (sym none)

pub returns-else-is_sent-clause-fact : goal.returns-else-is_sent-clause-fact
returns-else-is_sent-clause-fact c =
    let kept = not_sent c.args.k c.args.j c.args.i (sym c.is_sent.ensures ∙ c.if-is_sent.false) in
    kept_fact c.args.k c.args.j c.args.i c.args.before.now _ kept c.requires.piece (c.requires.before kept.later)

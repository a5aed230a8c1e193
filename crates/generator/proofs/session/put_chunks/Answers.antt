use Rattle.std.proofs.Common.{◌≡◌, ◌∷◌, ◌++◌, [], sym, ap, arith, ◌∙◌}
use Rattle.generator.specs.Sessions.{first_chunks, chunk_at, input_of}
use Rattle.generator.proofs.PieceLemmas.{first_facts, facts_more, facts_are}
use Rattle.generator.proofs.SessionLemmas.{both_put, puts_none, chunks_none, chunks_more}
use Rattle.generator.proofs.session.put_chunks.Goals as goal

pub loop-i-init : goal.loop-i-init
loop-i-init c =
    let old = c.args.input.now.items in
    record {
      puts = puts_none old ∙ ap (λ cs. old ++ input_of cs) (sym (chunks_none c.args.k c.args.j));
      made = c.in_ok-made.ensures.items;
    }

pub loop-i-preserved : goal.loop-i-preserved
loop-i-preserved c =
    let old = c.args.input.now.items in
    let k = c.args.k in
    let j = c.args.j in
    let i = c.loop-i.i in
    record {
      puts =
          both_put old _ c.put_piece.new.input.items (first_chunks k j i) (chunk_at k j i) c.loop-i.invariant.puts c.in_ok-put_piece.ensures.puts
          ∙ ap (λ cs. old ++ input_of cs) (sym (chunks_more k j i));
      made =
          c.in_ok-push.ensures.items ∙ ap (λ fs. fs ++ c.in_ok-put_piece.field-0 ∷ []) c.loop-i.invariant.made
          ∙ ap (λ f. first_facts k j i ++ f ∷ []) c.in_ok-put_piece.ensures.fact ∙ sym (facts_more k j i);
    }

pub returns-clause-made : goal.returns-clause-made
returns-clause-made c =
    let all : c.loop-i.i ≡ 64 = omega (arith, c.loop-i-test.false, c.loop-i.auto.i-end) in
    c.loop-i.invariant.made ∙ ap (first_facts c.args.k c.args.j) all ∙ facts_are c.args.k c.args.j

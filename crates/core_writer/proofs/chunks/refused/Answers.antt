use Rattle.std.proofs.Common.{refl, sym, ap, subst, arith}
use Rattle.wire_commands.specs.HasText.{ReplyHasText}
use Rattle.wire_commands.specs.declared.reply.Reply.TheVariants.{Refused}
use Rattle.store_history.specs.Replies.{refuses_chunk}
use Rattle.core_state.proofs.Texts.{wrong_size_has_text}
use Rattle.core_writer.proofs.ChunkLemmas.{empty_refused}
use Rattle.core_writer.proofs.chunks.refused.Goals as goal

pub returns-in_default : goal.returns-in_default
returns-in_default c =
    let is = empty_refused c.args.digest.now c.args.refusal c.requires c.in_default.not-BadBlob c.in_default.not-WrongDigest in
    record {
      value = refl;
      kind = ap refuses_chunk is;
      text = subst (λ r. ReplyHasText (Refused r)) (sym is) (wrong_size_has_text 0 0 (omega arith) (omega arith));
    }

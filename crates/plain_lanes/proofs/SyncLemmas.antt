-- What a SYNC makes of the replies to its steps.
use Rattle.std.proofs.Common.{◌≡◌, ℕ, ◌*◌, ◌≤◌, ◌<◌, true, false, List, [], ◌∷◌, ◌++◌, length, refl, sym, ap, arith, length-append}
use Rattle.std.specs.Prelude.{All}
use Rattle.std.specs.List.{flat_map}
use Rattle.std.proofs.lemmas.List.Elements.{All-head, All-tail}
use Rattle.store_types.specs.Names.{key_text}
use Rattle.store_files.specs.Archive.{Snapshot}
use Rattle.wire_commands.specs.declared.command.Command.{Command}
use Rattle.wire_commands.specs.declared.reply.Reply.{Reply}
use Rattle.wire_commands.specs.declared.reply.Reply.TheVariants.{Base, Keys, Refused}
use Rattle.wire_commands.specs.Fields.{text}
use Rattle.wire_commands.specs.ReplyText.{reply_text}
use Rattle.wire_commands.specs.HasText.{IsText, ReplyHasText}
use Rattle.store_model.specs.Job.{Pull, over, asking, beginning, sending, aborting, ended_by, is_refused}
use Rattle.store_model.specs.SyncJob.{next_snapshot, next_command, commands_of, begun, replied}
use Rattle.plain_lanes.specs.Pulls.{is_base}

texts_short : (ts : List (List ℕ)) → All IsText ts → length (flat_map text ts) ≤ 256 * length ts
texts_short [] fit = omega arith
texts_short (t ∷ ts) fit =
    let first = All-head IsText t ts fit in
    let rest = texts_short ts (All-tail IsText t ts fit) in
    simp length-append (omega (arith, first, rest))

pub keys_spelled : (ts : List (List ℕ)) → length ts < 65536 → All IsText ts → ReplyHasText (Keys ts)
unfolding reply_text
keys_spelled ts few fit = ((few, fit), simp length-append (omega (arith, few, texts_short ts fit)))

module _ (pulled : List (List ℕ)) where
  pub no_snapshot : (xs : List Snapshot) → length xs ≡ 0 → over (Keys pulled) ≡ next_snapshot pulled xs
  unfolding next_snapshot
  no_snapshot [] h = refl
  no_snapshot (x ∷ xs) h = absurd (omega arith)

  pub a_snapshot : (xs rest : List Snapshot) (x : Snapshot) → xs ≡ x ∷ rest
      → asking (beginning (record { snapshot = x; later = rest; pulled = pulled })) ≡ next_snapshot pulled xs
  unfolding next_snapshot
  a_snapshot xs rest x is = sym (ap (next_snapshot pulled) is)

module _ (p : Pull) where
  pub no_command : (cs : List Command) → length cs ≡ 0 → next_snapshot (p.pulled ++ key_text (p.snapshot).key ∷ []) p.later ≡ next_command p cs
  unfolding next_command
  no_command [] h = refl
  no_command (c ∷ cs) h = absurd (omega arith)

  pub a_command : (cs rest : List Command) (c : Command) → cs ≡ c ∷ rest → asking (sending p c rest) ≡ next_command p cs
  unfolding next_command
  a_command cs rest c is = sym (ap (next_command p) is)

  pub begins : (reply : Reply) → is_base reply ≡ true → next_command p (commands_of p.snapshot) ≡ begun p reply
  unfolding begun
  begins (Base snapshot) h = refl
  begins reply h = cc

  pub begins_not : (reply : Reply) → is_base reply ≡ false → over reply ≡ begun p reply
  unfolding begun
  begins_not (Base snapshot) h = cc
  begins_not reply h = refl

  module _ (later : List Command) where
    pub refused : (reply : Reply) → is_refused reply ≡ true → ended_by aborting reply ≡ replied p later reply
    unfolding replied
    refused (Refused refusal) h = refl
    refused reply h = cc

    pub done : (reply : Reply) → is_refused reply ≡ false → next_command p later ≡ replied p later reply
    unfolding replied
    done (Refused refusal) h = cc
    done reply h = refl

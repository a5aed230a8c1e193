-- What is told of a job's step is a reply to it.
use Rattle.std.proofs.Common.{◌≡◌, ◌≤◌, ◌⊎◌, inl, inr, ℕ, Bool, true, List, length, IsTrue, refl, subst, arith, nat_le}
use Rattle.std.proofs.lemmas.Bool.Decides.{nat_tests}
use Rattle.store_types.specs.declared.names.Keep.{Keep}
use Rattle.wire_commands.specs.declared.command.Command.{Command}
use Rattle.wire_commands.specs.declared.command.Command.TheVariants as commands
use Rattle.wire_commands.specs.declared.reply.Reply.{Reply}
use Rattle.wire_commands.specs.declared.reply.Reply.TheVariants as replies
use Rattle.store_model.specs.declared.step.Step.{Step}
use Rattle.store_model.specs.declared.step.Step.TheVariants as made
use Rattle.store_model.specs.Stands.{group_limit}
use Rattle.store_model.specs.Job.{Asking, grouping, forgetting, opening, listing, reading, checking, closing, step_of, asking}
use Rattle.store_model.specs.JobReplies.{IsReplyTo}
use Rattle.store_history.specs.declared.act.Act.{Act}
use Rattle.store_history.specs.declared.act.Act.TheVariants as acts
use Rattle.store_history.specs.Acts.{act_of_command, act_of_step}
use Rattle.store_history.specs.Begun.{IsBegun}
use Rattle.store_history.specs.Replies.{may_answer, may_give, answers_prune, answers_forget, answers_reader, answers_files, answers_part, answers_entry, answers_close}
use Rattle.lane.specs.declared.acts.Told.{Told}
use Rattle.lane.specs.Acting.{IsRefused, MayTell}
use Rattle.lane.specs.Tasks.{steps, IsActOf}

refused_replies : (s : Step) (r : Reply) → IsRefused r → IsReplyTo s r
refused_replies (made.Command c) (replies.Refused refusal) h = (tt, tt)
refused_replies (made.ReadFile name offset) (replies.Refused refusal) h = tt
refused_replies (made.ReadChunk name entry) (replies.Refused refusal) h = tt
refused_replies s r h = absurd h

within : (n : ℕ) → nat_le n group_limit ≡ true → n ≤ group_limit
within n is = grind (arith, nat_tests)

-- the first step of a PRUNE gives its group's snapshots
prune_replies : (group : List ℕ) (keep : Keep) (dry : Bool) (r : Reply) → IsTrue (answers_prune r) → IsReplyTo (made.Command (commands.Prune group keep dry)) r
prune_replies group keep dry (replies.Keys snapshots) may = (refl, within (length snapshots) may)
prune_replies group keep dry (replies.Refused refusal) may = (tt, tt)
prune_replies group keep dry r may = cc

forget_replies : (snapshot : List ℕ) (r : Reply) → IsTrue (answers_forget r) → IsReplyTo (made.Command (commands.Forget snapshot)) r
forget_replies snapshot replies.Done may = (refl, tt)
forget_replies snapshot (replies.Refused refusal) may = (tt, tt)
forget_replies snapshot r may = cc

-- a VERIFY's

files_replies : (snapshot : List ℕ) (r : Reply) → IsTrue (answers_files r) → IsReplyTo (made.Command (commands.Files snapshot)) r
files_replies snapshot (replies.Files rows) may = (refl, tt)
files_replies snapshot (replies.Refused refusal) may = (tt, tt)
files_replies snapshot r may = cc

part_replies : (name : List ℕ) (offset : ℕ) (r : Reply) → IsTrue (answers_part offset r) → IsReplyTo (made.ReadFile name offset) r
part_replies name offset (replies.Part total bytes) may = refl
part_replies name offset (replies.Refused refusal) may = tt
part_replies name offset r may = cc

entry_replies : (name : List ℕ) (entry : ℕ) (r : Reply) → IsTrue (answers_entry r) → IsReplyTo (made.ReadChunk name entry) r
entry_replies name entry (replies.Data bytes) may = refl
entry_replies name entry (replies.Refused refusal) may = tt
entry_replies name entry r may = cc

reader_replies : (snapshot : List ℕ) (r : Reply) → IsTrue (answers_reader r) → IsReplyTo (made.Command (commands.OpenReader snapshot)) r
reader_replies snapshot replies.Done may = (refl, tt)
reader_replies snapshot (replies.Refused refusal) may = (tt, tt)
reader_replies snapshot r may = cc

close_replies : (r : Reply) → IsTrue (answers_close r) → IsReplyTo (made.Command commands.CloseReader) r
close_replies replies.Done may = (refl, tt)
close_replies (replies.Refused refusal) may = (tt, tt)
close_replies r may = cc

step_replies : (j : Asking) (r : Reply) → IsBegun (asking j) → IsTrue (may_answer (act_of_step (step_of j)) r) → IsReplyTo (step_of j) r
step_replies (grouping (commands.Prune group keep dry) k d) r begun may = prune_replies group keep dry r may
step_replies (grouping c keep dry) r begun may = absurd begun
step_replies (forgetting before snapshot later) r begun may = forget_replies snapshot r may
step_replies (opening snapshot) r begun may = reader_replies snapshot r may
step_replies (listing snapshot) r begun may = files_replies snapshot r may
step_replies (reading v row bytes) r begun may = part_replies row.file (length bytes) r may
step_replies (checking v row fault place d later) r begun may = entry_replies row.file place r may
step_replies (closing report) r begun may = close_replies r may
step_replies j r begun may = absurd begun

pub short_no_answer : (r : Reply) → IsTrue (may_answer acts.Short r) → ⊥
short_no_answer r may = cc

-- no step of a job reads the remote
command_no_read : (c : Command) (r : Reply) → IsTrue (may_give (act_of_command c) r) → ⊥
command_no_read (commands.Chunk digest blob) r may = cc
command_no_read (commands.Blob file blob) r may = cc
command_no_read (commands.Prune group keep dry) r may = cc
command_no_read c r may = cc

step_no_read : (s : Step) (r : Reply) → IsTrue (may_give (act_of_step s) r) → ⊥
step_no_read (made.Command c) r may = command_no_read c r may
step_no_read (made.ReadFile name offset) r may = cc
step_no_read (made.ReadChunk name entry) r may = cc

short_no_read : (r : Reply) → IsTrue (may_give acts.Short r) → ⊥
short_no_read r may = cc

-- so it tells what its command's tests may answer, or another refusal
pub tells_step : (j : Asking) (act : Act) (told : Told) → IsActOf (steps j) act → MayTell act told → IsTrue (may_answer act told.reply) ⊎ IsRefused told.reply
tells_step j act told of tells = by_reply of tells.reply_is
  where
    by_reply : IsActOf (steps j) act → IsTrue (may_answer act told.reply) ⊎ (IsTrue (may_give act told.reply) ⊎ IsRefused told.reply) → IsTrue (may_answer act told.reply) ⊎ IsRefused told.reply
    by_reply h (inl may) = inl may
    by_reply h (inr (inr refused)) = inr refused
    by_reply (inl is) (inr (inl may)) = absurd (step_no_read (step_of j) told.reply (subst (λ a. IsTrue (may_give a told.reply)) is may))
    by_reply (inr is) (inr (inl may)) = absurd (short_no_read told.reply (subst (λ a. IsTrue (may_give a told.reply)) is.0 may))

pub replies_to : (j : Asking) (act : Act) (told : Told) → IsBegun (asking j) → IsActOf (steps j) act → MayTell act told → IsReplyTo (step_of j) told.reply
replies_to j act told begun of tells = by_reply of (tells_step j act told of tells)
  where
    by_reply : IsActOf (steps j) act → IsTrue (may_answer act told.reply) ⊎ IsRefused told.reply → IsReplyTo (step_of j) told.reply
    by_reply h (inr refused) = refused_replies (step_of j) told.reply refused
    by_reply (inl is) (inl may) = step_replies j told.reply begun (subst (λ a. IsTrue (may_answer a told.reply)) is may)
    by_reply (inr is) (inl may) = absurd (short_no_answer told.reply (subst (λ a. IsTrue (may_answer a told.reply)) is.0 may))

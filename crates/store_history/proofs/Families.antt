-- The acts of a family, one by one, and what holds of all of them.
use Rattle.std.proofs.Common.{◌≡◌, ℕ, List, false, Result, refl, subst}
use Rattle.store_types.specs.declared.names.Digest32.{Digest32}
use Rattle.store_types.specs.declared.names.FileName.{FileName}
use Rattle.store_types.specs.declared.refusal.Refusal.{Refusal}
use Rattle.wire_commands.specs.declared.command.Command.{Command}
use Rattle.wire_commands.specs.declared.command.Command.TheVariants as commands
use Rattle.store_history.specs.declared.act.Act.{Act}
use Rattle.store_history.specs.declared.act.Act.TheVariants as acts
use Rattle.store_history.specs.declared.act.Family.{Family}
use Rattle.store_history.specs.declared.act.Family.TheVariants.{Reads, Writes, Manages, Collects, Reaches, Wants, Ends}
use Rattle.store_history.specs.Acts.{IsPlain, IsWellFormed, class_of, command_family, family_of, is_collecting, stepping}
use Rattle.store_history.specs.LastTouches.{may_touch}

-- ---- a command is read, written or managed by

abbrev IsOfCommands : Family → Type 0
IsOfCommands Reads = Unit {0}
IsOfCommands Writes = Unit {0}
IsOfCommands Manages = Unit {0}
IsOfCommands family = ⊥

command_is : (c : Command) → IsOfCommands (command_family c)
command_is commands.Bye = tt
command_is c = tt

-- none is a collector's
pub no_collector : (c : Command) → is_collecting (command_family c) ≡ false
no_collector commands.Bye = refl
no_collector c = refl

no_command : {P : Type 0} (c : Command) (family : Family) → command_family c ≡ family → (IsOfCommands family → ⊥) → P
no_command c family is none = absurd (none (subst IsOfCommands is (command_is c)))

-- ---- one by one

module _ (P : Act → Type 0) where
  pub by_reader : ((c : Command) → command_family c ≡ Reads → P (acts.Plain c)) → ((name : FileName) (offset : ℕ) → P (acts.ReadFile name offset))
      → ((name : FileName) (entry : ℕ) → P (acts.ReadChunk name entry)) → (a : Act) → family_of a ≡ Reads → P a
  by_reader plain file chunk (acts.Plain c) is = plain c is
  by_reader plain file chunk (acts.ReadFile name offset) is = file name offset
  by_reader plain file chunk (acts.ReadChunk name entry) is = chunk name entry
  by_reader plain file chunk a is = cc

  pub by_writer : ((c : Command) → command_family c ≡ Writes → P (acts.Plain c)) → ((name : List ℕ) (checked : Result (List ℕ) Refusal) → P (acts.Blob name checked))
      → ((digest : Digest32) (checked : Result (List ℕ) Refusal) → P (acts.Chunk digest checked)) → (a : Act) → family_of a ≡ Writes → P a
  by_writer plain blob chunk (acts.Plain c) is = plain c is
  by_writer plain blob chunk (acts.Blob name checked) is = blob name checked
  by_writer plain blob chunk (acts.Chunk digest checked) is = chunk digest checked
  by_writer plain blob chunk a is = cc

  pub by_admin : ((c : Command) → command_family c ≡ Manages → P (acts.Plain c)) → ((c : Command) → P (acts.JobGroup c)) → (a : Act) → family_of a ≡ Manages → P a
  by_admin plain group (acts.Plain c) is = plain c is
  by_admin plain group (acts.JobGroup c) is = group c
  by_admin plain group a is = cc

  pub by_collector : P acts.Start → P acts.Step → (a : Act) → family_of a ≡ Collects → P a
  by_collector start step acts.Start is = start
  by_collector start step acts.Step is = step
  by_collector start step (acts.Plain c) is = no_command c Collects is (λ none. none)
  by_collector start step a is = cc

  pub by_remote : ((c : Command) → P (acts.RemoteList c)) → ((snapshot : List ℕ) (name : FileName) (offset : ℕ) → P (acts.RemoteFile snapshot name offset))
      → ((digest : Digest32) → P (acts.RemoteChunk digest)) → (a : Act) → family_of a ≡ Reaches → P a
  by_remote list file chunk (acts.RemoteList c) is = list c
  by_remote list file chunk (acts.RemoteFile snapshot name offset) is = file snapshot name offset
  by_remote list file chunk (acts.RemoteChunk digest) is = chunk digest
  by_remote list file chunk (acts.Plain c) is = no_command c Reaches is (λ none. none)
  by_remote list file chunk a is = cc

  pub by_want : P acts.Short → (a : Act) → family_of a ≡ Wants → P a
  by_want short acts.Short is = short
  by_want short (acts.Plain c) is = no_command c Wants is (λ none. none)
  by_want short a is = cc

  pub by_end : P acts.End → (a : Act) → family_of a ≡ Ends → P a
  by_end end acts.End is = end
  by_end end (acts.Plain c) is = no_command c Ends is (λ none. none)
  by_end end a is = cc

-- ---- of all of them

abbrev Steps : Act → Type 0
Steps a = class_of a ≡ stepping

pub reads_step : (a : Act) → family_of a ≡ Reads → class_of a ≡ stepping
reads_step = by_reader Steps (λ c is. refl) (λ name offset. refl) (λ name entry. refl)

pub writes_step : (a : Act) → family_of a ≡ Writes → class_of a ≡ stepping
writes_step = by_writer Steps (λ c is. refl) (λ name checked. refl) (λ digest checked. refl)

pub manages_step : (a : Act) → family_of a ≡ Manages → class_of a ≡ stepping
manages_step = by_admin Steps (λ c is. refl) (λ c. refl)

-- a reader's command is an act of its own
reads_plain : (c : Command) → command_family c ≡ Reads → IsPlain c
reads_plain (commands.Chunk digest blob) is = cc
reads_plain (commands.Blob file blob) is = cc
reads_plain (commands.Prune group keep dry) is = cc
reads_plain (commands.Verify snapshot) is = cc
reads_plain (commands.Sync group) is = cc
reads_plain commands.Gc is = cc
reads_plain commands.Bye is = cc
reads_plain c is = tt

pub reads_formed : (a : Act) → family_of a ≡ Reads → IsWellFormed a
reads_formed = by_reader IsWellFormed reads_plain (λ name offset. tt) (λ name entry. tt)

-- no act but a writer's touches a chunk
untouching : (a : Act) → (family_of a ≡ Writes → ⊥) → may_touch a ≡ false
untouching (acts.Plain (commands.Append number entries)) other = absurd (other refl)
untouching (acts.Chunk digest checked) other = absurd (other refl)
untouching a other = refl

pub reads_untouching : (a : Act) → family_of a ≡ Reads → may_touch a ≡ false
reads_untouching a is = untouching a (λ writes. cc)

pub manages_untouching : (a : Act) → family_of a ≡ Manages → may_touch a ≡ false
manages_untouching a is = untouching a (λ writes. cc)

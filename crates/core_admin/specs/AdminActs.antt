-- What the acts on the store as a whole tell, and the first step of a PRUNE.
use Rattle.std.specs.Prelude.{ℕ, Bool, List, Option, None, Result}
use Rattle.disk_trait.specs.declared.disk.Disk.{Ghosts}
use Rattle.store_types.specs.declared.names.Keep.{Keep}
use Rattle.wire_commands.specs.declared.command.Command.TheVariants.{Files, Prune}
use Rattle.wire_commands.specs.declared.reply.Reply.{Reply}
use Rattle.store_history.specs.declared.act.Act.{Act}
use Rattle.store_history.specs.declared.act.Act.TheVariants.{Plain, JobGroup}
use Rattle.core_state.specs.declared.entering.Place.{Place}
use Rattle.core_state.specs.declared.parts.Parts.{Parts}
use Rattle.store_stops.specs.declared.stop.Stop.{Stop}
use Rattle.core_state.specs.Commands.{ActDoes, ActLeaves}
use Rattle.core_state.specs.Kept.{KeptAt}
use Rattle.core_state.specs.Unreadables.{Asked}
use Rattle.core_state.specs.Tells.{Words, plain_words}
use Rattle.core_admin.specs.AnsweredBy.{ActAnswersBy, AnswersBy}
use Rattle.core_admin.specs.FilesTold.{asked_files}

-- the file that an act asks for: the manifest of the snapshot whose files it tells, or the file that makes it damaged
abbrev pub asked_of_admin : Act → KeptAt → Option Asked
asked_of_admin (Plain (Files snapshot)) k = asked_files snapshot k
asked_of_admin act k = None

-- what it tells
abbrev pub admin_words : {D : Type 0} → Act → Words D
admin_words act = record (plain_words (λ d disk k reply. AnswersBy d disk act k reply)) { asked = asked_of_admin act }

-- ---- the first step of a PRUNE, which changes nothing

abbrev pub PruneDoes : {D : Type 0} → Ghosts D → Parts D → Place → List ℕ → Keep → Bool → Result Reply Stop → Type 0
PruneDoes d parts at group keep dry result = ActDoes d parts parts at (JobGroup (Prune group keep dry)) result

abbrev pub PruneLeaves : {D : Type 0} → Ghosts D → Parts D → Place → List ℕ → Keep → Bool → Result Reply Stop → Type 0
PruneLeaves d parts at group keep dry result = ActLeaves d parts parts at (JobGroup (Prune group keep dry)) result

abbrev pub PruneAnswersBy : {D : Type 0} → Ghosts D → Parts D → Place → List ℕ → Keep → Bool → Result Reply Stop → Type 0
PruneAnswersBy d parts at group keep dry result = ActAnswersBy d parts at (JobGroup (Prune group keep dry)) result

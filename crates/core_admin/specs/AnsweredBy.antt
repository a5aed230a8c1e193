-- What an act's own tests answer by what it finds, on any disk; and FILES by what stands on an honest one.
use Rattle.disk_trait.specs.declared.disk.Disk.{Ghosts}
use Rattle.std.specs.Prelude.{◌≡◌, ℕ, List, Result, IfOk}
use Rattle.wire_commands.specs.declared.command.Command.TheVariants.{List as ListAll, Files as FilesOf, Forget, Prune, Group}
use Rattle.wire_commands.specs.declared.reply.Reply.{Reply}
use Rattle.store_history.specs.declared.act.Act.{Act}
use Rattle.store_history.specs.declared.act.Act.TheVariants.{Plain, JobGroup}
use Rattle.core_state.specs.declared.entering.Place.{Place}
use Rattle.core_state.specs.declared.parts.Parts.{Parts}
use Rattle.store_stops.specs.declared.stop.Stop.{Stop}
use Rattle.store_history.specs.Replies.{reply_told}
use Rattle.core_state.specs.Stops.{told}
use Rattle.core_state.specs.Kept.{KeptAt, kept_at}
use Rattle.core_admin.specs.FilesTold.{TellsFiles}
use Rattle.core_admin.specs.Forgotten.{forget_told}
use Rattle.core_admin.specs.Listings.{list_told, group_told, prune_told}

-- LIST, FORGET, GROUP and the first step of a PRUNE wholly; of FILES, whether there is
-- such a snapshot, and whether it is damaged: where it is whole, rows, or that its manifest is unreadable, on an honest disk exactly as it stands there
abbrev pub AnswersBy : {D : Type 0} → Ghosts D → D → Act → KeptAt → Reply → Type 0
AnswersBy d disk (Plain (ListAll after)) k reply = reply ≡ reply_told (list_told after k)
AnswersBy d disk (Plain (FilesOf snapshot)) k reply = TellsFiles d disk snapshot k reply
AnswersBy d disk (Plain (Forget snapshot)) k reply = reply ≡ reply_told (forget_told snapshot k)
AnswersBy d disk (Plain (Group group)) k reply = reply ≡ reply_told (group_told group k)
AnswersBy d disk (JobGroup (Prune group keep dry)) k reply = reply ≡ reply_told (prune_told group keep k)
AnswersBy d disk (JobGroup _) k reply = ⊥
AnswersBy d disk _ k reply = Unit {0}

-- a command is answered so, by what the core keeps before it, and its disk
abbrev pub ActAnswersBy : {D : Type 0} → Ghosts D → Parts D → Place → Act → Result Reply Stop → Type 0
ActAnswersBy d old at act result = IfOk (told result) (AnswersBy d old.disk act (kept_at old at.lane))

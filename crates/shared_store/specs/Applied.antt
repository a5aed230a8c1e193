-- What the dispatch promises of one act on a core.
use Rattle.disk_trait.specs.declared.disk.Disk.{Ghosts}
use Rattle.std.specs.Prelude.{ℕ, ◌≡◌, true, false}
use Rattle.port_traits.specs.declared.clock.Clock as clocks
use Rattle.store_types.specs.declared.order.TheConstants.{MEMORY_KIND}
use Rattle.store_history.specs.declared.act.Act.{Act}
use Rattle.store_history.specs.declared.act.Act.TheVariants.{Short}
use Rattle.store_history.specs.declared.act.Answer.{Answer}
use Rattle.core_state.specs.declared.state.Core.{Core}
use Rattle.core_state.specs.Applies.{ActApplies, ActKeeps, CoreApplies}
use Rattle.core_state.specs.Commands.{is_collectors}
use Rattle.store_history.specs.RemoteDisk.{is_remotes, reads_remote}
use Rattle.core_state.specs.Tells.{CoreTells}
use Rattle.core_remote.specs.RemoteActs.{RemoteGives, RemoteTells}
use Rattle.core_collect.specs.Acts.{CoreAnswersBy}
use Rattle.shared_store.specs.Words.{words_of}

pub record HasApplied {D E C : Type 0} (d : Ghosts D) (e : Ghosts E) (clock : clocks.Ghosts C) (old new : Core D E C) (lane : ℕ) (act : Act) (answer : Answer) : Type 0 where
  -- the core stands for each history that it stood for with this act's event more, beside a remote that stands for that of the
  -- history; and its answer has a cause
  pub applies : CoreApplies d e clock old new lane act answer
  -- whatever the remote is, where the act doesn't read it
  pub alone : reads_remote act answer ≡ false → ActApplies d clock old new lane act answer
  -- what it leaves of disk, catalogue, sessions, reserve, and of what each lane keeps of indexes, by the act and its reply; what a crash
  -- leaves
  pub keeps : ActKeeps d old new lane act answer
  -- by its words, on any disk and beside any remote: what it answers, which file and chunk it tells to be unreadable or damaged, how often it
  -- calls the disk, and what it leaves of what its lane keeps of indexes and notes
  pub tells : is_remotes act ≡ false → CoreTells (words_of act old.collector) d old new lane answer
  -- a collector's: what refuses it, which collector opens, goes on or ends
  pub collects : is_collectors act ≡ true → CoreAnswersBy d old new lane act answer
  -- on any remote: what refuses the read; and of an honest one, whatever it holds, what it gives
  pub by_remote : is_remotes act ≡ true → RemoteTells old new lane act answer × RemoteGives e old act answer
  pub short : act ≡ Short → (answer.entry).kind ≡ MEMORY_KIND

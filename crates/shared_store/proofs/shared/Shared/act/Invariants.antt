use Rattle.core_state.specs.History.{event_of}
use Rattle.shared_store.proofs.shared.Shared.act.Given as goal

abbrev pub ghost-enter : goal.ghost-enter
ghost-enter g a = a.about.now.seen

abbrev pub ghost-pass : goal.ghost-pass
ghost-pass g a = event_of a.about.now.0.value a.about.now.1.now (g.D.Disk.calls a.self.value.core.parts.disk)

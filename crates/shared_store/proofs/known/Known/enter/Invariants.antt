use Rattle.std.proofs.Common.{◌++◌, ◌∷◌, []}
use Rattle.core_state.specs.History.{event_of}
use Rattle.shared_store.proofs.known.Known.enter.Given as goal

abbrev pub ghost-show_next : goal.ghost-show_next
ghost-show_next g a = g.history ++ event_of a.about.now.0.value a.about.now.1.value a.about.now.2 ∷ []

use Rattle.std.proofs.Common.{◌≡◌, drop}
use Rattle.core_collect.specs.Starting.{oldest_kept}
use Rattle.core_collect.proofs.StartLemmas.{earliest}
use Rattle.core_collect.proofs.starting.oldest_in.Given as goal

abbrev pub invariant-loop-session : goal.invariant-loop-session
invariant-loop-session l = earliest l.oldest (oldest_kept (drop l.session-index l.sessions)) ≡ oldest_kept l.sessions

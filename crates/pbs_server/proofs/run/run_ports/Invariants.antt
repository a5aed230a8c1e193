use Rattle.std.proofs.Common.{◌≡◌}
use Rattle.pbs_server.proofs.run.run_ports.Given as goal

abbrev pub ghosts-serve_all : goal.ghosts-serve_all
ghosts-serve_all g a = record { is = λ c. c ≡ a.core }

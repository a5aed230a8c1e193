-- The program as a command of clap.
use Rattle.std.specs.Prelude.{[], true, Some, codes}
use Rattle.clap.specs.Words.{App, Rule, Text, new_app, new_rule, with_rule, with_subcommand}
use Rattle.clap.specs.declared.builder.action.ArgAction.TheVariants.{Append}

-- a word that has to stand there
abbrev pub positional : Text → Rule
positional name = record (new_rule name) { required = true }

-- one word or more
abbrev pub sessions : Rule
sessions = record (positional (codes "session")) { action = Some Append }

-- two dashes and the name, and a word behind it
abbrev pub option : Text → Rule
option name = record (new_rule name) { long = Some name }

abbrev pub root : Rule
root = positional (codes "root")

abbrev pub remote : Rule
remote = option (codes "remote")

abbrev pub run : App
run = with_rule (with_rule (with_rule (with_rule (new_app (codes "run")) root) remote)
    (option (codes "order"))) sessions

abbrev pub generate : App
generate = with_rule (with_rule (new_app (codes "gen")) root) (positional (codes "n"))

abbrev pub check : App
check = with_rule (with_rule (with_rule (with_rule (new_app (codes "check")) root)
    (positional (codes "order"))) remote) sessions

-- a command is asked for; help, the command of that name too, and version are switched off
abbrev pub bare : App
bare = record {
  top = record (new_app (codes "pbstore")).top {
    no_binary_name = true;
    disable_help_flag = true;
    disable_help_subcommand = true;
    disable_version_flag = true;
    subcommand_required = true;
  };
  subs = [];
}

abbrev pub program : App
program = with_subcommand (with_subcommand (with_subcommand bare run.top) generate.top) check.top

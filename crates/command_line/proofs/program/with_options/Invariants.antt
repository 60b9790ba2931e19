use Rattle.std.specs.Prelude.{◌≡◌, fold, take, false}
use Rattle.clap.specs.Words.{app_of}
use Rattle.clap.specs.declared.builder.command.Command.TheViews.{out-Command}
use Rattle.command_line.specs.{with_option}
use Rattle.command_line.proofs.program.with_options.Given as goal

-- the command has the options that the loop has passed, and none of them is global
abbrev pub invariant-loop-name : goal.invariant-loop-name
invariant-loop-name l = (app_of l.command ≡ fold (λ a name. with_option a name.now) (app_of l.fn.command) (take l.name-index l.names))
    × ((out-Command l.command).has_globals ≡ false)

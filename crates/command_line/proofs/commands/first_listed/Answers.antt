use Rattle.std.proofs.Common.{◌∙◌, ap, option_map}
use Rattle.std.specs.Str.{bytes_eq}
use Rattle.command_line.specs.{listed}
use Rattle.command_line.proofs.Tables.{find_map, map_lent}
use Rattle.command_line.proofs.commands.first_listed.Goals as goal

pub returns : goal.returns
returns c = map_lent listed c.first_named.result ∙ ap (option_map listed) c.first_named.ensures
    ∙ find_map listed (λ e. bytes_eq e.name c.args.name.now) c.args.rows.now

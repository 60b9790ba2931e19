use Rattle.std.proofs.Common.{◌∙◌, ap, map}
use Rattle.std.proofs.lemmas.Result.{IfErr-weaker}
use Rattle.std.specs.String.{string_bytes}
use Rattle.clap.specs.Words.{App, app_of, takes}
use Rattle.command_line.specs.{bakery}
use Rattle.command_line.proofs.Parsed.{parsed_command, parsed_faultless, parsed_kinds, parsed_rows}
use Rattle.command_line.proofs.Simple.{bakery_is_free, bakery_is_simple}
use Rattle.command_line.proofs.program.matched.Goals as goal

pub returns-clause-rows : goal.returns-clause-rows
returns-clause-rows c =
    let parse = c.try_get_matches_from in
    parsed_rows (app_of c.in_ok-command.command) bakery (map string_bytes c.args.words.now) parse.result c.in_ok-command.ensures.shape bakery_is_simple parse.ensures.matches

pub returns-clause-command : goal.returns-clause-command
returns-clause-command c =
    let parse = c.try_get_matches_from in
    parsed_command (app_of c.in_ok-command.command) bakery (map string_bytes c.args.words.now) parse.result c.in_ok-command.ensures.shape bakery_is_simple parse.ensures.matches

pub returns-clause-faultless : goal.returns-clause-faultless
returns-clause-faultless c =
    let parse = c.try_get_matches_from in
    parsed_faultless (app_of c.in_ok-command.command) bakery (map string_bytes c.args.words.now) parse.result c.in_ok-command.ensures.shape bakery_is_free parse.ensures.kinds

pub returns-clause-memory : goal.returns-clause-memory
returns-clause-memory c =
    let is = c.in_ok-command.ensures.shape in
    let parse = c.try_get_matches_from in
    IfErr-weaker parse.result _ _ (λ e h t. h (ap (λ (a : App). takes a (map string_bytes c.args.words.now)) is ∙ t)) parse.ensures.passes

pub returns-clause-kinds : goal.returns-clause-kinds
returns-clause-kinds c =
    let parse = c.try_get_matches_from in
    parsed_kinds (app_of c.in_ok-command.command) bakery (map string_bytes c.args.words.now) parse.result c.in_ok-command.ensures.shape bakery_is_free parse.ensures.kinds

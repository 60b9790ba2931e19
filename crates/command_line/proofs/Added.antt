-- A command line with one thing more, or a setting.
use Rattle.std.proofs.Common.{ap, sym, ◌∙◌, ◌≡◌, ℕ, ◌+◌, ◌<◌, true, false, List, Some, Bor, length, get_or, take, fold, IfOk, IsOkAnd, Result, Ok, Err}
use Rattle.std.proofs.lemmas.List.Sums.{fold_more}
use Rattle.std.specs.declared.alloc.AllocError.{AllocError}
use Rattle.clap.specs.Simple.{app_of_fields}
use Rattle.clap.specs.Words.{AddsSubcommand, App, Text, app_of, new_app, with_subcommand}
use Rattle.clap.specs.declared.builder.command.Command.{Command}
use Rattle.clap.specs.declared.builder.command.Command.TheOpen.{Command-F}
use Rattle.clap.specs.declared.builder.command.Command.TheViews.{out-Command}

-- a command
pub added : (old : Command) (own new : Result Command AllocError) (shape : App) → IfOk own (λ c. app_of c ≡ shape) → IfOk own (λ c. (out-Command c).has_globals ≡ false) → IfOk new (λ c. IsOkAnd own (λ o. AddsSubcommand old o c)) → IfOk new (λ c. app_of c ≡ with_subcommand (app_of old) shape.top)
added old own (Err e) shape is local adds = tt
added old (Ok o) (Ok c) shape is local adds = adds.shape local ∙ ap (λ (a : App). with_subcommand (app_of old) a.top) is
added old (Err e) (Ok c) shape is local adds = absurd adds

-- one more of a list
pub fold_on : {X : Type 0} (f : App → X → App) (a : App) (xs : List X) (i : ℕ) (d : X) (old new : App) → i < length xs → old ≡ fold f a (take i xs) → new ≡ f old (get_or xs i d) → new ≡ fold f a (take (i + 1) xs)
fold_on f a xs i d old new within is more = more ∙ ap (λ b. f b (get_or xs i d)) is ∙ sym (fold_more f a xs i d within)

-- the settings of the program
pub settled : (name : Text) (made called lone versioned helped : Command-F Command) (version help : Bor Text) → app_of_fields made ≡ new_app name → called ≡ record made { bin_name = called.bin_name } → lone ≡ record called { disable_help_subcommand = true } → versioned ≡ record lone { version = Some version } → helped ≡ record versioned { help_str = Some help } →
    (app_of_fields helped ≡ record (new_app name) { top = record (new_app name).top { has_version = true; disable_help_subcommand = true } }) × (helped.has_globals ≡ made.has_globals)
settled name made called lone versioned helped version help is calls alone versions helps =
    let all = helps
    ∙ ap (λ (c : Command-F Command). record c { help_str = Some help }) (versions
    ∙ ap (λ (c : Command-F Command). record c { version = Some version }) (alone
    ∙ ap (λ (c : Command-F Command). record c { disable_help_subcommand = true }) calls)) in
    (ap app_of_fields all ∙ ap (λ (a : App). record a { top = record a.top { has_version = true; disable_help_subcommand = true } }) is, ap (λ (c : Command-F Command). c.has_globals) all)

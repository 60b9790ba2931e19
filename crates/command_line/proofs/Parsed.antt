-- The results of a parse, restated for an equal command line. That command line is a variable here, so that nothing of it is computed.
use Rattle.std.proofs.Common.{subst, ap, sym, ◌∙◌, ◌≡◌, true, [], List}
use Rattle.std.specs.Prelude.{IfErr, IfOk, Result}
use Rattle.std.proofs.lemmas.Result.{IfErr-weaker, IfOk-weaker}
use Rattle.clap.specs.Words.{App, FailsBy, HasKind, HasMatchesOf, Text, fault_of, found_of, is_simple, is_simple_and_free, matches_of, rows_of, subcommand_of, subcommand_rows_of}
use Rattle.clap.specs.declared.error.Error.{Error}
use Rattle.clap.specs.declared.parser.matches.ArgMatches.{ArgMatches}
use Rattle.command_line.proofs.Faultless.{faultless_ok, faulty_err}

module _ (a b : App) (words : List Text) (r : Result ArgMatches Error) (is : a ≡ b) where
  pub parsed_rows : is_simple b ≡ true → IfOk r (HasMatchesOf a words) → IfOk r (λ m. rows_of (found_of m) ≡ matches_of b words)
  parsed_rows simple = IfOk-weaker r _ _ (λ m h. (h (ap is_simple is ∙ simple)).0 ∙ ap (λ a. matches_of a words) is)

  pub parsed_command : is_simple b ≡ true → IfOk r (HasMatchesOf a words) → IfOk r (λ m. subcommand_rows_of m ≡ subcommand_of b words)
  parsed_command simple = IfOk-weaker r _ _ (λ m h. (h (ap is_simple is ∙ simple)).1 ∙ ap (λ a. subcommand_of a words) is)

  pub parsed_faultless : is_simple_and_free b ≡ true → (is_simple_and_free a ≡ true → FailsBy (fault_of a words) r) → IfOk r (λ _. fault_of b words ≡ [])
  parsed_faultless free fails = IfOk-weaker r _ _ (λ m h. sym (ap (λ a. fault_of a words) is) ∙ h) (faultless_ok r _ (fails (ap is_simple_and_free is ∙ free)))

  pub parsed_kinds : is_simple_and_free b ≡ true → (is_simple_and_free a ≡ true → FailsBy (fault_of a words) r) → IfErr r (HasKind (fault_of b words))
  parsed_kinds free fails = IfErr-weaker r _ _ (λ e h. subst (λ a. HasKind (fault_of a words) e) is h) (faulty_err r _ (fails (ap is_simple_and_free is ∙ free)))

use Rattle.std.proofs.Common.{◌≡◌, true, arith}
use Rattle.std.proofs.lemmas.Bool.Decides.{nat_tests}
use Rattle.record_file.proofs.StepWords.{few_are}
use Rattle.record_file.proofs.step_reading.few_digits.Goals as goal

pub returns-clause-written : goal.returns-clause-written
returns-clause-written c =
    let begun : c.begins.result ≡ true = grind (arith, nat_tests, c.if-not-begins.false) in
    (
    few_are c.args.a c.args.b c.args.c c.value_of-of_one.result c.value_of.result c.value_of-2.result c.goes_on-two.result c.goes_on-three.result c.or_longer-read.result c.or_longer.result
    (c.begins.ensures.digit begun) (c.begins.ensures.nonzero begun) c.goes_on-two.ensures.digit (λ e. (c.goes_on-three.ensures.before e, c.goes_on-three.ensures.digit e))
    c.value_of-of_one.ensures.value c.value_of.ensures.value c.value_of-2.ensures.value
    c.or_longer-read.ensures.yes c.or_longer-read.ensures.no c.or_longer.ensures.yes c.or_longer.ensures.no
    ).0

pub returns-clause-all : goal.returns-clause-all
returns-clause-all c =
    let begun : c.begins.result ≡ true = grind (arith, nat_tests, c.if-not-begins.false) in
    (
    few_are c.args.a c.args.b c.args.c c.value_of-of_one.result c.value_of.result c.value_of-2.result c.goes_on-two.result c.goes_on-three.result c.or_longer-read.result c.or_longer.result
    (c.begins.ensures.digit begun) (c.begins.ensures.nonzero begun) c.goes_on-two.ensures.digit (λ e. (c.goes_on-three.ensures.before e, c.goes_on-three.ensures.digit e))
    c.value_of-of_one.ensures.value c.value_of.ensures.value c.value_of-2.ensures.value
    c.or_longer-read.ensures.yes c.or_longer-read.ensures.no c.or_longer.ensures.yes c.or_longer.ensures.no
    ).1

use Rattle.std.proofs.Common.{◌≡◌, Bool, ◌++◌, OnOk, sym, subst}
use Rattle.record_file.specs.scenario.{bit_word}
use Rattle.record_accesses.proofs.Monitors.{ok_items}
use Rattle.record_accesses.proofs.words.push_digit.Goals as goal

pub returns-in-true : goal.returns-in-true
returns-in-true c =
    subst (λ (v : Bool). OnOk c.extend_from_slice.result (c.extend_from_slice.new.self.items ≡ c.args.text.now.items ++ bit_word v)) (sym c.in-true.is)
    (ok_items c.extend_from_slice.result _ _ _ c.extend_from_slice.ensures.items)

pub returns-in-false : goal.returns-in-false
returns-in-false c =
    subst (λ (v : Bool). OnOk c.extend_from_slice-in-false.result (c.extend_from_slice-in-false.new.self.items ≡ c.args.text.now.items ++ bit_word v)) (sym c.in-false.is)
    (ok_items c.extend_from_slice-in-false.result _ _ _ c.extend_from_slice-in-false.ensures.items)

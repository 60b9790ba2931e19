use Rattle.std.proofs.Common.{rules, arith, ◌≡◌, ◌+◌, ◌++◌, ◌-◌, ◌≤◌, length, take, drop, None, Some, refl, subst, sym}
use Rattle.std.proofs.lemmas.Bool.{false≢true}
use Rattle.std.specs.List.{position}
use Rattle.files.specs.{Held, MovesAll, MovesEnded, ends_line}
use Rattle.files.proofs.Blocks.{moves_all, moves_ended}
use Rattle.files.proofs.CallEnds.{no_value}
use Rattle.files.proofs.source_lines.ahead.ReadAhead.move_to.Goals as goal

-- the bytes before a 0x0A were moved
pub returns-in_ok-extend_from_slice-in-Some : goal.returns-in_ok-extend_from_slice-in-Some
returns-in_ok-extend_from_slice-in-Some c =
    let i = c.self.inside in
    let count = c.in-Some.count in
    let longer = c.extend_from_slice.new.self.items in
    let waiting = take (length i.block.items - i.at) (drop i.at i.block.items) in
    let place : position ends_line waiting ≡ Some count = search (rules, c.in-Some.ensures.place) in
    let moved : longer ≡ c.args.line.now.items ++ take count waiting = search (rules, c.in_ok-extend_from_slice-in-Some.ensures.items) in
    record {
      ended = λ _. subst (λ (a : Held). MovesEnded a.given.bytes (drop (i.at + (count + 1)) i.block.items) c.args.line.now.items longer) c.self.view_is (moves_ended i.block.items i.at count c.args.line.now.items longer place moved);
      all = λ e. absurd (false≢true (sym e));
      source = subst (λ (a : Held). i.ended ≡ a.given.ended) c.self.view_is refl;
    }

-- all bytes that waited were moved
pub returns-in_ok-extend_from_slice-in-None : goal.returns-in_ok-extend_from_slice-in-None
returns-in_ok-extend_from_slice-in-None c =
    let i = c.self.inside in
    let longer = c.extend_from_slice-in-None.new.self.items in
    let waiting = take (length i.block.items - i.at) (drop i.at i.block.items) in
    let behind : length i.block.items ≤ c.len-self-inside.result = omega (arith, c.len-self-inside.ensures, i.block.ok.0) in
    let place : position ends_line waiting ≡ None = search (rules, c.in-None.ensures.place) in
    let moved : longer ≡ c.args.line.now.items ++ waiting = search (rules, c.in_ok-extend_from_slice-in-None.ensures.items) in
    record {
      ended = λ e. absurd (false≢true e);
      all = λ _. subst (λ (a : Held). MovesAll a.given.bytes (drop c.len-self-inside.result i.block.items) c.args.line.now.items longer) c.self.view_is (moves_all i.block.items i.at c.len-self-inside.result c.args.line.now.items longer behind place moved);
      source = subst (λ (a : Held). i.ended ≡ a.given.ended) c.self.view_is refl;
    }

-- there is no memory for the bytes
pub returns-in_err-extend_from_slice-in-Some : goal.returns-in_err-extend_from_slice-in-Some
returns-in_err-extend_from_slice-in-Some c =
    let error = c.in_err-extend_from_slice-in-Some.field-0.0 in
    let r = c.from_residual.result in
    let is = c.from_residual.ensures.1 in
    record { ended = no_value r error _ is; all = no_value r error _ is; source = refl }

pub returns-in_err-extend_from_slice-in-None : goal.returns-in_err-extend_from_slice-in-None
returns-in_err-extend_from_slice-in-None c =
    let error = c.in_err-extend_from_slice-in-None.field-0.0 in
    let r = c.from_residual-in_err-extend_from_slice-in-None.result in
    let is = c.from_residual-in_err-extend_from_slice-in-None.ensures.1 in
    record { ended = no_value r error _ is; all = no_value r error _ is; source = refl }

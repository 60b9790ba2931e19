-- A plan that is made: one call after the other.
use Rattle.std.proofs.Common.{◌≡◌, ℕ, List, [], ◌∷◌, ◌++◌, Some, refl, sym, ap, subst, ◌∙◌}
use Rattle.std.proofs.lemmas.List.{map-append}
use Rattle.plain_store.specs.{Answer, Command, Setup}
use Rattle.model.specs.{Placed}
use Rattle.board.specs.{BoardState, IsOf, OwnView, PortState, SamePort, new_own, stage_in}
use Rattle.board.specs.Calls.{Calls}
use Rattle.board.proofs.PortLists.{all_push}
use Rattle.race.specs.{AreMade, HasCalled, HasMade}
use Rattle.race.proofs.Calling.{is_of_then}

-- an empty plan is made
pub made_none : (board : BoardState) (p : ℕ) (port : PortState) → IsOf board port → port.view.own ≡ new_own p → HasMade board p [] port
made_none board p port is new = record {
  of_board = is;
  process = ap (λ (o : OwnView). o.process) new;
  rests = ap (λ (o : OwnView). stage_in port.setup o) new;
  calls = subst (λ (done : List Placed). AreMade [] done) (sym (ap (λ (o : OwnView). o.calls.done) new)) (record { commands = refl; answered = λ k call at. cc });
}

-- a plan with one more call is made
made_more : (plan : List Command) (calls : List Placed) (call : Placed) → AreMade plan calls → (answer : Answer) × (call.answer ≡ Some answer) → AreMade (plan ++ call.command ∷ []) (calls ++ call ∷ [])
made_more plan calls call h answered = record {
  commands = map-append (λ (c : Placed). c.command) calls (call ∷ []) ∙ ap (λ (xs : List Command). xs ++ call.command ∷ []) h.commands;
  answered = all_push (λ _ (c : Placed). (answer : Answer) × (c.answer ≡ Some answer)) calls call h.answered answered;
}

pub made_then : (board : BoardState) (p : ℕ) (plan : List Command) (old new : PortState) (command : Command) → HasMade board p plan old → SamePort old new → HasCalled old.setup command old.view new.view → HasMade board p (plan ++ command ∷ []) new
made_then board p plan old new command h same c = record {
  of_board = is_of_then board old new h.of_board same;
  process = same.3 ∙ h.process;
  rests = ap (λ (s : Setup). stage_in s new.view.own) same.2 ∙ c.rests;
  calls = subst (AreMade (plan ++ command ∷ [])) (sym done) (subst (λ (x : Command). AreMade (plan ++ x ∷ []) (old.view.own.calls.done ++ c.call ∷ [])) c.of_command (made_more plan old.view.own.calls.done c.call h.calls c.answered));
}
  where
    done : new.view.own.calls.done ≡ old.view.own.calls.done ++ c.call ∷ []
    done = ap (λ (t : Calls). t.done) c.calls

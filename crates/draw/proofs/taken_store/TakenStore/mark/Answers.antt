use Rattle.std.proofs.Common.{◌∷◌, Option, sym, subst, ap, ◌∙◌, option_map}
use Rattle.std.specs.Global.{Vec}
use Rattle.model.specs.{Mark}
use Rattle.picture.specs.picture_layout.{TakenChange, places_marked}
use Rattle.draw.specs.{IsAfterMarks, LastCall, changed}
use Rattle.draw.proofs.TakenStores.{after_called, after_taking, change_taking, is_taking}
use Rattle.draw.proofs.Written.{if_ok_then, ok_then}
use Rattle.draw.proofs.taken_store.TakenStore.mark.Goals as goal

pub returns-in-Called-clause-after : goal.returns-in-Called-clause-after
returns-in-Called-clause-after c = λ s before is.
    let old = c.args.self.now in
    subst (λ (m : Mark). IsAfterMarks s ((c.args.process, m) ∷ before) c.begin.new.self) (sym c.in-Called.is)
    (after_called s before old c.begin.new.self c.args.process c.in-Called.command is c.in-Some.call (sym c.call_of.ensures ∙ c.in-Some.is)
    (c.begin.ensures.taken ∙ c.taken_with-self.ensures ∙ ap (places_marked old.taken) c.in-Called.is) c.begin.ensures.version c.begin.ensures.store (c.begin.ensures.calls s (sym is.version)))

pub returns-in-Taken-clause-change : goal.returns-in-Taken-clause-change
returns-in-Taken-clause-change c =
    let old = c.args.self.now in
    if_ok_then c.apply.result
    (λ (change : Option TakenChange) by s before is.
    change_taking s before old c.apply.new.self c.args.process c.args.mark.now is (c.apply.ensures.taken ∙ c.taken_with-self.ensures) c.in-Some.call (sym c.call_of.ensures ∙ c.in-Some.is) (ap is_taking c.in-Taken.is) (option_map changed change) by)
    c.apply.ensures.change

pub returns-in-Taken-clause-after : goal.returns-in-Taken-clause-after
returns-in-Taken-clause-after c =
    let old = c.args.self.now in
    ok_then c.apply.result
    (λ store s before is.
    after_taking s before old c.apply.new.self c.args.process c.args.mark.now is (c.apply.ensures.taken ∙ c.taken_with-self.ensures) c.in-Some.call (sym c.call_of.ensures ∙ c.in-Some.is) (ap is_taking c.in-Taken.is)
    c.apply.ensures.version (ap (λ (v : Vec LastCall). v.items) c.apply.ensures.calls) store)
    c.apply.ensures.store

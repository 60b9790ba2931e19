use Rattle.std.proofs.Common.{refl, sym, ap, ◌∙◌, true≢false}
use Rattle.model.specs.{Placed}
use Rattle.call_check.specs.{above, several, falling, wrong_reply, without_place, with_place, falls, is_above, is_other_with_place, is_reply_without_place}
use Rattle.call_check.proofs.Judged.{bad_at_last}
use Rattle.call_check.proofs.notes.CallNotes.is_bad.Goals as goal

pub returns-then-is_above : goal.returns-then-is_above
returns-then-is_above c = λ s calls earlier call same followed noted least. (λ t. above (ap (λ (x : Placed). is_above c.args.self.now.count x.place) same ∙ sym c.is_above.ensures ∙ c.if-is_above.true), λ b. refl)

pub returns-then-is_one_of_several : goal.returns-then-is_one_of_several
returns-then-is_one_of_several c = λ s calls earlier call same followed noted least. (λ t. several (sym (c.is_one_of_several.ensures s calls call (ap (λ (x : Placed). x.place) same) followed noted) ∙ c.if-is_one_of_several.true), λ b. refl)

pub returns-then-is_below : goal.returns-then-is_below
returns-then-is_below c = λ s calls earlier call same followed noted least. (λ t. falling (ap (λ (x : Placed). falls s calls earlier x.place) same ∙ sym (c.is_below.ensures s calls earlier least) ∙ c.if-is_below.true), λ b. refl)

pub returns-then-note : goal.returns-then-note
returns-then-note c = λ s calls earlier call same followed noted least. (λ t. wrong_reply (noted.wrong.0 c.if-note.true), λ b. refl)

pub returns-then-is_reply_without_place : goal.returns-then-is_reply_without_place
returns-then-is_reply_without_place c = λ s calls earlier call same followed noted least. (λ t. without_place (ap is_reply_without_place same ∙ sym c.is_reply_without_place.ensures ∙ c.if-is_reply_without_place.true), λ b. refl)

pub returns : goal.returns
returns c = λ s calls earlier call same followed noted least. (
  λ t. with_place (ap is_other_with_place same ∙ sym c.is_other_with_place.ensures ∙ t),
  bad_at_last s calls c.args.self.now.count c.args.self.now.store earlier call c.is_other_with_place.result
      (ap (λ (x : Placed). is_above c.args.self.now.count x.place) same ∙ sym c.is_above.ensures ∙ c.if-is_above.false)
      (sym (c.is_one_of_several.ensures s calls call (ap (λ (x : Placed). x.place) same) followed noted) ∙ c.if-is_one_of_several.false)
      (ap (λ (x : Placed). falls s calls earlier x.place) same ∙ sym (c.is_below.ensures s calls earlier least) ∙ c.if-is_below.false)
      (λ w. absurd (true≢false (sym (noted.wrong.1 w) ∙ c.if-note.false)))
      (ap is_reply_without_place same ∙ sym c.is_reply_without_place.ensures ∙ c.if-is_reply_without_place.false)
      (c.is_other_with_place.ensures ∙ sym (ap is_other_with_place same)),
)

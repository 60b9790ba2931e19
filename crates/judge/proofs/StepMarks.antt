-- No mark of a step must be alone.
use Rattle.std.specs.Prelude.{◌&&◌}
use Rattle.std.proofs.Common.{◌≡◌, ℕ, Bool, true, false, cond, List, [], ◌∷◌, Some, map, refl, ap, ◌∙◌}
use Rattle.std.specs.List.{list_any}
use Rattle.plain_store.specs.{Reply, changes}
use Rattle.model.specs.{Call, Closing, Mark, Next, Place, Wait, bits_with, closing_next, entered_if_none, is_last, lets_by, marks_of, placed, reply, store_read, waits_of}
use Rattle.model.specs.declared.marks.Mark.TheVariants.{Taken}
use Rattle.model.specs.Parts.{Part, Lowers, Waits, AsksImage, last_marks}
use Rattle.model.proofs.Turns.{and_false}
use Rattle.any_lock.specs.{must_be_alone}
use Rattle.any_lock.proofs.safe_monitor.laws.AtPlaces.{IsOfLock, any-closing, any-marks, any-placed}
use Rattle.any_lock.proofs.Markings.{ArePlain}

of_plain : IsOfLock must_be_alone
of_plain = record { taken = λ k r. refl; remaining = refl; settled = λ v. refl; down = refl; withdrawn = refl }

entered_plain : (ws : List Wait) → ArePlain (entered_if_none ws)
entered_plain [] = refl
entered_plain (w ∷ ws) = refl

waited_plain : (b : Bool) (ws : List Wait) → ArePlain (cond b (entered_if_none ws) [])
waited_plain true ws = entered_plain ws
waited_plain false ws = refl

taken_plain : (b : Bool) (r : Reply) → ArePlain (cond b [] (Taken 0 r ∷ []))
taken_plain true r = refl
taken_plain false r = refl

last_plain : (c : Call) (part : Part) (bits : List Bool) → ArePlain (last_marks c part bits)
last_plain c (Lowers t) bits = entered_plain (waits_of c)
last_plain c (Waits t w ws) bits = waited_plain (lets_by c t w bits) ws
last_plain c (AsksImage vs) bits = taken_plain (changes (store_read c bits) c.command) (reply c (store_read c bits))
last_plain c _ bits = refl

-- the marks at a place
pub plain_step : (c : Call) (at : Place) (v : Bool) (place : ℕ) (ms : List Mark) → ms ≡ map (placed place) (marks_of c at v) → ArePlain ms
plain_step c at v place ms is =
    ap (list_any must_be_alone) is ∙ any-placed must_be_alone of_plain place (marks_of c at v) ∙ any-marks must_be_alone refl c at v
    ∙ ap (λ b. is_last c at.part at.run && b) (last_plain c at.part (bits_with at.run v)) ∙ and_false (is_last c at.part at.run)

-- the marks in a closing
pub plain_closing : (c : Call) (at : Closing) (flick : Bool) (n : Next) → closing_next c at flick ≡ Some n → (place : ℕ) (ms : List Mark) → ms ≡ map (placed place) n.marks → ArePlain ms
plain_closing c at flick n next place ms is = ap (list_any must_be_alone) is ∙ any-placed must_be_alone of_plain place n.marks ∙ any-closing must_be_alone of_plain c at flick n next

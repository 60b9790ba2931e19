-- The beginning and the end of the doorway of a call. `doorway_begin` and `doorway_end` find the entries that the notes have, from the first access of the doorway on, and while the process waits.
use Rattle.std.proofs.Common.{◌≡◌, ◌≢◌, ℕ, suc, ◌<◌, ◌≤◌, ◌&&◌, ◌||◌, Bool, true, false, List, [], ◌∷◌, Option, Some, None, length, refl, sym, ap, subst, ◌∙◌, true≢false, arith, eq-eqb, ne_eqb}
use Rattle.std.specs.List.{list_any}
use Rattle.model.specs.safe_bit.{read_value}
use Rattle.plain_store.specs.{Command, Setup}
use Rattle.model.specs.{Call, Entry, Event, Past, Place, Raises, access_at, begins_doorway, bits_with, doorway_begin, doorway_end, ended, enter, first_of, has, is_called, is_fresh, is_last, is_over, is_waiting, moves_of, number_in_call, opening_bit, past_of, place_after, value_of}
use Rattle.model.specs.declared.marks.Mark.TheVariants.{Called}
use Rattle.model.proofs.Staging.{no_called}
use Rattle.model.proofs.Width.{IsGood}
use Rattle.laws.specs.{call, doing}
use Rattle.laws.proofs.Notes.{Notes, notes, notes_after, noted, began_by, ended_by}
use Rattle.laws.proofs.Frame.{notes-other, notes-goes}
use Rattle.laws.proofs.DoorwayParts.{has_begun, has_finished, is_lowering, begun-next, finished-next, began-kept, ended-kept, to-begin, to-end, finished-begun, of_waiting, waiting-last, opens-doorway}
use Rattle.laws.proofs.AtPlaces.{AtPlace, Stepping, IsRunOf, run-after, place-induction, any-stepping, plain-stepping}

-- the number of an entry, from its time: a time is the number of an entry plus one
abbrev pub IsNumber : Option ℕ → ℕ → Type 0
IsNumber o t = (k : ℕ) × (o ≡ Some k) × (t ≡ suc k)

-- the entries that are found, and the times that are noted
pub record NumbersAre (begun finished : Bool) (begin end : Option ℕ) (began ended size : ℕ) : Type 0 where
  pub begun_is : begun ≡ true → IsNumber begin began
  pub unbegun : begun ≡ false → begin ≡ None
  pub finished_is : finished ≡ true → IsNumber end ended
  pub unfinished : finished ≡ false → end ≡ None
  pub earlier : begun ≡ true → began ≤ size
  pub order : finished ≡ true → began < ended

-- the numbers of a process at a place
abbrev pub NumbersAt : Setup → Past → ℕ → Command → ℕ → Place → Type 0
NumbersAt s past p command number at =
    IsRunOf at.part at.run
    × NumbersAre (has_begun at.part (is_fresh at.run)) (has_finished at.part) (doorway_begin p past) (doorway_end p past) (notes s p past).began (notes s p past).ended (length past)

-- Looking up.

number-other : (p : ℕ) (test : Entry → Bool) (e : Entry) (past : Past) → e.process ≢ p → number_in_call p test (e ∷ past) ≡ number_in_call p test past
number-other p test e past h = ap (λ b. elim b as (λ _. Option ℕ) [
  | false ↦ number_in_call p test past
  | true ↦ elim (has is_called e) as (λ _. Option ℕ) [
    | true ↦ None
    | false ↦ first_of (number_in_call p test past) (elim (test e) as (λ _. Option ℕ) [ true ↦ Some (length past) | false ↦ None ])
  ]
]) (ne_eqb e.process p h)

pub number-own : (test : Entry → Bool) (e : Entry) (past : Past) (called : Bool) → has is_called e ≡ called → number_in_call e.process test (e ∷ past) ≡ elim called as (λ _. Option ℕ) [
  | true ↦ None
  | false ↦ first_of (number_in_call e.process test past) (elim (test e) as (λ _. Option ℕ) [ true ↦ Some (length past) | false ↦ None ])
]
number-own test e past called h = (λ i. elim (eq-eqb e.process e.process refl i) as (λ _. Option ℕ) [
  | false ↦ number_in_call e.process test past
  | true ↦ elim (h i) as (λ _. Option ℕ) [
    | true ↦ None
    | false ↦ first_of (number_in_call e.process test past) (elim (test e) as (λ _. Option ℕ) [ true ↦ Some (length past) | false ↦ None ])
  ]
])

-- nothing that is looked up or noted has changed
same : (b f : Bool) (begin begin' end end' : Option ℕ) (began began' ended ended' size : ℕ) → begin' ≡ begin → end' ≡ end → began' ≡ began → ended' ≡ ended →
    NumbersAre b f begin end began ended size → NumbersAre b f begin' end' began' ended' (suc size)
same b f begin begin' end end' began began' ended ended' size e1 e2 e3 e4 x = record {
  begun_is = λ h. ((x.begun_is h).0, e1 ∙ (x.begun_is h).1, e3 ∙ (x.begun_is h).2);
  unbegun = λ h. e1 ∙ x.unbegun h;
  finished_is = λ h. ((x.finished_is h).0, e2 ∙ (x.finished_is h).1, e4 ∙ (x.finished_is h).2);
  unfinished = λ h. e2 ∙ x.unfinished h;
  earlier = λ h. let l = x.earlier h in omega (arith, l, e3);
  order = λ h. let l = x.order h in omega (arith, l, e3, e4);
}

-- one access on. opens: it begins a doorway; ends: it finishes one
next : (b f opens ends : Bool) (begin begin' end end' : Option ℕ) (began began' ended ended' size : ℕ) → NumbersAre b f begin end began ended size →
    begin' ≡ first_of begin (elim opens as (λ _. Option ℕ) [ true ↦ Some size | false ↦ None ]) → end' ≡ first_of end (elim ends as (λ _. Option ℕ) [ true ↦ Some size | false ↦ None ]) →
    (b ≡ false → (opens ≡ true) × (began' ≡ suc size)) → (b ≡ true → began' ≡ began) →
    (ends ≡ true → (ended' ≡ suc size) × (b ≡ true) × (f ≡ false)) → (ends ≡ false → ended' ≡ ended) → (f ≡ true → b ≡ true) →
    NumbersAre true (f || ends) begin' end' began' ended' (suc size)
next b f opens ends begin begin' end end' began began' ended ended' size x e1 e2 first kept last stays late = record {
  begun_is = λ _. begins b refl;
  unbegun = λ h. absurd (true≢false h);
  finished_is = λ h. finishes f ends refl refl h;
  unfinished = λ h. still f ends refl refl h;
  earlier = λ _. early b refl;
  order = λ h. ordered f ends refl refl h;
}
  where
    begins : (c : Bool) → b ≡ c → IsNumber begin' began'
    begins true h = let (k, a, t) = x.begun_is h in
        (k, e1 ∙ ap (λ o. first_of o (elim opens as (λ _. Option ℕ) [ true ↦ Some size | false ↦ None ])) a, kept h ∙ t)
    begins false h = (
      size,
      e1 ∙ (λ i. first_of (x.unbegun h i) (elim ((first h).0 i) as (λ _. Option ℕ) [ true ↦ Some size | false ↦ None ])),
      (first h).1,
    )

    early : (c : Bool) → b ≡ c → began' ≤ suc size
    early true h = let l = x.earlier h in let k = kept h in omega (arith, l, k)
    early false h = let k = (first h).1 in omega (arith, k)

    finishes : (c d : Bool) → f ≡ c → ends ≡ d → (f || ends) ≡ true → IsNumber end' ended'
    finishes true true h k o = absurd (true≢false (sym h ∙ (last k).2))
    finishes true false h k o = let (n, a, t) = x.finished_is h in
        (n, e2 ∙ ap (λ u. first_of u (elim ends as (λ _. Option ℕ) [ true ↦ Some size | false ↦ None ])) a, stays k ∙ t)
    finishes false true h k o = (
      size,
      e2 ∙ (λ i. first_of (x.unfinished h i) (elim (k i) as (λ _. Option ℕ) [ true ↦ Some size | false ↦ None ])),
      (last k).0,
    )
    finishes false false h k o = absurd (true≢false (sym o ∙ (λ i. h i || k i)))

    still : (c d : Bool) → f ≡ c → ends ≡ d → (f || ends) ≡ false → end' ≡ None
    still true d h k o = absurd (true≢false (sym (λ i. h i || ends) ∙ o))
    still false true h k o = absurd (true≢false (sym (λ i. h i || k i) ∙ o))
    still false false h k o = e2 ∙ (λ i. first_of (x.unfinished h i) (elim (k i) as (λ _. Option ℕ) [ true ↦ Some size | false ↦ None ]))

    ordered : (c d : Bool) → f ≡ c → ends ≡ d → (f || ends) ≡ true → began' < ended'
    ordered true true h k o = absurd (true≢false (sym h ∙ (last k).2))
    ordered true false h k o = let l = x.order h in let m = kept (late h) in let n = stays k in omega (arith, l, m, n)
    ordered false true h k o = let l = x.earlier (last k).1 in let m = kept (last k).1 in let n = (last k).0 in omega (arith, l, m, n)
    ordered false false h k o = absurd (true≢false (sym o ∙ (λ i. h i || k i)))

-- The numbers of every record.

others-keep : (s : Setup) (past : Past) (e : Entry) (p : ℕ) (command : Command) (number : ℕ) (at : Place) → e.process ≢ p → NumbersAt s past p command number at → NumbersAt s (e ∷ past) p command number at
others-keep s past e p command number at apart h = (
  h.0,
  same (has_begun at.part (is_fresh at.run)) (has_finished at.part) _ _ _ _ _ _ _ _ (length past) (number-other p begins_doorway e past apart) (number-other p (has is_waiting) e past apart)
      (ap (λ (n : Notes). n.began) (notes-other s p e past apart)) (ap (λ (n : Notes). n.ended) (notes-other s p e past apart)) h.1,
)

call-begins : (s : Setup) (past : Past) (e : Entry) (command : Command) (number : ℕ) → e.access ≡ None → e.marks ≡ Called command ∷ [] →
    NumbersAt s (e ∷ past) e.process command number (enter (call s e.process command number) Raises)
call-begins s past e command number a m = (
  refl,
  record {
    begun_is = λ h. absurd (true≢false (sym h));
    unbegun = λ _. number-own begins_doorway e past true (ap (list_any is_called) m);
    finished_is = λ h. absurd (true≢false (sym h));
    unfinished = λ _. number-own (has is_waiting) e past true (ap (list_any is_called) m);
    earlier = λ h. absurd (true≢false (sym h));
    order = λ h. absurd (true≢false (sym h));
  },
)

step-keeps : (s : Setup) (past : Past) (e : Entry) (command : Command) (number : ℕ) (at : Place) (st : Stepping s past e.process e command number at) → NumbersAt s past e.process command number at →
    is_over (place_after (call s e.process command number) at (value_of st.access.how)).part ≡ false →
    NumbersAt s (e ∷ past) e.process command number (place_after (call s e.process command number) at (value_of st.access.how))
step-keeps s past e command number at st h o = (
  run-after c at v h.0,
  subst (λ b. NumbersAre b (has_finished to.part) (doorway_begin p (e ∷ past)) (doorway_end p (e ∷ past)) (notes s p (e ∷ past)).began (notes s p (e ∷ past)).ended (length (e ∷ past)))
      (sym (begun-next c at v))
      (subst (λ f. NumbersAre true f (doorway_begin p (e ∷ past)) (doorway_end p (e ∷ past)) (notes s p (e ∷ past)).began (notes s p (e ∷ past)).ended (length (e ∷ past)))
      (sym (finished-next c at v o)) now),
)
  where
    p : ℕ
    p = e.process

    c : Call
    c = call s p command number

    v : Bool
    v = value_of st.access.how

    to : Place
    to = place_after c at v

    fresh : Bool
    fresh = is_fresh at.run

    last : Bool
    last = is_last c at.part at.run

    ends : Bool
    ends = last && is_lowering at.part

    n : Notes
    n = notes s p past

    plain : has is_called e ≡ false
    plain = no_called e.marks (plain-stepping s past p e command number at st)

    noted_is : notes s p (e ∷ past) ≡ noted c (suc (length past)) at.part fresh last (bits_with at.run v) n
    noted_is = notes-goes s p e past refl ∙ ap (λ a. notes_after s p (suc (length past)) a (doing s p past) n) st.is
        ∙ ap (λ d. notes_after s p (suc (length past)) (Some st.access) d n) st.does

    finishes : has is_waiting e ≡ ends
    finishes = any-stepping is_waiting of_waiting s past p e command number at st ∙ ap (λ b. last && b) (waiting-last c at.part (bits_with at.run v))

    began_is : (notes s p (e ∷ past)).began ≡ began_by at.part fresh (suc (length past)) n.began
    began_is = ap (λ (n : Notes). n.began) noted_is

    ended_is : (notes s p (e ∷ past)).ended ≡ ended_by at.part last (suc (length past)) n.ended
    ended_is = ap (λ (n : Notes). n.ended) noted_is

    first : has_begun at.part fresh ≡ false → (begins_doorway e ≡ true) × ((notes s p (e ∷ past)).began ≡ suc (length past))
    first b =
        let t = to-begin at.part fresh b in (
          opens-doorway c at.part at.run e st.access (read_value (opening_bit s (access_at c at.part at.run)) (moves_of (access_at c at.part at.run) past) st.flick) h.0 t.0 t.1 st.is st.made,
          began_is ∙ (λ i. began_by (t.0 i) (t.1 i) (suc (length past)) n.began),
        )

    now : NumbersAre true (has_finished at.part || ends) (doorway_begin p (e ∷ past)) (doorway_end p (e ∷ past)) (notes s p (e ∷ past)).began (notes s p (e ∷ past)).ended (suc (length past))
    now = next (has_begun at.part fresh) (has_finished at.part) (begins_doorway e) ends (doorway_begin p past) _ (doorway_end p past) _ n.began _ n.ended _ (length past) h.1
        (number-own begins_doorway e past false plain)
        (number-own (has is_waiting) e past false plain ∙ ap (λ b. first_of (doorway_end p past) (elim b as (λ _. Option ℕ) [ true ↦ Some (length past) | false ↦ None ])) finishes)
        first (λ b. began_is ∙ began-kept at.part fresh (suc (length past)) n.began b)
        (λ k. let f = to-end at.part last fresh (suc (length past)) n.ended k in (ended_is ∙ f.0, f.1, f.2))
        (λ k. ended_is ∙ ended-kept at.part last (suc (length past)) n.ended k)
        (finished-begun at.part fresh)

-- in every record, at each place of a call
pub numbers : (s : Setup) → IsGood s → (events : List Event) (p : ℕ) → AtPlace (NumbersAt s (past_of s events) p) (doing s p (past_of s events))
numbers s g = place-induction s g (NumbersAt s) (others-keep s) (call-begins s) (step-keeps s)

use Rattle.std.proofs.Common.{◌≡◌, ℕ, List, true, false, length, Some, refl, sym, ap, subst, ◌∙◌, arith}
use Rattle.plain_store.specs.{Contents, Setup}
use Rattle.call_check.specs.{AreBlank, Call, IsFollowed, all_calls}
use Rattle.model.specs.{lists_of}
use Rattle.call_check.proofs.CallNotes.{callers_of_store}
use Rattle.call_check.proofs.Stores.{ended_after_all, ended_at_nothing, ended_at_several, next_store, none_noted, noted_below}
use Rattle.call_check.proofs.notes.CallNotes.follow.Goals as goal

pub note_place-requires-clause-place : goal.note_place-requires-clause-place
note_place-requires-clause-place c = let places = c.in_ok-chains.ensures.places in let l = c.len-places.ensures in let test = c.loop-place-test.true in omega (arith, places, l, test)

pub loop-place-init : goal.loop-place-init
loop-place-init c =
    let calls : List Call = all_calls (lists_of c.args.lists.now) in
    let all : c.len.result ≡ length calls = (let size = c.in_ok-chains.ensures.size in let l = c.len.ensures in omega (arith, size, l)) in
    let blank : AreBlank (length calls) c.in_ok-notes.notes.items = subst (λ (n : ℕ). AreBlank n c.in_ok-notes.notes.items) all c.in_ok-notes.ensures in
    record {
      size = blank.size;
      last = λ few. ap (λ (i : Contents). Some i) (sym c.in_ok-store.ensures);
      notes = λ few. none_noted c.args.setup.now calls c.in_ok-notes.notes.items blank;
    }

pub returns-in-Nothing : goal.returns-in-Nothing
returns-in-Nothing c = λ few.
    let s : Setup = c.args.setup.now in
    let calls : List Call = all_calls (lists_of c.args.lists.now) in
    let k : ℕ = c.loop-place.place in
    let last = c.loop-place.invariant.last few in
    let below = noted_below s calls k c.loop-place.store c.loop-place.notes.items c.note_place.new.notes.items last c.note_place.ensures.size (c.loop-place.invariant.notes few) (c.note_place.ensures.notes few (callers_of_store s calls k c.loop-place.store last)) in
    ended_at_nothing s calls c.note_place.new.notes.items k c.loop-place.store false last below refl (sym c.note_place.ensures.changes ∙ c.in-Nothing.is)

pub returns-in-Several : goal.returns-in-Several
returns-in-Several c = λ few.
    let s : Setup = c.args.setup.now in
    let calls : List Call = all_calls (lists_of c.args.lists.now) in
    let k : ℕ = c.loop-place.place in
    let last = c.loop-place.invariant.last few in
    let below = noted_below s calls k c.loop-place.store c.loop-place.notes.items c.note_place.new.notes.items last c.note_place.ensures.size (c.loop-place.invariant.notes few) (c.note_place.ensures.notes few (callers_of_store s calls k c.loop-place.store last)) in
    ended_at_several s calls c.note_place.new.notes.items k c.loop-place.store true last below refl (sym c.note_place.ensures.changes ∙ c.in-Several.is)

pub loop-place-preserved : goal.loop-place-preserved
loop-place-preserved c =
    let s : Setup = c.args.setup.now in
    let calls : List Call = all_calls (lists_of c.args.lists.now) in
    let k : ℕ = c.loop-place.place in
    record {
      size = c.note_place.ensures.size ∙ c.loop-place.invariant.size;
      last = λ few. next_store s calls k c.loop-place.store c.apply.new.self c.in-One.call c.caller.result few (c.loop-place.invariant.last few) (sym c.note_place.ensures.changes ∙ c.in-One.is) c.caller.ensures c.in_ok-apply-in-One.ensures.contents;
      notes = λ few.
          let last = c.loop-place.invariant.last few in
          noted_below s calls k c.loop-place.store c.loop-place.notes.items c.note_place.new.notes.items last c.note_place.ensures.size (c.loop-place.invariant.notes few) (c.note_place.ensures.notes few (callers_of_store s calls k c.loop-place.store last));
    }

pub returns : goal.returns
returns c = λ few.
    let k : ℕ = c.loop-place.place in
    let places = c.in_ok-chains.ensures.places in
    let at : k ≡ length (all_calls (lists_of c.args.lists.now)) = (let test = c.loop-place-test.false in let most = c.loop-place.auto.place-end in let l = c.len-places.ensures in omega (arith, test, most, l, places)) in
    let here : k ≡ c.len-places.result = (let test = c.loop-place-test.false in let most = c.loop-place.auto.place-end in omega (arith, test, most)) in
    subst (λ (m : ℕ). IsFollowed c.args.setup.now (all_calls (lists_of c.args.lists.now)) c.loop-place.notes.items m c.loop-place.store false) here
    (ended_after_all c.args.setup.now (all_calls (lists_of c.args.lists.now)) c.loop-place.notes.items k c.loop-place.store false at (c.loop-place.invariant.last few) (c.loop-place.invariant.notes few) refl)

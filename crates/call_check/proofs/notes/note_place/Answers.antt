use Rattle.std.proofs.Common.{◌≡◌, ℕ, suc, ◌-◌, ◌<◌, List, Some, length, refl, sym, ap, subst, ◌∙◌, arith, length-set}
use Rattle.std.proofs.lemmas.Option.{slice_get_read}
use Rattle.std.specs.List.{slice_get}
use Rattle.call_check.specs.{AreNotedFrom, Call, IsFew, IsLast, IsNoteBy, all_calls, changes_of}
use Rattle.model.specs.{lists_of}
use Rattle.call_check.proofs.Walking.{changes_from, few_there, found_more, found_none, linked, noted_all, noted_more, noted_none}
use Rattle.call_check.proofs.notes.note_place.Goals as goal

pub index-calls-requires : goal.index-calls-requires
index-calls-requires c = let places = c.requires.chains.places in let within = c.requires.place in omega (arith, places, within)

pub index-link-requires : goal.index-link-requires
index-link-requires c = let size = c.requires.chains.size in let within = c.chain.invariant.within in let test = c.chain-test.true in omega (arith, size, within, test)

pub call_of-call-requires : goal.call_of-call-requires
call_of-call-requires c =
    let within = c.chain.invariant.within in
    let test = c.chain-test.true in
    let (call, there, is_of, is_link) = linked c.args.lists.now (length (all_calls (lists_of c.args.lists.now))) c.args.chains.now.heads.items c.args.chains.now.links.items (c.chain.calls - 1) c.index-link.result.now c.requires.chains (omega (arith, within, test)) c.index-link.ensures in
    (call, is_of)

pub index_mut-requires : goal.index_mut-requires
index_mut-requires c = let size = c.chain.invariant.size in let all = c.requires.notes in let within = c.chain.invariant.within in let test = c.chain-test.true in omega (arith, size, all, within, test)

pub chain-init : goal.chain-init
chain-init c =
    let calls : List Call = all_calls (lists_of c.args.lists.now) in
    let k : ℕ = c.args.place in
    let m : ℕ = c.index-calls.result.now in
    let places = c.requires.chains.places in
    let within = c.requires.place in
    let head : slice_get c.args.chains.now.heads.items k ≡ Some m = slice_get_read c.args.chains.now.heads.items (length c.args.chains.now.heads.items) k m refl (omega (arith, places, within)) c.index-calls.ensures in
    let last : IsLast calls k (length calls) m = c.requires.chains.head k m head in
    record {
      within = last.before;
      size = refl;
      last = λ j call is there. last.there j call is there;
      found = ap changes_of (sym (found_none calls k m c.args.store.now last));
      notes = λ few size. noted_none c.args.setup.now calls k m c.args.store.now c.args.notes.now.items last;
    }

pub chain-preserved : goal.chain-preserved
chain-preserved c =
    let calls : List Call = all_calls (lists_of c.args.lists.now) in
    let k : ℕ = c.args.place in
    let j : ℕ = c.chain.calls - 1 in
    let within = c.chain.invariant.within in
    let test = c.chain-test.true in
    let at_is : c.chain.calls ≡ suc j = omega (arith, test) in
    let here : j < length calls = omega (arith, within, test) in
    let (call, there, is_of, is_link) = linked c.args.lists.now (length calls) c.args.chains.now.heads.items c.args.chains.now.links.items j c.index-link.result.now c.requires.chains here c.index-link.ensures in
    let same : c.call_of-call.result ≡ call = c.call_of-call.ensures call is_of in
    let placed = c.chain.invariant.last j call at_is there in
    let last : IsLast calls k j c.index-link.result.now.earlier = is_link.earlier k c.requires.place placed in
    let le = last.before in
    let size = c.chain.invariant.size in
    let all = c.requires.notes in
    record {
      within = omega (arith, le, here);
      size = length-set c.chain.notes.items j c.note_of-note.result ∙ size;
      last = λ i x e t. last.there i x e t;
      found = c.with-found.ensures (changes_from calls k c.args.store.now c.chain.calls) c.chain.invariant.found
          ∙ ap changes_of (found_more calls k c.index-link.result.now.earlier j c.chain.calls c.args.store.now call c.call_of-call.result c.note_of-note.result.changes at_is there placed last same c.note_of-note.ensures.changes);
      notes = λ few callers.
          let is_given : IsNoteBy c.args.setup.now c.args.store.now c.call_of-call.result c.note_of-note.result = record { changes = c.note_of-note.ensures.changes; wrong = c.note_of-note.ensures.wrong (subst (λ (x : Call). IsFew c.args.setup.now x) (sym same) (few_there c.args.setup.now calls j call few there)) callers } in
          noted_more c.args.setup.now calls k j c.index-link.result.now.earlier c.args.store.now c.args.notes.now.items c.chain.notes.items call c.note_of-note.result there placed last (omega (arith, size, all, here))
          (subst (λ (x : Call). IsNoteBy c.args.setup.now c.args.store.now x c.note_of-note.result) same is_given)
          (subst (λ m. AreNotedFrom c.args.setup.now calls k m c.args.store.now c.args.notes.now.items c.chain.notes.items) at_is (c.chain.invariant.notes few callers));
    }

pub chain-smaller : goal.chain-smaller
chain-smaller c =
    let calls : List Call = all_calls (lists_of c.args.lists.now) in
    let j : ℕ = c.chain.calls - 1 in
    let within = c.chain.invariant.within in
    let test = c.chain-test.true in
    let at_is : c.chain.calls ≡ suc j = omega (arith, test) in
    let here : j < length calls = omega (arith, within, test) in
    let (call, there, is_of, is_link) = linked c.args.lists.now (length calls) c.args.chains.now.heads.items c.args.chains.now.links.items j c.index-link.result.now c.requires.chains here c.index-link.ensures in
    let last : IsLast calls c.args.place j c.index-link.result.now.earlier = is_link.earlier c.args.place c.requires.place (c.chain.invariant.last j call at_is there) in
    let le = last.before in
    omega (arith, le, test)

pub returns-clause-changes : goal.returns-clause-changes
returns-clause-changes c =
    let calls : List Call = all_calls (lists_of c.args.lists.now) in
    let none : c.chain.calls ≡ 0 = (let test = c.chain-test.false in omega (arith, test)) in
    c.chain.invariant.found ∙ ap (λ m. changes_of (changes_from calls c.args.place c.args.store.now m)) none

pub returns-clause-notes : goal.returns-clause-notes
returns-clause-notes c = λ few callers.
    let none : c.chain.calls ≡ 0 = (let test = c.chain-test.false in omega (arith, test)) in
    noted_all c.args.setup.now (all_calls (lists_of c.args.lists.now)) c.args.place c.chain.calls c.args.store.now c.args.notes.now.items c.chain.notes.items none (c.chain.invariant.notes few callers)

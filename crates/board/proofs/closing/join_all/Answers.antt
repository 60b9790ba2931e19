use Rattle.std.proofs.Common.{◌≡◌, ◌+◌, ◌<◌, ◌++◌, ◌∷◌, ◌==◌, ℕ, zero, suc, List, [], length, drop, vec_len, false, true≢false, eqb-true, Some, refl, sym, ap, ◌∙◌, subst, inl, inr, arith}
use Rattle.std.specs.Prelude.{slice_get}
use Rattle.std.proofs.lemmas.List.{append-nil, append_assoc, length-map, map-append}
use Rattle.std.specs.Global.{Vec}
use mathlib.Core.Logic.{dite}
use native.Mathlib.Decide.{ℕ_discrete}
use Rattle.plain_store.specs.{Setup}
use Rattle.board.specs.{IsIn, IsStill, OwnView, PortState, AreInRecord, ViewState, done_calls, with_joined}
use Rattle.model.specs.{Placed, lists_of}
use Rattle.board.proofs.Closings.{joins_still}
use Rattle.board.proofs.PortLists.{all_push, first_and_rest, item_at, rest_of}
use Rattle.board.proofs.closing.join_all.Goals as goal

-- a list whose length is not zero has items
some-items : (n : ℕ) → false ≡ (n == 0) → 0 < n
some-items zero h = absurd (true≢false (sym h))
some-items (suc n) h = omega arith

no-items : {A : Type 0} (xs : List A) → length xs ≡ 0 → xs ≡ []
no-items [] h = refl
no-items (x ∷ xs) h = absurd (omega (arith, h))

pub remove-requires : goal.remove-requires
remove-requires c = some-items (vec_len c.loop-others.others) (sym c.loop-others-test.true ∙ c.is_empty.ensures)

pub into_parts-seat-requires : goal.into_parts-seat-requires
into_parts-seat-requires c =
    let xs = c.loop-others.others.items in
    let many = some-items (vec_len c.loop-others.others) (sym c.loop-others-test.true ∙ c.is_empty.ensures) in
    let some : 0 < length xs = omega (arith, many) in
    record { still = c.loop-others.invariant.quiet 0 c.remove.result (item_at xs 0 c.remove.result some c.remove.ensures.value) }

pub join_seat-requires : goal.join_seat-requires
join_seat-requires c =
    let i = c.loop-others.invariant in
    let xs = c.loop-others.others.items in
    let many = some-items (vec_len c.loop-others.others) (sym c.loop-others-test.true ∙ c.is_empty.ensures) in
    let some : 0 < length xs = omega (arith, many) in
    let at = i.others 0 c.remove.result (item_at xs 0 c.remove.result some c.remove.ensures.value) in
    let seat = c.into_parts-seat.ensures in
    let place = c.into_parts-seat.result.0 in (
      i.table,
      seat.table ∙ at.0,
      seat.holds,
      c.requires.table.1,
      joins_still c.args.words.now.key c.loop-others.first.id c.loop-others.first.me.0 place.id place.me.0 (i.live ∙ c.requires.first.0) (ap (λ (o : OwnView). o.process) i.own ∙ c.requires.first.1) seat.seat.live
          (subst (λ (s : Setup). IsStill s place.me.0.own) at.1 seat.seat.still),
    )

pub push_reserved-requires : goal.push_reserved-requires
push_reserved-requires c =
    let some = some-items (vec_len c.loop-others.others) (sym c.loop-others-test.true ∙ c.is_empty.ensures) in
    let room = c.loop-others.invariant.room in
    omega (arith, some, room)

pub loop-others-preserved : goal.loop-others-preserved
loop-others-preserved c =
    let i = c.loop-others.invariant in
    let xs = c.loop-others.others.items in
    let key = c.args.words.now.key in
    let many = some-items (vec_len c.loop-others.others) (sym c.loop-others-test.true ∙ c.is_empty.ensures) in
    let some : 0 < length xs = omega (arith, many) in
    let port = c.remove.result in
    let rest = c.remove.new.self.items in
    let cut : rest ≡ drop 1 xs = c.remove.ensures.items in
    let whole : xs ≡ port ∷ drop 1 xs = first_and_rest xs port some c.remove.ensures.value in
    let at = i.others 0 port (item_at xs 0 port some c.remove.ensures.value) in
    let seat = c.into_parts-seat.ensures in
    let w = c.into_parts-seat.result.0.me.0 in
    let list = c.into_parts-seat.result.1 in
    let j = c.join_seat.ensures in
    let now : c.join_seat.new.seat.me.0 ≡ with_joined c.loop-others.first.me.0 w = ap (λ m. m.0) j.2 in
    let before = c.loop-others.answers in
    let after = c.push_reserved.new.self in
    let n = vec_len before in
    let one : vec_len after ≡ n + 1 = c.push_reserved.ensures.len in
    let number : port.view.own.process ≡ n = at.2 ∙ (let z : n + 0 ≡ n = omega arith in z) in
    let mine : w.own.process ≡ n = seat.seat.process ∙ number in
    let shorter : length xs ≡ length rest + 1 = ap length whole ∙ (let z : suc (length (drop 1 xs)) ≡ length (drop 1 xs) + 1 = omega arith in z) ∙ ap (λ zs. length zs + 1) (sym cut) in
    let more : lists_of after.items ≡ lists_of before.items ++ list.items ∷ [] = ap lists_of c.push_reserved.ensures.items ∙ map-append (λ (v : Vec Placed). v.items) before.items (list ∷ []) in
    let here : AreInRecord key (length (lists_of before.items)) list.items =
    subst (λ (p : ℕ). AreInRecord key p list.items) (number ∙ (let z : n ≡ length before.items = omega arith in z) ∙ sym (length-map before.items (λ (v : Vec Placed). v.items))) (subst (λ (s : Setup). AreInRecord s port.view.own.process list.items) at.1 seat.fits) in
    record {
      table = j.0 ∙ i.table;
      id = j.1 ∙ i.id;
      live = ap (λ (v : ViewState). v.spent) now ∙ i.live;
      own = ap (λ (v : ViewState). v.own) now ∙ i.own;
      seen = ap (λ (v : ViewState). v.seen) now ∙ i.seen;
      joined = λ p low high. subst (λ (v : ViewState). IsIn p v.joined) (sym now)
          (dite (ℕ_discrete w.own.process p)
          (λ same. inl same)
          (λ apart. let ne : n ≡ p → ⊥ = λ h. apart (mine ∙ h) in inr (i.joined p low (omega (arith, one, high, ne)))));
      others = λ k x is.
          let r = rest_of (λ k (x : PortState). (x.table_id ≡ c.args.words.now.table_id) × (x.setup ≡ key) × (x.view.own.process ≡ n + k)) xs i.others k x (ap (λ zs. slice_get zs k) (sym cut) ∙ is) in
          (r.0, r.1, r.2 ∙ (let z : n + suc k ≡ vec_len after + k = omega (arith, one) in z));
      quiet = λ k x is. rest_of (λ _ (x : PortState). IsStill x.setup x.view.own) xs i.quiet k x (ap (λ zs. slice_get zs k) (sym cut) ∙ is);
      all = let all = i.all in omega (arith, all, one, shorter);
      room = let room = i.room in let same = c.push_reserved.ensures.capacity in omega (arith, room, one, shorter, same);
      fit = subst (λ ls. (p : ℕ) (calls : List Placed) → slice_get ls p ≡ Some calls → AreInRecord key p calls) (sym more) (all_push (λ p calls. AreInRecord key p calls) (lists_of before.items) list.items i.fit here);
      lists =
          ap (λ ls. ls ++ done_calls rest) more
          ∙ append_assoc (lists_of before.items) (list.items ∷ []) (done_calls rest)
          ∙ ap (λ zs. lists_of before.items ++ zs) (ap (λ l. l ∷ done_calls rest) seat.calls ∙ ap (λ zs. port.view.own.calls.done ∷ done_calls zs) cut ∙ sym (ap done_calls whole))
          ∙ i.lists;
    }

pub returns-clause-joined : goal.returns-clause-joined
returns-clause-joined c =
    let i = c.loop-others.invariant in
    let none : vec_len c.loop-others.others ≡ 0 = eqb-true (vec_len c.loop-others.others) 0 (sym c.is_empty.ensures ∙ c.loop-others-test.false) in
    let all = i.all in
    record { live = i.live; own = i.own; seen = i.seen; joined = λ p low high. i.joined p low (omega (arith, none, all, high)) }

pub returns-clause-answers : goal.returns-clause-answers
returns-clause-answers c =
    let i = c.loop-others.invariant in
    let xs = c.loop-others.others.items in
    let none : vec_len c.loop-others.others ≡ 0 = eqb-true (vec_len c.loop-others.others) 0 (sym c.is_empty.ensures ∙ c.loop-others-test.false) in
    let empty : xs ≡ [] = no-items xs (omega (arith, none)) in
    sym (append-nil (lists_of c.loop-others.answers.items)) ∙ ap (λ (zs : List PortState). lists_of c.loop-others.answers.items ++ done_calls zs) (sym empty) ∙ i.lists

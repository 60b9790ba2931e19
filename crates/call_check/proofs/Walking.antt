-- A chain is walked.
use Rattle.std.proofs.Common.{◌≡◌, ◌≢◌, ℕ, zero, suc, ◌+◌, ◌<◌, ◌≤◌, ◌==◌, Bool, true, false, cond, List, [], ◌∷◌, length, filter, drop, get_or, set, Option, None, Some, refl, sym, ap, subst, ◌∙◌, arith, ⊎_elim}
use Rattle.std.proofs.lemmas.Bool.{cases_lt}
use Rattle.std.proofs.lemmas.Bool.Decides.{nat_tests}
use Rattle.std.proofs.lemmas.Option.{get_or_from_slice_get, slice_get_read, slice_get_within}
use Rattle.std.specs.Global.{Vec}
use Rattle.std.specs.List.{slice_get}
use Rattle.plain_store.specs.{Contents, Setup, changes}
use Rattle.call_check.specs.{AreChains, AreFew, AreNotedAt, AreNotedFrom, Call, IsFew, IsLast, IsLink, IsNoteBy, IsOf, PositionLink, Note, all_calls, calls_at, is_place}
use Rattle.model.specs.{Placed, lists_of}
use Rattle.call_check.proofs.AllCalls.{IsThere, there_in}
use Rattle.call_check.proofs.CallNotes.{from_some, none_some}
use Rattle.call_check.proofs.Places.{get_set_other, get_set_same, same_or_not}

-- tests of a place

not_same : (a b : ℕ) → a ≢ b → (a == b) ≡ false
not_same a b other = grind (arith, nat_tests)

same : (a : ℕ) → (a == a) ≡ true
same a = grind (arith, nat_tests)

pub is_there : (o : Option ℕ) (k : ℕ) → o ≡ Some k → is_place k o ≡ true
is_there o k is = ap (is_place k) is ∙ same k

is_not_there : (o : Option ℕ) (k : ℕ) → o ≢ Some k → is_place k o ≡ false
is_not_there None k other = refl
is_not_there (Some place) k other = not_same place k (λ e. other (ap (λ m. Some m) e))

at_head : (call : Call) (calls : List Call) (k : ℕ) (b : Bool) → is_place k call.placed.place ≡ b → calls_at (call ∷ calls) k ≡ cond b (call ∷ calls_at calls k) (calls_at calls k)
at_head call calls k b is = ap (λ (b : Bool). cond b (call ∷ calls_at calls k) (calls_at calls k)) is

-- the calls with a place after a call

pub nothing_behind : (k m : ℕ) (calls : List Call) → ((j : ℕ) (call : Call) → m ≤ j → slice_get calls j ≡ Some call → call.placed.place ≢ Some k) → calls_at (drop m calls) k ≡ []
nothing_behind k zero [] none = refl
nothing_behind k (suc m) [] none = refl
nothing_behind k zero (x ∷ xs) none = at_head x xs k false (is_not_there x.placed.place k (none 0 x (omega arith) refl)) ∙ nothing_behind k zero xs (λ j call ge there. none (suc j) call (omega arith) there)
nothing_behind k (suc m) (x ∷ xs) none = nothing_behind k m xs (λ j call ge there. none (suc j) call (omega (arith, ge)) there)

pub one_earlier : (k m j : ℕ) (calls : List Call) (call : Call) → m ≤ j → slice_get calls j ≡ Some call → call.placed.place ≡ Some k → ((i : ℕ) (c : Call) → m ≤ i → i < j → slice_get calls i ≡ Some c → c.placed.place ≢ Some k) → calls_at (drop m calls) k ≡ call ∷ calls_at (drop (suc j) calls) k
one_earlier k m j [] call le there placed none = absurd (none_some call there)
one_earlier k zero zero (x ∷ xs) call le there placed none =
    let same_call : x ≡ call = from_some x call there in
    let own : x.placed.place ≡ Some k = subst (λ (y : Call). y.placed.place ≡ Some k) (sym same_call) placed in
    at_head x xs k true (is_there x.placed.place k own) ∙ ap (λ (y : Call). y ∷ calls_at xs k) same_call
one_earlier k zero (suc j) (x ∷ xs) call le there placed none =
    at_head x xs k false (is_not_there x.placed.place k (none 0 x (omega arith) (omega arith) refl))
    ∙ one_earlier k zero j xs call (omega arith) there placed (λ i c ge l t. none (suc i) c (omega arith) (omega (arith, l)) t)
one_earlier k (suc m) zero (x ∷ xs) call le there placed none = absurd (omega (arith, le))
one_earlier k (suc m) (suc j) (x ∷ xs) call le there placed none = one_earlier k m j xs call (omega (arith, le)) there placed (λ i c ge l t. none (suc i) c (omega (arith, ge)) (omega (arith, l)) t)

-- notes, from the last call to the first

pub noted_none : (s : Setup) (calls : List Call) (k m : ℕ) (store : Contents) (notes : List Note) → IsLast calls k (length calls) m → AreNotedFrom s calls k m store notes notes
noted_none s calls k m store notes last = record {
  own = λ i call ge there placed. absurd (last.none_later i call ge (slice_get_within calls i call there) there placed);
  others = λ i call there other. refl;
}

pub noted_more : (s : Setup) (calls : List Call) (k j m : ℕ) (store : Contents) (before notes : List Note) (call : Call) (note : Note) → slice_get calls j ≡ Some call → call.placed.place ≡ Some k → IsLast calls k j m → j < length notes → IsNoteBy s store call note → AreNotedFrom s calls k (suc j) store before notes → AreNotedFrom s calls k m store before (set notes j note)
noted_more s calls k j m store before notes call note there placed last within is noted = record {
  own = λ i c ge c_there c_placed. ⊎_elim
      (λ (here : i ≡ j).
      let same_call : call ≡ c = from_some call c (sym there ∙ subst (λ x. slice_get calls x ≡ Some c) here c_there) in
      (note, subst (λ x. slice_get (set notes j note) x ≡ Some note) (sym here) (get_set_same notes j note within), subst (λ (y : Call). IsNoteBy s store y note) same_call is))
      (λ (other : i ≢ j). ⊎_elim
      (λ (l : i < j). absurd (last.none_later i c ge l c_there c_placed))
      (λ (g : j ≤ i).
      let (found, found_there, found_is) = noted.own i c (omega (arith, g, other)) c_there c_placed in
      (found, get_set_other notes j i note other ∙ found_there, found_is))
      (cases_lt i j))
      (same_or_not i j);
  others = λ i c c_there other.
      get_set_other notes j i note (λ here. other (subst (λ (y : Call). y.placed.place ≡ Some k) (from_some call c (sym there ∙ subst (λ x. slice_get calls x ≡ Some c) here c_there)) placed)) ∙ noted.others i c c_there other;
}

pub noted_all : (s : Setup) (calls : List Call) (k m : ℕ) (store : Contents) (before notes : List Note) → m ≡ 0 → AreNotedFrom s calls k m store before notes → AreNotedAt s calls k store before notes
noted_all s calls k m store before notes first noted = record {
  own = λ i call there placed. noted.own i call (omega (arith, first)) there placed;
  others = noted.others;
}

-- the call of a link

member : {X : Type 0} (xs : List X) (j : ℕ) → j < length xs → (x : X) × (slice_get xs j ≡ Some x)
member [] j within = absurd (omega (arith, within))
member (x ∷ xs) zero within = (x, refl)
member (x ∷ xs) (suc j) within = member xs j (omega (arith, within))

pub linked : (vecs : List (Vec Placed)) (n : ℕ) (heads : List ℕ) (links : List PositionLink) (j : ℕ) (link : PositionLink) → AreChains (all_calls (lists_of vecs)) n heads links → j < length (all_calls (lists_of vecs)) → link ≡ get_or links j link → (call : Call) × (slice_get (all_calls (lists_of vecs)) j ≡ Some call) × IsOf vecs call link × IsLink (all_calls (lists_of vecs)) n j call link
linked vecs n heads links j link chains within at =
    let calls : List Call = all_calls (lists_of vecs) in
    let size : length links ≡ length calls = chains.size in
    let (call, there) = member calls j within in
    let (own, own_there, own_is) = chains.link j call there in
    let link_there : slice_get links j ≡ Some link = slice_get_read links (length links) j link refl (omega (arith, within, size)) at in
    let same_link : own ≡ link = from_some own link (sym own_there ∙ link_there) in
    let is : IsLink calls n j call link = subst (λ (l : PositionLink). IsLink calls n j call l) same_link own_is in
    let found : IsThere 0 vecs call = there_in 0 j vecs call there in
    let port : call.port ≡ found.q = (let e : call.port ≡ 0 + found.q = found.port in omega (arith, e)) in (
      call,
      there,
      record {
        list = found.list;
        list_there = subst (λ q. slice_get vecs q ≡ Some found.list) (sym port) found.list_there;
        there = found.there;
        port = is.port;
        index = is.index;
      },
      is,
    )

pub few_there : (s : Setup) (calls : List Call) (j : ℕ) (call : Call) → AreFew s calls → slice_get calls j ≡ Some call → IsFew s call
few_there s calls j call few there = subst (λ (c : Call). IsFew s c) (get_or_from_slice_get calls j call call there) (few j call (slice_get_within calls j call there))

-- the changes of the calls from an earlier one on

abbrev pub changes_from : List Call → ℕ → Contents → ℕ → List Call
changes_from calls k store m = filter (λ (call : Call). changes store call.placed.command) (calls_at (drop m calls) k)

pub found_none : (calls : List Call) (k m : ℕ) (store : Contents) → IsLast calls k (length calls) m → changes_from calls k store m ≡ []
found_none calls k m store last = ap (λ (l : List Call). filter (λ (call : Call). changes store call.placed.command) l) (nothing_behind k m calls (λ j call ge there. last.none_later j call ge (slice_get_within calls j call there) there))

pub found_more : (calls : List Call) (k m j at : ℕ) (store : Contents) (call given : Call) (is_change : Bool) → at ≡ suc j → slice_get calls j ≡ Some call → call.placed.place ≡ Some k → IsLast calls k j m → given ≡ call → is_change ≡ changes store given.placed.command → cond is_change (given ∷ changes_from calls k store at) (changes_from calls k store at) ≡ changes_from calls k store m
found_more calls k m j at store call given is_change at_is there placed last same_call change_is =
    let earlier : calls_at (drop m calls) k ≡ call ∷ calls_at (drop (suc j) calls) k = one_earlier k m j calls call last.before there placed (λ i c ge l t. last.none_later i c ge l t) in
    ap (λ (b : Bool). cond b (given ∷ changes_from calls k store at) (changes_from calls k store at)) change_is
    ∙ ap (λ (c : Call). cond (changes store c.placed.command) (c ∷ changes_from calls k store at) (changes_from calls k store at)) same_call
    ∙ ap (λ i. cond (changes store call.placed.command) (call ∷ changes_from calls k store i) (changes_from calls k store i)) at_is
    ∙ ap (λ (l : List Call). filter (λ (c : Call). changes store c.placed.command) l) (sym earlier)

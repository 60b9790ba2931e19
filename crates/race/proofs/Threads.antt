-- The results of the threads of a race, from the promise of each.
use Rattle.std.proofs.Common.{◌≡◌, ◌⊎◌, ◌≤◌, ℕ, suc, List, [], ◌∷◌, ◌++◌, drop, inl, inr, length, Option, None, Some, sym, subst, ◌∙◌, arith}
use Rattle.std.specs.Prelude.{IfOk, IfErr, IfSome, Result, Ok, Err, slice_get}
use Rattle.std.specs.Global.{Vec}
use Rattle.std.proofs.lemmas.List.{length-map}
use Rattle.std.proofs.lemmas.Option.{slice_get_within}
use Rattle.plain_store.specs.{Command, Setup}
use Rattle.board.proofs.PortLists.{all_push}
use Rattle.board.specs.{BoardState, OwnView, PortState}
use Rattle.race.proofs.Lists.{at_drop, drop_more, there}
use Rattle.race.specs.{AllHaveMade, EndsPort, HasMade, IsFaultAmong, IsFaultOf, IsFor, RaceFault, plans_of}
use Rattle.race.specs.declared.faults.RaceFault.TheVariants.{Spawn, Held, Memory}

-- a consequence of two facts about the value of a result
pub if_both : {X E : Type 0} (r : Result X E) (P Q R : X → Type 0) → IfOk r P → IfOk r Q → ((x : X) → P x → Q x → R x) → IfOk r R
if_both (Ok x) P Q R p q h = h x p q
if_both (Err e) P Q R p q h = tt

same_item : {A : Type 0} (x y : A) → Some x ≡ Some y → x ≡ y
same_item x y h = cc

-- the promises about the ports so far, with one more port
pub made_one_more : {T : Type 0} (Made : T → PortState → Type 0) (threads : List T) (ports : List PortState) (thread : T) (rest : List T) (port : PortState) → drop (length ports) threads ≡ thread ∷ rest → Made thread port →
    ((k : ℕ) (t : T) (p : PortState) → slice_get threads k ≡ Some t → slice_get ports k ≡ Some p → Made t p) →
    (k : ℕ) (t : T) (p : PortState) → slice_get threads k ≡ Some t → slice_get (ports ++ port ∷ []) k ≡ Some p → Made t p
made_one_more {T} Made threads ports thread rest port remaining is each k t p t_at p_at =
    all_push (λ n (q : PortState). (u : T) → slice_get threads n ≡ Some u → Made u q) ports port
    (λ n q at u u_at. each n u q u_at at)
    (λ u u_at. subst (λ (w : T). Made w port) (same_item thread u (sym (at_drop threads (length ports) thread rest remaining) ∙ u_at)) is)
    k p p_at t t_at

-- with a thread for each plan, whose ports came back, each port has made its plan
pub all_made : {T : Type 0} (board : BoardState) (plans : List (Vec Command)) (threads : List T) (its : T → BoardState) (number : T → ℕ) (plan : T → List Command) (ports : List PortState) → length ports ≡ length threads → length threads ≡ length plans →
    ((k : ℕ) (t : T) → slice_get threads k ≡ Some t → IsFor board (plans_of plans) k (its t) (number t) (plan t)) →
    ((k : ℕ) (t : T) (port : PortState) → slice_get threads k ≡ Some t → slice_get ports k ≡ Some port → HasMade (its t) (number t) (plan t) port) → AllHaveMade board (plans_of plans) ports
all_made board plans threads its number plan ports many all are made = (
  many ∙ all ∙ sym (length-map plans (λ (v : Vec Command). v.items)),
  λ p port at.
      let within = slice_get_within ports p port at in
      let t = there threads p (omega (arith, within, many)) in
      let f = are p t.0 t.1 in
      (plan t.0, f.makes_plan, subst (λ (b : BoardState). HasMade b p (plan t.0) port) f.on_board (subst (λ (n : ℕ). HasMade (its t.0) n (plan t.0) port) f.for_process (made p t.0 port t.1 at))),
)

-- the remaining threads after one more
pub left_more : {T : Type 0} (threads items : List T) (thread : T) (rest : List T) → ((at : ℕ) × (items ≡ drop at threads)) → items ≡ thread ∷ rest → (at : ℕ) × (rest ≡ drop at threads)
left_more threads items thread rest remaining is = (suc remaining.0, sym (drop_more threads remaining.0 thread rest (sym remaining.1 ∙ is)))

-- a fault that a thread has found, or that was found before
pub reported_more : {T : Type 0} (threads : List T) (number : T → ℕ) (items : List T) (thread : T) (rest : List T) (found result : RaceFault) (other : Option RaceFault) → ((at : ℕ) × (items ≡ drop at threads)) → items ≡ thread ∷ rest → IsFaultOf (number thread) found →
    IfSome other (λ fault. (k : ℕ) × (t : T) × (slice_get threads k ≡ Some t) × IsFaultOf (number t) fault) → (result ≡ found) ⊎ (other ≡ Some result) → (k : ℕ) × (t : T) × (slice_get threads k ≡ Some t) × IsFaultOf (number t) result
reported_more threads number items thread rest found result other remaining is its reported (inl same) = (remaining.0, thread, at_drop threads remaining.0 thread rest (sym remaining.1 ∙ is), subst (λ (f : RaceFault). IsFaultOf (number thread) f) (sym same) its)
reported_more threads number items thread rest found result None remaining is its reported (inr same) = let no : ⊥ = cc in absurd no
reported_more {T} threads number items thread rest found result (Some fault) remaining is its reported (inr same) =
    let equal : fault ≡ result = cc in
    subst (λ (f : RaceFault). (k : ℕ) × (t : T) × (slice_get threads k ≡ Some t) × IsFaultOf (number t) f) equal reported

-- a fault of one of these threads is one of a race of as many processes
pub among : {T : Type 0} (board : BoardState) (plans : List (Vec Command)) (threads : List T) (its : T → BoardState) (number : T → ℕ) (plan : T → List Command) (fault : RaceFault) → length threads ≤ length plans →
    ((k : ℕ) (t : T) → slice_get threads k ≡ Some t → IsFor board (plans_of plans) k (its t) (number t) (plan t)) →
    ((k : ℕ) × (t : T) × (slice_get threads k ≡ Some t) × IsFaultOf (number t) fault) → IsFaultAmong (length plans) fault
among board plans threads its number plan Spawn few are one = tt
among board plans threads its number plan Memory few are one = tt
among board plans threads its number plan (Held p) few are one =
    let within = slice_get_within threads one.0 one.1 one.2 in
    let same : p ≡ number one.1 = one.3 in
    let which : number one.1 ≡ one.0 = (are one.0 one.1 one.2).for_process in
    omega (arith, within, same, which, few)

-- the fault with which joining ends is one of a race of as many processes
pub ends_among : {X T : Type 0} (r : Result X RaceFault) (board : BoardState) (plans : List (Vec Command)) (threads : List T) (its : T → BoardState) (number : T → ℕ) (plan : T → List Command) → length threads ≤ length plans →
    ((k : ℕ) (t : T) → slice_get threads k ≡ Some t → IsFor board (plans_of plans) k (its t) (number t) (plan t)) →
    IfErr r (λ fault. (k : ℕ) × (t : T) × (slice_get threads k ≡ Some t) × IsFaultOf (number t) fault) → IfErr r (IsFaultAmong (length plans))
ends_among (Ok x) board plans threads its number plan few are one = tt
ends_among (Err fault) board plans threads its number plan few are one = among board plans threads its number plan fault few are one

-- a fault that ends a port is one of its faults
pub ended_by : (p : ℕ) (s : Setup) (own : OwnView) (fault : RaceFault) → EndsPort p s own fault → IsFaultOf p fault
ended_by p s own Spawn h = h
ended_by p s own (Held q) h = h.0
ended_by p s own Memory h = h

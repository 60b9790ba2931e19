-- The begin and the end of each read are neighbours.
use Rattle.std.proofs.Common.{◌≡◌, ◌==◌, ◌&&◌, Bool, true, false, [], ◌∷◌, Option, Some, None, refl, ap, ◌∙◌, eq-eqb, arith}
use Rattle.std.specs.Prelude.{not}
use Rattle.model.specs.safe_bit.{Move, is_of_read, is_of_write}
use Rattle.model.specs.{Access, Entry, Past, same_bit}
use Rattle.board.specs.{are_neighbours, is_pair, is_whole_read, reads}

-- an entry that does not belong to a read ends no read
no-pair : (a b : Move) → is_of_read b ≡ false → is_pair a b ≡ false
no-pair a b h = grind arith

ends_none : (b e : Entry) → reads e ≡ false → is_whole_read b e ≡ false
ends_none b e h = by b.access e.access h
  where
    last : (x y : Bool) → (x && y && false) ≡ false
    last true true = refl
    last true false = refl
    last false y = refl

    by : (x y : Option Access) → elim y as (λ _. Bool) [ None ↦ false | Some a ↦ is_of_read a.how ] ≡ false →
        elim x as (λ _. Bool) [
          | None ↦ false
          | Some a ↦ elim y as (λ _. Bool) [ None ↦ false | Some c ↦ (e.process == b.process) && same_bit c a && is_pair a.how c.how ]
        ] ≡ false
    by None y k = refl
    by (Some a) None k = refl
    by (Some a) (Some c) k = ap (λ z. (e.process == b.process) && same_bit c a && z) (no-pair a.how c.how k) ∙ last (e.process == b.process) (same_bit c a)

-- one more entry that does not belong to a read
pub one_more : (e : Entry) (past : Past) → reads e ≡ false → are_neighbours past ≡ true → are_neighbours (e ∷ past) ≡ true
one_more e [] h k = ap not h
one_more e (b ∷ past) h k =
    ap (λ z. elim z as (λ _. Bool) [ true ↦ are_neighbours past | false ↦ not (reads e) && are_neighbours (b ∷ past) ]) (ends_none b e h)
    ∙ (λ i. not (h i) && k i)

-- one more whole read
pub read_more : (e b : Entry) (past : Past) (x y : Access) → e.process ≡ b.process → e.access ≡ Some x → b.access ≡ Some y → same_bit x y ≡ true → is_pair y.how x.how ≡ true → are_neighbours past ≡ true → are_neighbours (e ∷ b ∷ past) ≡ true
read_more e b past x y process ends begins same pair k =
    ap (λ z. elim z as (λ _. Bool) [ true ↦ are_neighbours past | false ↦ not (reads e) && are_neighbours (b ∷ past) ]) whole ∙ k
  where
    whole : is_whole_read b e ≡ true
    whole =
        ap (λ o. elim o as (λ _. Bool) [ None ↦ false | Some a ↦ elim e.access as (λ _. Bool) [ None ↦ false | Some c ↦ (e.process == b.process) && same_bit c a && is_pair a.how c.how ] ]) begins
        ∙ ap (λ o. elim o as (λ _. Bool) [ None ↦ false | Some c ↦ (e.process == b.process) && same_bit c y && is_pair y.how c.how ]) ends
        ∙ (λ i. eq-eqb e.process b.process process i && same i && pair i)

-- an entry without an access, or of a write, does not belong to a read
pub marked_reads : (e : Entry) → e.access ≡ None → reads e ≡ false
marked_reads e h = ap (λ o. elim o as (λ _. Bool) [ None ↦ false | Some a ↦ is_of_read a.how ]) h

pub written_reads : (e : Entry) (x : Access) → e.access ≡ Some x → is_of_write x.how ≡ true → reads e ≡ false
written_reads e x h k = grind arith

-- Which processes are ahead, entry by entry, without the numbers of entries.
use Rattle.std.proofs.Common.{◌≡◌, ℕ, suc, ◌<◌, ◌==◌, Bool, true, false, not, cond, List, [], ◌∷◌, Option, None, Some, fold, is_some, length, refl, sym, ap, ◌∙◌, arith, true≢false}
use Rattle.std.proofs.lemmas.Bool.{le-ltb, lt-ltb}
use Rattle.trace.specs.{LockMark}
use Rattle.trace.specs.declared.marks.LockMark.TheVariants.{Call, Wait, Enter, Leave, Answer}
use Rattle.model.specs.{first_of, is_before}
use Rattle.lock_stages.specs.{LockEntry, LockPast, Passage, lock_entry, lock_passage, passage_marked, with_access}

-- Numbers are below the number of entries.
abbrev pub Below : ℕ → Option ℕ → Type 0
Below n o = (k : ℕ) → o ≡ Some k → k < n

below-more : (n : ℕ) (o : Option ℕ) → Below n o → Below (suc n) o
below-more n o below k is = let h : k < n = below k is in omega (arith, h)

below-here : (n : ℕ) → Below (suc n) (Some n)
below-here n k is = let same : n ≡ k = cc in omega (arith, same)

below-none : (n : ℕ) → Below n None
below-none n k is = absurd (cc)

below-first : (n : ℕ) (o : Option ℕ) → Below (suc n) o → Below (suc n) (first_of o (Some n))
below-first n None h = below-here n
below-first n (Some k) h = h

record IsBelow (n : ℕ) (t : Passage) : Type 0 where
  waits : Below n t.waits
  doorway : Below n t.doorway

more-below : (n : ℕ) (t : Passage) → IsBelow n t → IsBelow (suc n) t
more-below n t h = record { waits = below-more n t.waits h.waits; doorway = below-more n t.doorway h.doorway }

access-below : (n : ℕ) (t : Passage) → IsBelow (suc n) t → IsBelow (suc n) (with_access n t)
access-below n t h = record { waits = h.waits; doorway = below-first n t.doorway h.doorway }

mark-below : (n : ℕ) (t : Passage) (m : LockMark) → IsBelow (suc n) t → IsBelow (suc n) (passage_marked n t m)
mark-below n t Call h = record { waits = below-none (suc n); doorway = below-none (suc n) }
mark-below n t Wait h = record { waits = below-first n t.waits h.waits; doorway = h.doorway }
mark-below n t Enter h = record { waits = h.waits; doorway = h.doorway }
mark-below n t Leave h = record { waits = h.waits; doorway = h.doorway }
mark-below n t Answer h = record { waits = h.waits; doorway = h.doorway }

marks-below : (n : ℕ) (ms : List LockMark) (t : Passage) → IsBelow (suc n) t → IsBelow (suc n) (fold (passage_marked n) t ms)
marks-below n [] t h = h
marks-below n (m ∷ ms) t h = marks-below n ms (passage_marked n t m) (mark-below n t m h)

entry-below : (n : ℕ) (mine accesses : Bool) (ms : List LockMark) (t : Passage) → IsBelow n t → IsBelow (suc n) (cond mine (fold (passage_marked n) (cond accesses (with_access n t) t) ms) t)
entry-below n false accesses ms t h = more-below n t h
entry-below n true true ms t h = marks-below n ms (with_access n t) (access-below n t (more-below n t h))
entry-below n true false ms t h = marks-below n ms t (more-below n t h)

passage-below : (past : LockPast) (p : ℕ) → IsBelow (length past) (lock_passage past p)
passage-below [] p = record { waits = below-none 0; doorway = below-none 0 }
passage-below (e ∷ past) p = entry-below (length past) (e.process == p) e.accesses e.marks (lock_passage past p) (passage-below past p)

-- Two waits and two doorways are alike: each is there or not, and the one precedes the other or not.
record ArePairsAlike (w d v c : Option ℕ) : Type 0 where
  waits : is_some w ≡ is_some v
  begun : is_some d ≡ is_some c
  order : is_before w d ≡ is_before v c

before-none : (w : Option ℕ) → is_before w None ≡ is_some w
before-none None = refl
before-none (Some x) = refl

some-first : (o : Option ℕ) (n : ℕ) → is_some (first_of o (Some n)) ≡ true
some-first None n = refl
some-first (Some k) n = refl

at-wait : (n : ℕ) (o : Option ℕ) → Below (suc n) o → is_before (Some n) o ≡ not (is_some o)
at-wait n None below = refl
at-wait n (Some k) below = let h : k < suc n = below k refl in le-ltb n k (omega (arith, h))

-- an access changes no order
order-kept : (n : ℕ) (w d : Option ℕ) → Below n w → is_before w (first_of d (Some n)) ≡ is_before w d
order-kept n None d below = refl
order-kept n (Some x) None below = lt-ltb x n (below x refl)
order-kept n (Some x) (Some k) below = refl

access-alike : (n k : ℕ) (w d v c : Option ℕ) → Below n w → Below k v → ArePairsAlike w d v c → ArePairsAlike w (first_of d (Some n)) v (first_of c (Some k))
access-alike n k w d v c hw hv h = record {
  waits = h.waits;
  begun = some-first d n ∙ sym (some-first c k);
  order = order-kept n w d hw ∙ h.order ∙ sym (order-kept k v c hv);
}

-- nor does a call of either process, or the first `wait` of a call
call-alike : (w d v c : Option ℕ) → ArePairsAlike w d v c → ArePairsAlike w None v None
call-alike w d v c h = record { waits = h.waits; begun = refl; order = before-none w ∙ h.waits ∙ sym (before-none v) }

idle-alike : (w d v c : Option ℕ) → ArePairsAlike w d v c → ArePairsAlike None d None c
idle-alike w d v c h = record { waits = refl; begun = h.begun; order = refl }

wait-alike : (n k : ℕ) (w d v c : Option ℕ) → Below (suc n) d → Below (suc k) c → ArePairsAlike w d v c → ArePairsAlike (first_of w (Some n)) d (first_of v (Some k)) c
wait-alike n k w d v c hd hc h = record { waits = some-first w n ∙ sym (some-first v k); begun = h.begun; order = by w v h.waits h.order }
  where
    by : (w v : Option ℕ) → is_some w ≡ is_some v → is_before w d ≡ is_before v c → is_before (first_of w (Some n)) d ≡ is_before (first_of v (Some k)) c
    by None None same order = at-wait n d hd ∙ ap not h.begun ∙ sym (at-wait k c hc)
    by (Some x) (Some y) same order = order
    by None (Some y) same order = absurd (true≢false (sym same))
    by (Some x) None same order = absurd (true≢false same)

-- One mark: a, b: it is of the process that waits, or of the other.
mark-alike : (m : LockMark) (a b : Bool) (n k : ℕ) (x y u v : Passage) → Below (suc n) y.doorway → Below (suc k) v.doorway → ArePairsAlike x.waits y.doorway u.waits v.doorway →
    ArePairsAlike (cond a (passage_marked n x m) x).waits (cond b (passage_marked n y m) y).doorway (cond a (passage_marked k u m) u).waits (cond b (passage_marked k v m) v).doorway
mark-alike m false false n k x y u v hy hv h = h
mark-alike Call true true n k x y u v hy hv h = record { waits = refl; begun = refl; order = refl }
mark-alike Call true false n k x y u v hy hv h = idle-alike x.waits y.doorway u.waits v.doorway h
mark-alike Call false true n k x y u v hy hv h = call-alike x.waits y.doorway u.waits v.doorway h
mark-alike Wait true true n k x y u v hy hv h = wait-alike n k x.waits y.doorway u.waits v.doorway hy hv h
mark-alike Wait true false n k x y u v hy hv h = wait-alike n k x.waits y.doorway u.waits v.doorway hy hv h
mark-alike Wait false true n k x y u v hy hv h = h
mark-alike Enter true true n k x y u v hy hv h = h
mark-alike Enter true false n k x y u v hy hv h = h
mark-alike Enter false true n k x y u v hy hv h = h
mark-alike Leave true true n k x y u v hy hv h = h
mark-alike Leave true false n k x y u v hy hv h = h
mark-alike Leave false true n k x y u v hy hv h = h
mark-alike Answer true true n k x y u v hy hv h = h
mark-alike Answer true false n k x y u v hy hv h = h
mark-alike Answer false true n k x y u v hy hv h = h

marks-alike : (ms : List LockMark) (a b : Bool) (n k : ℕ) (x y u v : Passage) → IsBelow (suc n) y → IsBelow (suc k) v → ArePairsAlike x.waits y.doorway u.waits v.doorway →
    ArePairsAlike (cond a (fold (passage_marked n) x ms) x).waits (cond b (fold (passage_marked n) y ms) y).doorway
    (cond a (fold (passage_marked k) u ms) u).waits (cond b (fold (passage_marked k) v ms) v).doorway
marks-alike ms false false n k x y u v hy hv h = h
marks-alike [] true true n k x y u v hy hv h = h
marks-alike [] true false n k x y u v hy hv h = h
marks-alike [] false true n k x y u v hy hv h = h
marks-alike (m ∷ ms) true true n k x y u v hy hv h =
    marks-alike ms true true n k (passage_marked n x m) (passage_marked n y m) (passage_marked k u m) (passage_marked k v m) (mark-below n y m hy) (mark-below k v m hv)
    (mark-alike m true true n k x y u v hy.doorway hv.doorway h)
marks-alike (m ∷ ms) true false n k x y u v hy hv h =
    marks-alike ms true false n k (passage_marked n x m) y (passage_marked k u m) v hy hv (mark-alike m true false n k x y u v hy.doorway hv.doorway h)
marks-alike (m ∷ ms) false true n k x y u v hy hv h =
    marks-alike ms false true n k x (passage_marked n y m) u (passage_marked k v m) (mark-below n y m hy) (mark-below k v m hv) (mark-alike m false true n k x y u v hy.doorway hv.doorway h)

-- One entry: its access, and then its marks.
entry-alike : (ms : List LockMark) (accesses a b : Bool) (n k : ℕ) (x y u v : Passage) → IsBelow n x → IsBelow n y → IsBelow k u → IsBelow k v → ArePairsAlike x.waits y.doorway u.waits v.doorway →
    ArePairsAlike (cond a (fold (passage_marked n) (cond accesses (with_access n x) x) ms) x).waits (cond b (fold (passage_marked n) (cond accesses (with_access n y) y) ms) y).doorway
    (cond a (fold (passage_marked k) (cond accesses (with_access k u) u) ms) u).waits (cond b (fold (passage_marked k) (cond accesses (with_access k v) v) ms) v).doorway
entry-alike ms false a b n k x y u v hx hy hu hv h = marks-alike ms a b n k x y u v (more-below n y hy) (more-below k v hv) h
entry-alike ms true false false n k x y u v hx hy hu hv h = h
entry-alike ms true true false n k x y u v hx hy hu hv h = marks-alike ms true false n k (with_access n x) y (with_access k u) v (more-below n y hy) (more-below k v hv) h
entry-alike ms true false true n k x y u v hx hy hu hv h =
    marks-alike ms false true n k x (with_access n y) u (with_access k v) (access-below n y (more-below n y hy)) (access-below k v (more-below k v hv))
    (access-alike n k x.waits y.doorway u.waits v.doorway hx.waits hu.waits h)
entry-alike ms true true true n k x y u v hx hy hu hv h =
    marks-alike ms true true n k (with_access n x) (with_access n y) (with_access k u) (with_access k v) (access-below n y (more-below n y hy)) (access-below k v (more-below k v hv))
    (access-alike n k x.waits y.doorway u.waits v.doorway hx.waits hu.waits h)

-- Two pasts are alike in this.
pub record AlikeOrder (past other : LockPast) : Type 0 where
  pub waits : (q : ℕ) → is_some (lock_passage past q).waits ≡ is_some (lock_passage other q).waits
  pub begun : (p : ℕ) → is_some (lock_passage past p).doorway ≡ is_some (lock_passage other p).doorway
  pub order : (p q : ℕ) → is_before (lock_passage past q).waits (lock_passage past p).doorway ≡ is_before (lock_passage other q).waits (lock_passage other p).doorway

-- One entry more.
pub alike-more : (e : LockEntry) (past other : LockPast) → AlikeOrder past other → AlikeOrder (e ∷ past) (e ∷ other)
alike-more e past other alike = record { waits = λ q. (pair q q).waits; begun = λ p. (pair p p).begun; order = λ p q. (pair q p).order }
  where
    pair : (q p : ℕ) → ArePairsAlike (lock_passage (e ∷ past) q).waits (lock_passage (e ∷ past) p).doorway (lock_passage (e ∷ other) q).waits (lock_passage (e ∷ other) p).doorway
    pair q p =
        entry-alike e.marks e.accesses (e.process == q) (e.process == p) (length past) (length other)
        (lock_passage past q) (lock_passage past p) (lock_passage other q) (lock_passage other p)
        (passage-below past q) (passage-below past p) (passage-below other q) (passage-below other p)
        (record { waits = alike.waits q; begun = alike.begun p; order = alike.order p q })

-- An access in two entries, the marks on the second.
first-twice : (n k : ℕ) (o : Option ℕ) → first_of o (Some n) ≡ first_of (first_of o (Some n)) (Some k)
first-twice n k None = refl
first-twice n k (Some j) = refl

access-twice : (n k : ℕ) (t : Passage) → with_access n t ≡ with_access k (with_access n t)
access-twice n k t = λ i. record t { doorway = first-twice n k t.doorway i }

-- a process's passage before the marks, and after them: the second access changes nothing
abbrev accessed_if : ℕ → Bool → Passage → Passage
accessed_if n mine t = cond mine (with_access n t) t

abbrev marked_if : ℕ → Bool → List LockMark → Passage → Passage
marked_if n mine ms t = cond mine (fold (passage_marked n) t ms) t

at-once : (n : ℕ) (mine : Bool) (ms : List LockMark) (t : Passage) → cond mine (fold (passage_marked n) (with_access n t) ms) t ≡ marked_if n mine ms (accessed_if n mine t)
at-once n true ms t = refl
at-once n false ms t = refl

at-second : (n : ℕ) (mine : Bool) (ms : List LockMark) (t : Passage) →
    marked_if (suc n) mine ms (accessed_if n mine t) ≡ cond mine (fold (passage_marked (suc n)) (with_access (suc n) (accessed_if n mine t)) ms) (accessed_if n mine t)
at-second n true ms t = ap (λ x. fold (passage_marked (suc n)) x ms) (access-twice n (suc n) t)
at-second n false ms t = refl

accessed-below : (n : ℕ) (mine : Bool) (t : Passage) → IsBelow n t → IsBelow (suc n) (accessed_if n mine t)
accessed-below n true t h = access-below n t (more-below n t h)
accessed-below n false t h = more-below n t h

pub alike-two : (p : ℕ) (marks : List LockMark) (past : LockPast) → AlikeOrder (lock_entry p true marks ∷ past) (lock_entry p true marks ∷ lock_entry p true [] ∷ past)
alike-two p marks past = record { waits = λ q. (pair q q).waits; begun = λ r. (pair r r).begun; order = λ r q. (pair q r).order }
  where
    pair : (q r : ℕ) → ArePairsAlike (lock_passage (lock_entry p true marks ∷ past) q).waits (lock_passage (lock_entry p true marks ∷ past) r).doorway
        (lock_passage (lock_entry p true marks ∷ lock_entry p true [] ∷ past) q).waits (lock_passage (lock_entry p true marks ∷ lock_entry p true [] ∷ past) r).doorway
    pair q r =
        let n = length past in
        let a = p == q in
        let b = p == r in
        let x = lock_passage past q in
        let y = lock_passage past r in
        let below = accessed-below n b y (passage-below past r) in
        let h = marks-alike marks a b n (suc n) (accessed_if n a x) (accessed_if n b y) (accessed_if n a x) (accessed_if n b y) below (more-below (suc n) (accessed_if n b y) below)
        (record { waits = refl; begun = refl; order = refl }) in
        record {
          waits = (λ i. is_some (at-once n a marks x i).waits) ∙ h.waits ∙ (λ i. is_some (at-second n a marks x i).waits);
          begun = (λ i. is_some (at-once n b marks y i).doorway) ∙ h.begun ∙ (λ i. is_some (at-second n b marks y i).doorway);
          order = (λ i. is_before (at-once n a marks x i).waits (at-once n b marks y i).doorway) ∙ h.order
              ∙ (λ i. is_before (at-second n a marks x i).waits (at-second n b marks y i).doorway);
        }

-- An access without marks changes no order.
kept-order : (n : ℕ) (a b : Bool) (x y : Passage) → Below n x.waits → is_before (cond a (with_access n x) x).waits (cond b (with_access n y) y).doorway ≡ is_before x.waits y.doorway
kept-order n false false x y below = refl
kept-order n true false x y below = refl
kept-order n false true x y below = order-kept n x.waits y.doorway below
kept-order n true true x y below = order-kept n x.waits y.doorway below

pub first-keeps : (p r q : ℕ) (past : LockPast) →
    is_before (lock_passage (lock_entry p true [] ∷ past) q).waits (lock_passage (lock_entry p true [] ∷ past) r).doorway ≡ is_before (lock_passage past q).waits (lock_passage past r).doorway
first-keeps p r q past = kept-order (length past) (p == q) (p == r) (lock_passage past q) (lock_passage past r) (passage-below past q).waits

-- A write of a register that isn't committed leaves all that is kept of the data.
use Rattle.std.proofs.Common.{◌≡◌, ◌≢◌, ◌⊎◌, ℕ, ◌<◌, Bool, true, false, List, not, refl, sym, ap, subst, ◌∙◌, arith, inl, inr, true≢false}
use Rattle.std.proofs.lemmas.Bool.{cases_eq}
use Rattle.model.specs.{Field, field_number, image_field, is_version, stamp_field}
use Rattle.model.specs.declared.access.Field.TheVariants.{Commit, Stamp0, Stamp1, Image0, Image1}
use Rattle.plain_store.specs.{Contents, Setup}
use Rattle.laws.specs.{Doing}
use Rattle.laws.proofs.Invariant.{Wire, Wires, Closed}
use Rattle.history_laws.proofs.Kept.{IsWhole, Kept, image_bits, stamp_bits_of, is_busy}
use Rattle.history_laws.proofs.Versions.{Versions}

-- an access of p to its field f leaves its other fields, and the registers of the others, as they were
pub record WritesOne (p : ℕ) (f : Field) (m m' : ℕ → Wires) : Type 0 where
  pub others : (q : ℕ) → q ≢ p → m' q ≡ m q
  pub fields : (g : Field) → g ≢ f → m' p g ≡ m p g

-- p, which did d, does d' then: whose commit bits are being written or settled
pub record TurnsBusy (p : ℕ) (d d' : Doing) (busy busy' : ℕ → Bool) : Type 0 where
  pub others : (q : ℕ) → q ≢ p → busy' q ≡ busy q
  pub was : busy p ≡ is_busy d
  pub is : busy' p ≡ is_busy d'

-- a process that is not busy afterwards was not busy before, if p was not
pub idle_before : (p : ℕ) (d d' : Doing) (busy busy' : ℕ → Bool) → TurnsBusy p d d' busy busy' → is_busy d ≡ false → (q : ℕ) → busy' q ≡ false → busy q ≡ false
idle_before p d d' busy busy' b idle q h = elim (cases_eq q p) [
  | inl is ↦ ap busy is ∙ b.was ∙ idle
  | inr ne ↦ sym (b.others q ne) ∙ h
]

-- if p is busy afterwards, each process that is not busy afterwards was not busy before
pub idle_beside : (p : ℕ) (d d' : Doing) (busy busy' : ℕ → Bool) → TurnsBusy p d d' busy busy' → is_busy d' ≡ true → (q : ℕ) → busy' q ≡ false → busy q ≡ false
idle_beside p d d' busy busy' b now q h = elim (cases_eq q p) [
  | inl is ↦ absurd (true≢false (sym (b.is ∙ now) ∙ ap busy' (sym is) ∙ h))
  | inr ne ↦ sym (b.others q ne) ∙ h
]

-- Fields differ by their numbers.

pub image_apart : (b : Bool) → image_field b ≢ image_field (not b)
image_apart true h = let e : field_number Image1 ≡ 5 = ap field_number h in omega arith
image_apart false h = let e : field_number Image0 ≡ 6 = ap field_number h in omega arith

pub stamp_apart : (b : Bool) → stamp_field b ≢ stamp_field (not b)
stamp_apart true h = let e : field_number Stamp1 ≡ 3 = ap field_number h in omega arith
stamp_apart false h = let e : field_number Stamp0 ≡ 4 = ap field_number h in omega arith

stamp_below : (b : Bool) → field_number (stamp_field b) < 5
stamp_below true = omega arith
stamp_below false = omega arith

stamp_above : (b : Bool) → 2 < field_number (stamp_field b)
stamp_above true = omega arith
stamp_above false = omega arith

image_above : (b : Bool) → 4 < field_number (image_field b)
image_above true = omega arith
image_above false = omega arith

pub image_not_stamp : (a b : Bool) → image_field a ≢ stamp_field b
image_not_stamp a b h = let e : field_number (image_field a) ≡ field_number (stamp_field b) = ap field_number h in omega (arith, stamp_below b, image_above a)

pub image_not_commit : (b : Bool) → image_field b ≢ Commit
image_not_commit b h = let e : field_number (image_field b) ≡ 2 = ap field_number h in omega (arith, image_above b)

pub stamp_not_commit : (b : Bool) → stamp_field b ≢ Commit
stamp_not_commit b h = let e : field_number (stamp_field b) ≡ 2 = ap field_number h in omega (arith, stamp_above b)

-- The registers that stay.

-- a register that the access is not one of
same_row : (p q : ℕ) (f g : Field) (m m' : ℕ → Wires) → WritesOne p f m m' → (q ≡ p → g ≢ f) → m' q g ≡ m q g
same_row p q f g m m' w apart = elim (cases_eq q p) [
  | inl is ↦ subst (λ x. m' x g ≡ m x g) (sym is) (w.fields g (apart is))
  | inr ne ↦ ap (λ (y : Wires). y g) (w.others q ne)
]

-- a register that is whole stays so
pub whole_stays : (n p q : ℕ) (f g : Field) (bits : List Bool) (m m' : ℕ → Wires) → WritesOne p f m m' → (q ≡ p → g ≢ f) → IsWhole n (m q g) bits → IsWhole n (m' q g) bits
whole_stays n p q f g bits m m' w apart h = subst (λ (y : ℕ → ℕ → Wire). IsWhole n y bits) (sym (same_row p q f g m m' w apart)) h

-- a commit bit that is closed stays so
pub commit_stays : (p q : ℕ) (f : Field) (r : ℕ) (b : Bool) (m m' : ℕ → Wires) → WritesOne p f m m' → (q ≡ p → Commit ≢ f) → Closed (m q Commit 0 r) b → Closed (m' q Commit 0 r) b
commit_stays p q f r b m m' w apart h = subst (λ (y : ℕ → ℕ → Wire). Closed (y 0 r) b) (sym (same_row p q f Commit m m' w apart)) h

-- an access of p to a field outside its committed version; to its commit bit only if p is busy then
pub kept_beside : (s : Setup) (v : Versions) (store : Contents) (busy busy' : ℕ → Bool) (p : ℕ) (f : Field) (m m' : ℕ → Wires) → WritesOne p f m m' → stamp_field (v.commit p) ≢ f → image_field (v.commit p) ≢ f
    → ((q : ℕ) → busy' q ≡ false → busy q ≡ false) → (busy' p ≡ false → Commit ≢ f) → Kept s v store busy m → Kept s v store busy' m'
kept_beside s v store busy busy' p f m m' w stamp image was commit k = record {
  sound = k.sound;
  commits = λ q below idle r low. commit_stays p q f r (v.commit q) m m' w (λ is. commit (ap busy' (sym is) ∙ idle)) (k.commits q below (was q idle) r low);
  stamps = λ q below. whole_stays s.processes p q f (stamp_field (v.commit q)) (stamp_bits_of s (v.stamp q)) m m' w (λ is. subst (λ x. stamp_field (v.commit x) ≢ f) (sym is) stamp) (k.stamps q below);
  image = whole_stays s.processes p v.newest f (image_field (v.commit v.newest)) (image_bits s store) m m' w (λ is. subst (λ x. image_field (v.commit x) ≢ f) (sym is) image) k.image;
  most = k.most;
  first = k.first;
  is = k.is;
  newest = k.newest;
  fits = k.fits;
}

-- a register of the version that p has not committed
abbrev pub IsUncommitted : Versions → ℕ → Field → Type 0
IsUncommitted v p f = (f ≡ image_field (not (v.commit p))) ⊎ (f ≡ stamp_field (not (v.commit p)))

-- the field is outside the committed version
pub record IsBeside (v : Versions) (p : ℕ) (f : Field) : Type 0 where
  pub stamp : stamp_field (v.commit p) ≢ f
  pub image : image_field (v.commit p) ≢ f
  pub commit : Commit ≢ f

pub uncommitted_beside : (v : Versions) (p : ℕ) (f : Field) → IsUncommitted v p f → IsBeside v p f
uncommitted_beside v p f (inl h) = subst (IsBeside v p) (sym h) (record {
  stamp = λ e. image_not_stamp (not (v.commit p)) (v.commit p) (sym e);
  image = image_apart (v.commit p);
  commit = λ e. image_not_commit (not (v.commit p)) (sym e);
})
uncommitted_beside v p f (inr h) = subst (IsBeside v p) (sym h) (record {
  stamp = stamp_apart (v.commit p);
  image = image_not_stamp (v.commit p) (not (v.commit p));
  commit = λ e. stamp_not_commit (not (v.commit p)) (sym e);
})

-- neither is a register of the lock
versions_only : (f g : Field) → is_version f ≡ false → is_version g ≡ true → g ≢ f
versions_only f g outside inside h = true≢false (sym inside ∙ ap is_version h ∙ outside)

stamp_is : (b : Bool) → is_version (stamp_field b) ≡ true
stamp_is true = refl
stamp_is false = refl

image_is : (b : Bool) → is_version (image_field b) ≡ true
image_is true = refl
image_is false = refl

pub lock_beside : (v : Versions) (p : ℕ) (f : Field) → is_version f ≡ false → IsBeside v p f
lock_beside v p f h = record {
  stamp = versions_only f (stamp_field (v.commit p)) h (stamp_is (v.commit p));
  image = versions_only f (image_field (v.commit p)) h (image_is (v.commit p));
  commit = versions_only f Commit h refl;
}

-- a write of either leaves all
pub kept_apart : (s : Setup) (v : Versions) (store : Contents) (busy busy' : ℕ → Bool) (p : ℕ) (f : Field) (m m' : ℕ → Wires) → WritesOne p f m m' → IsBeside v p f →
    ((q : ℕ) → busy' q ≡ false → busy q ≡ false) → Kept s v store busy m → Kept s v store busy' m'
kept_apart s v store busy busy' p f m m' w beside was k = kept_beside s v store busy busy' p f m m' w beside.stamp beside.image was (λ idle. beside.commit) k

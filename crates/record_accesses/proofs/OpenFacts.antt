-- The open accesses after one more entry.
use Rattle.std.proofs.Common.{◌≡◌, ◌≢◌, ℕ, ◌<◌, Bool, cond, List, [], ◌∷◌, Option, None, get_or, length, replicate, slice_set, refl, sym, ap, ◌∙◌, subst, inl, inr, eq-eqb, length-set, get_or-set_other, get_or-set_same}
use Rattle.std.proofs.lemmas.Bool.{cases_eq, ne_eqb}
use Rattle.std.proofs.lemmas.List.{get_or-replicate}
use Rattle.model.specs.{Access, Mark, Past}
use Rattle.record_accesses.specs.{HasOpened, OpenBitAccess, begun_by, drops, entry_with, left_open, opened, opened_taken}

pub opened-first : HasOpened (replicate 16 None) []
opened-first = record { room = refl; each = λ p below. get_or-replicate 16 p None None below }

-- what a process has open that has no entry more
pub opened-other : (p q : ℕ) (access : Option Access) (marks : List Mark) (past : Past) → q ≢ p → opened q (entry_with p access marks ∷ past) ≡ opened q past
opened-other p q access marks past apart =
    ap (λ t. cond t (left_open (drops marks) (begun_by (length past) access (opened q past))) (opened q past)) (ne_eqb p q (λ h. apart (sym h)))

pub opened-own : (p : ℕ) (access : Option Access) (marks : List Mark) (past : Past) → opened p (entry_with p access marks ∷ past) ≡ left_open (drops marks) (begun_by (length past) access (opened p past))
opened-own p access marks past =
    ap (λ t. cond t (left_open (drops marks) (begun_by (length past) access (opened p past))) (opened p past)) (eq-eqb p p refl)

pub opened-step : (all : List (Option OpenBitAccess)) (p number : ℕ) (access : Option Access) (drops_it : Bool) (marks : List Mark) (past : Past) → p < 16 → number ≡ length past → drops marks ≡ drops_it →
    HasOpened all past → HasOpened (opened_taken p number access drops_it all) (entry_with p access marks ∷ past)
opened-step all p number access drops_it marks past below is drop has = record {
  room = length-set all p now ∙ has.room;
  each = each;
}
  where
    now : Option OpenBitAccess
    now = left_open drops_it (begun_by number access (get_or all p None))

    own : now ≡ left_open (drops marks) (begun_by (length past) access (opened p past))
    own = λ i. left_open (sym drop i) (begun_by (is i) access (has.each p below i))

    each : (q : ℕ) → q < 16 → get_or (slice_set all p now) q None ≡ opened q (entry_with p access marks ∷ past)
    each q within = elim (cases_eq q p) [
      | inl mine ↦
          ap (λ k. get_or (slice_set all p now) k None) mine
          ∙ get_or-set_same all p now None (subst (λ n. p < n) (sym has.room) below)
          ∙ own ∙ sym (opened-own p access marks past)
          ∙ ap (λ k. opened k (entry_with p access marks ∷ past)) (sym mine)
      | inr apart ↦
          get_or-set_other all p q now None apart ∙ has.each q within ∙ sym (opened-other p q access marks past apart)
    ]

-- an entry of a process that has no place
pub opened-still : (all : List (Option OpenBitAccess)) (p : ℕ) (access : Option Access) (marks : List Mark) (past : Past) → ((q : ℕ) → q < 16 → q ≢ p) → HasOpened all past → HasOpened all (entry_with p access marks ∷ past)
opened-still all p access marks past out has = record {
  room = has.room;
  each = λ q within. has.each q within ∙ sym (opened-other p q access marks past (out q within));
}

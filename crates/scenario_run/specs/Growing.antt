-- Texts that grow, and the parts of them that were written.
use Rattle.std.specs.Prelude.{◌≡◌, ℕ, zero, suc, ◌+◌, List, [], ◌∷◌, ◌++◌, length, take, Option, Some, None, refl}
use Rattle.std.proofs.Common.{ap, sym, subst, ◌∙◌, arith, append-nil, append_assoc}
use Rattle.std.specs.Io.KnownBytes.{Appends}
use Rattle.plain_store.specs.{Setup}
use Rattle.scenario.specs.files.{WritesFront}
use Rattle.scenario_run.specs.Happenings.{Happening, past_after}
use Rattle.scenario_run.specs.Texts.{text_at, text_of}
use Rattle.scenario_run.specs.Writing.{Writes, WritesPart}

-- one piece and then the next are written
pub appends_both : (a b c : Option (List ℕ)) (front more : List ℕ) → Appends a b front → Appends b c more → Appends a c (front ++ more)
appends_both None b c front more first next = tt
appends_both (Some xs) (Some ys) (Some zs) front more first next = next ∙ ap (λ l. l ++ more) first ∙ append_assoc xs front more
appends_both (Some xs) (Some ys) None front more first next = next
appends_both (Some xs) None c front more first next = elim first [ ]

-- nothing is written
pub appends_none : (a : Option (List ℕ)) → Appends a a []
appends_none None = tt
appends_none (Some xs) = sym (append-nil xs)

-- a prefix of a list is a prefix of a longer one
take_front : (n : ℕ) (xs ys : List ℕ) → take (length (take n xs)) (xs ++ ys) ≡ take n xs
take_front zero xs ys = refl
take_front (suc n) [] ys = refl
take_front (suc n) (x ∷ xs) ys = ap (λ l. x ∷ l) (take_front n xs ys)

pub take_after : (xs ys : List ℕ) (n : ℕ) → take (length xs + n) (xs ++ ys) ≡ xs ++ take n ys
take_after [] ys n = ap (λ k. take k ys) {y = n} (omega arith)
take_after (x ∷ xs) ys n = ap (λ k. take k (x ∷ (xs ++ ys))) {y = suc (length xs + n)} (omega arith) ∙ ap (λ l. x ∷ l) (take_after xs ys n)

-- a prefix of a text is a prefix of a longer text
pub front_longer : (a b : Option (List ℕ)) (text more : List ℕ) → WritesFront a b text → WritesFront a b (text ++ more)
front_longer a b text more front = record { count = length (take front.count text); front = subst (λ l. Appends a b l) (sym (take_front front.count text more)) front.front }

-- a whole text and then a prefix of the next are a prefix of both together
pub front_after : (a b c : Option (List ℕ)) (text more : List ℕ) → Appends a b text → WritesFront b c more → WritesFront a c (text ++ more)
front_after a b c text more whole front = record { count = length text + front.count; front = subst (λ l. Appends a c l) (sym (take_after text more front.count)) (appends_both a b c text (take front.count more) whole front.front) }

-- a text that has not grown
pub writes_none : (t : List ℕ) (a : Option (List ℕ)) → Writes t t a a
writes_none t a = record { text = []; is = sym (append-nil t); taken = appends_none a }

-- a text that has grown twice
pub writes_both : (t u v : List ℕ) (a b c : Option (List ℕ)) → Writes t u a b → Writes u v b c → Writes t v a c
writes_both t u v a b c first next = record {
  text = first.text ++ next.text;
  is = next.is ∙ ap (λ l. l ++ next.text) first.is ∙ append_assoc t first.text next.text;
  taken = appends_both a b c first.text next.text first.taken next.taken;
}

-- a text of which only a prefix was written, or only a prefix of a longer text
pub part_none : (t u : List ℕ) (a : Option (List ℕ)) → ((more : List ℕ) × (u ≡ t ++ more)) → WritesPart t u a a
part_none t u a (more, is) = record { text = more; is = is; front = record { count = 0; front = appends_none a } }

pub part_longer : (t u v : List ℕ) (a b : Option (List ℕ)) → WritesPart t u a b → ((more : List ℕ) × (v ≡ u ++ more)) → WritesPart t v a b
part_longer t u v a b part (more, is) = record {
  text = part.text ++ more;
  is = is ∙ ap (λ l. l ++ more) part.is ∙ append_assoc t part.text more;
  front = front_longer a b part.text more part.front;
}

pub part_after : (t u v : List ℕ) (a b c : Option (List ℕ)) → Writes t u a b → WritesPart u v b c → WritesPart t v a c
part_after t u v a b c first part = record {
  text = first.text ++ part.text;
  is = part.is ∙ ap (λ l. l ++ part.text) first.is ∙ append_assoc t first.text part.text;
  front = front_after a b c first.text part.text first.taken part.front;
}

-- when more happens, the text of the run grows by the text of what happens
pub text_longer : (s : Setup) (before more : List Happening) → (text : List ℕ) × (text_of s (more ++ before) ≡ text_of s before ++ text)
text_longer s before [] = ([], sym (append-nil (text_of s before)))
text_longer s before (this ∷ more) =
    let u = text_longer s before more in
    let last = text_at s (past_after s (more ++ before)) this in
    (u.0 ++ last, ap (λ l. l ++ last) u.1 ∙ append_assoc (text_of s before) u.0 last)

-- A record has one verdict.
use Rattle.std.proofs.Common.{◌≡◌, ◌⊎◌, ℕ, zero, suc, ◌<◌, List, [], ◌∷◌, ◌++◌, length, reverse, length-append, refl, sym, ap, subst, ◌∙◌, arith, inl, inr}
use Rattle.plain_store.specs.{Setup}
use Rattle.model.specs.{Entry, Past}
use Rattle.auditor.specs.{AllKeep, BreaksFirst, IsBadAt, IsVerdict, KeepsAll, Law, Verdict, number_of}
use Rattle.safe_monitor.specs.declared.verdicts.Law.TheVariants as law
use Rattle.safe_monitor.specs.declared.verdicts.Verdict.TheVariants.{Good, Bad}

-- an entry in a past in which all laws are kept keeps all laws
keeps-in : (s : Setup) (later : Past) (e : Entry) (past : Past) → AllKeep s (later ++ e ∷ past) → KeepsAll s past e
keeps-in s [] e past all = all.0
keeps-in s (x ∷ later) e past all = keeps-in s later e past all.1

-- a good record is not bad
pub not_bad : (s : Setup) (entries : List Entry) (k : ℕ) (l : Law) → AllKeep s (reverse entries) → IsBadAt s entries k l → ⊥
not_bad s entries k l all bad = bad.breaks.broken (keeps-in s bad.at.later bad.entry bad.past (subst (AllKeep s) bad.at.splits all) l)

pub good_only : (s : Setup) (entries : List Entry) (v : Verdict Law) → AllKeep s (reverse entries) → IsVerdict s entries v → v ≡ Good
good_only s entries Good all is = refl
good_only s entries (Bad k l) all is = absurd (not_bad s entries k l all is)

-- Two bad entries.

-- if all laws are kept before the later of two entries of one past, the earlier entry keeps all laws
inner : (s : Setup) (later more : Past) (e x : Entry) (past rest : Past) → later ++ e ∷ past ≡ more ++ x ∷ rest → length past < length rest → AllKeep s rest → KeepsAll s past e
inner s [] [] e x past rest h l all = let same : past ≡ rest = cc in let long = ap length same in absurd (omega (arith, l, long))
inner s [] (y ∷ more) e x past rest h l all = let same : past ≡ more ++ x ∷ rest = cc in let long = ap length same ∙ length-append more (x ∷ rest) in absurd (omega (arith, l, long))
inner s (y ∷ later) [] e x past rest h l all = let same : later ++ e ∷ past ≡ rest = cc in keeps-in s later e past (subst (AllKeep s) (sym same) all)
inner s (y ∷ later) (z ∷ more) e x past rest h l all = let same : later ++ e ∷ past ≡ more ++ x ∷ rest = cc in inner s later more e x past rest same l all

equal : (later more : Past) (e x : Entry) (past rest : Past) → later ++ e ∷ past ≡ more ++ x ∷ rest → length past ≡ length rest → (e ≡ x) × (past ≡ rest)
equal [] [] e x past rest h l = let a : e ≡ x = cc in let b : past ≡ rest = cc in (a, b)
equal [] (y ∷ more) e x past rest h l = let same : past ≡ more ++ x ∷ rest = cc in let long = ap length same ∙ length-append more (x ∷ rest) in absurd (omega (arith, l, long))
equal (y ∷ later) [] e x past rest h l = let same : later ++ e ∷ past ≡ rest = cc in let long = sym (length-append later (e ∷ past)) ∙ ap length same in absurd (omega (arith, l, long))
equal (y ∷ later) (z ∷ more) e x past rest h l = let same : later ++ e ∷ past ≡ more ++ x ∷ rest = cc in equal later more e x past rest same l

law_at : ℕ → Law
law_at zero = law.Safe
law_at (suc zero) = law.Program
law_at (suc (suc zero)) = law.Unit
law_at (suc (suc (suc zero))) = law.Together
law_at (suc (suc (suc (suc zero)))) = law.Overtaken
law_at _ = law.History

law_is : (l : Law) → law_at (number_of l) ≡ l
unfolding law_at
law_is law.Safe = refl
law_is law.Program = refl
law_is law.Unit = refl
law_is law.Together = refl
law_is law.Overtaken = refl
law_is law.History = refl

order : (a b : ℕ) → (a < b) ⊎ ((b < a) ⊎ (a ≡ b))
order a b = grind arith

first_law : (s : Setup) (past : Past) (e : Entry) (l m : Law) → BreaksFirst l s past e → BreaksFirst m s past e → l ≡ m
first_law s past e l m a b = elim (order (number_of l) (number_of m)) [
  | inl less ↦ absurd (a.broken (b.before l less))
  | inr o ↦ elim o [ inl less ↦ absurd (b.broken (a.before m less)) | inr same ↦ sym (law_is l) ∙ ap law_at same ∙ law_is m ]
]

same_bad : (s : Setup) (entries : List Entry) (k j : ℕ) (l m : Law) → IsBadAt s entries k l → IsBadAt s entries j m → Bad k l ≡ Bad j m
same_bad s entries k j l m a b = elim (order k j) [
  | inl less ↦ absurd (a.breaks.broken (inner s a.at.later b.at.later a.entry b.entry a.past b.past splits (omega (arith, less, long_a, long_b)) b.before l))
  | inr o ↦ elim o [
    | inl less ↦ absurd (b.breaks.broken (inner s b.at.later a.at.later b.entry a.entry b.past a.past (sym splits) (omega (arith, less, long_a, long_b)) a.before m))
    | inr same ↦ (
        let e = equal a.at.later b.at.later a.entry b.entry a.past b.past splits (long_a ∙ same ∙ sym long_b) in
        let first : l ≡ m = first_law s b.past b.entry l m (subst (λ x. BreaksFirst l s b.past x) e.0 (subst (λ p. BreaksFirst l s p a.entry) e.1 a.breaks)) b.breaks in
        λ i. Bad (same i) (first i))
  ]
]
  where
    splits : a.at.later ++ a.entry ∷ a.past ≡ b.at.later ++ b.entry ∷ b.past
    splits = sym a.at.splits ∙ b.at.splits

    long_a : length a.past ≡ k
    long_a = a.at.number

    long_b : length b.past ≡ j
    long_b = b.at.number

pub one_verdict : (s : Setup) (entries : List Entry) (v w : Verdict Law) → IsVerdict s entries v → IsVerdict s entries w → v ≡ w
one_verdict s entries Good Good a b = refl
one_verdict s entries Good (Bad j m) a b = absurd (not_bad s entries j m a b)
one_verdict s entries (Bad k l) Good a b = absurd (not_bad s entries k l b a)
one_verdict s entries (Bad k l) (Bad j m) a b = same_bad s entries k j l m a b

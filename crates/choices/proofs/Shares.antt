-- A remainder by two products.
use Rattle.std.proofs.Common.{◌≡◌, ℕ, suc, ◌+◌, ◌-◌, ◌*◌, ◌/◌, ◌%◌, ◌^◌, ◌<◌, ◌≤◌, sym, ap, ◌∙◌, arith, mul-le-mul_right, suc-mul}
use Rattle.std.proofs.Math.Nat.{lt_of_mul-lt-mul_right, mod-lt, mul_comm, add-mul}
use Rattle.std.proofs.lemmas.Nat.{div-add-mod', div-mul-add, mod-mul-add, mul-lt, mul-mod_second}
use Rattle.choices.specs.Shares.{share_of}

apart : (a k r s : ℕ) → (a * k + r) * s ≡ a * (s * k) + r * s
apart a k r s = grind arith

together : (a n e b : ℕ) → a * (n + e) + b ≡ a * n + (a * e + b)
together a n e b = grind arith

shared : (a e r s k : ℕ) → (a * e + r * s) * k ≡ r * (s * k) + a * k * e
shared a e r s k = grind arith

ends : (r n e b : ℕ) → r * (n + e) + b * e ≡ r * n + (b + r) * e
ends r n e b = grind arith

-- the share may be a little too large, if its excess times the word is less than n
exact : (n k s e word : ℕ) → 1 ≤ k → s * k ≡ n + e → word * e < n → (word * s) % n * k / n ≡ word % k
exact n k s e word some parts little =
    let a = word / k in
    let r = word % k in
    let m = a * e + r * s in
    let split : a * k + r ≡ word = div-add-mod' word k in
    let below : r < k = mod-lt word some in
    let whole : word * s ≡ a * n + m = ap (λ w. w * s) (sym split) ∙ apart a k r s ∙ ap (λ x. a * x + r * s) parts ∙ together a n e (r * s) in
    let remaining : m * k ≡ r * n + word * e = shared a e r s k ∙ ap (λ x. r * x + a * k * e) parts ∙ ends r n e (a * k) ∙ ap (λ w. r * n + w * e) split in
    let room : suc r * n ≤ k * n = mul-le-mul_right n below in
    let less : m < n = lt_of_mul-lt-mul_right k (omega (arith, remaining, little, room, suc-mul r n, mul_comm n k)) in
    ap (λ x. x % n * k / n) whole ∙ ap (λ x. x * k / n) (mod-mul-add a n m less) ∙ ap (λ x. x / n) remaining ∙ div-mul-add r n (word * e) little

-- the share of one of k parts is too large by less than one of them
pub fair : (k word : ℕ) → 1 ≤ k → k < 2 ^ 32 → word < 2 ^ 32 → (word * share_of k) % 2 ^ 64 * k / 2 ^ 64 ≡ word % k
fair k word some few short =
    let q = (2 ^ 64 - 1) / k in
    let t : ℕ = (2 ^ 64 - 1) % k in
    let parts : q * k + t ≡ 2 ^ 64 - 1 = div-add-mod' (2 ^ 64 - 1) k in
    let less : t < k = mod-lt (2 ^ 64 - 1) some in
    let e = k - 1 - t in
    ap (λ x. x * k / 2 ^ 64) (mul-mod_second word (q + 1) (2 ^ 64))
    ∙ exact (2 ^ 64) k (q + 1) e word some (omega (arith, parts, less, add-mul q 1 k)) (mul-lt word e (2 ^ 32) (2 ^ 32) short (omega (arith, few, less)))

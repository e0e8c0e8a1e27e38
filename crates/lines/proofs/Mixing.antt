-- Digests of lists, element by element.
use Rattle.std.proofs.Common.{◌≡◌, ℕ, ◌+◌, ◌*◌, ◌/◌, ◌%◌, ◌^◌, ◌<◌, List, [], ◌∷◌, ◌++◌, length, get_or, take, map, refl, arith}
use native.Mathlib.Nat.{mod-add-mod, add-mod-mod}
use Rattle.std.proofs.lemmas.List.{take_more, map-append}
use Rattle.lines.specs.Digest.{mixed, digest}

-- the product in three parts, each modulo 2^64
pub in_parts : (d s r : ℕ) → s ≡ (d % 4_294_967_296 * 435 + d / 4_294_967_296 * 435 * 2 ^ 32 % 2 ^ 64) % 2 ^ 64
    → r ≡ (s + d * 2 ^ 40 % 2 ^ 64) % 2 ^ 64 → r ≡ d * 1_099_511_628_211 % 2 ^ 64
in_parts d s r a b =
    let sum : s ≡ (d % 4_294_967_296 * 435 + d / 4_294_967_296 * 435 * 2 ^ 32) % 2 ^ 64 = rw (add-mod-mod) at a in
    let e : d % 4_294_967_296 * 435 + d / 4_294_967_296 * 435 * 2 ^ 32 + d * 2 ^ 40 ≡ d * 1_099_511_628_211 = omega arith in
    rw (b, sum, add-mod-mod, mod-add-mod, e)

pub digest-append : (d : ℕ) (xs ys : List ℕ) → digest d (xs ++ ys) ≡ digest (digest d xs) ys
unfolding digest
digest-append d [] ys = refl
digest-append d (x ∷ xs) ys = digest-append (mixed d x) xs ys

module _ {A : Type 0} (number : A → ℕ) where
  -- one turn of a loop over a slice, with the element x
  pub digest_more : (r d n d₁ : ℕ) (l : List A) (i : ℕ) (x : A) → i < length l → d ≡ digest r (map number (take i l)) → x ≡ get_or l i x
      → n ≡ number x → d₁ ≡ mixed d n → d₁ ≡ digest r (map number (take (i + 1) l))
  unfolding digest
  digest_more r d n d₁ l i x h e item k m = rw (m, k, e, take_more l i x h, map-append, digest-append, ← item)

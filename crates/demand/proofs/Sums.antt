-- Sums over a list and the order of ups and downs along it: append, set, take. Two counters, so that nothing is subtracted. Assumes nothing.
use mathlib.Core.Path.{◌≡◌, refl, ap, ◌∙◌}
use mathlib.Core.List.{List, [], ◌∷◌, ◌++◌, append_assoc}
use Prim.Native.Nat.{ℕ, zero, suc, ◌+◌, ◌≤◌, ◌<◌}
use native.Mathlib.Omega.{arith}
use native.Mathlib.Nat.{le_of_suc-le-suc}
use lib.ListN.{length, get_or, set, take}
use Rattle.demand.specs.Lists.{tally, gather}

-- at no point of the list are there more downs than ups, counted from a ups and b downs
module _ {A : Type 0} where
  abbrev pub Above : (A → ℕ) → (A → ℕ) → ℕ → ℕ → List A → Type 0
  Above up down a b [] = b ≤ a
  Above up down a b (x ∷ xs) = (b ≤ a) × Above up down (a + up x) (b + down x) xs

module _ {A : Type 0} (g : A → ℕ) where
  pub tally_append : (xs ys : List A) → tally g (xs ++ ys) ≡ tally g xs + tally g ys
  tally_append [] ys = omega arith
  tally_append (x ∷ xs) ys = omega (arith, tally_append xs ys)

  pub tally_set : (l : List A) (m : ℕ) (e d : A) → m < length l → tally g (set l m e) + g (get_or l m d) ≡ tally g l + g e
  tally_set [] m e d h = absurd (omega arith)
  tally_set (x ∷ xs) zero e d h = omega arith
  tally_set (x ∷ xs) (suc m) e d h = omega (arith, tally_set xs m e d (le_of_suc-le-suc h))

module _ {A B : Type 0} (f : A → List B) where
  pub gather_append : (xs ys : List A) → gather f (xs ++ ys) ≡ gather f xs ++ gather f ys
  gather_append [] ys = refl
  gather_append (x ∷ xs) ys = rw (gather_append xs ys, append_assoc)

  pub gather_set : (l : List A) (m : ℕ) (e d : A) → f e ≡ f (get_or l m d) → gather f (set l m e) ≡ gather f l
  gather_set [] m e d q = refl
  gather_set (x ∷ xs) zero e d q = rw q
  gather_set (x ∷ xs) (suc m) e d q = ap (λ z. f x ++ z) (gather_set xs m e d q)

  pub tally_gather : (h : B → ℕ) (l : List A) → tally h (gather f l) ≡ tally (λ x. tally h (f x)) l
  tally_gather h [] = refl
  tally_gather h (x ∷ xs) = tally_append h (f x) (gather f xs) ∙ ap (λ z. tally h (f x) + z) (tally_gather h xs)

module _ {A : Type 0} (up down : A → ℕ) where
  pub above_le : (a b : ℕ) (l : List A) → Above up down a b l → b ≤ a
  above_le a b [] s = s
  above_le a b (x ∷ xs) s = s.0

  pub above_more : (a b a' b' : ℕ) (l : List A) → a ≤ a' → b' ≤ b → Above up down a b l → Above up down a' b' l
  above_more a b a' b' [] p q s = omega arith
  above_more a b a' b' (x ∷ xs) p q s = (omega arith, above_more (a + up x) (b + down x) (a' + up x) (b' + down x) xs (omega arith) (omega arith) s.1)

  pub above_append : (a b : ℕ) (l r : List A) → Above up down a b l → Above up down (a + tally up l) (b + tally down l) r → Above up down a b (l ++ r)
  above_append a b [] r s t = above_more (a + 0) (b + 0) a b r (omega arith) (omega arith) t
  above_append a b (x ∷ xs) r s t = (
    s.0,
    above_append (a + up x) (b + down x) xs r s.1
        (above_more (a + (up x + tally up xs)) (b + (down x + tally down xs)) (a + up x + tally up xs) (b + down x + tally down xs) r (omega arith) (omega arith) t),
  )

  -- an element put in the place of another that goes up no more and down as much
  pub above_set : (a b : ℕ) (l : List A) (m : ℕ) (e d : A) → up (get_or l m d) ≤ up e → down e ≡ down (get_or l m d) → Above up down a b l → Above up down a b (set l m e)
  above_set a b [] m e d p q s = s
  above_set a b (x ∷ xs) zero e d p q s = (s.0, above_more (a + up x) (b + down x) (a + up e) (b + down e) xs (omega arith) (omega arith) s.1)
  above_set a b (x ∷ xs) (suc m) e d p q s = (s.0, above_set (a + up x) (b + down x) xs m e d p q s.1)

  pub above_take : (a b : ℕ) (l : List A) (n : ℕ) → Above up down a b l → Above up down a b (take n l)
  above_take a b l zero s = above_le a b l s
  above_take a b [] (suc n) s = s
  above_take a b (x ∷ xs) (suc n) s = (s.0, above_take (a + up x) (b + down x) xs n s.1)

  pub above_end : (a b : ℕ) (l : List A) → Above up down a b l → b + tally down l ≤ a + tally up l
  above_end a b [] s = omega arith
  above_end a b (x ∷ xs) s = omega (arith, above_end (a + up x) (b + down x) xs s.1)

  pub above_init : (a b : ℕ) (l r : List A) → Above up down a b (l ++ r) → Above up down a b l
  above_init a b [] r s = above_le a b r s
  above_init a b (x ∷ xs) r s = (s.0, above_init (a + up x) (b + down x) xs r s.1)

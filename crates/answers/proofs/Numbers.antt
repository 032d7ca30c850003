-- The text of a number is digits, has no place more than it needs and is read back as that number, by its places. Assumes nothing.
use mathlib.Core.Path.{◌≡◌, refl, sym, ap, subst, ◌∙◌}
use mathlib.Core.List.{List, [], ◌∷◌, ◌++◌}
use Prim.Native.Nat.{ℕ, zero, suc, ◌+◌, ◌-◌, ◌*◌, ◌/◌, ◌%◌, ◌≤◌, ◌<◌}
use native.Mathlib.Omega.{arith}
use lib.Dec.{ltb}
use lib.ListN.{length, length-append}
use borrow.Author.Tests.{ltb-true, ltb-false}
use Rattle.base.specs.Base.{whether}
use Rattle.base.proofs.Cases.{whether_by}
use Rattle.answers.specs.Text.{base, places_limit, digit_of, digits_of, decimal_of}
use Rattle.answers.specs.Numbers.{AreDigits, goes_on, number_in, numbers_of, beyond_u64, InDigits, ZeroIsZero, NoPlaceMore, ReadsBack, OneTextEach}

goes_on_more : (xs ys : List ℕ) (n : ℕ) → goes_on n (xs ++ ys) ≡ goes_on (goes_on n xs) ys
goes_on_more [] ys n = refl
goes_on_more (x ∷ xs) ys n = goes_on_more xs ys _

digit_says : (n v : ℕ) → goes_on v (digit_of n ∷ []) ≡ v * base + n % base
digit_says n v = omega arith

digits_say : (k n : ℕ) → n < numbers_of k → number_in (digits_of k n) ≡ n
unfolding digits_of numbers_of
digits_say zero n h = omega arith
digits_say (suc k) n h =
    whether_by (λ (l : List ℕ). number_in l ≡ n) (ltb n base) (λ _. digit_of n ∷ []) (λ _. digits_of k (n / base) ++ (digit_of n ∷ []))
    (λ q. omega (arith, ltb-true n base q))
    (λ q.
    let i : number_in (digits_of k (n / base)) ≡ n / base = digits_say k (n / base) (omega arith) in
    let a : _ = goes_on_more (digits_of k (n / base)) (digit_of n ∷ []) 0 in
    let d : _ = digit_says n (number_in (digits_of k (n / base))) in
    omega (arith, i, a, d))

digits_more : (xs ys : List ℕ) → AreDigits xs → AreDigits ys → AreDigits (xs ++ ys)
digits_more [] ys h g = g
digits_more (x ∷ xs) ys h g = (h.0, h.1, digits_more xs ys h.2 g)

is_digit : (n : ℕ) → AreDigits (digit_of n ∷ [])
is_digit n = (omega arith, omega arith, tt)

are_digits : (k n : ℕ) → AreDigits (digits_of k n)
unfolding digits_of
are_digits zero n = tt
are_digits (suc k) n =
    whether_by AreDigits (ltb n base) (λ _. digit_of n ∷ []) (λ _. digits_of k (n / base) ++ (digit_of n ∷ []))
    (λ _. is_digit n)
    (λ _. digits_more (digits_of k (n / base)) (digit_of n ∷ []) (are_digits k (n / base)) (is_digit n))

-- with no place more than it needs: m is the number of places but one
record Shortest (n : ℕ) (ds : List ℕ) : Type 0 where
  more : ℕ
  places : length ds ≡ suc more
  needed : numbers_of more ≤ n

one_place_more : (n : ℕ) (ds : List ℕ) → Shortest (n / base) ds → Shortest n (ds ++ (digit_of n ∷ []))
unfolding numbers_of
one_place_more n ds h =
    record {
      more = suc h.more;
      places = rw length-append (omega (arith, h.places));
      needed = let w : numbers_of h.more ≤ n / base = h.needed in omega arith;
    }

shortest : (k n : ℕ) → 1 ≤ n → n < numbers_of k → Shortest n (digits_of k n)
unfolding digits_of numbers_of
shortest zero n l h = absurd (omega arith)
shortest (suc k) n l h =
    whether_by (Shortest n) (ltb n base) (λ _. digit_of n ∷ []) (λ _. digits_of k (n / base) ++ (digit_of n ∷ []))
    (λ _. record { more = 0; places = refl; needed = l })
    (λ q. one_place_more n (digits_of k (n / base)) (shortest k (n / base) (omega (arith, ltb-false n base q)) (omega arith)))

-- 10 to the 20th is more than 2 to the 64th
room : (n : ℕ) → n < beyond_u64 → n < numbers_of places_limit
unfolding numbers_of
room n h = omega arith

pub reads_back : ReadsBack
unfolding decimal_of
reads_back n h = digits_say places_limit n (room n h)

pub one_text_each : OneTextEach
one_text_each n m h g q = sym (reads_back n h) ∙ ap number_in q ∙ reads_back m g

pub in_digits : InDigits
unfolding decimal_of
in_digits n = are_digits places_limit n

pub zero_is_zero : ZeroIsZero
unfolding decimal_of digits_of whether
zero_is_zero = refl

pub no_place_more : NoPlaceMore
unfolding decimal_of
no_place_more n l h =
    let s : Shortest n (digits_of places_limit n) = shortest places_limit n l (room n h) in
    let e : length (digits_of places_limit n) - 1 ≡ s.more = omega (arith, s.places) in
    (omega (arith, s.places), subst (λ (k : ℕ). numbers_of k ≤ n) (sym e) (s.needed))

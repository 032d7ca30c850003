-- The fault that `first_fault` gives is the first, it gives one wherever there is one, and any two firsts agree. By induction on the list of faults and on the indices. Assumes nothing.
use mathlib.Core.Path.{◌≡◌, refl, sym, ap, subst, ◌∙◌}
use mathlib.Core.Bool.{Bool, true, false}
use mathlib.Core.List.{List, [], ◌∷◌}
use mathlib.Core.Logic.{◌⊎◌, inl, inr, ⊎_elim}
use Prim.Native.Nat.{ℕ, zero, suc, ◌+◌, ◌<◌, ◌≤◌}
use native.Mathlib.Omega.{arith}
use lib.Dec.{ltb, eqb}
use lib.ListN.{length, get_or}
use borrow.Author.Tests.{ne_eqb, ltb-true, ltb-false, eqb-true, eqb-false}
use Rattle.base.specs.Base.{whether}
use Rattle.base.proofs.Laws.{whether_yes, whether_no}
use Rattle.input.specs.Input.{Tokens}
use Rattle.input.proofs.Laws.{true_or_false, not_both}
use Rattle.opinion.specs.Faults.{faults, first_in, fault_at, fault, no_fault, first_of, first_fault}
use Rattle.opinion.specs.First.{never, holds, FineAt, Faultless, First, NamesTheFirst, TheFirstIsNamed, AcceptedIsFaultless, FaultlessIsAccepted}
use Rattle.opinion.specs.declared.Fault.{Fault}

abbrev Predicate : Type 0
Predicate = Tokens → List ℕ → ℕ → Bool

module _ (ts : Tokens) (steps : List ℕ) (i : ℕ) where
  -- the number found in a list of faults: of the first that holds, or 0 for none
  abbrev Found : ℕ → List Predicate → ℕ → Type 0
  Found n l r =
      ((r ≡ 0) × ((f : ℕ) → get_or l f never ts steps i ≡ false))
      ⊎ ((f : ℕ) × (r ≡ n + f) × (get_or l f never ts steps i ≡ true) × ((g : ℕ) → g < f → get_or l g never ts steps i ≡ false))

  later : (n : ℕ) (p : Predicate) (l : List Predicate) (r : ℕ) → p ts steps i ≡ false → Found (suc n) l r → Found n (p ∷ l) r
  later n p l r q (inl z) = inl (z.0, λ f. miss f)
    where
      miss : (f : ℕ) → get_or (p ∷ l) f never ts steps i ≡ false
      miss zero = q
      miss (suc f) = z.1 f
  later n p l r q (inr z) = inr (suc z.0, omega (arith, z.1), z.2, λ g h. miss g h)
    where
      miss : (g : ℕ) → g < suc z.0 → get_or (p ∷ l) g never ts steps i ≡ false
      miss zero h = q
      miss (suc g) h = z.3 g (omega arith)

  found : (n : ℕ) (l : List Predicate) → Found n l (first_in ts steps i n l)
  unfolding first_in never
  found n [] = inl (refl, λ f. refl)
  found n (p ∷ l) = go (p ts steps i) refl (found (suc n) l)
    where
      go : (b : Bool) → p ts steps i ≡ b → Found (suc n) l (first_in ts steps i (suc n) l) → Found n (p ∷ l) (first_in ts steps i n (p ∷ l))
      go true q r = inr (0, sym (whether_yes _ _ q refl) ∙ (let e : n ≡ n + 0 = omega arith in e), q, λ g h. absurd (omega arith))
      go false q r = subst (Found n (p ∷ l)) (whether_no _ _ q refl) (later n p l _ q r)

  -- of an index: none of the ten, or the first
  abbrev pub At : ℕ → Type 0
  At r = ((r ≡ 0) × FineAt ts steps i) ⊎ ((f : ℕ) × (r ≡ suc f) × (holds f ts steps i ≡ true) × ((g : ℕ) → g < f → holds g ts steps i ≡ false))

  pub at_index : At (fault_at ts steps i)
  unfolding fault_at
  at_index = ⊎_elim (λ z. inl z) (λ z. inr (z.0, z.1 ∙ (let e : 1 + z.0 ≡ suc z.0 = omega arith in e), z.2, z.3)) (found 1 faults)

-- the first index below a bound at which a number is not 0
module _ (f : ℕ → ℕ) where
  abbrev pub Least : ℕ → Fault → Type 0
  Least k r = ((r ≡ no_fault) × ((j : ℕ) → j < k → f j ≡ 0)) ⊎ ((j : ℕ) × (j < k) × (f j ≡ 0 → ⊥) × (r ≡ fault (f j) j) × ((h : ℕ) → h < j → f h ≡ 0))

  up_to : (k : ℕ) → ((j : ℕ) → j < k → f j ≡ 0) → f k ≡ 0 → (j : ℕ) → j < suc k → f j ≡ 0
  up_to k a z j h = ⊎_elim (λ q. a j (ltb-true j k q)) (λ q. let e : j ≡ k = omega (arith, ltb-false j k q) in rw e z) (true_or_false (ltb j k))

  least_on : (k : ℕ) (r : Fault) → Least k r → Least (suc k) (whether (eqb r.number 0) (λ _. whether (eqb (f k) 0) (λ _. no_fault) (λ _. fault (f k) k)) (λ _. r))
  unfolding whether
  least_on k r (inl z) = rw z.0 (go (eqb (f k) 0) refl)
    where
      go : (b : Bool) → eqb (f k) 0 ≡ b → Least (suc k) (whether (eqb (f k) 0) (λ _. no_fault) (λ _. fault (f k) k))
      go true q = rw q (inl (refl, up_to k z.1 (eqb-true (f k) 0 q)))
      go false q = rw q (inr (k, omega arith, eqb-false (f k) 0 q, refl, z.1))
  least_on k r (inr z) = rw (z.3, ne_eqb (f z.0) 0 z.2) (inr (z.0, omega (arith, z.1), z.2, refl, z.4))

  pub least : (k : ℕ) → Least k (first_of f k)
  unfolding first_of
  least zero = inl (refl, λ j h. absurd (omega arith))
  least (suc k) = least_on k (first_of f k) (least k)

module _ (ts : Tokens) (steps : List ℕ) where
  fine_none : (j : ℕ) → fault_at ts steps j ≡ 0 → FineAt ts steps j
  fine_none j e = ⊎_elim (λ z. z.1) (λ z. absurd (omega (arith, z.1, e))) (at_index ts steps j)

  none_fine : (j : ℕ) → FineAt ts steps j → fault_at ts steps j ≡ 0
  none_fine j e = ⊎_elim (λ z. z.0) (λ z. absurd (not_both _ z.2 (e z.0))) (at_index ts steps j)

  named : Least (fault_at ts steps) (suc (length steps)) (first_fault ts steps)
  unfolding first_fault
  named = least (fault_at ts steps) (suc (length steps))

pub names_the_first : NamesTheFirst
names_the_first ts steps f i e = go (named ts steps)
  where
    number : (first_fault ts steps).number ≡ suc f
    number = ap (λ (r : Fault). r.number) e

    go : Least (fault_at ts steps) (suc (length steps)) (first_fault ts steps) → First ts steps f i
    go (inl z) = absurd (let y : 0 ≡ suc f = sym (ap (λ (r : Fault). r.number) z.0) ∙ number in omega arith)
    go (inr z) =
        let at : z.0 ≡ i = ap (λ (r : Fault). r.at) (sym z.3 ∙ e) in
        let same : fault_at ts steps z.0 ≡ suc f = ap (λ (r : Fault). r.number) (sym z.3 ∙ e) in
        subst (First ts steps f) at (here z.0 (omega (arith, z.1)) same z.4 (at_index ts steps z.0))
      where
        here : (j : ℕ) → j ≤ length steps → fault_at ts steps j ≡ suc f → ((h : ℕ) → h < j → fault_at ts steps h ≡ 0) → At ts steps j (fault_at ts steps j) → First ts steps f j
        here j l q before (inl a) = absurd (omega (arith, a.0))
        here j l q before (inr a) =
            let e : a.0 ≡ f = omega (arith, a.1) in
            record { inside = l; is_there = subst (λ (g : ℕ). holds g ts steps j ≡ true) e a.2; first_listed = λ g h. a.3 g (omega arith); least = λ h k. fine_none ts steps h (before h k) }

pub the_first_is_named : TheFirstIsNamed
the_first_is_named ts steps f i r = go (named ts steps)
  where
    here : fault_at ts steps i ≡ suc f
    here = ⊎_elim (λ a. absurd (not_both _ r.is_there (a.1 f))) (λ a. a.1 ∙ ap suc (same a.0 a.2 a.3)) (at_index ts steps i)
      where
        same : (g : ℕ) → holds g ts steps i ≡ true → ((h : ℕ) → h < g → holds h ts steps i ≡ false) → g ≡ f
        same g t b =
            ⊎_elim (λ q. absurd (not_both _ t (r.first_listed g (ltb-true g f q))))
            (λ q. ⊎_elim (λ p. absurd (not_both _ r.is_there (b f (ltb-true f g p)))) (λ p. omega (arith, ltb-false g f q, ltb-false f g p)) (true_or_false (ltb f g)))
            (true_or_false (ltb g f))

    go : Least (fault_at ts steps) (suc (length steps)) (first_fault ts steps) → first_fault ts steps ≡ fault (suc f) i
    go (inl z) = absurd (let y : fault_at ts steps i ≡ 0 = z.1 i (omega (arith, r.inside)) in omega (arith, here))
    go (inr z) = z.3 ∙ ap (λ (j : ℕ). fault (fault_at ts steps j) j) same ∙ ap (λ (n : ℕ). fault n i) here
      where
        same : z.0 ≡ i
        same =
            ⊎_elim (λ q. absurd (z.2 (none_fine ts steps z.0 (r.least z.0 (ltb-true z.0 i q)))))
            (λ q. ⊎_elim (λ p. absurd (let y : fault_at ts steps i ≡ 0 = z.4 i (ltb-true i z.0 p) in omega (arith, here))) (λ p. omega (arith, ltb-false z.0 i q, ltb-false i z.0 p)) (true_or_false (ltb i z.0)))
            (true_or_false (ltb z.0 i))

pub accepted_is_faultless : AcceptedIsFaultless
accepted_is_faultless ts steps e = go (named ts steps)
  where
    go : Least (fault_at ts steps) (suc (length steps)) (first_fault ts steps) → Faultless ts steps
    go (inl z) = λ i l. fine_none ts steps i (z.1 i (omega arith))
    go (inr z) = absurd (z.2 (sym (ap (λ (r : Fault). r.number) z.3) ∙ ap (λ (r : Fault). r.number) e))

pub faultless_is_accepted : FaultlessIsAccepted
faultless_is_accepted ts steps n = go (named ts steps)
  where
    go : Least (fault_at ts steps) (suc (length steps)) (first_fault ts steps) → first_fault ts steps ≡ no_fault
    go (inl z) = z.0
    go (inr z) = absurd (z.2 (none_fine ts steps z.0 (n z.0 (omega (arith, z.1)))))

-- What a walk over a chain of forward parents keeps: tokens and leaves as they were, and the names that it takes are those that it takes away. Assumes nothing.
use mathlib.Core.Path.{◌≡◌, refl, ap, ◌∙◌}
use mathlib.Core.Bool.{Bool, true, false}
use mathlib.Core.List.{List, [], ◌∷◌, ◌++◌}
use Prim.Native.Nat.{ℕ, zero, suc, ◌+◌}
use native.Mathlib.Omega.{arith}
use lib.ListN.{length}
use Rattle.demand.specs.Lists.{tally, gather}
use Rattle.demand.proofs.Sums.{Above, tally_append, above_more}
use Rattle.event.specs.Event.{Status, spent, Event, start, finish, token, split, error}
use Rattle.demand.specs.Runs.{Tok, tok, float}
use Rattle.demand.proofs.Events.{is_split, is_finish, next, Follows, Paired}
use Rattle.demand.proofs.Pass.{names, clear, chain}

-- the weight of an event's name under h; with h constantly 1, whether it has one
abbrev pub weigh : (ℕ → ℕ) → Event → ℕ
weigh h e = tally h (names e)

abbrev pub ups : Event → ℕ
ups e = weigh (λ _. 1) e

-- the leaves of an event: a split's second one, its finish gives the other
abbrev pub downs : Event → ℕ
downs (start s f b) = 0
downs finish = 1
downs (token k w) = 0
downs (split true) = 0
downs (split false) = 1
downs (error c) = 0

abbrev pub tok_e : Event → List Tok
tok_e (start s f b) = []
tok_e finish = []
tok_e (token k w) = tok k w ∷ []
tok_e (split d) = float d ∷ []
tok_e (error c) = []

clear_names : (e : Event) → names (clear e) ≡ []
clear_names (start s f b) = refl
clear_names finish = refl
clear_names (token k w) = refl
clear_names (split d) = refl
clear_names (error c) = refl

-- what does not look at a start is the same of a cleared event
pub clear_same : {B : Type 0} (g : Event → B) → ((s s' : Status) (f f' : ℕ) (b b' : Bool) → g (start s f b) ≡ g (start s' f' b')) → (e : Event) → g (clear e) ≡ g e
clear_same g q (start s f b) = q spent s 0 f false b
clear_same g q finish = refl
clear_same g q (token k w) = refl
clear_same g q (split d) = refl
clear_same g q (error c) = refl

pub chain_length : (es : List Event) (f : ℕ) → length (chain es f).1 ≡ length es
unfolding chain
chain_length [] f = refl
chain_length (e ∷ es) zero = refl
chain_length (e ∷ es) (suc zero) = ap suc (chain_length es (next e))
chain_length (e ∷ es) (suc (suc f)) = ap suc (chain_length es (suc f))

pub chain_toks : (es : List Event) (f : ℕ) → gather tok_e (chain es f).1 ≡ gather tok_e es
unfolding chain
chain_toks [] f = refl
chain_toks (e ∷ es) zero = refl
chain_toks (e ∷ es) (suc zero) = rw (clear_same tok_e (λ s s' f f' b b'. refl) e, chain_toks es (next e))
chain_toks (e ∷ es) (suc (suc f)) = ap (λ z. tok_e e ++ z) (chain_toks es (suc f))

pub chain_downs : (es : List Event) (f : ℕ) → tally downs (chain es f).1 ≡ tally downs es
unfolding chain
chain_downs [] f = refl
chain_downs (e ∷ es) zero = refl
chain_downs (e ∷ es) (suc zero) = rw (clear_same downs (λ s s' f f' b b'. refl) e, chain_downs es (next e))
chain_downs (e ∷ es) (suc (suc f)) = ap (λ z. downs e + z) (chain_downs es (suc f))

-- the names that the walk takes are those that it takes away
pub chain_names : (h : ℕ → ℕ) (es : List Event) (f : ℕ) → tally h (chain es f).0 + tally (weigh h) (chain es f).1 ≡ tally (weigh h) es
unfolding chain
chain_names h [] f = refl
chain_names h (e ∷ es) zero = omega arith
chain_names h (e ∷ es) (suc zero) = rw (tally_append, clear_names) (omega (arith, chain_names h es (next e)))
chain_names h (e ∷ es) (suc (suc f)) = omega (arith, chain_names h es (suc f))

-- and they come no later than they would have come
pub chain_above : (a b : ℕ) (es : List Event) (f : ℕ) → Above ups downs a b es → Above ups downs (a + tally (λ _. 1) (chain es f).0) b (chain es f).1
unfolding chain
chain_above a b [] f s = omega arith
chain_above a b (e ∷ es) zero s = above_more ups downs a b (a + 0) b (e ∷ es) (omega arith) (omega arith) s
chain_above a b (e ∷ es) (suc zero) s =
    rw (tally_append, clear_names, clear_same downs (λ s s' f f' b b'. refl) e)
    (omega arith, above_more ups downs (a + ups e + tally (λ _. 1) (chain es (next e)).0) (b + downs e) _ _ (chain es (next e)).1 (omega arith) (omega arith) (chain_above (a + ups e) (b + downs e) es (next e) s.1))
chain_above a b (e ∷ es) (suc (suc f)) s =
    (omega arith, above_more ups downs (a + ups e + tally (λ _. 1) (chain es (suc f)).0) (b + downs e) _ _ (chain es (suc f)).1 (omega arith) (omega arith) (chain_above (a + ups e) (b + downs e) es (suc f) s.1))

pub chain_follows : (c : Bool) (es : List Event) (f : ℕ) → Follows c es → Follows c (chain es f).1
unfolding chain
chain_follows false es f s = tt
chain_follows true [] f s = s
chain_follows true (e ∷ es) zero s = s
chain_follows true (e ∷ es) (suc zero) s = clear_same is_finish (λ s s' f f' b b'. refl) e ∙ s
chain_follows true (e ∷ es) (suc (suc f)) s = s

pub chain_paired : (es : List Event) (f : ℕ) → Paired es → Paired (chain es f).1
unfolding chain
chain_paired [] f s = tt
chain_paired (e ∷ es) zero s = s
chain_paired (e ∷ es) (suc zero) s = rw (clear_same is_split (λ s s' f f' b b'. refl) e) (chain_follows (is_split e) es (next e) s.0, chain_paired es (next e) s.1)
chain_paired (e ∷ es) (suc (suc f)) s = (chain_follows (is_split e) es (suc f) s.0, chain_paired es (suc f) s.1)

pub chain_none : (es : List Event) → chain es 0 ≡ ([], es)
unfolding chain
chain_none [] = refl
chain_none (e ∷ es) = refl

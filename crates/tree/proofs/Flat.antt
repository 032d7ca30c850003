-- The pass over a shape's events gives the shape's steps. Three ways to meet a shape: by itself, with a forward parent behind its root, and with its root entered before. Assumes nothing.
use mathlib.Core.Path.{◌≡◌, refl, sym, ap, ◌∙◌}
use mathlib.Core.List.{List, [], ◌∷◌, ◌++◌, map, append_assoc, append-nil}
use mathlib.Core.Bool.{Bool, true, false}
use Prim.Native.Nat.{ℕ, zero, suc, ◌+◌}
use native.Mathlib.Omega.{arith}
use lib.ListN.{length}
use Rattle.event.specs.Event.{Event, start, finish, token, split, spent, named}
use Rattle.demand.specs.Steps.{Step, enter, leave, taken, parted}
use Rattle.demand.proofs.Pass as whole
use Rattle.demand.proofs.Pass.{chain, pass}
use Rattle.tree.proofs.Shape.{Shape, nil, tok, both, node, led, ext, Ending, shut, unshut, at_dot, at_two, ends, end_steps, preceding, size, reach, root, code, steps, Rooted, Sound, size_is, root_name, root_flag, front, back, code_is, front_is, back_is}

-- a start entered before
abbrev gone : Event
gone = start spent 0 false

map_append : {A B : Type 0} (f : A → B) (l m : List A) → map f (l ++ m) ≡ map f l ++ map f m
map_append f [] m = refl
map_append {B = B} f (x ∷ l) m = ap (λ (z : List B). f x ∷ z) (map_append f l m)

chain_none : (l : List Event) → chain l 0 ≡ ([], l)
unfolding chain
chain_none [] = refl
chain_none (e ∷ l) = refl

-- one event
step_start : (n k off : ℕ) (c fl : Bool) (l : List Event) → pass (suc n) c (start (named k) off fl ∷ l) ≡ map enter ((chain l off).0 ++ (k ∷ [])) ++ pass n false (chain l off).1
unfolding pass
step_start n k off c fl l = refl

step_spent : (n off : ℕ) (c : Bool) (l : List Event) → pass (suc n) c (start spent off false ∷ l) ≡ map enter (chain l off).0 ++ pass n false (chain l off).1
unfolding pass
step_spent n off c l = ap (λ (z : List ℕ). map enter z ++ pass n false (chain l off).1) (append-nil (chain l off).0)

step_gone : (n : ℕ) (l : List Event) → pass (suc n) false (gone ∷ l) ≡ pass n false l
step_gone n l = step_spent n 0 false l ∙ ap (λ (r : List ℕ × List Event). map enter r.0 ++ pass n false r.1) (chain_none l)

step_token : (n k w : ℕ) (l : List Event) → pass (suc n) false (token k w ∷ l) ≡ taken k w ∷ pass n false l
unfolding pass
step_token n k w l = ap (λ (r : List ℕ × List Event). map enter (r.0 ++ []) ++ (taken k w ∷ pass n false r.1)) (chain_none l)

step_finish : (n : ℕ) (l : List Event) → pass (suc n) false (finish ∷ l) ≡ leave ∷ pass n false l
unfolding pass
step_finish n l = ap (λ (r : List ℕ × List Event). map enter (r.0 ++ []) ++ (leave ∷ pass n false r.1)) (chain_none l)

step_split : (n : ℕ) (d : Bool) (l : List Event) → pass (suc n) false (split d ∷ l) ≡ parted d ∷ pass n true l
unfolding pass
step_split n d l = ap (λ (r : List ℕ × List Event). map enter (r.0 ++ []) ++ (parted d ∷ pass n true r.1)) (chain_none l)

step_dropped : (n : ℕ) (l : List Event) → pass (suc n) true (finish ∷ l) ≡ pass n false l
unfolding pass
step_dropped n l = ap (λ (r : List ℕ × List Event). map enter (r.0 ++ []) ++ pass n false r.1) (chain_none l)

-- a node's end
step_ends : (z : Ending) (n : ℕ) (l : List Event) → pass (length (ends z) + n) false (ends z ++ l) ≡ end_steps z ++ pass n false l
step_ends shut n l = ap (λ (m : ℕ). pass m false (finish ∷ l)) (omega arith) ∙ step_finish n l
step_ends unshut n l = ap (λ (m : ℕ). pass m false l) (omega arith)
step_ends at_dot n l = ap (λ (m : ℕ). pass m false (split true ∷ finish ∷ l)) (omega arith) ∙ step_split (suc n) true (finish ∷ l) ∙ ap (λ (z : List Step). parted true ∷ z) (step_dropped n l)
step_ends at_two n l = ap (λ (m : ℕ). pass m false (split false ∷ finish ∷ l)) (omega arith) ∙ step_split (suc n) false (finish ∷ l) ∙ ap (λ (z : List Step). parted false ∷ z) (step_dropped n l)

-- a chain that goes beyond b
chain_skip : (b l : List Event) (j : ℕ) → chain (b ++ l) (suc (length b + j)) ≡ ((chain l (suc j)).0, b ++ (chain l (suc j)).1)
unfolding chain
chain_skip [] l j = ap (chain l) (omega arith)
chain_skip (x ∷ b) l j = ap (chain (x ∷ (b ++ l))) far ∙ ap (λ (r : List ℕ × List Event). (r.0, x ∷ r.1)) (chain_skip b l j)
  where
    far : suc (suc (length b) + j) ≡ suc (suc (length b + j))
    far = omega arith

-- a chain that leads to a start that was entered before
to_gone : (b l : List Event) (j : ℕ) → j ≡ suc (length b) → chain (b ++ (gone ∷ l)) j ≡ ([], b ++ (gone ∷ l))
unfolding chain
to_gone b l j p =
    let far : j ≡ suc (length b + 0) = omega arith in
    ap (chain (b ++ (gone ∷ l))) far ∙ chain_skip b (gone ∷ l) 0 ∙ ap (λ (r : List ℕ × List Event). (r.0 ++ [], b ++ (gone ∷ r.1))) (chain_none l)

-- a chain that begins with a start
chain_start : (k off : ℕ) (fl : Bool) (l : List Event) → chain (start (named k) off fl ∷ l) 1 ≡ ((chain l off).0 ++ (k ∷ []), gone ∷ (chain l off).1)
unfolding chain
chain_start k off fl l = refl

-- the whole of a shape, with what follows it
abbrev Whole : Shape → Type 0
Whole t = (n : ℕ) (rest : List Event) → pass (size t + n) false (code t 0 ++ rest) ≡ steps t ++ pass n false rest

-- the same where the root's forward parent stands behind it: the chain from there on gives es and leaves rest'
abbrev Heads : Shape → Type 0
Heads t = (n off : ℕ) (rest rest' : List Event) (es : List ℕ) → chain (back t ++ rest) off ≡ (es, back t ++ rest') → pass (size t + n) false (code t off ++ rest) ≡ map enter es ++ (steps t ++ pass n false rest')

-- what stands behind a root, and the node's end
behind : (z : Ending) (a : Shape) → Whole a → (n : ℕ) (rest : List Event) → pass (size a + length (ends z) + n) false ((code a 0 ++ ends z) ++ rest) ≡ steps a ++ (end_steps z ++ pass n false rest)
behind z a w n rest =
    ap (λ (l : List Event). pass (size a + length (ends z) + n) false l) (append_assoc (code a 0) (ends z) rest)
    ∙ ap (λ (m : ℕ). pass m false (code a 0 ++ (ends z ++ rest))) (omega arith)
    ∙ w (length (ends z) + n) (ends z ++ rest)
    ∙ ap (λ (l : List Step). steps a ++ l) (step_ends z n rest)

enters : (es : List ℕ) (k : ℕ) (l : List Step) → map enter (es ++ (k ∷ [])) ++ l ≡ map enter es ++ (enter k ∷ l)
enters es k l = ap (λ (z : List Step). z ++ l) (map_append enter es (k ∷ [])) ∙ append_assoc (map enter es) (enter k ∷ []) l

node_heads : (k : ℕ) (a : Shape) → Whole a → Heads (node k a)
unfolding code back size steps
node_heads k a w n off rest rest' es q =
    ap (λ (m : ℕ). pass m false (start (named k) off false ∷ ((code a 0 ++ (finish ∷ [])) ++ rest))) (omega arith)
    ∙ step_start (size a + 1 + n) k off false false ((code a 0 ++ (finish ∷ [])) ++ rest)
    ∙ ap (λ (r : List ℕ × List Event). map enter (r.0 ++ (k ∷ [])) ++ pass (size a + 1 + n) false r.1) q
    ∙ enters es k _
    ∙ ap (λ (l : List Step). map enter es ++ (enter k ∷ l)) (behind shut a w n rest' ∙ sym (append_assoc (steps a) (leave ∷ []) _))

led_heads : (z : Ending) (k : ℕ) (c a : Shape) → Heads c → Whole a → reach c ≡ suc (length (back c)) → Heads (led z k c a)
unfolding code back size steps
led_heads z k c a hc w far n off rest rest' es q =
    ap (λ (l : List Event). pass (size c + suc (size a + length (ends z)) + n) false l) (append_assoc (code c (reach c)) (start (named k) off (preceding z) ∷ (code a 0 ++ ends z)) rest)
    ∙ ap (λ (m : ℕ). pass m false (code c (reach c) ++ (start (named k) off (preceding z) ∷ ((code a 0 ++ ends z) ++ rest)))) (omega arith)
    ∙ hc (suc (size a + length (ends z) + n)) (reach c) (start (named k) off (preceding z) ∷ ((code a 0 ++ ends z) ++ rest)) (gone ∷ ((code a 0 ++ ends z) ++ rest')) (es ++ (k ∷ [])) linked
    ∙ ap (λ (l : List Step). map enter (es ++ (k ∷ [])) ++ (steps c ++ l)) (step_gone (size a + length (ends z) + n) _ ∙ behind z a w n rest')
    ∙ enters es k _
    ∙ ap (λ (l : List Step). map enter es ++ (enter k ∷ l)) (sym (append_assoc (steps c) (steps a ++ end_steps z) _ ∙ ap (λ (l : List Step). steps c ++ l) (append_assoc (steps a) (end_steps z) _)))
  where
    linked : chain (back c ++ (start (named k) off (preceding z) ∷ ((code a 0 ++ ends z) ++ rest))) (reach c) ≡ (es ++ (k ∷ []), back c ++ (gone ∷ ((code a 0 ++ ends z) ++ rest')))
    linked =
        ap (chain (back c ++ (start (named k) off (preceding z) ∷ ((code a 0 ++ ends z) ++ rest)))) (far ∙ omega arith)
        ∙ chain_skip (back c) (start (named k) off (preceding z) ∷ ((code a 0 ++ ends z) ++ rest)) 0
        ∙ ap (λ (r : List ℕ × List Event). (r.0, back c ++ r.1)) (chain_start k off (preceding z) ((code a 0 ++ ends z) ++ rest))
        ∙ ap (λ (r : List ℕ × List Event). (r.0 ++ (k ∷ []), back c ++ (gone ∷ r.1))) q

-- the steps behind the first
unfoldable inner : Shape → List Step
inner nil = []
inner (tok k w) = []
inner (both a b) = []
inner (node k a) = steps a ++ (leave ∷ [])
inner (led z k c a) = steps c ++ (steps a ++ end_steps z)
inner (ext c) = inner c

steps_is : (t : Shape) → Rooted t → steps t ≡ enter (root_name t) ∷ inner t
unfolding steps inner root_name
steps_is nil r = elim r [ ]
steps_is (tok _ _) r = elim r [ ]
steps_is (both _ _) r = elim r [ ]
steps_is (node k a) r = refl
steps_is (led z k c a) r = refl
steps_is (ext c) r = steps_is c r

-- where the root was entered before: all but the first step
abbrev Blanks : Shape → Type 0
Blanks t = (n : ℕ) (rest : List Event) → pass (size t + n) false (front t ++ (gone ∷ (back t ++ rest))) ≡ inner t ++ pass n false rest

node_blanks : (k : ℕ) (a : Shape) → Whole a → Blanks (node k a)
unfolding front back inner size
node_blanks k a w n rest =
    ap (λ (m : ℕ). pass m false (gone ∷ ((code a 0 ++ (finish ∷ [])) ++ rest))) (omega arith)
    ∙ step_gone (size a + 1 + n) _ ∙ behind shut a w n rest ∙ sym (append_assoc (steps a) (leave ∷ []) _)

led_blanks : (z : Ending) (k : ℕ) (c a : Shape) → Rooted c → Heads c → Whole a → Blanks (led z k c a)
unfolding front back inner size
led_blanks z k c a r hc w n rest =
    ap (λ (m : ℕ). pass m false (code c (reach c) ++ (gone ∷ ((code a 0 ++ ends z) ++ rest)))) (omega arith)
    ∙ hc (suc (size a + length (ends z) + n)) (reach c) (gone ∷ ((code a 0 ++ ends z) ++ rest)) (gone ∷ ((code a 0 ++ ends z) ++ rest)) [] (to_gone (back c) ((code a 0 ++ ends z) ++ rest) (reach c) (back_is c r))
    ∙ ap (λ (l : List Step). steps c ++ l) (step_gone (size a + length (ends z) + n) _ ∙ behind z a w n rest)
    ∙ simp append_assoc

ext_blanks : (c : Shape) → Rooted c → Blanks c → Blanks (ext c)
unfolding front back inner size
ext_blanks c r b n rest =
    ap (λ (m : ℕ). pass m false (start spent (suc (root c)) false ∷ (front c ++ (gone ∷ (back c ++ rest))))) (omega arith)
    ∙ step_spent (size c + n) (suc (root c)) false _
    ∙ ap (λ (z : List ℕ × List Event). map enter z.0 ++ pass (size c + n) false z.1) (to_gone (front c) (back c ++ rest) (suc (root c)) (ap suc (sym (front_is c r))))
    ∙ b n rest

ext_heads : (c : Shape) → Rooted c → Blanks c → Heads (ext c)
unfolding code back size steps
ext_heads c r b n off rest rest' es q =
    ap (λ (m : ℕ). pass m false (start spent (suc (root c)) false ∷ (code c off ++ rest))) (omega arith)
    ∙ step_spent (size c + n) (suc (root c)) false _
    ∙ ap (λ (z : List ℕ × List Event). map enter z.0 ++ pass (size c + n) false z.1) linked
    ∙ ap (λ (l : List Step). map enter (es ++ (root_name c ∷ [])) ++ l) (b n rest')
    ∙ enters es (root_name c) _
    ∙ ap (λ (l : List Step). map enter es ++ (l ++ pass n false rest')) (sym (steps_is c r))
  where
    linked : chain (code c off ++ rest) (suc (root c)) ≡ (es ++ (root_name c ∷ []), front c ++ (gone ∷ (back c ++ rest')))
    linked =
        let far : suc (root c) ≡ suc (length (front c) + 0) = omega (arith, front_is c r) in
        ap (λ (l : List Event). chain (l ++ rest) (suc (root c))) (code_is c off r)
        ∙ ap (λ (l : List Event). chain l (suc (root c))) (append_assoc (front c) (start (named (root_name c)) off (root_flag c) ∷ back c) rest)
        ∙ ap (chain (front c ++ (start (named (root_name c)) off (root_flag c) ∷ (back c ++ rest)))) far
        ∙ chain_skip (front c) (start (named (root_name c)) off (root_flag c) ∷ (back c ++ rest)) 0
        ∙ ap (λ (r : List ℕ × List Event). (r.0, front c ++ r.1)) (chain_start (root_name c) off (root_flag c) (back c ++ rest))
        ∙ ap (λ (r : List ℕ × List Event). (r.0 ++ (root_name c ∷ []), front c ++ (gone ∷ r.1))) q

-- no forward parent
whole_of : (t : Shape) → Heads t → Whole t
whole_of t h n rest = h n 0 rest rest [] (chain_none (back t ++ rest))

all_ways : (t : Shape) → Sound t → Whole t × (Rooted t → Heads t × Blanks t)
unfolding code size steps
all_ways nil s = (λ n rest. ap (λ (m : ℕ). pass m false rest) (omega arith), λ r. absurd r)
all_ways (tok k w) s = (λ n rest. ap (λ (m : ℕ). pass m false (token k w ∷ rest)) (omega arith) ∙ step_token n k w rest, λ r. absurd r)
all_ways (both a b) s = (
  λ n rest. ap (λ (l : List Event). pass (size a + size b + n) false l) (append_assoc (code a 0) (code b 0) rest)
      ∙ ap (λ (m : ℕ). pass m false (code a 0 ++ (code b 0 ++ rest))) (omega arith)
      ∙ (all_ways a s.0).0 (size b + n) (code b 0 ++ rest)
      ∙ ap (λ (l : List Step). steps a ++ l) ((all_ways b s.1).0 n rest)
      ∙ sym (append_assoc (steps a) (steps b) (pass n false rest)),
  λ r. absurd r,
)
all_ways (node k a) s =
    let h = node_heads k a (all_ways a s).0 in
    (whole_of (node k a) h, λ _. (h, node_blanks k a (all_ways a s).0))
all_ways (led z k c a) s =
    let h = led_heads z k c a ((all_ways c s.1).1 s.0).0 (all_ways a s.2).0 (back_is c s.0) in
    (whole_of (led z k c a) h, λ _. (h, led_blanks z k c a s.0 ((all_ways c s.1).1 s.0).0 (all_ways a s.2).0))
all_ways (ext c) s =
    let b = ((all_ways c s.1).1 s.0).1 in
    let h = ext_heads c s.0 b in
    (whole_of (ext c) h, λ _. (h, ext_blanks c s.0 b))

pass_nil : (n : ℕ) (c : Bool) → pass n c [] ≡ []
unfolding pass
pass_nil zero c = refl
pass_nil (suc n) c = refl

pub pass_steps : (t : Shape) → Sound t → whole.steps (code t 0) ≡ steps t
unfolding whole.steps
pass_steps t s =
    let z : length (code t 0) ≡ size t + 0 = omega (arith, size_is t 0) in
    ap (λ (m : ℕ). pass m false (code t 0)) z ∙ ap (λ (l : List Event). pass (size t + 0) false l) (sym (append-nil (code t 0))) ∙ (all_ways t s).0 0 [] ∙ ap (λ (l : List Step). steps t ++ l) (pass_nil 0 false) ∙ append-nil (steps t)

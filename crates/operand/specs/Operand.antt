-- "Show me one operand": the caller's own steps, from an enter to its matching leave.
use Rattle.std.specs.Prelude.{ℕ, suc, ◌+◌, ◌-◌, Bool, List, length, get_or, take, drop, ltb, leb, eqb, Result, Ok, Err}
use Rattle.base.specs.Base.{whether, bound, Next, again, done, loops}
use Rattle.input.specs.SyntaxKind.{ENTER, LEAVE, FLOAT_SPLIT, ENDS_IN_DOT, ERROR, PATH_TYPE}
use Rattle.input.specs.Input.{within, refusal}
use Rattle.input.specs.declared.Refusal.{Refusal}

-- "refusal 16"
abbrev pub NO_OPERAND : ℕ
NO_OPERAND = 16

-- "the index of an enter step": 65,536 + node
unfoldable pub is_enter : ℕ → Bool
is_enter step = within (ENTER + ERROR) (ENTER + PATH_TYPE) step

-- "A float split counts one or two leaves", "A non-step counts nothing."
unfoldable pub leaves_of : ℕ → ℕ
leaves_of step =
    whether (eqb step LEAVE) (λ _. 1) λ _.
    whether (eqb step FLOAT_SPLIT) (λ _. 2) λ _.
    whether (eqb step (FLOAT_SPLIT + ENDS_IN_DOT)) (λ _. 1) (λ _. 0)

-- one step of the way to the matching leave, over (index, nodes that are open): "when the match falls on the first of a split's two leaves the part still ends with that whole split"
unfoldable pub match_turn : List ℕ → ℕ × ℕ → Next (ℕ × ℕ) ℕ
match_turn steps z =
    whether (ltb z.0 (length steps))
    (λ _. bound (get_or steps z.0 0) λ step.
    whether (is_enter step) (λ _. again (z.0 + 1, z.1 + 1)) λ _.
    bound (leaves_of step) λ leaves.
    whether (leb z.1 leaves) (λ _. done (z.0 + 1)) (λ _. again (z.0 + 1, z.1 - leaves)))
    (λ _. done 0)

-- the index behind the matching leave of what is entered at a place; 0 for "an enter never matched"
unfoldable pub match_of : List ℕ → ℕ → ℕ
match_of steps at = loops (suc (length steps)) (match_turn steps) 0 (at + 1, 1)

-- the same, and 0 for "An index that isn't an enter" too
unfoldable pub end_of : List ℕ → ℕ → ℕ
end_of steps at = whether (is_enter (get_or steps at 0)) (λ _. match_of steps at) (λ _. 0)

-- "from that enter to its matching leave", else "an empty part"
unfoldable pub operand_of : List ℕ → ℕ → List ℕ
operand_of steps at = take (end_of steps at - at) (drop at steps)

-- "and refusal 16 with that index as place"
unfoldable pub check_of : List ℕ → ℕ → Result Unit Refusal
check_of steps at = whether (eqb (end_of steps at) 0) (λ _. Err (refusal NO_OPERAND at)) (λ _. Ok tt)

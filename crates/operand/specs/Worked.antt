-- Hand-worked operands: of P9, `a.0.1` with a joint on the float, whose split leaves two nodes; of P10, `a.0. b`, whose split leaves one; of steps that are not sound.
use Rattle.std.specs.Prelude.{ℕ, ◌+◌, ◌≡◌, refl, List, [], ◌∷◌, Ok, Err}
use Rattle.base.specs.Base.{whether, bound, on_next, loops}
use Rattle.input.specs.SyntaxKind.{IDENT, DOT, ENTER, TOKEN, LEAVE, FLOAT_SPLIT, WIDTH_STEP, ENDS_IN_DOT, PATH_EXPR, PATH, PATH_SEGMENT, NAME_REF, FIELD_EXPR}
use Rattle.input.specs.Input.{refusal}
use Rattle.operand.specs.Operand.{NO_OPERAND, is_enter, leaves_of, match_turn, match_of, end_of, operand_of, check_of}

abbrev enter : ℕ → ℕ
enter node = ENTER + node

abbrev took : ℕ → ℕ
took kind = TOKEN + WIDTH_STEP + kind

abbrev dot_split : ℕ
dot_split = FLOAT_SPLIT + ENDS_IN_DOT

abbrev name : List ℕ
name = enter NAME_REF ∷ took IDENT ∷ LEAVE ∷ []

-- `a`, followed by more
abbrev path_then : List ℕ → List ℕ
path_then more = enter PATH_EXPR ∷ enter PATH ∷ enter PATH_SEGMENT ∷ enter NAME_REF ∷ took IDENT ∷ LEAVE ∷ LEAVE ∷ LEAVE ∷ LEAVE ∷ more

abbrev dot : ℕ
dot = took DOT

abbrev p9 : List ℕ
p9 = enter FIELD_EXPR ∷ enter FIELD_EXPR ∷ path_then (dot ∷ FLOAT_SPLIT ∷ [])

abbrev p10 : List ℕ
p10 = enter FIELD_EXPR ∷ enter FIELD_EXPR ∷ path_then (dot ∷ dot_split ∷ enter NAME_REF ∷ took IDENT ∷ LEAVE ∷ LEAVE ∷ [])

-- an enter never matched, a leave too many, and numbers that are no steps
abbrev unsound : List ℕ
unsound = LEAVE ∷ enter FIELD_EXPR ∷ enter 79 ∷ enter NAME_REF ∷ 7 ∷ LEAVE ∷ enter 100 ∷ []

pub record Worked : Type 0 where
  -- the whole; the inner field, which ends with the whole split; the path; a token, a leave and the end, which are no enters
  pub p9_all : operand_of p9 0 ≡ p9
  pub p9_inner : operand_of p9 1 ≡ enter FIELD_EXPR ∷ path_then (dot ∷ FLOAT_SPLIT ∷ [])
  pub p9_path : operand_of p9 2 ≡ path_then []
  pub p9_name : operand_of p9 5 ≡ name
  pub p9_token : operand_of p9 6 ≡ []
  pub p9_fine : check_of p9 1 ≡ Ok tt
  pub p9_no_enter : check_of p9 6 ≡ Err (refusal NO_OPERAND 6)
  pub p9_end : check_of p9 13 ≡ Err (refusal NO_OPERAND 13)
  -- the split that ends in a dot leaves the inner field alone
  pub p10_all : operand_of p10 0 ≡ p10
  pub p10_inner : operand_of p10 1 ≡ enter FIELD_EXPR ∷ path_then (dot ∷ dot_split ∷ [])
  pub p10_name : operand_of p10 13 ≡ name
  -- what is no step counts nothing
  pub unmatched : check_of unsound 1 ≡ Err (refusal NO_OPERAND 1)
  pub no_node : check_of unsound 2 ≡ Err (refusal NO_OPERAND 2)
  pub over_no_step : operand_of unsound 3 ≡ enter NAME_REF ∷ 7 ∷ LEAVE ∷ []

pub worked : Worked
unfolding operand_of check_of end_of match_of match_turn is_enter leaves_of whether bound on_next loops
worked =
    record {
      p9_all = refl;
      p9_inner = refl;
      p9_path = refl;
      p9_name = refl;
      p9_token = refl;
      p9_fine = refl;
      p9_no_enter = refl;
      p9_end = refl;
      p10_all = refl;
      p10_inner = refl;
      p10_name = refl;
      unmatched = refl;
      no_node = refl;
      over_no_step = refl;
    }
